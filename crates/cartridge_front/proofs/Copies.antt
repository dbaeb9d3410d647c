-- What the header copies of a cartridge are found to be, and how calls that only read join.
use Rattle.std.proofs.Common.{◌≡◌, ℕ, ◌*◌, Bool, true, false, List, [], length, take, Option, Some, None, IfSome, IsSomeAnd, IfOk, Result}
use Rattle.std.proofs.Common.{Ok, Err, sym, ap, ◌∙◌, subst, inl, inr, arith}
use Rattle.std.specs.Option.{option_map_or}
use Rattle.qic_base.specs.Cartridge.{Cartridge}
use Rattle.qic_base.specs.Step.{Step}
use Rattle.qic_base.specs.Tape.{Meaning, Done}
use Rattle.qic_base.specs.TapeCalls.{Tells}
use Rattle.qic_base.specs.declared.tape.TapeInfo.{TapeInfo}
use Rattle.drive_spec.specs.Terms.{is_referenced, is_protected}
use Rattle.drive_states.specs.Unit.{UnitView}
use Rattle.host_driver.specs.declared.host.Host.{Host}
use Rattle.host_driver.specs.Fits.{Fits, AgreesWithTape, segments_of, deck_of}
use Rattle.qic_base.proofs.Steps.{Done-after_reads, Broke-after_reads}
use Rattle.cartridge_spec.specs.Header.{number, header_fault, has_signature, number_in}
use Rattle.cartridge_spec.specs.Says.{Saying, Says, Data}
use Rattle.cartridge_spec.specs.HeaderCopies.{copy_cells, CopyReads, CopyDoesNotRead}
use Rattle.cartridge_laws.specs.HeaderTerms.{IsInForce}
use Rattle.cartridge_laws.proofs.Sayings.{says_is_function}
use Rattle.cartridge_laws.proofs.Segments.{length-whole_cells}
use Rattle.header_segments.specs.declared.header.Header.{Header}
use Rattle.header_segments.specs.Header.{header_of}
use Rattle.cartridge_laws.specs.HeaderLaws.{AreTaken}
use Rattle.cartridge_laws.proofs.HeaderRefusals.{fault-segments, length-words_in}
use Rattle.segment_solve.specs.Reading.{HasSolved}
use Rattle.qic_base.specs.declared.store_fault.StoreFault.{StoreFault}
use Rattle.cartridge_front.specs.Finding.{Leaves, Refuses, is_tape, TakesHeader, FindsCopy, FindsHeader, HasCopy, HasFormat, HasWords}
use Rattle.cartridge_front.specs.Finding.{HasMap}
use Rattle.table_solve.proofs.Segment.{data_of-whole}
use Rattle.qic_base.specs.declared.store_fault.StoreFault.TheVariants as fault

-- ---- calls that only read

refuses_after : {T : Type 0} (m : Meaning T) (a b c : T) (steps : List Step) (by_tape : Bool) → Done m a b [] →
    Refuses m b c steps by_tape → Refuses m a c steps by_tape
refuses_after m a b c steps true first next = Broke-after_reads first next
refuses_after m a b c steps false first next = Done-after_reads first next

pub leaves_after : {T A : Type 0} (m : Meaning T) (a b c : T) (steps : List Step) (r : Result A StoreFault) → Done m a b [] →
    Leaves m b c steps r → Leaves m a c steps r
leaves_after m a b c steps (Ok answer) first next = Done-after_reads first next
leaves_after m a b c steps (Err fault) first next = refuses_after m a b c steps (is_tape fault) first next

-- a refusal is handed on
pub leaves_on : {T A : Type 0} (m : Meaning T) (a b : T) (steps : List Step) (fault : StoreFault) (r : Result A StoreFault) →
    r ≡ Err fault → Refuses m a b steps (is_tape fault) → Leaves m a b steps r
leaves_on {A = A} m a b steps fault r is refused = subst (λ (answer : Result A StoreFault). Leaves m a b steps answer) (sym is) refused

-- ---- what is told

-- a cartridge that the host has learnt right
pub record IsLearnt (host : Host) (c : Cartridge) : Type 0 where
  pub length_told : c.info.segments_per_track ≡ segments_of host
  pub referenced : c.info.referenced ≡ is_referenced (deck_of host)
  pub protected : c.info.protected ≡ is_protected (deck_of host)

pub told_learnt : {T : Type 0} (m : Meaning T) (host : Host) (u : UnitView T) → Fits m host u → AgreesWithTape m u →
    Tells m u.tape (IsLearnt host)
told_learnt m host u fits agrees = by_cases u.drive.deck.cartridge (m.told u.tape) fits.cartridge agrees (ap is_referenced fits.deck)
    (ap is_protected fits.deck)
  where
    by_cases : (cartridge : Option TapeInfo) (held : Option (Option Cartridge)) →
        IsSomeAnd cartridge (λ info. info.segments_per_track ≡ segments_of host) →
        IfSome cartridge (λ info. IfSome held (λ there. IsSomeAnd there (λ c. c.info ≡ info))) →
        option_map_or (λ (info : TapeInfo). info.referenced) cartridge false ≡ is_referenced (deck_of host) →
        option_map_or (λ (info : TapeInfo). info.protected) cartridge false ≡ is_protected (deck_of host) →
        IfSome held (λ h. IfSome h (IsLearnt host))
    by_cases None held long known mark protect = absurd long
    by_cases (Some info) None long known mark protect = tt
    by_cases (Some info) (Some None) long known mark protect = absurd known
    by_cases (Some info) (Some (Some c)) long known mark protect = record {
      length_told = ap (λ (i : TapeInfo). i.segments_per_track) known ∙ long;
      referenced = ap (λ (i : TapeInfo). i.referenced) known ∙ mark;
      protected = ap (λ (i : TapeInfo). i.protected) known ∙ protect;
    }

-- ---- a copy

copy_says : (c : Cartridge) (copy : ℕ) (sectors : List (List ℕ)) → length sectors ≡ 32 → HasSolved (copy_cells c copy) sectors →
    Says (copy_cells c copy) (Data (take 29 sectors))
copy_says c copy sectors room solved =
    subst (λ (area : List (List ℕ)). Says (copy_cells c copy) (Data area))
    (data_of-whole sectors (length (copy_cells c copy)) (length-whole_cells c copy) room) solved.says

-- a copy that says something else than data doesn't read
unread : (c : Cartridge) (copy : ℕ) (saying : Saying) → Says (copy_cells c copy) saying →
    ((area : List (List ℕ)) → saying ≡ Data area → has_signature area ≡ false) → CopyDoesNotRead c copy
unread c copy saying says unsigned area reads =
    let none : has_signature area ≡ false = unsigned area (says_is_function (copy_cells c copy) saying (Data area) says reads.says) in
    let there : has_signature area ≡ true = reads.signature in
    cc

-- .. nor does one of data without a signature
unsigned : (c : Cartridge) (copy : ℕ) (area : List (List ℕ)) → Says (copy_cells c copy) (Data area) → has_signature area ≡ false →
    CopyDoesNotRead c copy
unsigned c copy area says none = unread c copy (Data area) says
    (λ other same. let one : area ≡ other = cc in subst (λ (a : List (List ℕ)). has_signature a ≡ false) one none)

pub finds_copy : (c : Cartridge) (copy n : ℕ) (words : List ℕ) (sectors : List (List ℕ)) (r : Result (Option Header) StoreFault) →
    length sectors ≡ 32 →
    HasSolved (copy_cells c copy) sectors → TakesHeader (take 29 sectors) n words r → FindsCopy c copy n words r
finds_copy c copy n words sectors (Ok (Some header)) room solved taken = record {
  area = take 29 sectors;
  reads = record { says = copy_says c copy sectors room solved; signature = taken.signature };
  sound = taken.sound;
  shown = taken.shown;
}
finds_copy c copy n words sectors (Ok None) room solved taken =
    unsigned c copy (take 29 sectors) (copy_says c copy sectors room solved) taken
finds_copy c copy n words sectors (Err (fault.Foreign field value)) room solved taken = record {
  area = take 29 sectors;
  reads = record { says = copy_says c copy sectors room solved; signature = taken.0 };
  first = taken.1;
}
finds_copy c copy n words sectors (Err fault.NotFormatted) room solved taken = taken
finds_copy c copy n words sectors (Err fault.TableMismatch) room solved taken = taken
finds_copy c copy n words sectors (Err (fault.Full need have)) room solved taken = taken
finds_copy c copy n words sectors (Err (fault.NoVolume number count)) room solved taken = taken
finds_copy c copy n words sectors (Err (fault.Lost segment lost)) room solved taken = taken
finds_copy c copy n words sectors (Err (fault.Mismatch segment)) room solved taken = taken
finds_copy c copy n words sectors (Err fault.Protected) room solved taken = taken
finds_copy c copy n words sectors (Err (fault.Short promised read)) room solved taken = taken
finds_copy c copy n words sectors (Err fault.Source) room solved taken = taken
finds_copy c copy n words sectors (Err fault.Sink) room solved taken = taken
finds_copy c copy n words sectors (Err fault.Tape) room solved taken = taken

-- ---- what is known of a header that was taken

taken_words : (area : List (List ℕ)) (n : ℕ) (words : List ℕ) (header : Header) → AreTaken area n (header_of header) words →
    HasWords n words header
taken_words area n words header taken =
    let there : number_in area 24 2 ≡ header.segments_per_track = taken.shown.header 2 (number 24 2 0) (omega arith) in
    let told : header.segments_per_track ≡ n = sym there ∙ fault-segments area n taken.sound in
    record {
      length_told = told;
      size = length-words_in area words (28 * header.segments_per_track) taken.shown.map ∙ ap (λ (k : ℕ). 28 * k) told;
    }

pub taken_map : (area : List (List ℕ)) (n : ℕ) (words : List ℕ) (r : Result (Option Header) StoreFault) → TakesHeader area n words r →
    IfOk r (HasMap n words)
taken_map area n words (Ok (Some header)) taken = taken_words area n words header taken
taken_map area n words (Ok None) taken = tt
taken_map area n words (Err fault) taken = tt

-- ---- the header in force

-- a copy's data are those of the header in force where the copy reads
abbrev pub Forces : Cartridge → (copy : ℕ) → Type 0
Forces c copy = (area : List (List ℕ)) → CopyReads c copy area → IsInForce c area

pub first_forces : (c : Cartridge) → Forces c 0
first_forces c area reads = inl reads

pub second_forces : (c : Cartridge) → CopyDoesNotRead c 0 → Forces c 1
second_forces c none area reads = inr (none, reads)

pub format_found : (host : Host) (c : Cartridge) (copy : ℕ) (words : List ℕ) (header : Header) → IsLearnt host c →
    true ≡ is_referenced (deck_of host) → Forces c copy →
    HasCopy c copy (segments_of host) words header → HasFormat c words header
format_found host c copy words header learnt mark forces has = record {
  area = has.area;
  formatted = record {
    has_header = record { referenced = learnt.referenced ∙ sym mark; in_force = forces has.area has.reads };
    sound = ap (λ (n : ℕ). header_fault has.area n) learnt.length_told ∙ has.sound;
    shown = has.shown;
  };
}

pub fault_found : (host : Host) (c : Cartridge) (copy : ℕ) (words : List ℕ) (fault : StoreFault) → IsLearnt host c →
    true ≡ is_referenced (deck_of host) → Forces c copy →
    FindsCopy c copy (segments_of host) words (Err fault) → FindsHeader c words (Err fault)
fault_found host c copy words (fault.Foreign field value) learnt mark forces has = record {
  area = has.area;
  has_header = record { referenced = learnt.referenced ∙ sym mark; in_force = forces has.area has.reads };
  first = ap (λ (n : ℕ). header_fault has.area n) learnt.length_told ∙ has.first;
}
fault_found host c copy words fault.NotFormatted learnt mark forces has = absurd has
fault_found host c copy words fault.TableMismatch learnt mark forces has = has
fault_found host c copy words (fault.Full need have) learnt mark forces has = has
fault_found host c copy words (fault.NoVolume number count) learnt mark forces has = has
fault_found host c copy words (fault.Lost segment lost) learnt mark forces has = has
fault_found host c copy words (fault.Mismatch segment) learnt mark forces has = has
fault_found host c copy words fault.Protected learnt mark forces has = has
fault_found host c copy words (fault.Short promised read) learnt mark forces has = has
fault_found host c copy words fault.Source learnt mark forces has = has
fault_found host c copy words fault.Sink learnt mark forces has = has
fault_found host c copy words fault.Tape learnt mark forces has = has

pub takes_at : (area other : List (List ℕ)) (n k : ℕ) (words : List ℕ) (r : Result (Option Header) StoreFault) → area ≡ other → n ≡ k →
    TakesHeader area n words r → TakesHeader other k words r
takes_at area other n k words r same one taken =
    subst (λ (x : List (List ℕ)). TakesHeader x k words r) same (subst (λ (j : ℕ). TakesHeader area j words r) one taken)
