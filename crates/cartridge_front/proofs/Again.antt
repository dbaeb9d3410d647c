-- The volume table read again: what it says of a list, and what a call did that read it.
use Rattle.std.proofs.Common.{ℕ, List, subst, Err, ◌≡◌, ◌++◌, refl, [], ◌≢◌, sym, Result, ◌∙◌, ap, length, take, Ok}
use Rattle.std.proofs.Common.{inl}
use Rattle.std.proofs.lemmas.List.Elements.{All-head}
use Rattle.std.proofs.lemmas.List.{append-nil}
use Rattle.cartridge_laws.proofs.Hiding.{nothing_is_hidden}
use Rattle.cartridge_spec.specs.TableSegment.{TableIs, table_cells}
use Rattle.cartridge_laws.specs.TableCells.{HasList}
use Rattle.cartridge_spec.specs.Says.{HasNoBlock, ByCode, LostSectors, TableSays, hidden_from}
use Rattle.cartridge_spec.specs.Settling.{settling_steps}
use Rattle.cartridge_spec.specs.Table.{Entry, Shows}
use Rattle.command_laws.proofs.StoreAgain.{list_shown}
use Rattle.drive_spec.specs.Terms.{is_protected}
use Rattle.drive_states.specs.Unit.{UnitView}
use Rattle.host_driver.specs.Fits.{Fits, AgreesWithTape}
use Rattle.host_driver.specs.declared.host.Host.{Host}
use Rattle.qic_base.proofs.Steps.{Tells-read, Done-after_reads, Broke-after_reads, Tells-map, tells_two}
use Rattle.qic_base.specs.Cartridge.{Cartridge}
use Rattle.qic_base.specs.Step.{Step}
use Rattle.qic_base.specs.Tape.{Meaning, Broke, Done}
use Rattle.qic_base.specs.TapeCalls.{Tells}
use Rattle.qic_base.specs.declared.tape.SectorView.{SectorView}
use Rattle.segment_io.proofs.Going.{tells_always}
use Rattle.segment_solve.specs.declared.fault.SegFault.{SegFault}
use Rattle.cartridge_front.proofs.Copies.{IsLearnt, told_learnt}
use Rattle.cartridge_front.proofs.Settled.{mending_settles}
use Rattle.cartridge_front.specs.Again.{FindsList, IsBrokenOff, IsOfReading, IsRefused, SettlesAgain, AddsEntry, entry_writes, HasTable}
use Rattle.cartridge_front.specs.Again.{IsSettledAgain, BrokeUnread, FaultUnread}
use Rattle.cartridge_front.specs.Finding.{FindsTable, refusal_of, Leaves}
use Rattle.cartridge_front.specs.Settling.{mending_steps}
use Rattle.qic_base.specs.declared.store_fault.StoreFault.{StoreFault}
use Rattle.table_solve.specs.declared.unread.Unread.{Unread}
use Rattle.cartridge_laws.proofs.MountOnce.{one_table}
use Rattle.segment_solve.specs.declared.fault.SegFault.TheVariants as seg
use Rattle.qic_base.specs.declared.store_fault.StoreFault.TheVariants as fault

-- .. so data that show another tell that it doesn't
pub list_missing : (c : Cartridge) (area : List (List ℕ)) (entries : List Entry) → ¬ (Shows area entries) → TableIs c area →
    ¬ (HasList c entries)
list_missing c area entries none table = λ has. none (list_shown c area entries has table)

-- .. and so does a segment that no code block agrees with
pub finds_fault : (c : Cartridge) (sectors : List (List ℕ)) (entries : List Entry) (f : SegFault) →
    FindsTable {A = Unread} c sectors (Err f) → FindsList c sectors entries (Err (refusal_of f))
finds_fault c sectors entries (seg.Lost segment lost) found = found.1
finds_fault c sectors entries (seg.Mismatch segment) found =
    let none : HasNoBlock (table_cells c) = subst (λ (cells : List SectorView). HasNoBlock cells) (nothing_is_hidden (table_cells c))
    (All-head (λ (set : ℕ). HasNoBlock (hidden_from set 0 (table_cells c))) 0 _ found.1.1.1) in
    λ has. none has.block has.code has.agrees

-- ---- a call that was refused by its reading

-- a fault of the tape before the first step
broken_before : {T : Type 0} (m : Meaning T) (old new : T) (wanted : (area : List (List ℕ)) → Cartridge → List Step) → Broke m old new [] →
    IsBrokenOff m old new wanted
broken_before m old new wanted broke = record {
  steps = [];
  broke = broke;
  told = tells_always m old (λ c. (area : List (List ℕ)) → TableIs c area → (rest : List Step) × ([] ++ rest ≡ wanted area c))
      (λ c area table. (wanted area c, refl));
}

-- what follows where it was refused, and where a fault of the tape broke these steps off, holds of the fault of a reading
refused_by : {T : Type 0} (m : Meaning T) (old new : T) (entries : List Entry) (found : List (List ℕ))
    (wanted : (area : List (List ℕ)) → Cartridge → List Step) (P : StoreFault → Type 0) →
    ((segment lost : ℕ) → IsRefused m old new (λ c. TableSays (table_cells c) (ByCode (LostSectors lost))) → P (fault.Lost segment lost)) →
    (IsRefused m old new (λ c. HasList c entries → ⊥) → P fault.TableMismatch) → (IsBrokenOff m old new wanted → P fault.Tape) →
    (f : StoreFault) → Leaves {A = Unread} m old new [] (Err f) → (f ≢ fault.Tape → Tells m old (λ c. FindsList c found entries (Err f))) →
    IsOfReading {A = Unread} (Err f) → P f
refused_by m old new entries found wanted P is_lost is_other is_broken = by_fault
  where
    by_fault : (f : StoreFault) → Leaves {A = Unread} m old new [] (Err f) →
        (f ≢ fault.Tape → Tells m old (λ c. FindsList c found entries (Err f))) → IsOfReading {A = Unread} (Err f) → P f
    by_fault (fault.Lost segment lost) left told kind = is_lost segment lost (record { done = left; told = told (λ same. cc) })
    by_fault fault.TableMismatch left told kind = is_other (record { done = left; told = told (λ same. cc) })
    by_fault fault.Tape left told kind = is_broken (broken_before m old new wanted left)
    by_fault fault.NotFormatted left told kind = absurd kind
    by_fault (fault.Foreign field value) left told kind = absurd kind
    by_fault (fault.Full need have) left told kind = absurd kind
    by_fault (fault.NoVolume number count) left told kind = absurd kind
    by_fault (fault.Mismatch segment) left told kind = absurd kind
    by_fault fault.Protected left told kind = absurd kind
    by_fault (fault.Short promised read) left told kind = absurd kind
    by_fault fault.Source left told kind = absurd kind
    by_fault fault.Sink left told kind = absurd kind

pub settles_refused : {T : Type 0} (m : Meaning T) (old new : T) (entries : List Entry) (found sectors : List (List ℕ)) (f : StoreFault)
    (r : Result (Unit {0}) StoreFault) → r ≡ Err f →
    Leaves {A = Unread} m old new [] (Err f) → (f ≢ fault.Tape → Tells m old (λ c. FindsList c found entries (Err f))) →
    IsOfReading {A = Unread} (Err f) → SettlesAgain m old new entries sectors r
settles_refused m old new entries found sectors f r is left told kind =
    subst (λ (answer : Result (Unit {0}) StoreFault). SettlesAgain m old new entries sectors answer) (sym is)
    (refused_by m old new entries found settling_steps (λ (g : StoreFault). SettlesAgain {A = Unit {0}} m old new entries sectors (Err g))
    (λ segment lost was. was) (λ was. was) (λ was. was) f left told kind)

pub adds_refused : {T : Type 0} (m : Meaning T) (old new : T) (entries : List Entry) (entry : Entry) (found : List (List ℕ))
    (f : StoreFault) (r : Result (Unit {0}) StoreFault) → r ≡ Err f →
    Leaves {A = Unread} m old new [] (Err f) → (f ≢ fault.Tape → Tells m old (λ c. FindsList c found entries (Err f))) →
    IsOfReading {A = Unread} (Err f) → AddsEntry m old new entries entry r
adds_refused m old new entries entry found f r is left told kind =
    subst (λ (answer : Result (Unit {0}) StoreFault). AddsEntry m old new entries entry answer) (sym is)
    (refused_by m old new entries found (λ area c. entry_writes entries entry area)
    (λ (g : StoreFault). AddsEntry {A = Unit {0}} m old new entries entry (Err g))
    (λ segment lost was. was) (λ was. was) (λ was. was) f left told kind)

-- ---- the steps of a told cartridge

-- the writes of the workspace settle it
pub told_mending : {T : Type 0} (m : Meaning T) (host : Host) (old : T) (u : UnitView T) (sectors : List (List ℕ)) (unread : Unread) →
    Fits m host u → AgreesWithTape m u → Done m old u.tape [] → length sectors ≡ 32 → Tells m old (λ c. HasTable c sectors unread) →
    Tells m old (λ c. TableIs c (take 29 sectors)
    × (mending_steps (is_protected u.drive.deck) unread sectors ≡ settling_steps (take 29 sectors) c))
told_mending m host old u sectors unread fits agrees read room has =
    tells_two m old (IsLearnt host) (λ c. HasTable c sectors unread)
    (λ c. TableIs c (take 29 sectors) × (mending_steps (is_protected u.drive.deck) unread sectors ≡ settling_steps (take 29 sectors) c))
    (λ c known table. (
      table.table,
      mending_settles c (is_protected u.drive.deck) unread sectors room table.known
          (known.protected ∙ sym (ap is_protected fits.deck)),
    ))
    (Tells-read (IsLearnt host) read (told_learnt m host u fits agrees)) has

-- all steps that data call for are those that other data of the cartridge do
all_wanted : (wanted : (area : List (List ℕ)) → Cartridge → List Step) (c : Cartridge) (area : List (List ℕ)) (steps : List Step) →
    TableIs c area → steps ≡ wanted area c →
    (other : List (List ℕ)) → TableIs c other → (rest : List Step) × (steps ++ rest ≡ wanted other c)
all_wanted wanted c area steps table are other again =
    ([], append-nil steps ∙ are ∙ ap (λ (a : List (List ℕ)). wanted a c) (one_table c area other table again))

-- ---- a call behind a reading

-- a settling was done, or broke off
pub settled_by : {T : Type 0} (m : Meaning T) (old mid new : T) (entries : List Entry) (area sectors : List (List ℕ)) (steps : List Step) →
    Done m old mid [] → Done m mid new steps → Shows area entries → take 29 sectors ≡ area →
    Tells m old (λ c. TableIs c area × (steps ≡ settling_steps area c)) →
    IsSettledAgain m old new entries (take 29 sectors)
settled_by m old mid new entries area sectors steps first next shown same told =
    subst (λ (a : List (List ℕ)). IsSettledAgain m old new entries a) (sym same)
    (record { shown = shown; steps = steps; done = Done-after_reads first next; told = told })

pub settling_broke : {T : Type 0} (m : Meaning T) (old mid new : T) (entries : List Entry) (area sectors : List (List ℕ))
    (steps : List Step) (r : Result (Unit {0}) StoreFault) → r ≡ Err fault.Tape →
    Done m old mid [] → Broke m mid new steps → Tells m old (λ c. TableIs c area × (steps ≡ settling_steps area c)) →
    SettlesAgain m old new entries sectors r
settling_broke m old mid new entries area sectors steps r is first next told =
    let broken : IsBrokenOff m old new settling_steps = record {
      steps = steps;
      broke = Broke-after_reads first next;
      told = Tells-map m old (λ c. TableIs c area × (steps ≡ settling_steps area c))
          (λ c. (other : List (List ℕ)) → TableIs c other → (rest : List Step) × (steps ++ rest ≡ settling_steps other c))
          (λ c known other again. all_wanted settling_steps c area steps known.0 known.1 other again) told;
    } in
    subst (λ (answer : Result (Unit {0}) StoreFault). SettlesAgain m old new entries sectors answer) (sym is) broken

-- the writing of an entry broke off
pub adding_broke : {T : Type 0} (m : Meaning T) (old mid new : T) (entries : List Entry) (entry : Entry) (area : List (List ℕ))
    (r : Result (Unit {0}) StoreFault) → r ≡ Err fault.Tape →
    Done m old mid [] → Broke m mid new (entry_writes entries entry area) → Tells m old (λ c. TableIs c area) →
    AddsEntry m old new entries entry r
adding_broke m old mid new entries entry area r is first next told =
    let broken : IsBrokenOff m old new (λ a c. entry_writes entries entry a) = record {
      steps = entry_writes entries entry area;
      broke = Broke-after_reads first next;
      told = Tells-map m old (λ c. TableIs c area)
          (λ c. (other : List (List ℕ)) → TableIs c other → (rest : List Step)
          × (entry_writes entries entry area ++ rest ≡ entry_writes entries entry other))
          (λ c known other again. all_wanted (λ a d. entry_writes entries entry a) c area
          (entry_writes entries entry area) known refl other again) told;
    } in
    subst (λ (answer : Result (Unit {0}) StoreFault). AddsEntry m old new entries entry answer) (sym is) broken

-- ---- answers

-- what is known of a fault of the tape is told of the answer that is one
pub fault_unread : {T A : Type 0} (m : Meaning T) (old new : T) (r : Result A StoreFault) → (r ≡ Err fault.Tape → BrokeUnread m old new) →
    FaultUnread m old new r
fault_unread m old new (Ok answer) broke = tt
fault_unread {T} {A} m old new (Err f) broke = by_fault f (Err f) refl broke
  where
    by_fault : (f : StoreFault) (r : Result A StoreFault) → r ≡ Err f → (r ≡ Err fault.Tape → BrokeUnread m old new) →
        FaultUnread {A = A} m old new (Err f)
    by_fault (fault.Lost segment lost) r is broke = tt
    by_fault fault.TableMismatch r is broke = tt
    by_fault fault.Tape r is broke = broke is
    by_fault fault.NotFormatted r is broke = tt
    by_fault (fault.Foreign field value) r is broke = tt
    by_fault (fault.Full need have) r is broke = tt
    by_fault (fault.NoVolume number count) r is broke = tt
    by_fault (fault.Mismatch segment) r is broke = tt
    by_fault fault.Protected r is broke = tt
    by_fault (fault.Short promised read) r is broke = tt
    by_fault fault.Source r is broke = tt
    by_fault fault.Sink r is broke = tt

-- a reading that failed did nothing
pub broke_reading : {T : Type 0} (m : Meaning T) (old new : T) (f : StoreFault) (r : Result (Unit {0}) StoreFault) → r ≡ Err f →
    Leaves {A = ℕ} m old new [] (Err f) →
    r ≡ Err fault.Tape → BrokeUnread m old new
broke_reading m old new f r is left failed =
    let tape : f ≡ fault.Tape = (let e : Err f ≡ Err fault.Tape = sym is ∙ failed in cc) in
    inl (subst (λ (g : StoreFault). Leaves {A = ℕ} m old new [] (Err g)) tape left)
