-- What a copy does to both tapes and the sink, over any of them.
use Rattle.std.proofs.Common.{◌≡◌, ◌≢◌, ◌⊎◌, ℕ, zero, suc, ◌+◌, ◌<◌, ◌≤◌, Bool, true, false, nat_le, List, [], ◌∷◌, ◌++◌, length}
use Rattle.std.proofs.Common.{take, Option, Some, None, Result, Ok, Err, refl, ap, sym, subst, ◌∙◌, arith, inl, inr, append-nil}
use Rattle.std.proofs.Common.{append_assoc, length-append}
use Rattle.std.specs.Prelude.{if◌then◌else◌, ◌==◌, ◌||◌, nat_lt, is_some}
use Rattle.std.specs.Option.{option_map}
use Rattle.std.proofs.lemmas.Bool.{and_from, and_cases, leb-false, lt-ltb}
use Rattle.cartridge_spec.specs.Appending.{room}
use Rattle.cartridge_spec.specs.Table.{Entry}
use Rattle.cartridge_spec.specs.Volumes.{volume_length}
use Rattle.command_spec.specs.Append.{Fits, Taking, TooLong, TooShort, has_promised_room, taking}
use Rattle.command_spec.specs.Copied.{copied_lines}
use Rattle.command_spec.specs.Copying.{copied_line}
use Rattle.command_spec.specs.CopyPromises.{CountGoes, HasKind, StopsGoOn, is_before_copies, is_from_broken, is_sink_broken, is_to_broken}
use Rattle.command_spec.specs.declared.copy_status.CopyStatus.{CopyStatus}
use Rattle.qic_base.proofs.Steps.{Broke-after_reads, Done-Done, Done-nothing, Rose-after, Stops-Stops, is_some-option_map}
use Rattle.qic_base.proofs.Steps.{option_map-effects-none}
use Rattle.qic_base.proofs.Writing.{TakesBoth}
use Rattle.qic_base.specs.Alone.{reading}
use Rattle.qic_base.specs.Step.{Step as TapeStep, effects}
use Rattle.volume_copy.proofs.Filling.{OnlyRead, by_broke, by_done}
use Rattle.volume_copy.specs.Runs.{CopiesOne, CopyView, HasCopied, HaveCopied, IsCounted, IsRefused, IsUnprinted, MissingEnds, PrintsCount}
use Rattle.volume_copy.specs.Runs.{SideFits, SideView, append_answer, append_status, next_number}
use Rattle.volume_copy.specs.Source.{IsOfPart, SourceView, new_source, source_means}
use Rattle.volume_store.specs.Appending.{AppendEnds}
use Rattle.volume_store.specs.Mounting.{StoreView}
use Rattle.volume_store.specs.declared.appended.Appended.{Appended}
use Rattle.qic_base.specs.declared.store_fault.StoreFault.{StoreFault}
use Rattle.qic_base.specs.declared.store_fault.StoreFault.TheVariants as fault
use Rattle.command_spec.specs.declared.copy_status.CopyStatus.TheVariants as status
use Rattle.qic_base.specs.Sink as sinks
use Rattle.qic_base.specs.Tape as tapes

-- ---- a tape

-- time went on over it
pub record GoesOn {T : Type 0} (m : tapes.Meaning T) (old new : T) : Type 0 where
  pub later : m.faults old ≤ m.faults new
  pub tells : is_some (m.told new) ≡ is_some (m.told old)
  pub stops : StopsGoOn m old new

stops_go_on : {T : Type 0} (t : tapes.Meaning T) (a b : T) (steps : List TapeStep) → tapes.Stops t a b steps → StopsGoOn t a b
stops_go_on t a b steps stops = record { telling = stops.telling; clock = stops.clock; kept = stops.kept; parted = stops.parted }

pub goes_done : {T : Type 0} (m : tapes.Meaning T) (a b : T) (steps : List TapeStep) → tapes.Done m a b steps → GoesOn m a b
goes_done m a b steps did = record {
  later = let stood = did.later in omega (arith, stood);
  tells = ap is_some did.told ∙ is_some-option_map (effects steps) (m.told a);
  stops = stops_go_on m a b steps did.stops;
}

pub goes_broke : {T : Type 0} (m : tapes.Meaning T) (a b : T) (steps : List TapeStep) → tapes.Broke m a b steps → GoesOn m a b
goes_broke m a b steps broke = record { later = broke.later; tells = broke.tells; stops = stops_go_on m a b steps broke.stops }

pub goes_same : {T : Type 0} (m : tapes.Meaning T) (a b : T) → b ≡ a → GoesOn m a b
goes_same m a b same = subst (GoesOn m a) (sym same) (goes_done m a a [] (Done-nothing m a))

pub goes_both : {T : Type 0} (m : tapes.Meaning T) (a b c : T) → GoesOn m a b → GoesOn m b c → GoesOn m a c
goes_both m a b c first next = record {
  later = let e = first.later in let f = next.later in omega arith;
  tells = next.tells ∙ first.tells;
  stops = record {
    telling = next.stops.telling ∙ first.stops.telling;
    clock = let e = first.stops.clock in let f = next.stops.clock in omega arith;
    kept = λ time left before was. next.stops.kept time left (let e = first.stops.clock in omega (arith, before))
        (first.stops.kept time left before was);
    parted = λ time later left order before was.
        elim (next.stops.parted time later left order (let e = first.stops.clock in omega (arith, before)) was) [
          | inl early ↦ elim (first.stops.parted time later left order before early) [
            | inl first_early ↦ inl first_early
            | inr late ↦ inr (next.stops.kept later left (let e = first.stops.clock in omega (arith, before)) late)
          ]
          | inr late ↦ inr late
        ];
  };
}

-- calls that only read, behind steps that were done
pub told_behind_reads : {T : Type 0} (m : tapes.Meaning T) (a b c : T) (steps : List TapeStep) → tapes.Done m a b steps → OnlyRead m b c →
    m.told c ≡ option_map (effects steps) (m.told a)
told_behind_reads m a b c steps did read = read.told ∙ did.told

pub stops_behind : {T : Type 0} (m : tapes.Meaning T) (a b c : T) (steps : List TapeStep) → tapes.Done m a b steps → OnlyRead m b c →
    tapes.Stops m a c steps
stops_behind m a b c steps did read =
    let both : tapes.Stops m a c (steps ++ []) = Stops-Stops did.told did.stops read.stops in
    subst (tapes.Stops m a c) (append-nil steps) both

pub goes_read : {T : Type 0} (m : tapes.Meaning T) (a b : T) → OnlyRead m a b → GoesOn m a b
goes_read m a b read = record { later = read.later; tells = ap is_some read.told; stops = stops_go_on m a b [] read.stops }

-- calls that only read were carried out, or a fault of the tape broke the last one off, as an answer says
abbrev pub ReadsFor : {T : Type 0} (m : tapes.Meaning T) (x y : T) → CopyStatus → Type 0
ReadsFor m x y (status.From fault.Tape) = tapes.Broke m x y []
ReadsFor m x y answer = tapes.Done m x y []

pub reads_only : {T : Type 0} (m : tapes.Meaning T) (x y : T) (answer : CopyStatus) → ReadsFor m x y answer → OnlyRead m x y
reads_only m x y (status.From fault.Tape) reads = by_broke m x y reads
reads_only m x y answer reads = by_done m x y reads

-- .. and so did its count
pub reads_count : {T : Type 0} (m : tapes.Meaning T) (x y : T) (answer : CopyStatus) → ReadsFor m x y answer →
    CountGoes (is_from_broken answer) (m.faults x) (m.faults y)
reads_count m x y (status.From fault.Tape) reads = reads.cause
reads_count m x y answer reads = reads.later

-- a count goes behind calls that left it as it was
pub count_behind : (failed : Bool) (x y z : ℕ) → y ≡ x → CountGoes failed y z → CountGoes failed x z
count_behind true x y z stood rose = Rose-after x y z stood rose
count_behind false x y z stood still = still ∙ stood

-- ---- what became of an input with a promise

pub record NoRoom (have n need most : ℕ) : Type 0 where
  pub none : has_promised_room have (Some n) ≡ false
  pub needs : n ≡ need
  pub has : have ≡ most

pub record Early (have n promised read : ℕ) (input : List ℕ) : Type 0 where
  pub room : has_promised_room have (Some n) ≡ true
  pub asked : n ≡ promised
  pub given : length input ≡ read
  pub short : nat_lt (length input) n ≡ true

pub record Enough (have n : ℕ) (input bytes : List ℕ) : Type 0 where
  pub room : has_promised_room have (Some n) ≡ true
  pub long : nat_lt (length input) n ≡ false
  pub taken : take n input ≡ bytes

abbrev taking_by : (room short : Bool) (have n : ℕ) (input : List ℕ) → Taking
taking_by room short have n input = if room then (if short then TooShort n (length input) else Fits (take n input)) else TooLong n have

pub too_long : (have n : ℕ) (input : List ℕ) (need most : ℕ) → taking have (Some n) input ≡ TooLong need most → NoRoom have n need most
too_long have n input need most is = by_flags (has_promised_room have (Some n)) (nat_lt (length input) n) refl is
  where
    by_flags : (room short : Bool) → has_promised_room have (Some n) ≡ room → taking_by room short have n input ≡ TooLong need most →
        NoRoom have n need most
    by_flags true true room is = absurd (cc)
    by_flags true false room is = absurd (cc)
    by_flags false short room is = record { none = room; needs = cc; has = cc }

pub too_short : (have n : ℕ) (input : List ℕ) (promised read : ℕ) → taking have (Some n) input ≡ TooShort promised read →
    Early have n promised read input
too_short have n input promised read is = by_flags (has_promised_room have (Some n)) (nat_lt (length input) n) refl refl is
  where
    by_flags : (room short : Bool) → has_promised_room have (Some n) ≡ room → nat_lt (length input) n ≡ short → taking_by room short have n
        input ≡ TooShort promised read →
        Early have n promised read input
    by_flags true true room short is = record { room = room; asked = cc; given = cc; short = short }
    by_flags true false room short is = absurd (cc)
    by_flags false short room is_short is = absurd (cc)

pub fitting : (have n : ℕ) (input bytes : List ℕ) → taking have (Some n) input ≡ Fits bytes → Enough have n input bytes
fitting have n input bytes is = by_flags (has_promised_room have (Some n)) (nat_lt (length input) n) refl refl is
  where
    by_flags : (room short : Bool) → has_promised_room have (Some n) ≡ room → nat_lt (length input) n ≡ short → taking_by room short have n
        input ≡ Fits bytes →
        Enough have n input bytes
    by_flags true true room short is = absurd (cc)
    by_flags true false room short is = record { room = room; long = short; taken = cc }
    by_flags false short room is_short is = absurd (cc)

-- there is no room for so many bytes, or for none
full_is_named : (have n : ℕ) → has_promised_room have (Some n) ≡ false → (have == 0 || nat_lt have n) ≡ true
full_is_named have n none = by_parts (and_cases (nat_le 1 have) (nat_le n have) none)
  where
    or_second : (x y : Bool) → y ≡ true → (x || y) ≡ true
    or_second true y is = refl
    or_second false y is = is

    by_parts : (nat_le 1 have ≡ false) ⊎ (nat_le n have ≡ false) → (have == 0 || nat_lt have n) ≡ true
    by_parts (inl empty) =
        let zero : have ≡ 0 = let few = leb-false 1 have empty in omega (arith, few) in ap (λ (h : ℕ). h == 0 || nat_lt h n) zero
    by_parts (inr little) =
        let few : have < n = leb-false n have little in or_second (have == 0) (nat_lt have n) (lt-ltb have n few)

-- ---- an append

module _ {A B : Type 0} (a : tapes.Meaning A) (b : tapes.Meaning B) (x y : B) (old new : SourceView A) (store after : StoreView)
    (name : List ℕ) (date n : ℕ) where
  abbrev Appends : Result Appended StoreFault → Type 0
  Appends r = AppendEnds b (source_means a) (reading x old) (reading y new) store after name date (Some n) r

  pub append_goes : (r : Result Appended StoreFault) → Appends r → GoesOn b x y
  append_goes (Ok appended) ends = goes_done b x y _ ends.ran.went.did
  append_goes (Err fault.Protected) ends = goes_same b x y ends.0
  append_goes (Err (fault.Lost segment lost)) ends = goes_done b x y _ ends.2.went.did
  append_goes (Err fault.TableMismatch) ends = goes_done b x y _ ends.went.did
  append_goes (Err (fault.Full need have)) ends = goes_done b x y _ ends.went.did
  append_goes (Err (fault.Short promised read)) ends = goes_done b x y _ ends.went.did
  append_goes (Err fault.Source) ends = goes_done b x y _ ends.cut.did
  append_goes (Err fault.Tape) ends = goes_broke b x y _ ends.cut.broke
  append_goes (Err f) ends = absurd ends

  -- but for a refusal of the source its count stands
  append_quiet : (r : Result Appended StoreFault) → r ≢ Err fault.Source → Appends r → new.faults ≡ old.faults
  append_quiet (Ok appended) other ends = ends.ran.went.source_later
  append_quiet (Err fault.Protected) other ends = ap (λ (s : SourceView A). s.faults) ends.1
  append_quiet (Err (fault.Lost segment lost)) other ends = ends.2.went.source_later
  append_quiet (Err fault.TableMismatch) other ends = ends.went.source_later
  append_quiet (Err (fault.Full need have)) other ends = ends.went.source_later
  append_quiet (Err (fault.Short promised read)) other ends = ends.went.source_later
  append_quiet (Err fault.Source) other ends = absurd (other refl)
  append_quiet (Err fault.Tape) other ends = ends.cut.source_later
  append_quiet (Err f) other ends = absurd ends

  -- the count of the tape rises just at a fault of it
  append_count : (f : StoreFault) (refused : Option StoreFault) → Appends (Err f) →
      CountGoes (is_to_broken (append_status f refused)) (b.faults x) (b.faults y)
  append_count fault.Source (Some why) ends = ends.cut.did.later
  append_count fault.Source None ends = ends.cut.did.later
  append_count fault.Protected refused ends = ap b.faults ends.0
  append_count (fault.Lost segment lost) refused ends = ends.2.went.did.later
  append_count fault.TableMismatch refused ends = ends.went.did.later
  append_count (fault.Full need have) refused ends = ends.went.did.later
  append_count (fault.Short promised read) refused ends = ends.went.did.later
  append_count fault.Tape refused ends = ends.cut.broke.cause
  append_count f refused ends = absurd ends

  pub append_kind : (f : StoreFault) (refused : Option StoreFault) → Appends (Err f) → IsOfPart refused → HasKind (append_status f refused)
  append_kind fault.Source (Some fault.Tape) ends kind = refl
  append_kind fault.Source (Some (fault.Lost segment lost)) ends kind = lt-ltb 3 lost kind
  append_kind fault.Source (Some (fault.Mismatch segment)) ends kind = refl
  append_kind fault.Source (Some f) ends kind = absurd kind
  append_kind fault.Source None ends kind = refl
  append_kind fault.Protected refused ends kind = refl
  append_kind (fault.Lost segment lost) refused ends kind =
      and_from (segment == 2) (nat_lt 3 lost) (ap (λ (s : ℕ). s == 2) ends.0) (lt-ltb 3 lost ends.1.0)
  append_kind fault.TableMismatch refused ends kind = refl
  append_kind (fault.Full need have) refused ends kind =
      let most : ℕ = room store.words store.entries in
      let none = too_long most n ends.input need have ends.took in
      subst (λ (h : ℕ). (h == 0 || nat_lt h need) ≡ true) none.has (subst (λ (m : ℕ). (most == 0 || nat_lt most m) ≡ true) none.needs
      (full_is_named most n none.none))
  append_kind (fault.Short promised read) refused ends kind =
      let early = too_short (room store.words store.entries) n ends.input promised read ends.took in
      ap (λ (m : ℕ). nat_lt m promised) (sym early.given) ∙ ap (λ (m : ℕ). nat_lt (length ends.input) m) (sym early.asked) ∙ early.short
  append_kind fault.Tape refused ends kind = refl
  append_kind f refused ends kind = absurd ends

  -- none of its refusals comes before a volume is copied
  pub append_late : (f : StoreFault) (refused : Option StoreFault) → Appends (Err f) → IsOfPart refused →
      is_before_copies (append_status f refused) ≡ false
  append_late fault.Source (Some fault.Tape) ends kind = refl
  append_late fault.Source (Some (fault.Lost segment lost)) ends kind = refl
  append_late fault.Source (Some (fault.Mismatch segment)) ends kind = refl
  append_late fault.Source (Some f) ends kind = absurd kind
  append_late fault.Source None ends kind = refl
  append_late fault.Protected refused ends kind = refl
  append_late (fault.Lost segment lost) refused ends kind = refl
  append_late fault.TableMismatch refused ends kind = refl
  append_late (fault.Full need have) refused ends kind = refl
  append_late (fault.Short promised read) refused ends kind = refl
  append_late fault.Tape refused ends kind = refl
  append_late f refused ends kind = absurd ends

-- none of them is a fault of the sink
append_sink : (f : StoreFault) (refused : Option StoreFault) → is_sink_broken (append_status f refused) ≡ false
append_sink fault.Source (Some why) = refl
append_sink fault.Source None = refl
append_sink f refused = refl

-- ---- a volume

-- what a copy of one did, whatever came of it
pub record OneGoes {A B : Type 0} (a : tapes.Meaning A) (b : tapes.Meaning B) (before after : SideView A) (old new : SideView B) : Type 0
  where
    pub from : OnlyRead a before.unit.tape after.unit.tape
    pub words : after.store.words ≡ before.store.words
    pub entries : after.store.entries ≡ before.store.entries
    pub fits : SideFits a after
    pub to : GoesOn b old.unit.tape new.unit.tape
    pub to_words : new.store.words ≡ old.store.words

module _ {A B : Type 0} (a : tapes.Meaning A) (b : tapes.Meaning B) (number : ℕ) (from after : SideView A) (to new : SideView B)
    (result : Result ℕ CopyStatus) (one : CopiesOne a b number from after to new result) where
  source_tape : after.unit.tape ≡ one.source.unit.tape
  source_tape = ap (λ (side : SideView A). side.unit.tape) one.back

  pub one_goes : OneGoes a b from after to new
  one_goes = record {
    from = subst (OnlyRead a from.unit.tape) (sym source_tape)
        (record { told = one.kept.told; stops = one.kept.stops; later = one.kept.later });
    words = ap (λ (side : SideView A). side.store.words) one.back ∙ one.kept.store.words;
    entries = ap (λ (side : SideView A). side.store.entries) one.back ∙ one.kept.store.entries;
    fits = subst (λ (side : SideView A). SideFits a side) (sym one.back) one.sound.fits;
    to = append_goes a b to.unit.tape new.unit.tape (new_source from.store from.unit number) one.source to.store new.store one.entry.name
        one.entry.date
        (volume_length from.store.words one.entry) one.appended one.ends;
    to_words = one.format.words;
  }

  -- it was copied: the source was read, and the target's store fits, and has an entry more
  pub record OneDone (bytes : ℕ) : Type 0 where
    pub read : tapes.Done a from.unit.tape after.unit.tape []
    pub stood : b.faults new.unit.tape ≡ b.faults to.unit.tape
    pub fits : SideFits b new
    pub entry : Entry
    pub more : new.store.entries ≡ to.store.entries ++ entry ∷ []

  abbrev Ended : Result Appended StoreFault → Type 0
  Ended r = AppendEnds b (source_means a) (reading to.unit.tape (new_source from.store from.unit number)) (reading new.unit.tape one.source)
      to.store new.store one.entry.name one.entry.date (Some (volume_length from.store.words one.entry)) r

  -- it was read where its tape didn't fail
  source_done : one.source.fault ≢ Some fault.Tape → tapes.Done a from.unit.tape after.unit.tape []
  source_done other =
      subst (λ (t : A). tapes.Done a from.unit.tape t []) (sym source_tape) (record {
        told = one.kept.told ∙ sym (option_map-effects-none (a.told from.unit.tape));
        later = one.kept.stood other;
        stops = one.kept.stops;
      })

  -- a read of it failed just where the append answers that
  unrefused : (r : Result Appended StoreFault) → r ≢ Err fault.Source → Ended r → one.source.fault ≢ Some fault.Tape
  unrefused r other ends some =
      let stood : one.source.faults ≡ 0 =
      append_quiet a b to.unit.tape new.unit.tape (new_source from.store from.unit number) one.source to.store new.store
      one.entry.name one.entry.date (volume_length from.store.words one.entry) r other ends in
      let none : one.source.fault ≡ None = one.sound.counting stood in
      absurd (cc)

  -- how it was read, as its answer says
  pub one_reads : (answer : CopyStatus) → result ≡ Err answer → ReadsFor a from.unit.tape after.unit.tape answer
  one_reads answer is = by_answer one.appended one.source.fault refl one.ends (sym is ∙ one.is)
    where
      by_answer : (r : Result Appended StoreFault) (o : Option StoreFault) → one.source.fault ≡ o → Ended r →
          Err answer ≡ append_answer r o → ReadsFor a from.unit.tape after.unit.tape answer
      by_answer (Ok appended) o known ends is = absurd (cc)
      by_answer (Err fault.Source) (Some fault.Tape) known ends is =
          let answered : answer ≡ status.From fault.Tape = cc in
          subst (ReadsFor a from.unit.tape after.unit.tape) (sym answered)
          (subst (λ (t : A). tapes.Broke a from.unit.tape t []) (sym source_tape) (one.kept.by_tape refl known))
      by_answer (Err fault.Source) (Some (fault.Lost segment lost)) known ends is =
          let answered : answer ≡ status.From (fault.Lost segment lost) = cc in
          subst (ReadsFor a from.unit.tape after.unit.tape) (sym answered) (source_done (λ some. cc))
      by_answer (Err fault.Source) (Some (fault.Mismatch segment)) known ends is =
          let answered : answer ≡ status.From (fault.Mismatch segment) = cc in
          subst (ReadsFor a from.unit.tape after.unit.tape) (sym answered) (source_done (λ some. cc))
      by_answer (Err fault.Source) (Some f) known ends is =
          absurd (let kind : IsOfPart (Some f) = subst IsOfPart known one.sound.kind in kind)
      by_answer (Err fault.Source) None known ends is =
          let rose = ends.cut.cause in let none = one.sound.counted known in absurd (omega (arith, rose, none))
      by_answer (Err f) o known ends is =
          let answered : answer ≡ status.To f = cc in
          subst (ReadsFor a from.unit.tape after.unit.tape) (sym answered) (source_done (unrefused (Err f) (λ bad. cc) ends))

  -- .. and what the counts of the target and of the sink do then
  pub record OneRefused (answer : CopyStatus) : Type 0 where
    pub count : CountGoes (is_to_broken answer) (b.faults to.unit.tape) (b.faults new.unit.tape)
    pub quiet : is_sink_broken answer ≡ false

  pub one_refused : (answer : CopyStatus) → result ≡ Err answer → OneRefused answer
  one_refused answer is = by_answer one.appended one.ends (sym is ∙ one.is)
    where
      by_answer : (r : Result Appended StoreFault) → Ended r → Err answer ≡ append_answer r one.source.fault → OneRefused answer
      by_answer (Ok appended) ends is = absurd (cc)
      by_answer (Err f) ends is =
          let answered : answer ≡ append_status f one.source.fault = cc in record {
            count = subst (λ (found : CopyStatus). CountGoes (is_to_broken found) (b.faults to.unit.tape) (b.faults new.unit.tape))
                (sym answered)
                (append_count a b to.unit.tape new.unit.tape (new_source from.store from.unit number) one.source to.store new.store
                one.entry.name one.entry.date (volume_length from.store.words one.entry) f one.source.fault ends);
            quiet = ap is_sink_broken answered ∙ append_sink f one.source.fault;
          }

  pub one_done : (bytes : ℕ) → result ≡ Ok bytes → OneDone bytes
  one_done bytes ok = by_answer one.appended refl
    where
      by_answer : (r : Result Appended StoreFault) → one.appended ≡ r → OneDone bytes
      by_answer (Ok appended) is =
          let does : Ended (Ok appended) = subst Ended is one.ends in record {
            read = source_done (unrefused (Ok appended) (λ bad. cc) does);
            stood = does.ran.went.did.later;
            fits = one.fits (λ bad. let no : Ok appended ≡ Err fault.Tape = sym is ∙ bad in cc);
            entry = does.entry;
            more = does.added;
          }
      by_answer (Err f) is =
          let no : Ok bytes ≡ append_answer (Err f) one.source.fault = sym ok ∙ one.is ∙ ap (λ (r : Result Appended StoreFault).
          append_answer r one.source.fault) is in absurd (cc)

-- ---- volumes one after the other

pub lines_more : (number : ℕ) (xs : List ℕ) (y : ℕ) → copied_lines number (xs ++ y ∷ []) ≡ copied_lines number xs ++ copied_line
    (number + length xs) y
lines_more number [] y =
    let same : number + 0 ≡ number = omega arith in rw same (append-nil (copied_line number y))
lines_more number (x ∷ xs) y =
    let same : number + 1 + length xs ≡ number + length (x ∷ xs) = omega arith in
    ap (λ (text : List ℕ). copied_line number x ++ text) (lines_more (number + 1) xs y)
    ∙ sym (append_assoc (copied_line number x) (copied_lines (number + 1) xs) (copied_line (number + 1 + length xs) y))
    ∙ ap (λ (k : ℕ). (copied_line number x ++ copied_lines (number + 1) xs) ++ copied_line k y) same

-- what so many copies did
pub record Chained {A B K : Type 0} (a : tapes.Meaning A) (b : tapes.Meaning B) (k : sinks.Meaning K) (old mid : CopyView A B K) : Type 0
  where
    pub from : tapes.Done a old.from.unit.tape mid.from.unit.tape []
    pub words : mid.from.store.words ≡ old.from.store.words
    pub entries : mid.from.store.entries ≡ old.from.store.entries
    pub from_fits : SideFits a mid.from
    pub to : GoesOn b old.to.unit.tape mid.to.unit.tape
    pub stood : b.faults mid.to.unit.tape ≡ b.faults old.to.unit.tape
    pub to_words : mid.to.store.words ≡ old.to.store.words
    pub to_fits : SideFits b mid.to
    pub more : List Entry
    pub to_entries : mid.to.store.entries ≡ old.to.store.entries ++ more
    pub lengths : List ℕ
    pub many : length lengths ≡ length more
    pub took : k.took old.sink (copied_lines (next_number old) lengths) mid.sink
    pub later : k.faults mid.sink ≡ k.faults old.sink

module _ {A B K : Type 0} (a : tapes.Meaning A) (b : tapes.Meaning B) (k : sinks.Meaning K) (both : TakesBoth k) (nothing : (z : K) →
    k.took z [] z) where
  chain_more : (old mid new : CopyView A B K) → Chained a b k old mid → HasCopied a b k mid new → Chained a b k old new
  chain_more old mid new chain has =
      let goes = one_goes a b (next_number mid) mid.from new.from mid.to new.to (Ok has.bytes) has.one in
      let done = one_done a b (next_number mid) mid.from new.from mid.to new.to (Ok has.bytes) has.one has.bytes refl in
      let count : length mid.to.store.entries ≡ length old.to.store.entries + length chain.more =
      ap length chain.to_entries ∙ length-append old.to.store.entries chain.more in
      let number : next_number mid ≡ next_number old + length chain.lengths = omega (arith, count, chain.many) in
      let one_more : length (chain.more ++ done.entry ∷ []) ≡ length chain.more + 1 = length-append chain.more (done.entry ∷ []) in
      let one_longer : length (chain.lengths ++ has.bytes ∷ []) ≡ length chain.lengths + 1 = length-append chain.lengths (has.bytes ∷ []) in
      record {
        from = Done-Done chain.from done.read;
        words = goes.words ∙ chain.words;
        entries = goes.entries ∙ chain.entries;
        from_fits = goes.fits;
        to = goes_both b old.to.unit.tape mid.to.unit.tape new.to.unit.tape chain.to goes.to;
        stood = done.stood ∙ chain.stood;
        to_words = goes.to_words ∙ chain.to_words;
        to_fits = done.fits;
        more = chain.more ++ done.entry ∷ [];
        to_entries = done.more ∙ ap (λ (es : List Entry). es ++ done.entry ∷ []) chain.to_entries ∙ append_assoc old.to.store.entries
            chain.more (done.entry ∷ []);
        lengths = chain.lengths ++ has.bytes ∷ [];
        many = omega (arith, one_more, one_longer, chain.many);
        took = subst (λ (text : List ℕ). k.took old.sink text new.sink)
            (ap (λ (n : ℕ). copied_lines (next_number old) chain.lengths ++ copied_line n has.bytes) number ∙
            sym (lines_more (next_number old) chain.lengths has.bytes))
            (both old.sink mid.sink new.sink (copied_lines (next_number old) chain.lengths) (copied_line (next_number mid) has.bytes)
            chain.took has.line.took);
        later = has.line.later ∙ chain.later;
      }

  pub chained : (count : ℕ) (old mid : CopyView A B K) → SideFits a old.from → SideFits b old.to → HaveCopied a b k count old mid →
      Chained a b k old mid
  chained zero old mid source target same =
      subst (Chained a b k old) (sym same) (record {
        from = Done-nothing a old.from.unit.tape;
        words = refl;
        entries = refl;
        from_fits = source;
        to = goes_same b old.to.unit.tape old.to.unit.tape refl;
        stood = refl;
        to_words = refl;
        to_fits = target;
        more = [];
        to_entries = sym (append-nil old.to.store.entries);
        lengths = [];
        many = refl;
        took = nothing old.sink;
        later = refl;
      })
  chained (suc count) old new source target (mid, before, one) = chain_more old mid new (chained count old mid source target before) one

  -- the counts of the target and of the sink went as an answer says
  abbrev CountsGo : (mid new : CopyView A B K) → CopyStatus → Type 0
  CountsGo mid new answer =
      CountGoes (is_to_broken answer) (b.faults mid.to.unit.tape) (b.faults new.to.unit.tape)
      × CountGoes (is_sink_broken answer) (k.faults mid.sink) (k.faults new.sink)

  -- the whole of them
  pub record AllGoes (old new : CopyView A B K) (answer : CopyStatus) : Type 0 where
    pub from : ReadsFor a old.from.unit.tape new.from.unit.tape answer
    pub to : GoesOn b old.to.unit.tape new.to.unit.tape
    pub sink : k.faults old.sink ≤ k.faults new.sink
    pub to_count : CountGoes (is_to_broken answer) (b.faults old.to.unit.tape) (b.faults new.to.unit.tape)
    pub sink_count : CountGoes (is_sink_broken answer) (k.faults old.sink) (k.faults new.sink)

  pub missing_goes : (old new : CopyView A B K) (answer : CopyStatus) → SideFits a old.from → SideFits b old.to →
      MissingEnds a b k old new answer → AllGoes old new answer
  missing_goes old new answer source target ends = by_end ends.ends
    where
      chain : Chained a b k old ends.mid
      chain = chained ends.count old ends.mid source target ends.copied

      -- what was read behind the chain
      read_more : (found : CopyStatus) → ReadsFor a ends.mid.from.unit.tape new.from.unit.tape found →
          ReadsFor a old.from.unit.tape new.from.unit.tape found
      read_more (status.From fault.Tape) more = Broke-after_reads chain.from more
      read_more found more = Done-Done chain.from more

      to_behind : CountsGo ends.mid new answer → CountGoes (is_to_broken answer) (b.faults old.to.unit.tape) (b.faults new.to.unit.tape)
      to_behind counts =
          count_behind (is_to_broken answer) (b.faults old.to.unit.tape) (b.faults ends.mid.to.unit.tape) (b.faults new.to.unit.tape)
          chain.stood counts.0

      sink_behind : CountsGo ends.mid new answer → CountGoes (is_sink_broken answer) (k.faults old.sink) (k.faults new.sink)
      sink_behind counts =
          count_behind (is_sink_broken answer) (k.faults old.sink) (k.faults ends.mid.sink) (k.faults new.sink) chain.later counts.1

      with_one : (r : Result ℕ CopyStatus) → CopiesOne a b (next_number ends.mid) ends.mid.from new.from ends.mid.to new.to r →
          ReadsFor a ends.mid.from.unit.tape new.from.unit.tape answer → k.faults ends.mid.sink ≤ k.faults new.sink →
          CountsGo ends.mid new answer → AllGoes old new answer
      with_one r one more later counts =
          let goes = one_goes a b (next_number ends.mid) ends.mid.from new.from ends.mid.to new.to r one in record {
            from = read_more answer more;
            to = goes_both b old.to.unit.tape ends.mid.to.unit.tape new.to.unit.tape chain.to goes.to;
            sink = let e = chain.later in omega (arith, e, later);
            to_count = to_behind counts;
            sink_count = sink_behind counts;
          }

      count_later : (found : CopyStatus) → PrintsCount k ends.mid.sink new.sink (length ends.mid.to.store.entries) found →
          k.faults ends.mid.sink ≤ k.faults new.sink
      count_later status.Done wrote = let stood = wrote.later in omega (arith, stood)
      count_later status.SinkFault broke = broke.later
      count_later found none = absurd none

      -- the count of the lines comes behind all reading
      count_reads : (found : CopyStatus) → PrintsCount k ends.mid.sink new.sink (length ends.mid.to.store.entries) found →
          tapes.Done a old.from.unit.tape new.from.unit.tape [] → ReadsFor a old.from.unit.tape new.from.unit.tape found
      count_reads status.Done wrote read = read
      count_reads status.SinkFault broke read = read
      count_reads found none read = absurd none

      refused_counts : IsRefused a b ends.mid new answer → CountsGo ends.mid new answer
      refused_counts refused =
          let one = one_refused a b (next_number ends.mid) ends.mid.from new.from ends.mid.to new.to (Err answer) refused.one answer
          refl in (
            one.count,
            subst (λ (failed : Bool). CountGoes failed (k.faults ends.mid.sink) (k.faults new.sink)) (sym one.quiet)
                (ap k.faults refused.sink),
          )

      unprinted_counts : (found : CopyStatus) → found ≡ status.SinkFault →
          b.faults new.to.unit.tape ≡ b.faults ends.mid.to.unit.tape → tapes.Rose (k.faults ends.mid.sink) (k.faults new.sink) →
          CountsGo ends.mid new found
      unprinted_counts found is stood rose = subst (CountsGo ends.mid new) (sym is) (stood, rose)

      counted_counts : (found : CopyStatus) → PrintsCount k ends.mid.sink new.sink (length ends.mid.to.store.entries) found →
          b.faults new.to.unit.tape ≡ b.faults ends.mid.to.unit.tape → CountsGo ends.mid new found
      counted_counts status.Done wrote stood = (stood, wrote.later)
      counted_counts status.SinkFault broke stood = (stood, broke.cause)
      counted_counts found none stood = absurd none

      by_end : IsRefused a b ends.mid new answer ⊎ IsUnprinted a b k ends.mid new answer ⊎ IsCounted k ends.mid new answer →
          AllGoes old new answer
      by_end (inl refused) =
          with_one (Err answer) refused.one
          (one_reads a b (next_number ends.mid) ends.mid.from new.from ends.mid.to new.to (Err answer) refused.one answer refl)
          (let same : k.faults new.sink ≡ k.faults ends.mid.sink = ap k.faults refused.sink in omega (arith, same))
          (refused_counts refused)
      by_end (inr (inl unprinted)) =
          let done = one_done a b (next_number ends.mid) ends.mid.from new.from ends.mid.to new.to (Ok unprinted.bytes) unprinted.one
          unprinted.bytes refl in
          with_one (Ok unprinted.bytes) unprinted.one
          (subst (ReadsFor a ends.mid.from.unit.tape new.from.unit.tape) (sym unprinted.answered) done.read)
          unprinted.line.later (unprinted_counts answer unprinted.answered done.stood unprinted.line.cause)
      by_end (inr (inr counted)) = record {
        from = count_reads answer counted.count
            (subst (λ (side : SideView A). tapes.Done a old.from.unit.tape side.unit.tape []) (sym counted.from) chain.from);
        to = subst (λ (side : SideView B). GoesOn b old.to.unit.tape side.unit.tape) (sym counted.to) chain.to;
        sink = let e = chain.later in let f = count_later answer counted.count in omega (arith, e, f);
        to_count = to_behind (counted_counts answer counted.count (ap (λ (side : SideView B). b.faults side.unit.tape) counted.to));
        sink_count = sink_behind (counted_counts answer counted.count (ap (λ (side : SideView B). b.faults side.unit.tape) counted.to));
      }
