-- What the program that copies one cartridge's volumes to another promises (this project's own).
use Rattle.std.specs.Prelude.{ℕ, ◌+◌, ◌<◌, List, [], ◌++◌, ◌≡◌, ◌≢◌, ◌⊎◌, ◌↔◌, ◌≤◌, ◌==◌, ◌&&◌, ◌||◌, Bool, true, false, nat_lt, length}
use Rattle.std.specs.Prelude.{Option, None, Some, Contains, IfSome, IsSomeAnd, is_some}
use Rattle.std.specs.Option.{option_map}
use Rattle.cartridge_spec.specs.Appending.{room}
use Rattle.cartridge_spec.specs.Header.{Header}
use Rattle.cartridge_spec.specs.Mounting.{Mounting, Mounts, settled}
use Rattle.cartridge_spec.specs.TableSegment.{IsTableLive}
use Rattle.cartridge_spec.specs.Settling.{settling_steps}
use Rattle.cartridge_spec.specs.Table.{Entry}
use Rattle.cartridge_spec.specs.Volumes.{Plain, Stands}
use Rattle.command_spec.specs.Copied.{CanBeCopied, StandAlike, StandsPrinted, StandsUpTo, copied, copied_lines, BeginsLike}
use Rattle.command_spec.specs.CopyGiven.{GivenBy, KeepsOrGains, KeepsOrPrints, StandsWithAll}
use Rattle.command_spec.specs.CopyOneLoss.{ComesBackWithAll, SettlesOrComesBack}
use Rattle.command_spec.specs.Copying.{CopyOutcome, CopyYields, foreign_fault, giving_status}
use Rattle.command_spec.specs.Headline.{EachLeft, ToldNow}
use Rattle.command_spec.specs.Lines.{count_line}
use Rattle.command_spec.specs.Outcome.{is_refused}
use Rattle.command_spec.specs.Restore.{GivingEnd, Restores, pieces}
use Rattle.qic_base.specs.declared.store_fault.StoreFault.{StoreFault}
use Rattle.command_spec.specs.declared.copy_status.CopyStatus.{CopyStatus}
use Rattle.qic_base.specs.Acts.{Act, SinkCut, TapeCut, Went, steps_of}
use Rattle.qic_base.specs.Alone.{around, no_source}
use Rattle.qic_base.specs.Cartridge.{Cartridge}
use Rattle.qic_base.specs.Tape.{Rose}
use Rattle.qic_base.specs.Step.{Torn, effects}
use Rattle.cartridge_spec.specs.Mounting as mounting
use Rattle.qic_base.specs.declared.store_fault.StoreFault.TheVariants as fault
use Rattle.command_spec.specs.declared.copy_status.CopyStatus.TheVariants as status
use Rattle.qic_base.specs.Sink as sinks
use Rattle.qic_base.specs.Tape as tapes

-- the two tapes and the sink, before a copy or after it
pub record Decks (A B K : Type 0) : Type 0 where
  pub from : A
  pub to : B
  pub sink : K

-- ---- how it ended

-- it ended before any drive was asked
abbrev pub IsUnasked : CopyStatus → Type 0
IsUnasked answer = (answer ≡ status.Usage) ⊎ (answer ≡ status.NoMemory)

-- a fact of what both drives hold, where both tapes tell
abbrev pub OverBoth : {A B K : Type 0} (a : tapes.Meaning A) (b : tapes.Meaning B) (old : Decks A B K)
    (P : (from to : Option Cartridge) → Type 0) → Type 0
OverBoth a b old P = IfSome (a.told old.from) (λ from. IfSome (b.told old.to) (λ to. P from to))

-- The plain machine's outcome: it was carried out, all of it.
pub record CopyWent {A B K : Type 0} (a : tapes.Meaning A) (b : tapes.Meaning B) (k : sinks.Meaning K) (old new : Decks A B K)
    (answer : CopyStatus) (from to : Option Cartridge) : Type 0 where
  pub outcome : CopyOutcome
  pub plain : CopyYields from to outcome
  pub answered : answer ≡ outcome.status
  pub settling : tapes.Done a old.from new.from outcome.settling
  pub went : Went b no_source k (around old.to old.sink) (around new.to new.sink) outcome.acts

-- A fault of the source's tape broke it off: in the settling of that, before anything was done to the target, or in a
-- reading behind it, once all of the settling was done, and first ones of the target's acts went.
pub record FromCut {A B K : Type 0} (a : tapes.Meaning A) (b : tapes.Meaning B) (k : sinks.Meaning K) (old new : Decks A B K)
    (from to : Option Cartridge) : Type 0 where
  pub outcome : CopyOutcome
  pub plain : CopyYields from to outcome
  pub front : List Act
  pub rest : List Act
  pub broke : tapes.Broke a old.from new.from outcome.settling
  pub place : (front ≡ []) ⊎ (a.told new.from ≡ option_map (effects outcome.settling) (a.told old.from))
  pub parts : front ++ rest ≡ outcome.acts
  pub went : Went b no_source k (around old.to old.sink) (around new.to new.sink) front

-- A fault of the target's tape cut its acts off, or one of the sink.
pub record ToCut {A B K : Type 0} (a : tapes.Meaning A) (b : tapes.Meaning B) (k : sinks.Meaning K) (old new : Decks A B K)
    (from to : Option Cartridge) : Type 0 where
  pub outcome : CopyOutcome
  pub plain : CopyYields from to outcome
  pub settling : tapes.Done a old.from new.from outcome.settling
  pub cut : TapeCut b no_source k (around old.to old.sink) (around new.to new.sink) outcome.acts

pub record PrintingCut {A B K : Type 0} (a : tapes.Meaning A) (b : tapes.Meaning B) (k : sinks.Meaning K) (old new : Decks A B K)
    (from to : Option Cartridge) : Type 0 where
  pub outcome : CopyOutcome
  pub plain : CopyYields from to outcome
  pub settling : tapes.Done a old.from new.from outcome.settling
  pub cut : SinkCut b no_source k (around old.to old.sink) (around new.to new.sink) outcome.acts

abbrev pub CopyEnds : {A B K : Type 0} (a : tapes.Meaning A) (b : tapes.Meaning B) (k : sinks.Meaning K) (old new : Decks A B K) →
    CopyStatus → (from to : Option Cartridge) → Type 0
CopyEnds a b k old new (status.From fault.Tape) from to = FromCut a b k old new from to
CopyEnds a b k old new (status.To fault.Tape) from to = ToCut a b k old new from to
CopyEnds a b k old new status.SinkFault from to = PrintingCut a b k old new from to
CopyEnds a b k old new answer from to = CopyWent a b k old new answer from to

-- ---- over any tapes

-- the refusals that a mounting may give, and its fault
abbrev pub is_mount_fault : StoreFault → Bool
is_mount_fault fault.NotFormatted = true
is_mount_fault (fault.Foreign field value) = is_refused field value
is_mount_fault fault.TableMismatch = true
is_mount_fault (fault.Lost segment lost) = segment == 2 && nat_lt 3 lost
is_mount_fault fault.Tape = true
is_mount_fault other = false

-- the source is mounted, and volumes of it are read
abbrev pub is_from_fault : StoreFault → Bool
is_from_fault (fault.Lost segment lost) = nat_lt 3 lost
is_from_fault (fault.Mismatch segment) = true
is_from_fault other = is_mount_fault other

-- the target is mounted, and volumes are appended: where it is full, a volume needs more than the room, or there is none
abbrev pub is_to_fault : StoreFault → Bool
is_to_fault fault.Protected = true
is_to_fault (fault.Full need have) = have == 0 || nat_lt have need
is_to_fault (fault.Short promised read) = nat_lt read promised
is_to_fault other = is_mount_fault other

-- the refusals that an answer may name
abbrev pub HasKind : CopyStatus → Type 0
HasKind (status.From found) = is_from_fault found ≡ true
HasKind (status.To found) = is_to_fault found ≡ true
HasKind (status.Differs number) = 0 < number
HasKind answer = Unit {0}

-- a fault of the source's tape is answered, ..
abbrev pub is_from_broken : CopyStatus → Bool
is_from_broken (status.From fault.Tape) = true
is_from_broken answer = false

-- .. one of the target's, ..
abbrev pub is_to_broken : CopyStatus → Bool
is_to_broken (status.To fault.Tape) = true
is_to_broken answer = false

-- .. or one of the sink
abbrev pub is_sink_broken : CopyStatus → Bool
is_sink_broken status.SinkFault = true
is_sink_broken answer = false

-- the count of an object that failed rose by one, and that of one that didn't is as it was
abbrev pub CountGoes : (failed : Bool) → (before now : ℕ) → Type 0
CountGoes true before now = Rose before now
CountGoes false before now = now ≡ before

-- The count of the object whose fault is answered rose by one, and the others are as they were; at any other answer all are.
pub record HasRisen {A B K : Type 0} (a : tapes.Meaning A) (b : tapes.Meaning B) (k : sinks.Meaning K) (old new : Decks A B K)
    (answer : CopyStatus) : Type 0 where
  pub from : CountGoes (is_from_broken answer) (a.faults old.from) (a.faults new.from)
  pub to : CountGoes (is_to_broken answer) (b.faults old.to) (b.faults new.to)
  pub sink : CountGoes (is_sink_broken answer) (k.faults old.sink) (k.faults new.sink)

-- what a mounting gives is this refusal; where it gives a list the refusal is one of these
abbrev pub MountingRefuses : Mounting → StoreFault →
    (OnceMounted : Header → (words : List ℕ) → (table : List (List ℕ)) → List Entry → Type 0) → Type 0
MountingRefuses mounting.NotFormatted found OnceMounted = found ≡ fault.NotFormatted
MountingRefuses (mounting.Foreign why) found OnceMounted = found ≡ foreign_fault why
MountingRefuses (mounting.TableLost lost) found OnceMounted = found ≡ fault.Lost 2 lost
MountingRefuses mounting.TableMismatch found OnceMounted = found ≡ fault.TableMismatch
MountingRefuses (mounting.Mounted header words table entries) found OnceMounted = OnceMounted header words table entries

-- a volume of the settled source ends so
abbrev pub EndsVolume : Cartridge → StoreFault → Header → (words : List ℕ) → (table : List (List ℕ)) → List Entry → Type 0
EndsVolume c found header words table entries =
    (e : Entry) × Contains entries e × ((read : List Act)
    × ((ending : GivingEnd) × Restores (settled table c) words (pieces words e) read ending
    × (giving_status ending ≡ status.From found)))

-- .. of the target: it is protected, or an append to it is refused; the room is that behind its volumes and the copied ones
abbrev pub EndsAppend : Cartridge → StoreFault → Header → (words : List ℕ) → (table : List (List ℕ)) → List Entry → Type 0
EndsAppend c fault.Protected header words table entries = c.info.protected ≡ true
EndsAppend c (fault.Full need have) header words table entries =
    (c.info.protected ≡ false) × ((more : List Entry) × (have ≡ room words (entries ++ more)))
EndsAppend c (fault.Lost segment lost) header words table entries = c.info.protected ≡ false
EndsAppend c (fault.Short promised read) header words table entries = c.info.protected ≡ false
EndsAppend c found header words table entries = ⊥

-- it is mounted, and lists volumes
abbrev pub MountsSome : Option Cartridge → Type 0
MountsSome held =
    IsSomeAnd held (λ c. (header : Header)
    × ((words : List ℕ) × ((table : List (List ℕ))
    × ((entries : List Entry) × Mounts c (mounting.Mounted header words table entries)))))

-- .. and takes more of them; its list is so
abbrev pub TakesMore : Option Cartridge → (List Entry → Type 0) → Type 0
TakesMore held P =
    IsSomeAnd held (λ c. (c.info.protected ≡ false)
    × ((header : Header) × ((words : List ℕ) × ((table : List (List ℕ)) × ((entries : List Entry)
    × Mounts c (mounting.Mounted header words table entries) × P entries)))))

-- what an answer says of the source's cartridge alone
abbrev pub FromAnswers : Option Cartridge → CopyStatus → Type 0
FromAnswers held status.Usage = Unit {0}
FromAnswers held status.NoMemory = Unit {0}
FromAnswers held (status.From fault.Tape) = Unit {0}
FromAnswers held status.FromAbsent = held ≡ None
FromAnswers held (status.From found) = IsSomeAnd held (λ c. (m : Mounting) × Mounts c m × MountingRefuses m found (EndsVolume c found))
FromAnswers held answer = MountsSome held

-- .. and of the target's: a volume is copied once that takes more, and none lies in the segment of the volume table
abbrev pub ToAnswers : Option Cartridge → CopyStatus → Type 0
ToAnswers held status.Usage = Unit {0}
ToAnswers held status.NoMemory = Unit {0}
ToAnswers held status.FromAbsent = Unit {0}
ToAnswers held (status.From (fault.Mismatch segment)) = TakesMore held (λ entries. Unit {0})
ToAnswers held (status.From (fault.Lost segment lost)) = segment ≢ 2 → TakesMore held (λ entries. Unit {0})
ToAnswers held (status.From found) = Unit {0}
ToAnswers held (status.To fault.Tape) = Unit {0}
ToAnswers held status.ToAbsent = held ≡ None
ToAnswers held (status.To found) = IsSomeAnd held (λ c. (m : Mounting) × Mounts c m × MountingRefuses m found (EndsAppend c found))
ToAnswers held (status.Differs number) = TakesMore held (λ entries. number ≤ length entries)
ToAnswers held answer = TakesMore held (λ entries. Unit {0})

-- ---- what is printed

-- the lines of the volumes that were copied behind so many, with these lengths, and the count
abbrev pub copy_text : (count : ℕ) → (lengths : List ℕ) → List ℕ
copy_text count lengths = copied_lines (count + 1) lengths ++ count_line (count + length lengths)

-- it is given before any volume is copied
abbrev pub is_before_copies : CopyStatus → Bool
is_before_copies status.Usage = true
is_before_copies status.NoMemory = true
is_before_copies status.FromAbsent = true
is_before_copies status.ToAbsent = true
is_before_copies (status.From fault.NotFormatted) = true
is_before_copies (status.From (fault.Foreign field value)) = true
is_before_copies (status.From fault.TableMismatch) = true
is_before_copies (status.To fault.NotFormatted) = true
is_before_copies (status.To (fault.Foreign field value)) = true
is_before_copies (status.Differs number) = true
is_before_copies answer = false

-- whole lines at an answer but a fault of the sink, all of them at Done, and none where no volume was copied; behind that
-- fault a front, and not all
abbrev pub IsCopyText : CopyStatus → List ℕ → Type 0
IsCopyText status.Done text = (count : ℕ) × ((lengths : List ℕ) × (text ≡ copy_text count lengths))
IsCopyText status.SinkFault text =
    (count : ℕ) × ((lengths : List ℕ) × ((rest : List ℕ) × (rest ≢ []) × (text ++ rest ≡ copy_text count lengths)))
IsCopyText answer text =
    (count : ℕ) × ((lengths : List ℕ) × (is_before_copies answer ≡ true → lengths ≡ []) × (text ≡ copied_lines (count + 1) lengths))

pub record PrintsCopies {K : Type 0} (k : sinks.Meaning K) (answer : CopyStatus) (old new : K) : Type 0 where
  pub text : List ℕ
  pub is_text : IsCopyText answer text
  pub took : k.took old text new

-- ---- stops

-- a stop in the settling of the source leaves this
pub record TornSettling (held left : Option Cartridge) : Type 0 where
  pub cartridge : Cartridge
  pub is : held ≡ Some cartridge
  pub header : Header
  pub words : List ℕ
  pub table : List (List ℕ)
  pub entries : List Entry
  pub mounts : Mounts cartridge (mounting.Mounted header words table entries)
  pub torn : Torn (settling_steps table cartridge) held left

abbrev pub FromLeaves : (held left : Option Cartridge) → Type 0
FromLeaves held left = (left ≡ held) ⊎ TornSettling held left

-- a stop in what the copy does to the target, where the source holds this
abbrev pub ToLeaves : (from held left : Option Cartridge) → Type 0
ToLeaves from held left = (left ≡ held) ⊎ ((outcome : CopyOutcome) × CopyYields from held outcome × Torn (steps_of outcome.acts) held left)

-- each cartridge that is left of the source stands for what it stood for
abbrev pub SourceStays : (held left : Option Cartridge) → Type 0
SourceStays held left = (c : Cartridge) (plain : Plain) → held ≡ Some c → Stands c plain → IsSomeAnd left (λ d. Stands d plain)

-- a target whose volume table takes each write goes on to do so
abbrev pub TargetLives : (held left : Option Cartridge) → Type 0
TargetLives held left = (d : Cartridge) → held ≡ Some d → IsTableLive d → IsSomeAnd left IsTableLive

-- and of the target for its volumes and some of the missing ones, in their order
abbrev pub TargetGrows : (from : Option Cartridge) → (held left : Option Cartridge) → Type 0
TargetGrows from held left =
    (c : Cartridge) (one : Plain) (d : Cartridge) (other : Plain) → from ≡ Some c → held ≡ Some d → StandAlike c one d other →
    StandsUpTo one other left

-- Whatever the source is: of a target whose volume table takes each write.
abbrev pub TargetGains : (from : Option Cartridge) → (held left : Option Cartridge) → Type 0
TargetGains from held left = (d : Cartridge) (other : Plain) → held ≡ Some d → Stands d other → IsTableLive d → KeepsOrGains from other left

-- .. when it is over, and this was printed
pub record CopyGave {A B K : Type 0} (b : tapes.Meaning B) (k : sinks.Meaning K) (old new : Decks A B K) (from : Option Cartridge)
    (to : Plain) : Type 0 where
  pub text : List ℕ
  pub took : k.took old.sink text new.sink
  pub printed : ToldNow b new.to (KeepsOrPrints from to text)

-- .. and where one sector of the table's segment is lost besides
abbrev pub TargetComesBack : (from : Option Cartridge) → (held left : Option Cartridge) → Type 0
TargetComesBack from held left =
    (d : Cartridge) (other : Plain) → held ≡ Some d → Stands d other → IsTableLive d → SettlesOrComesBack from d other [] left

pub record CopyComesBack {A B K : Type 0} (b : tapes.Meaning B) (k : sinks.Meaning K) (old new : Decks A B K) (from : Option Cartridge)
    (d : Cartridge) (to : Plain) : Type 0 where
  pub text : List ℕ
  pub took : k.took old.sink text new.sink
  pub comes : ToldNow b new.to (SettlesOrComesBack from d to text)

-- When it is over this was printed, and the target has at least the volumes whose lines were written whole.
pub record CopyIsOver {A B K : Type 0} (b : tapes.Meaning B) (k : sinks.Meaning K) (old new : Decks A B K) (from to : Plain) : Type 0 where
  pub text : List ℕ
  pub took : k.took old.sink text new.sink
  pub printed : ToldNow b new.to (StandsPrinted from to (length text))

-- no count of faults rose
pub record NoDeckRose {A B K : Type 0} (a : tapes.Meaning A) (b : tapes.Meaning B) (k : sinks.Meaning K)
    (old new : Decks A B K) : Type 0 where
  pub from : ¬ (Rose (a.faults old.from) (a.faults new.from))
  pub to : ¬ (Rose (b.faults old.to) (b.faults new.to))
  pub sink : ¬ (Rose (k.faults old.sink) (k.faults new.sink))

-- what was told of stops before is told of them still, and time has not run backwards
pub record StopsGoOn {T : Type 0} (t : tapes.Meaning T) (old new : T) : Type 0 where
  pub telling : t.tells_stops new ≡ t.tells_stops old
  pub clock : t.moment old ≤ t.moment new
  pub kept : (time : ℕ) (left : Option Cartridge) → time ≤ t.moment old → t.left_since old time left → t.left_since new time left
  pub parted : (time later : ℕ) (left : Option Cartridge) → time ≤ later → later ≤ t.moment old →
      t.left_since new time left → t.left_since old time left ⊎ t.left_since new later left

-- two copies over the same objects can be put together: no count has fallen, each tape tells as before, and of stops as before
pub record CopiesJoin {A B K : Type 0} (a : tapes.Meaning A) (b : tapes.Meaning B) (k : sinks.Meaning K)
    (old new : Decks A B K) : Type 0 where
  pub from_later : a.faults old.from ≤ a.faults new.from
  pub to_later : b.faults old.to ≤ b.faults new.to
  pub sink_later : k.faults old.sink ≤ k.faults new.sink
  pub from_tells : is_some (a.told new.from) ≡ is_some (a.told old.from)
  pub to_tells : is_some (b.told new.to) ≡ is_some (b.told old.to)
  pub from_stops : StopsGoOn a old.from new.from
  pub to_stops : StopsGoOn b old.to new.to

-- What a copy promises, by the tapes and the sink before it and after it, and by its answer.
pub record CopyPromises {A B K : Type 0} (a : tapes.Meaning A) (b : tapes.Meaning B) (k : sinks.Meaning K) (words : List (List ℕ))
    (old new : Decks A B K) (answer : CopyStatus) : Type 0 where
  -- Words are refused just where there are any; then, and for want of memory, nothing was touched.
  pub usage : (answer ≡ status.Usage) ↔ (words ≢ [])
  pub untouched : IsUnasked answer → new ≡ old
  -- Over what both tapes tell the plain machine's outcome was carried out, or a fault of the outside cut it off.
  pub ends : ¬ (IsUnasked answer) → OverBoth a b old (CopyEnds a b k old new answer)
  -- Where no count rose, and all is there that it needs, it is Done, or there was no memory.
  pub complete : words ≡ [] → NoDeckRose a b k old new → (c : Cartridge) (one : Plain) (d : Cartridge) (other : Plain) →
      a.told old.from ≡ Some (Some c) → b.told old.to ≡ Some (Some d) → CanBeCopied c one d other →
      (answer ≡ status.NoMemory) ⊎ (answer ≡ status.Done)
  -- The count of a tape or of the sink rises, by one, just where its fault is answered; the refusals are of these kinds over
  -- any tapes, and a volume ends early only where the source's tape doesn't tell.
  pub cause : HasRisen a b k old new answer
  pub kind : HasKind answer
  pub short : (promised read : ℕ) → answer ≡ status.To (fault.Short promised read) → a.told old.from ≡ None
  -- What one tape tells decides, whatever the other is.
  pub source : IfSome (a.told old.from) (λ held. FromAnswers held answer)
  pub target : IfSome (b.told old.to) (λ held. ToAnswers held answer)
  -- The lines of the copied volumes are printed, and last the count.
  pub printed : PrintsCopies k answer old.sink new.sink
  -- When it is over, and behind a stop at any moment since it began, the source is as it was but for the settling of its volume
  -- table, and stands for what it stood for.
  pub from_left : EachLeft a old.from new.from FromLeaves
  pub from_stays : EachLeft a old.from new.from SourceStays
  -- The target stands for its volumes with some of the missing ones, in their order, where its volume table takes each
  -- write, as it does then behind the copy too; those whose lines were written whole are among them when it is over.
  pub to_left : IfSome (a.told old.from) (λ from. EachLeft b old.to new.to (ToLeaves from))
  pub to_lives : IfSome (a.told old.from) (λ from. EachLeft b old.to new.to TargetLives)
  pub to_grows : IfSome (a.told old.from) (λ from. EachLeft b old.to new.to (TargetGrows from))
  pub over : (c : Cartridge) (one : Plain) (d : Cartridge) (other : Plain) → a.told old.from ≡ Some (Some c) →
      b.told old.to ≡ Some (Some d) →
      StandAlike c one d other → CopyIsOver b k old new one other
  -- At Done it stands for all of them, whatever its volume table takes.
  pub done : (c : Cartridge) (one : Plain) (d : Cartridge) (other : Plain) → a.told old.from ≡ Some (Some c) →
      b.told old.to ≡ Some (Some d) →
      Stands c one → Stands d other → BeginsLike one other → answer ≡ status.Done →
      ToldNow b new.to (λ left. IsSomeAnd left (λ e. Stands e (copied one other (length one.volumes))))
  -- Whatever the source is, and what its sectors hold: the target stands for its volumes, with some of the missing ones behind them, in
  -- their order and each just as a restore of it gives it; with those whose lines were written whole when it is over; and with all of
  -- them at Done, whatever its volume table takes.
  pub to_gains : IfSome (a.told old.from) (λ from. EachLeft b old.to new.to (TargetGains from))
  pub gave : (from : Option Cartridge) (d : Cartridge) (other : Plain) → a.told old.from ≡ Some from → b.told old.to ≡ Some (Some d) →
      Stands d other → IsTableLive d → CopyGave b k old new from other
  pub gave_all : (from : Option Cartridge) (d : Cartridge) (other : Plain) → a.told old.from ≡ Some from →
      b.told old.to ≡ Some (Some d) → Stands d other → answer ≡ status.Done →
      ToldNow b new.to (λ left. GivenBy from other (λ side. StandsWithAll side other left))
  -- A sector of the table's segment may be lost behind it, too: the target comes back with volumes of the source, those whose lines were
  -- written whole among them, but where a stop came before its table was settled; and with all of them at Done.
  pub to_returns : IfSome (a.told old.from) (λ from. EachLeft b old.to new.to (TargetComesBack from))
  pub returns : (from : Option Cartridge) (d : Cartridge) (other : Plain) → a.told old.from ≡ Some from → b.told old.to ≡ Some (Some d) →
      Stands d other → IsTableLive d → CopyComesBack b k old new from d other
  pub returns_all : (from : Option Cartridge) (d : Cartridge) (other : Plain) → a.told old.from ≡ Some from →
      b.told old.to ≡ Some (Some d) → Stands d other → IsTableLive d → answer ≡ status.Done →
      ToldNow b new.to (λ left. GivenBy from other (λ side. ComesBackWithAll side other left))
  -- Two copies can be joined.
  pub joins : CopiesJoin a b k old new
