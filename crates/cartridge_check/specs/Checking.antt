-- How a check ends: all segments told and counted, refused, or cut off; and how its stages do (this project's own).
use Rattle.std.specs.Prelude.{◌≡◌, ◌≢◌, ◌≤◌, ◌+◌, ◌*◌, ℕ, ◌++◌, ◌&&◌, ◌==◌, ◌∷◌, [], List, Bool, true, false}
use Rattle.std.specs.Prelude.{if◌then◌else◌, codes, decimal, take, IfSome, Result, Ok, Err}
use Rattle.cartridge_front.specs.Finding.{HasFormat, FindsVolumes, ShowsVolumes}
use Rattle.cartridge_spec.specs.Table.{Entry}
use Rattle.cartridge_spec.specs.TableSegment.{TableIs}
use Rattle.command_spec.specs.Numbers.{are_too_many}
use Rattle.command_spec.specs.Outcome.{CommandOutcome, HeldOutcome, is_refused}
use Rattle.command_spec.specs.Scrub.{whole_segment}
use Rattle.command_spec.specs.declared.status.Status.{Status}
use Rattle.header_segments.specs.declared.header.Header.{Header}
use Rattle.qic_base.specs.Acts.{Act, text_of, Outside, Failing, TapeFails, SinkFails, Went, Cut}
use Rattle.qic_base.specs.Alone.{no_source}
use Rattle.qic_base.specs.declared.TheConstants.{LONGEST}
use Rattle.command_spec.specs.Check.{Checks, IsCheck, check_refused, header_copies}
use Rattle.cartridge_check.specs.Telling.{HasTold, TellingCut}
use Rattle.cartridge_check.specs.declared.fault.CheckFault.{CheckFault}
use Rattle.cartridge_check.specs.declared.tally.Tally.{Tally}
use Rattle.qic_base.specs.declared.store_fault.StoreFault.{StoreFault}
use Rattle.qic_base.specs.Sink as sinks
use Rattle.qic_base.specs.Tape as tapes
use Rattle.qic_base.specs.TapeCalls as tape_calls
use Rattle.cartridge_check.specs.declared.fault.CheckFault.TheVariants as fault
use Rattle.qic_base.specs.declared.store_fault.StoreFault.TheVariants as store
use Rattle.command_spec.specs.declared.status.Status.TheVariants as status

-- ---- answers

-- the line of these counts
abbrev pub tally_line : Tally → List ℕ
tally_line tally =
    codes "check " ++ decimal tally.segments ++ codes " " ++ decimal tally.mendable ++ codes " " ++ decimal tally.bad ++ codes "\n"

-- the answer by these counts
abbrev pub tally_status : Tally → Status
tally_status tally = if tally.mendable == 0 && tally.bad == 0 then status.Done else status.Unsound tally.mendable tally.bad

-- the answer that a refusal makes, or a fault
abbrev pub fault_status : CheckFault → Status
fault_status fault.NoCartridge = status.NoCartridge
fault_status fault.NotFormatted = status.NotFormatted
fault_status (fault.Foreign field value) = status.Foreign field value
fault_status (fault.Lost lost) = status.Lost 2 lost
fault_status fault.TableMismatch = status.TableMismatch
fault_status fault.Sink = status.SinkFault
fault_status fault.Tape = status.TapeFault

-- a refusal, with a number that it may have
abbrev pub is_refusal : CheckFault → Bool
is_refusal fault.Sink = false
is_refusal fault.Tape = false
is_refusal (fault.Foreign field value) = is_refused field value
is_refusal (fault.Lost lost) = are_too_many lost
is_refusal other = true

-- the refusal of a mounting as one of a check
abbrev pub as_check : StoreFault → CheckFault
as_check store.NotFormatted = fault.NotFormatted
as_check (store.Foreign field value) = fault.Foreign field value
as_check (store.Lost segment lost) = fault.Lost lost
as_check store.TableMismatch = fault.TableMismatch
as_check other = fault.Tape

-- ---- the end of a check

-- these acts, and this answer
abbrev pub ended : List Act → Status → CommandOutcome
ended acts why = record { acts = acts; taken = 0; status = why }

-- All segments were looked at, and their lines and the counts went.
pub record HasChecked {T K : Type 0} (t : tapes.Meaning T) (k : sinks.Meaning K) (old new : Outside T (Unit {0}) K) (tally : Tally) : Type 0
  where
    pub acts : List Act
    pub went : Went t no_source k old new acts
    pub told : IfSome (t.told old.tape) (λ held. HeldOutcome Checks held (ended acts (tally_status tally)))
    -- and over any tape
    pub prints : IsCheck (tally_status tally) (text_of acts)
    pub few : tally.mendable + tally.bad ≤ 28 * LONGEST

-- It was refused, behind the lines of the segments that were looked at.
pub record WasRefused {T K : Type 0} (t : tapes.Meaning T) (k : sinks.Meaning K) (old new : Outside T (Unit {0}) K) (why : CheckFault) :
    Type 0 where
  pub acts : List Act
  pub went : Went t no_source k old new acts
  pub told : IfSome (t.told old.tape) (λ held. HeldOutcome Checks held (ended acts (fault_status why)))
  -- and over any tape
  pub prints : check_refused (fault_status why) (text_of acts)
  pub sound : is_refusal why ≡ true

-- A fault of the tape or of the sink cut it off.
pub record CheckCut {T K : Type 0} (t : tapes.Meaning T) (k : sinks.Meaning K) (old new : Outside T (Unit {0}) K) (failing : Failing) :
    Type 0 where
  pub told : IfSome (t.told old.tape) (λ held. (outcome : CommandOutcome) → HeldOutcome Checks held outcome →
      Cut t no_source k old new outcome.acts failing)
  -- and over any tape
  pub acts : List Act
  pub cut : Cut t no_source k old new acts failing
  pub front : (rest : List ℕ) × ((answer : Status) × IsCheck answer (text_of acts ++ rest))

abbrev pub CheckFails : {T K : Type 0} (t : tapes.Meaning T) (k : sinks.Meaning K) (old new : Outside T (Unit {0}) K) → CheckFault → Type 0
CheckFails t k old new fault.Sink = CheckCut t k old new SinkFails
CheckFails t k old new fault.Tape = CheckCut t k old new TapeFails
CheckFails t k old new why = WasRefused t k old new why

-- how a check ended
abbrev pub CheckEnds : {T K : Type 0} (t : tapes.Meaning T) (k : sinks.Meaning K) (old new : Outside T (Unit {0}) K) →
    Result Tally CheckFault → Type 0
CheckEnds t k old new (Ok tally) = HasChecked t k old new tally
CheckEnds t k old new (Err why) = CheckFails t k old new why

-- ---- its stages

-- The lines of the header copies went, and the header in force was read.
pub record HasHeader {T K : Type 0} (t : tapes.Meaning T) (k : sinks.Meaning K) (words : List ℕ) (old new : Outside T (Unit {0}) K)
    (before after : Tally) : Type 0 where
  pub lines : HasTold t k header_copies old new before after
  pub format : tape_calls.Tells t old.tape (λ c. (header : Header) × HasFormat c words header)

-- how the look at the header copies and the reading of the header ended
abbrev pub HeaderEnds : {T K : Type 0} (t : tapes.Meaning T) (k : sinks.Meaning K) (words : List ℕ) (old new : Outside T (Unit {0}) K)
    (before after : Tally) → Result (Unit {0}) CheckFault → Type 0
HeaderEnds t k words old new before after (Ok done) = HasHeader t k words old new before after
HeaderEnds t k words old new before after (Err why) = CheckFails t k old new why

-- The line of the table's segment went, and the table was read: its data are the first 29 of these sectors, and show these volumes on
-- a cartridge whose last segment is this.
pub record HasTable {T K : Type 0} (t : tapes.Meaning T) (k : sinks.Meaning K) (last : ℕ) (sectors : List (List ℕ)) (entries : List Entry)
    (old new : Outside T (Unit {0}) K) (before after : Tally) : Type 0 where
  pub lines : HasTold t k (whole_segment 2 ∷ []) old new before after
  pub volumes : tape_calls.Tells t old.tape (λ c. TableIs c (take 29 sectors) × ShowsVolumes (take 29 sectors) last entries)

-- The line of the table's segment went, and the table's reading is refused.
pub record TableRefused {T K : Type 0} (t : tapes.Meaning T) (k : sinks.Meaning K) (last : ℕ) (sectors : List (List ℕ))
    (entries : List Entry) (old new : Outside T (Unit {0}) K) (before after : Tally) (why : CheckFault) : Type 0 where
  pub lines : HasTold t k (whole_segment 2 ∷ []) old new before after
  pub cause : StoreFault
  pub is : why ≡ as_check cause
  pub formatted : cause ≢ store.NotFormatted
  pub refuses : tape_calls.Tells t old.tape (λ c. FindsVolumes c last sectors entries (Err cause))
  pub sound : is_refusal why ≡ true

-- how the look at the table's segment and the reading of the table ended
abbrev pub TableEnds : {T K : Type 0} (t : tapes.Meaning T) (k : sinks.Meaning K) (last : ℕ) (sectors : List (List ℕ))
    (entries : List Entry) (old new : Outside T (Unit {0}) K) (before after : Tally) → Result (Unit {0}) CheckFault → Type 0
TableEnds t k last sectors entries old new before after (Ok done) = HasTable t k last sectors entries old new before after
TableEnds t k last sectors entries old new before after (Err fault.Sink) = TellingCut t k (whole_segment 2 ∷ []) old new SinkFails
TableEnds t k last sectors entries old new before after (Err fault.Tape) = TellingCut t k (whole_segment 2 ∷ []) old new TapeFails
TableEnds t k last sectors entries old new before after (Err why) = TableRefused t k last sectors entries old new before after why
