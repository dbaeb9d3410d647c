-- What telling of some segments did, by its answer (this project's own).
use Rattle.std.specs.Prelude.{◌≡◌, ℕ, ◌+◌, ◌≤◌, List, length, count_by, Result, Ok, Err}
use Rattle.std.specs.List.{AllZip}
use Rattle.command_spec.specs.Scrub.{Looked}
use Rattle.qic_base.specs.Acts.{Outside, Failing, TapeFails, SinkFails, Went, Cut}
use Rattle.qic_base.specs.Alone.{no_source}
use Rattle.command_spec.specs.Check.{IsTold, MayBeTold, verdict_acts, is_mendable, is_bad}
use Rattle.command_spec.specs.declared.verdict.Verdict.{Verdict}
use Rattle.cartridge_check.specs.declared.fault.CheckFault.{CheckFault}
use Rattle.cartridge_check.specs.declared.tally.Tally.{Tally}
use Rattle.qic_base.specs.Sink as sinks
use Rattle.qic_base.specs.Tape as tapes
use Rattle.qic_base.specs.TapeCalls as tape_calls
use Rattle.cartridge_check.specs.declared.fault.CheckFault.TheVariants as fault

-- ---- counts

-- The counts rose by the segments of these verdicts.
pub record Counted (verdicts : List Verdict) (old new : Tally) : Type 0 where
  pub segments : new.segments ≡ old.segments + length verdicts
  pub mendable : new.mendable ≡ old.mendable + count_by is_mendable verdicts
  pub bad : new.bad ≡ old.bad + count_by is_bad verdicts

-- no more segments than this were counted
pub record HasFew (most : ℕ) (tally : Tally) : Type 0 where
  pub segments : tally.segments ≤ most
  pub mendable : tally.mendable ≤ tally.segments
  pub bad : tally.bad ≤ tally.segments

-- ---- some segments

-- All segments were looked at, and their lines went.
pub record HasTold {T K : Type 0} (t : tapes.Meaning T) (k : sinks.Meaning K) (looked : List Looked) (old new : Outside T (Unit {0}) K)
    (before after : Tally) : Type 0 where
  pub verdicts : List Verdict
  pub told : tape_calls.Tells t old.tape (λ c. AllZip (IsTold c) looked verdicts)
  -- and over any tape
  pub may : AllZip MayBeTold looked verdicts
  pub went : Went t no_source k old new (verdict_acts looked verdicts)
  pub counted : Counted verdicts before after

-- A fault of the tape or of the sink cut their lines off.
pub record TellingCut {T K : Type 0} (t : tapes.Meaning T) (k : sinks.Meaning K) (looked : List Looked)
    (old new : Outside T (Unit {0}) K) (failing : Failing) : Type 0 where
  pub told : tape_calls.Tells t old.tape (λ c. (verdicts : List Verdict) → AllZip (IsTold c) looked verdicts →
      Cut t no_source k old new (verdict_acts looked verdicts) failing)
  -- and over any tape
  pub verdicts : List Verdict
  pub may : AllZip MayBeTold looked verdicts
  pub cut : Cut t no_source k old new (verdict_acts looked verdicts) failing

abbrev pub TellsAll : {T K : Type 0} (t : tapes.Meaning T) (k : sinks.Meaning K) (looked : List Looked) (old new : Outside T (Unit {0}) K)
    (before after : Tally) → Result (Unit {0}) CheckFault → Type 0
TellsAll t k looked old new before after (Ok done) = HasTold t k looked old new before after
TellsAll t k looked old new before after (Err fault.Sink) = TellingCut t k looked old new SinkFails
TellsAll t k looked old new before after (Err fault.Tape) = TellingCut t k looked old new TapeFails
TellsAll t k looked old new before after (Err other) = ⊥
