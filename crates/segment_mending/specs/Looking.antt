-- What looking at some segments did, by its answer (this project's own).
use Rattle.std.specs.Prelude.{◌≡◌, ℕ, ◌+◌, ◌*◌, ◌≤◌, List, length, Result, Ok, Err}
use Rattle.qic_base.specs.Sink as sinks
use Rattle.qic_base.specs.Tape as tapes
use Rattle.qic_base.specs.TapeCalls as tape_calls
use Rattle.qic_base.specs.Acts.{Act, steps_of, text_of, Outside, Failing, TapeFails, SinkFails, Went, Cut}
use Rattle.qic_base.specs.Alone.{no_source}
use Rattle.command_spec.specs.Scrub.{Looked, Counts, unread_count, Finding, FindInTurn, MayBeFound, finding_acts, lines_for, sayings_of}
use Rattle.command_spec.specs.declared.depth.Depth.{Depth}
use Rattle.qic_base.specs.declared.store_fault.StoreFault.{StoreFault}
use Rattle.segment_mending.specs.Mending.{reported}
use Rattle.segment_mending.specs.declared.progress.Progress.{Progress}
use Rattle.qic_base.specs.declared.store_fault.StoreFault.TheVariants as fault

-- This is found of these segments, on the cartridge that the tape tells, and these are their acts; over any tape the acts
-- print what belongs to these findings.
pub record AreActs {T : Type 0} (t : tapes.Meaning T) (tape : T) (depth : Depth) (looked : List Looked) (findings : List Finding)
    (acts : List Act) : Type 0 where
  pub told : tape_calls.Tells t tape (λ c. FindInTurn depth c looked findings × (acts ≡ finding_acts c looked findings))
  pub may : MayBeFound depth looked findings
  pub text : text_of acts ≡ lines_for looked findings

-- The counts rose by these segments.
pub record Counted (looked : List Looked) (findings : List Finding) (acts : List Act) (old new : Counts) : Type 0 where
  pub segments : new.segments ≡ old.segments + length looked
  pub mended : new.mended ≡ old.mended + length (steps_of acts)
  pub unreadable : new.unreadable ≡ old.unreadable + unread_count looked (sayings_of findings)
  -- a segment has 32 sectors
  pub few : length (steps_of acts) ≤ 32 * length looked

-- All segments were looked at in the form of the scrubbing: their acts went, and were counted.
pub record HasLooked {T K : Type 0} (t : tapes.Meaning T) (k : sinks.Meaning K) (looked : List Looked)
    (old new : Outside T (Unit {0}) K) (before after : Progress) : Type 0 where
  pub findings : List Finding
  pub acts : List Act
  pub are : AreActs t old.tape before.depth looked findings acts
  pub went : Went t no_source k old new acts
  pub counted : Counted looked findings acts (reported before.report) (reported after.report)
  pub depth : after.depth ≡ before.depth

-- A fault of the tape or of the sink cut the acts off.
pub record LookingCut {T K : Type 0} (t : tapes.Meaning T) (k : sinks.Meaning K) (depth : Depth) (looked : List Looked)
    (old new : Outside T (Unit {0}) K) (failing : Failing) : Type 0 where
  pub told : tape_calls.Tells t old.tape (λ c. (findings : List Finding) → FindInTurn depth c looked findings →
      Cut t no_source k old new (finding_acts c looked findings) failing)
  -- and over any tape
  pub findings : List Finding
  pub acts : List Act
  pub may : MayBeFound depth looked findings
  pub text : text_of acts ≡ lines_for looked findings
  pub cut : Cut t no_source k old new acts failing

abbrev pub Looks : {T K : Type 0} (t : tapes.Meaning T) (k : sinks.Meaning K) (looked : List Looked)
    (old new : Outside T (Unit {0}) K) (before after : Progress) → Result (Unit {0}) StoreFault → Type 0
Looks t k looked old new before after (Ok done) = HasLooked t k looked old new before after
Looks t k looked old new before after (Err fault.Sink) = LookingCut t k before.depth looked old new SinkFails
Looks t k looked old new before after (Err fault.Tape) = LookingCut t k before.depth looked old new TapeFails
Looks t k looked old new before after (Err other) = ⊥

-- no more segments than this were counted, of each at most 32 sectors
pub record HasFew (most : ℕ) (counts : Counts) : Type 0 where
  pub segments : counts.segments ≤ most
  pub mended : counts.mended ≤ 32 * counts.segments
  pub unreadable : counts.unreadable ≤ counts.segments

-- a segment more that reads, in which so many sectors were written
abbrev pub with_mended : ℕ → Counts → Counts
with_mended sectors counts = record {
  segments = counts.segments + 1;
  mended = counts.mended + sectors;
  unreadable = counts.unreadable;
}

-- a segment more that does not read
abbrev pub with_unread : Counts → Counts
with_unread counts = record {
  segments = counts.segments + 1;
  mended = counts.mended;
  unreadable = counts.unreadable + 1;
}
