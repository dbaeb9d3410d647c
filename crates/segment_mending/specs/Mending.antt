-- How a cartridge was scrubbed, by the answer of the call (this project's own).
use Rattle.std.specs.Prelude.{◌≡◌, ℕ, List, ◌++◌, Result, Ok, Err}
use Rattle.cartridge_spec.specs.Table.{Entry}
use Rattle.command_spec.specs.Scrub.{Counts, looked_at, ScrubsAs, IsTextFor}
use Rattle.command_laws.specs.ScrubTerms.{counts_for}
use Rattle.command_spec.specs.declared.depth.Depth.{Depth}
use Rattle.qic_base.specs.Acts.{Act, text_of, Outside, Went, Failing, Cut, TapeFails, SinkFails}
use Rattle.qic_base.specs.Alone.{no_source}
use Rattle.qic_base.specs.declared.store_fault.StoreFault.{StoreFault}
use Rattle.segment_mending.specs.declared.report.ScrubReport.{ScrubReport}
use Rattle.qic_base.specs.Sink as sinks
use Rattle.qic_base.specs.Tape as tapes
use Rattle.qic_base.specs.TapeCalls as tape_calls
use Rattle.qic_base.specs.declared.store_fault.StoreFault.TheVariants as fault

-- the counts that a report tells
abbrev pub reported : ScrubReport → Counts
reported report = record { segments = report.segments; mended = report.mended; unreadable = report.unreadable }

-- All acts went, and the report tells what was counted.
pub record HasScrubbed {T K : Type 0} (t : tapes.Meaning T) (k : sinks.Meaning K) (depth : Depth) (words : List ℕ) (entries : List Entry)
    (old new : Outside T (Unit {0}) K) (report : ScrubReport) : Type 0 where
  pub acts : List Act
  pub went : Went t no_source k old new acts
  pub told : tape_calls.Tells t old.tape (λ c. (scrubs : ScrubsAs depth c words entries acts)
      × (reported report ≡ counts_for c (looked_at words entries) scrubs.findings))
  -- and over any tape
  pub text : IsTextFor depth (looked_at words entries) (reported report) (text_of acts)

-- A fault of the tape or of the sink cut them off.
pub record ScrubCut {T K : Type 0} (t : tapes.Meaning T) (k : sinks.Meaning K) (depth : Depth) (words : List ℕ) (entries : List Entry)
    (old new : Outside T (Unit {0}) K) (failing : Failing) : Type 0 where
  pub told : tape_calls.Tells t old.tape
      (λ c. (acts : List Act) → ScrubsAs depth c words entries acts → Cut t no_source k old new acts failing)
  -- and over any tape
  pub acts : List Act
  pub counts : Counts
  pub cut : Cut t no_source k old new acts failing
  pub front : (rest : List ℕ) × IsTextFor depth (looked_at words entries) counts (text_of acts ++ rest)

abbrev pub ScrubEnds : {T K : Type 0} (t : tapes.Meaning T) (k : sinks.Meaning K) (depth : Depth) (words : List ℕ) (entries : List Entry)
    (old new : Outside T (Unit {0}) K) → Result ScrubReport StoreFault → Type 0
ScrubEnds t k depth words entries old new (Ok report) = HasScrubbed t k depth words entries old new report
ScrubEnds t k depth words entries old new (Err fault.Sink) = ScrubCut t k depth words entries old new SinkFails
ScrubEnds t k depth words entries old new (Err fault.Tape) = ScrubCut t k depth words entries old new TapeFails
ScrubEnds t k depth words entries old new (Err other) = ⊥
