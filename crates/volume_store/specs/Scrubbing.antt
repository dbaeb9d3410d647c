-- How the scrubbing of a cartridge ended, in either form, by the answer of the call (this project's own).
use Rattle.std.specs.Prelude.{◌≡◌, Result, Ok, Err}
use Rattle.command_spec.specs.declared.depth.Depth.{Depth}
use Rattle.qic_base.specs.Acts.{Outside, TapeFails, SinkFails}
use Rattle.segment_mending.specs.Mending.{HasScrubbed, ScrubCut}
use Rattle.segment_mending.specs.declared.report.ScrubReport.{ScrubReport}
use Rattle.volume_store.specs.Mounting.{StoreView}
use Rattle.qic_base.specs.declared.store_fault.StoreFault.{StoreFault}
use Rattle.qic_base.specs.Sink as sinks
use Rattle.qic_base.specs.Tape as tapes
use Rattle.qic_base.specs.declared.store_fault.StoreFault.TheVariants as fault

abbrev pub MendEnds : {T K : Type 0} (t : tapes.Meaning T) (k : sinks.Meaning K) (depth : Depth) (store : StoreView)
    (old new : Outside T (Unit {0}) K) → Result ScrubReport StoreFault → Type 0
MendEnds t k depth store old new (Ok report) = HasScrubbed t k depth store.words store.entries old new report
MendEnds t k depth store old new (Err fault.Protected) = (new.tape ≡ old.tape) × (new.sink ≡ old.sink)
MendEnds t k depth store old new (Err fault.Sink) = ScrubCut t k depth store.words store.entries old new SinkFails
MendEnds t k depth store old new (Err fault.Tape) = ScrubCut t k depth store.words store.entries old new TapeFails
MendEnds t k depth store old new (Err fault) = ⊥
