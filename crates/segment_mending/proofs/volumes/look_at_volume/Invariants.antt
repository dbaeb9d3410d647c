-- The carrying segments below the present one were looked at.
use Rattle.std.proofs.Common.{◌≤◌}
use Rattle.qic_base.specs.Alone.{around}
use Rattle.host_driver.specs.Calls.{Keeps}
use Rattle.command_laws.specs.ScrubTerms.{looked_segments}
use Rattle.segment_mending.specs.Looking.{HasLooked}
use Rattle.segment_mending.proofs.Looked.{carrying_below}
use Rattle.segment_mending.proofs.volumes.look_at_volume.Given as goal

abbrev pub invariant-loop-segment : goal.invariant-loop-segment
invariant-loop-segment g l = record {
  from : l.fn.entry.start ≤ l.segment;
  looked : HasLooked g.T.Tape.means g.K.Sink.means
      (looked_segments l.map (carrying_below l.map l.fn.entry.start l.segment))
      (around l.fn.unit.tape l.fn.sink) (around l.unit.tape l.sink) l.fn.progress l.progress;
  keeps : Keeps g.T.Tape.means l.host l.fn.unit l.unit;
}
