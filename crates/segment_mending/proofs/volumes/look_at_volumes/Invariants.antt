-- The carrying segments of the volumes before the present one were looked at.
use Rattle.std.proofs.Common.{◌+◌, ◌*◌, ◌≤◌, take}
use Rattle.qic_base.specs.Alone.{around}
use Rattle.host_driver.specs.Calls.{Keeps}
use Rattle.command_spec.specs.Scrub.{looked_volumes}
use Rattle.segment_mending.specs.Looking.{HasLooked}
use Rattle.segment_mending.proofs.volumes.look_at_volumes.Given as goal

abbrev pub invariant-loop-index : goal.invariant-loop-index
invariant-loop-index g l = record {
  looked : HasLooked g.T.Tape.means g.K.Sink.means (looked_volumes l.map (take l.index l.table))
      (around l.fn.unit.tape l.fn.sink) (around l.unit.tape l.sink) l.fn.progress l.progress;
  few : l.progress.report.segments ≤ 3 + 65536 * l.index;
  keeps : Keeps g.T.Tape.means l.host l.fn.unit l.unit;
}
