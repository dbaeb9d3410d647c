-- However the segments from the present one on end, all end so.
use Rattle.qic_base.specs.Alone.{around}
use Rattle.host_driver.specs.Calls.{Keeps}
use Rattle.volume_output.specs.Form.{is_lined}
use Rattle.volume_output.proofs.Walking.{GoesOn}
use Rattle.command_laws.specs.OutputLaws.{pieces_between}
use Rattle.volume_output.proofs.output.give_volume.Given as goal

abbrev pub invariant-loop-segment : goal.invariant-loop-segment
invariant-loop-segment g l = record {
  goes : GoesOn g.T.Tape.means g.K.Sink.means l.map (pieces_between l.map l.fn.volume.start l.fn.volume.end l.fn.volume.bytes)
      (pieces_between l.map l.segment l.fn.volume.end l.left) (is_lined l.form)
      (around l.fn.unit.tape l.fn.sink) (around l.unit.tape l.sink);
  keeps : Keeps g.T.Tape.means l.host l.fn.unit l.unit;
}
