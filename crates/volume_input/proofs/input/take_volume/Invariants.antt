-- The segments so far are filled, and written.
use Rattle.std.proofs.Common.{◌-◌, length}
use Rattle.qic_base.specs.Alone.{reading}
use Rattle.cartridge_spec.specs.Volumes.{carrying}
use Rattle.host_driver.specs.Calls.{Keeps}
use Rattle.volume_input.proofs.Running.{SoFar}
use Rattle.volume_input.proofs.input.take_volume.Given as goal

abbrev pub invariant-loop-segment : goal.invariant-loop-segment
invariant-loop-segment g l = record {
  far : SoFar g.T.Tape.means g.S.Source.means l.map (carrying l.map l.first (length l.map - 1)) l.wanted.most
      (reading l.fn.unit.tape l.fn.source) (reading l.unit.tape l.source) (carrying l.map l.segment (length l.map - 1)) l.written;
  kept : g.S.Source.means.keeps l.fn.source l.source;
  keeps : Keeps g.T.Tape.means l.host l.fn.unit l.unit;
}
