-- The lines so far were trains, and their acts went.
use Rattle.std.proofs.Common.{◌≡◌}
use Rattle.std.specs.Prelude.{is_some}
use Rattle.hand_commands.proofs.Running.{SoFar}
use Rattle.hand_commands.proofs.pulses.run.run_pulses.Given as goal

abbrev pub invariant-loop-line : goal.invariant-loop-line
invariant-loop-line g l = record {
  far : SoFar g.T.Tape.means g.S.Source.means g.K.Sink.means
      record { tape = l.fn.unit.tape; source = l.fn.source; sink = l.fn.sink }
      record { tape = l.unit.tape; source = l.source; sink = l.sink } l.unit.drive l.line l.place;
  kept : g.S.Source.means.keeps l.fn.source l.source;
  tells : is_some (g.S.Source.means.left l.source) ≡ is_some (g.S.Source.means.left l.fn.source);
}
