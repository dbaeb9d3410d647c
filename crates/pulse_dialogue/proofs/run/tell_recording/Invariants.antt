-- The lines so far were read, and what they say was written.
use Rattle.std.proofs.Common.{◌≡◌, ◌≤◌, ◌*◌}
use Rattle.pulse_dialogue.proofs.Running.{SoFar}
use Rattle.pulse_dialogue.proofs.run.tell_recording.Given as goal

abbrev pub invariant-loop-line : goal.invariant-loop-line
invariant-loop-line g l = record {
  far : SoFar g.S.Source.means g.K.Sink.means l.gap record { source = l.fn.source; sink = l.fn.sink }
      record { teller = l.teller; source = l.source; sink = l.sink } l.line l.place;
  bound : l.place ≤ 128 * l.line;
  kept : g.S.Source.means.keeps l.fn.source l.source;
  later : g.S.Source.means.faults l.source ≡ g.S.Source.means.faults l.fn.source;
}
