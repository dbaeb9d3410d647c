-- The segments of the tracks before the present one are read, and their sectors marked where they can't be.
use Rattle.std.proofs.Common.{◌≡◌, ◌*◌, [], true, length}
use Rattle.qic_base.specs.Tape.{Done}
use Rattle.qic_base.specs.TapeCalls.{Tells}
use Rattle.drive_spec.specs.Deck.{segments_per_track, is_stopped}
use Rattle.drive_states.specs.Reach.{reads_in}
use Rattle.formatter.specs.Calls.{KeepsCartridge}
use Rattle.formatter.specs.Marking.{MarksBelow}
use Rattle.formatter.proofs.marking.mark_all.Given as goal

abbrev pub invariant-loop-track : goal.invariant-loop-track
invariant-loop-track g l = record {
  read : Done g.T.Tape.means l.fn.unit.tape l.unit.tape [];
  marks : Tells g.T.Tape.means l.fn.unit.tape (λ c. MarksBelow c l.map (32 * (l.track * segments_per_track l.fn.unit.drive.deck)));
  words : length l.map ≡ 28 * segments_per_track l.fn.unit.drive.deck;
  stopped : is_stopped l.unit.drive.deck.motion ≡ true;
  mode : reads_in l.unit.drive.deck.mode ≡ true;
  keeps : KeepsCartridge g.T.Tape.means l.host l.fn.unit l.unit;
}
