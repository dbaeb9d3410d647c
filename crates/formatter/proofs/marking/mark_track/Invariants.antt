-- The sectors before the head are read, and marked where they can't be.
use Rattle.std.proofs.Common.{◌≡◌, ◌+◌, ◌*◌, [], true, length}
use Rattle.qic_base.specs.Tape.{Done}
use Rattle.qic_base.specs.TapeCalls.{Tells}
use Rattle.drive_states.specs.Reach.{reads_in}
use Rattle.host_driver.specs.Calls.{Keeps}
use Rattle.formatter.specs.Marking.{MarksBelow}
use Rattle.formatter.proofs.Places.{IsBefore}
use Rattle.formatter.proofs.marking.mark_track.Given as goal

abbrev pub invariant-loop-offset : goal.invariant-loop-offset
invariant-loop-offset g l = record {
  read : Done g.T.Tape.means l.fn.unit.tape l.unit.tape [];
  marks : Tells g.T.Tape.means l.fn.unit.tape (λ c.
      MarksBelow c l.fn.map (32 * l.first) → MarksBelow c l.map (32 * (l.first + l.offset)));
  words : length l.map ≡ length l.fn.map;
  before : IsBefore l.count l.first l.offset l.unit.drive.deck;
  mode : reads_in l.unit.drive.deck.mode ≡ true;
  keeps : Keeps g.T.Tape.means l.host l.fn.unit l.unit;
}
