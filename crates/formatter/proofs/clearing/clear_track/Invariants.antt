-- The segments before the head are formatted.
use Rattle.std.proofs.Common.{◌≡◌, ◌*◌, true}
use Rattle.qic_base.specs.Tape.{Done}
use Rattle.qic117_commands.specs.Views.{is_format}
use Rattle.host_driver.specs.Calls.{Keeps}
use Rattle.formatter.proofs.Places.{IsBefore}
use Rattle.cartridge_laws.specs.FormatMarks.{formats_from}
use Rattle.formatter.proofs.clearing.clear_track.Given as goal

abbrev pub invariant-loop : goal.invariant-loop
invariant-loop g l = record {
  formatted : Done g.T.Tape.means l.fn.unit.tape l.unit.tape (formats_from (l.track * l.count) l.counter);
  before : IsBefore l.count (l.track * l.count) l.counter l.unit.drive.deck;
  mode : is_format l.unit.drive.deck.mode ≡ true;
  keeps : Keeps g.T.Tape.means l.host l.fn.unit l.unit;
}
