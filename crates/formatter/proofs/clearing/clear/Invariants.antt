-- The bursts are written, and the segments of the tracks before the present one are formatted.
use Rattle.std.proofs.Common.{◌≡◌, ◌*◌, ◌∷◌, true}
use Rattle.qic_base.specs.Step.{SetReferenced}
use Rattle.qic_base.specs.Tape.{Done}
use Rattle.qic117_commands.specs.Views.{is_format}
use Rattle.drive_spec.specs.Deck.{segments_per_track}
use Rattle.host_driver.specs.Calls.{IsReady}
use Rattle.host_driver.specs.Fits.{AgreesWithTape}
use Rattle.cartridge_laws.specs.FormatMarks.{formats_from}
use Rattle.formatter.specs.Calls.{IsCleared}
use Rattle.formatter.proofs.clearing.clear.Given as goal

abbrev pub invariant-loop-track : goal.invariant-loop-track
invariant-loop-track g l = record {
  formatted : Done g.T.Tape.means l.fn.unit.tape l.unit.tape
      (SetReferenced ∷ formats_from 0 (l.track * segments_per_track l.fn.unit.drive.deck));
  cleared : IsCleared l.fn.unit.drive.deck l.unit.drive.deck;
  mode : is_format l.unit.drive.deck.mode ≡ true;
  ready : IsReady g.T.Tape.means l.host l.unit;
  agrees : AgreesWithTape g.T.Tape.means l.fn.unit → AgreesWithTape g.T.Tape.means l.unit;
  size : g.T.Tape.means.size l.unit.tape ≡ g.T.Tape.means.size l.fn.unit.tape;
}
