use Rattle.std.proofs.Common.{ap}
use Rattle.drive_states.specs.Unit.{DeckAndTape}
use Rattle.drive_states.proofs.AnyDrives.{Done-same}
use Rattle.drive_states.proofs.Obeying.{steps-none}
use Rattle.drive_states.proofs.any_drive.AnyDrive.obey.Goals as goal

pub returns-in_default-clause-did : goal.returns-in_default-clause-did
returns-in_default-clause-did g c =
    Done-same g.T.Tape.means _ _ _ (steps-none c.args.command c.in_default.not-WriteReference)
    (ap (λ (d : DeckAndTape g.row.T.Denot). d.tape) c.obey_reading.ensures)
