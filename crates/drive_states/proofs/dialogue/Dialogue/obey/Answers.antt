use Rattle.std.proofs.Common.{◌∙◌, ap}
use Rattle.drive_states.specs.Cable.{record_of}
use Rattle.drive_states.specs.Unit.{DeckAndTape}
use Rattle.drive_states.proofs.AnyDrives.{Done-same, reset_steps}
use Rattle.drive_states.proofs.dialogue.Dialogue.obey.Goals as goal

pub returns-then-train-number-clause-did : goal.returns-then-train-number-clause-did
returns-then-train-number-clause-did g c =
    Done-same g.T.Tape.means _ _ _ (reset_steps (record_of c.args.self.now) c.args.train (c.if-train-number.true ∙ c.number.ensures))
    (ap (λ (d : DeckAndTape g.row.T.Denot). d.tape) c.replace_with.ensures)
