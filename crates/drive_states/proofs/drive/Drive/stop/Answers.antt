use Rattle.std.proofs.Common.{◌∙◌}
use Rattle.drive_states.proofs.Bounds.{stop_of}
use Rattle.drive_states.proofs.drive.Drive.stop.Goals as goal

pub accepted-requires-clause-taken : goal.accepted-requires-clause-taken
accepted-requires-clause-taken g c =
    stop_of c.args.self.deck c.requires (c.reveal.ensures.state.seeks ∙ g.met.M.Standing.stands)
