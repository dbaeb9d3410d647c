use Rattle.std.proofs.Common.{◌≡◌, false, ap, ◌∙◌}
use Rattle.qic117_commands.specs.Views.{is_primary}
use Rattle.drive_states.proofs.Bounds.{primary_of}
use Rattle.drive_states.proofs.drive.Drive.enter_primary.Goals as goal

pub accepted-requires-clause-taken : goal.accepted-requires-clause-taken
accepted-requires-clause-taken g c =
    let other : is_primary c.args.self.deck.mode ≡ false = ap is_primary c.reveal.ensures.state.mode ∙ g.met.M.EntersPrimary.is_other in
    primary_of c.args.self.deck c.reveal.ensures.sound other c.requires
