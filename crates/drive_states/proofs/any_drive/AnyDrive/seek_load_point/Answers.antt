use Rattle.std.proofs.Common.{refl}
use Rattle.qic117_commands.specs.declared.command.Command.TheVariants.{SeekLoadPoint}
use Rattle.qic117_commands.specs.Refusals.{waits_for_seek}
use Rattle.drive_states.proofs.AnyDrives.{refused_elsewhere}
use Rattle.drive_states.proofs.any_drive.AnyDrive.seek_load_point.Goals as goal

pub unreachable-requires-in_default : goal.unreachable-requires-in_default
unfolding waits_for_seek
unreachable-requires-in_default g c =
    refused_elsewhere c.args.self SeekLoadPoint c.reveal.ensures.state refl c.requires
    (λ legal. c.in_default.not-LoadPoint) (λ legal. c.in_default.not-Primary) (λ legal. c.in_default.not-Format)
    (λ legal. c.in_default.not-Verify)
