use Rattle.std.proofs.Common.{refl}
use Rattle.qic117_commands.specs.declared.command.Command.TheVariants.{EnterPrimary}
use Rattle.qic117_commands.specs.Refusals.{waits_for_seek}
use Rattle.drive_states.proofs.AnyDrives.{refused_elsewhere}
use Rattle.drive_states.proofs.Obeying.{primary_stopped}
use Rattle.drive_states.proofs.any_drive.AnyDrive.enter_primary.Goals as goal

pub unreachable-requires : goal.unreachable-requires
unfolding waits_for_seek
unreachable-requires g c =
    refused_elsewhere c.args.self EnterPrimary c.reveal.ensures.state refl c.requires
    (λ legal. c.in_default.not-LoadPoint) (λ legal. c.in_default.not-Primary) (λ legal. c.in_default.not-Format)
    (λ legal. c.in_default.not-Verify)

pub enter_primary-requires : goal.enter_primary-requires
enter_primary-requires g c = primary_stopped c.in-Format.drive.deck (rw c.in-Format.is at c.requires)

pub enter_primary-requires-in-Verify : goal.enter_primary-requires-in-Verify
enter_primary-requires-in-Verify g c = primary_stopped c.in-Verify.drive.deck (rw c.in-Verify.is at c.requires)
