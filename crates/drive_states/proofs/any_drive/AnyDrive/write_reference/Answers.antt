use Rattle.std.proofs.Common.{refl}
use Rattle.qic117_commands.specs.declared.command.Command.TheVariants.{WriteReference}
use Rattle.qic117_commands.specs.Refusals.{waits_for_seek, illegal_in_primary, illegal_in_verify}
use Rattle.drive_states.proofs.AnyDrives.{refused_elsewhere}
use Rattle.drive_states.proofs.Obeying.{reference_stopped}
use Rattle.drive_states.proofs.any_drive.AnyDrive.write_reference.Goals as goal

pub unreachable-requires : goal.unreachable-requires
unfolding waits_for_seek illegal_in_primary illegal_in_verify
unreachable-requires g c =
    refused_elsewhere c.args.self WriteReference c.reveal.ensures.state refl c.requires
    (λ legal d same. cc) (λ legal d same. cc) (λ legal. c.in_default.not-Format) (λ legal d same. cc)

pub write_reference-requires : goal.write_reference-requires
write_reference-requires g c = reference_stopped c.in-Format.drive.deck (rw c.in-Format.is at c.requires)
