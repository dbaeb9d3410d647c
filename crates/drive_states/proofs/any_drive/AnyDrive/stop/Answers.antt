use Rattle.std.proofs.Common.{refl}
use Rattle.qic117_commands.specs.declared.command.Command.TheVariants.{StopTape}
use Rattle.qic117_commands.specs.Refusals.{waits_for_seek}
use Rattle.drive_states.proofs.AnyDrives.{refused_elsewhere}
use Rattle.drive_states.proofs.Obeying.{stop_present}
use Rattle.drive_states.proofs.any_drive.AnyDrive.stop.Goals as goal

pub unreachable-requires : goal.unreachable-requires
unfolding waits_for_seek
unreachable-requires g c =
    refused_elsewhere c.args.self StopTape c.reveal.ensures.state refl c.requires
    (λ legal. c.in_default.not-LoadPoint) (λ legal. c.in_default.not-Primary) (λ legal. c.in_default.not-Format)
    (λ legal. c.in_default.not-Verify)

pub stop-requires : goal.stop-requires
stop-requires g c = stop_present c.in-LoadPoint.drive.deck (rw c.in-LoadPoint.is at c.requires)

pub stop-requires-in-Primary : goal.stop-requires-in-Primary
stop-requires-in-Primary g c = stop_present c.in-Primary.drive.deck (rw c.in-Primary.is at c.requires)

pub stop-requires-in-Format : goal.stop-requires-in-Format
stop-requires-in-Format g c = stop_present c.in-Format.drive.deck (rw c.in-Format.is at c.requires)

pub stop-requires-in-Verify : goal.stop-requires-in-Verify
stop-requires-in-Verify g c = stop_present c.in-Verify.drive.deck (rw c.in-Verify.is at c.requires)

pub returns-in-LoadPoint : goal.returns-in-LoadPoint
returns-in-LoadPoint g c = rw c.in-LoadPoint.is c.stop.ensures.drive

pub returns-in-Primary : goal.returns-in-Primary
returns-in-Primary g c = rw c.in-Primary.is c.stop-in-Primary.ensures.drive

pub returns-in-Format : goal.returns-in-Format
returns-in-Format g c = rw c.in-Format.is c.stop-in-Format.ensures.drive

pub returns-in-Verify : goal.returns-in-Verify
returns-in-Verify g c = rw c.in-Verify.is c.stop-in-Verify.ensures.drive
