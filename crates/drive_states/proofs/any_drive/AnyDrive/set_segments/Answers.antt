use Rattle.std.proofs.Common.{refl, ap, arith}
use Rattle.qic117_commands.specs.declared.command.Command.TheVariants.{SetFormatSegments}
use Rattle.qic117_commands.specs.Refusals.{waits_for_seek, illegal_in_primary, illegal_in_verify}
use Rattle.drive_spec.specs.Deck.{is_stopped}
use Rattle.drive_states.proofs.AnyDrives.{refused_elsewhere}
use Rattle.drive_states.proofs.Obeying.{parameter_stopped}
use Rattle.drive_states.proofs.any_drive.AnyDrive.set_segments.Goals as goal

pub set_segments-requires-clause-stopped : goal.set_segments-requires-clause-stopped
set_segments-requires-clause-stopped g c =
    ap is_stopped (parameter_stopped SetFormatSegments c.in-Format.drive.deck (omega arith) (rw c.in-Format.is at c.requires.taken))

pub unreachable-requires : goal.unreachable-requires
unfolding waits_for_seek illegal_in_primary illegal_in_verify
unreachable-requires g c =
    refused_elsewhere c.args.self SetFormatSegments c.reveal.ensures.state refl c.requires.taken
    (λ legal d same. cc) (λ legal d same. cc) (λ legal. c.in_default.not-Format) (λ legal d same. cc)
