use Rattle.drive_states.proofs.AnyDrives.{skips_elsewhere}
use Rattle.drive_states.proofs.any_drive.AnyDrive.skip.Goals as goal

pub unreachable-requires-in_default : goal.unreachable-requires-in_default
unreachable-requires-in_default g c =
    skips_elsewhere c.args.self c.args.forward c.reveal.ensures.state c.requires c.in_default.not-LoadPoint c.in_default.not-Primary
    c.in_default.not-Verify
