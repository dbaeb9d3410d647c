use Rattle.drive_states.proofs.Obeying.{no_parameter}
use Rattle.drive_states.proofs.any_drive.AnyDrive.give.Goals as goal

pub unreachable-requires : goal.unreachable-requires
unreachable-requires g c =
    let n = c.in_default in
    no_parameter c.args.command c.requires.trains n.not-SeekTrack n.not-SkipReverse n.not-SkipForward n.not-SetFormatSegments
