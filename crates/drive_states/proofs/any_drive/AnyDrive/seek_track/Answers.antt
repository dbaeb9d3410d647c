use Rattle.std.proofs.Common.{refl}
use Rattle.qic117_commands.specs.declared.command.Command.TheVariants.{SeekTrack}
use Rattle.qic117_commands.specs.Refusals.{waits_for_seek}
use Rattle.drive_spec.specs.Terms.{refusal_of}
use Rattle.drive_states.proofs.AnyDrives.{refused_elsewhere, taken_and_refused}
use Rattle.drive_states.proofs.any_drive.AnyDrive.seek_track.Goals as goal

pub unreachable-requires-in_default : goal.unreachable-requires-in_default
unfolding waits_for_seek
unreachable-requires-in_default g c =
    refused_elsewhere c.args.self SeekTrack c.reveal.ensures.state refl c.requires.taken
    (λ legal. c.in_default.not-LoadPoint) (λ legal. c.in_default.not-Primary) (λ legal. c.in_default.not-Format)
    (λ legal. c.in_default.not-Verify)

pub unreachable-requires : goal.unreachable-requires
unreachable-requires g c =
    taken_and_refused (refusal_of c.in-LoadPoint.drive.deck SeekTrack) c.in-Err.field-0.code (rw c.in-LoadPoint.is at c.requires.taken)
    c.in-Err.ensures.refused.refused

pub returns-in-Ok : goal.returns-in-Ok
returns-in-Ok g c = rw c.in-LoadPoint.is c.in-Ok.ensures.obeyed.drive

pub unreachable-requires-in-Err-seek_track : goal.unreachable-requires-in-Err-seek_track
unreachable-requires-in-Err-seek_track g c =
    taken_and_refused (refusal_of c.in-Primary.drive.deck SeekTrack) c.in-Err-seek_track.field-0.code
    (rw c.in-Primary.is at c.requires.taken) c.in-Err-seek_track.ensures.refused.refused

pub returns-in-Ok-seek_track : goal.returns-in-Ok-seek_track
returns-in-Ok-seek_track g c = rw c.in-Primary.is c.in-Ok-seek_track.ensures.obeyed.drive

pub unreachable-requires-in-Err-seek_track-2 : goal.unreachable-requires-in-Err-seek_track-2
unreachable-requires-in-Err-seek_track-2 g c =
    taken_and_refused (refusal_of c.in-Format.drive.deck SeekTrack) c.in-Err-seek_track-2.field-0.code
    (rw c.in-Format.is at c.requires.taken) c.in-Err-seek_track-2.ensures.refused.refused

pub returns-in-Ok-seek_track-2 : goal.returns-in-Ok-seek_track-2
returns-in-Ok-seek_track-2 g c = rw c.in-Format.is c.in-Ok-seek_track-2.ensures.obeyed.drive

pub unreachable-requires-in-Err-seek_track-3 : goal.unreachable-requires-in-Err-seek_track-3
unreachable-requires-in-Err-seek_track-3 g c =
    taken_and_refused (refusal_of c.in-Verify.drive.deck SeekTrack) c.in-Err-seek_track-3.field-0.code
    (rw c.in-Verify.is at c.requires.taken) c.in-Err-seek_track-3.ensures.refused.refused

pub returns-in-Ok-seek_track-3 : goal.returns-in-Ok-seek_track-3
returns-in-Ok-seek_track-3 g c = rw c.in-Verify.is c.in-Ok-seek_track-3.ensures.obeyed.drive
