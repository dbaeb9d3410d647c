-- What a drive is in, but for its end of the cable, and what rows and reports see of it (this project's profile of QIC-117).
use Rattle.std.specs.Prelude.{ℕ, ◌%◌, ◌==◌, ◌&&◌, Bool, true, false, is_some, if◌then◌else◌, min}
use Rattle.std.specs.Option.{option_map_or}
use Rattle.qic117_commands.specs.Views.{is_format}
use Rattle.qic117_commands.specs.declared.view.DriveView.{DriveView}
use Rattle.qic117_commands.specs.declared.view.Motion as seen
use Rattle.qic117_commands.specs.declared.view.Motion.TheVariants as seen_as
use Rattle.drive_spec.specs.declared.deck.Deck.{Deck}
use Rattle.drive_spec.specs.declared.deck.Motion.{Motion}
use Rattle.drive_spec.specs.declared.deck.Motion.TheVariants.{Stopped, Streaming, Seeking}

-- segments per track; 0 where no cartridge is present
abbrev pub segments_per_track : Deck → ℕ
segments_per_track d = option_map_or (λ c. c.segments_per_track) d.cartridge 0

abbrev pub is_stopped : Motion → Bool
is_stopped Stopped = true
is_stopped motion = false

abbrev pub is_streaming : Motion → Bool
is_streaming (Streaming next) = true
is_streaming motion = false

-- the beginning of the tape: where an even track begins and an odd one ends
abbrev pub is_at_bot : Deck → Bool
is_at_bot d = is_some d.cartridge && is_stopped d.motion
    && (if d.track % 2 == 0 then d.offset == 0 else d.offset == segments_per_track d)

-- the end of the tape: where an even track ends and an odd one begins
abbrev pub is_at_eot : Deck → Bool
is_at_eot d = is_some d.cartridge && is_stopped d.motion
    && (if d.track % 2 == 0 then d.offset == segments_per_track d else d.offset == 0)

-- what a row of the table reads
abbrev pub seen_motion : Motion → seen.Motion
seen_motion Stopped = seen_as.Stopped
seen_motion (Streaming next) = seen_as.Streaming
seen_motion (Seeking left) = seen_as.Seeking

abbrev pub view_of : Deck → DriveView
view_of d = record {
  present = is_some d.cartridge;
  motion = seen_motion d.motion;
  mode = d.mode;
  protected = option_map_or (λ c. c.protected) d.cartridge false;
  fresh = d.fresh;
  referenced = option_map_or (λ c. c.referenced) d.cartridge false;
  offset = d.offset;
}

-- where streaming ends: in Format mode no segment is generated past the tape's end, nor past their number
abbrev pub limit : Deck → ℕ
limit d = if is_format d.mode then min d.format_segments (segments_per_track d) else segments_per_track d
