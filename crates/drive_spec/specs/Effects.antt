-- What commands and gaps do to a deck (this project's profile of QIC-117).
use Rattle.std.specs.Prelude.{ℕ, Option, ◌+◌, ◌-◌, ◌*◌, ◌%◌, ◌==◌, ◌&&◌, Bool, true, false, if◌then◌else◌, nat_lt, nat_le, min}
use Rattle.std.specs.Option.{option_map}
use Rattle.qic_base.specs.declared.tape.TapeInfo.{TapeInfo}
use Rattle.qic117_commands.specs.Codes.{code_of}
use Rattle.qic117_commands.specs.Commands.{number_of}
use Rattle.qic117_commands.specs.Views.{is_primary, is_format}
use Rattle.qic117_commands.specs.declared.command.Command.{Command}
use Rattle.qic117_commands.specs.declared.command.Command.TheVariants.{Reset, ReportError, LogicalForward, SeekTrack, SeekLoadPoint}
use Rattle.qic117_commands.specs.declared.command.Command.TheVariants.{EnterFormat, WriteReference, EnterVerify, StopTape, SkipReverse}
use Rattle.qic117_commands.specs.declared.command.Command.TheVariants.{SkipForward, EnterPrimary, SetFormatSegments}
use Rattle.qic117_commands.specs.declared.error_code.ErrorCode.{ErrorCode}
use Rattle.qic117_commands.specs.declared.error_code.ErrorCode.TheVariants.{SoftwareReset}
use Rattle.qic117_commands.specs.declared.view.Mode.TheVariants.{Primary, Format, Verify}
use Rattle.drive_spec.specs.declared.deck.Deck.{Deck}
use Rattle.drive_spec.specs.declared.deck.Motion.{Motion}
use Rattle.drive_spec.specs.declared.deck.Motion.TheVariants.{Stopped, Streaming, Seeking}
use Rattle.drive_spec.specs.Deck.{segments_per_track, is_stopped, limit}

-- an error word: the code in the low byte, a command in the high byte
abbrev pub error_word : ErrorCode → (command : ℕ) → ℕ
error_word code command = code_of code + 256 * command

-- what a command does that no row refuses; one that takes a parameter does its work when it has it
abbrev pub accepted : Command → Deck → Deck
accepted ReportError d = record d { error = 0; fresh = false }
accepted LogicalForward d =
    if is_stopped d.motion && nat_lt d.offset (limit d) then record d { motion = Streaming 0; at_load_point = false } else d
accepted SeekLoadPoint d = record d { track = 0; offset = 0; motion = Seeking 160; at_load_point = is_primary d.mode }
accepted EnterFormat d = record d { mode = Format; at_load_point = false; format_segments = segments_per_track d }
accepted WriteReference d =
    let referenced : Option TapeInfo = option_map (λ (c : TapeInfo). record c { referenced = true }) d.cartridge in
    record d { cartridge = referenced; track = 0; offset = 0; motion = Seeking 160 }
accepted EnterVerify d = record d { mode = Verify; at_load_point = false }
accepted StopTape d = record d { motion = Stopped }
accepted EnterPrimary d = record d { mode = Primary; at_load_point = is_primary d.mode && d.at_load_point }
accepted command d = d

-- What a command does that has its parameter. Where the parity of the track's number changes, so does the end from which
-- offsets count; a skip ends at an end of the track.
abbrev pub given : Command → (parameter : ℕ) → Deck → Deck
given SeekTrack track d =
    let offset : ℕ = if track % 2 == d.track % 2 then d.offset else segments_per_track d - d.offset in
    record d { track = track; offset = offset; motion = Seeking 10; at_load_point = false }
given SkipReverse count d = record d { offset = d.offset - count; motion = Seeking 80; at_load_point = false }
given SkipForward count d =
    record d { offset = min (d.offset + count) (segments_per_track d); motion = Seeking 80; at_load_point = false }
given SetFormatSegments count d = record d { format_segments = count }
given command parameter d = d

-- what a reset does: it enters Primary mode, and a seek that is broken off leaves its target's offset
abbrev pub reset : Deck → Deck
reset d = record (accepted EnterPrimary d) { motion = Stopped; error = error_word SoftwareReset (number_of Reset) }

-- a gap of a seek
abbrev pub ticked_motion : Motion → Motion
ticked_motion (Seeking left) = if nat_le left 1 then Stopped else Seeking (left - 1)
ticked_motion motion = motion

abbrev pub ticked : Deck → Deck
ticked d = record d { motion = ticked_motion d.motion }

-- the segment under the head is the last before the limit, and more were to be generated than the track has
abbrev pub ends_early : Deck → Bool
ends_early d = is_format d.mode && nat_lt (segments_per_track d) d.format_segments && nat_le (limit d) (d.offset + 1)
