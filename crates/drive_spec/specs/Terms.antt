-- Words for the state table that contracts and proofs cite, and no definition of the statement.
use Rattle.std.specs.Prelude.{ℕ, ◌+◌, ◌-◌, ◌*◌, ◌%◌, ◌^◌, ◌==◌, ◌&&◌, Bool, true, false, List, [], ◌∷◌, ◌++◌, Option, not, if◌then◌else◌}
use Rattle.std.specs.Prelude.{nat_lt, min}
use Rattle.std.specs.Option.{option_map, option_map_or}
use Rattle.qic_base.specs.Step.{Step}
use Rattle.qic_base.specs.declared.tape.TapeInfo.{TapeInfo}
use Rattle.qic117_commands.specs.Commands.{number_of, command_at}
use Rattle.qic117_commands.specs.Refusals.{first_refusal}
use Rattle.qic117_commands.specs.StatusWord.{status_of}
use Rattle.qic117_commands.specs.Views.{is_format}
use Rattle.qic117_commands.specs.declared.command.Command.{Command}
use Rattle.qic117_commands.specs.declared.command.Command.TheVariants.{Reset, LogicalForward}
use Rattle.qic117_commands.specs.declared.error_code.ErrorCode.{ErrorCode}
use Rattle.qic117_commands.specs.declared.error_code.ErrorCode.TheVariants.{LogicalEot}
use Rattle.qic117_commands.specs.declared.view.Mode.{Mode}
use Rattle.qic117_commands.specs.Digits.{digits}
use Rattle.drive_spec.specs.declared.deck.Deck.{Deck}
use Rattle.drive_spec.specs.declared.deck.Motion.TheVariants.{Stopped, Streaming, Seeking}
use Rattle.drive_spec.specs.declared.under_way.Parameter.{Parameter}
use Rattle.drive_spec.specs.declared.under_way.UnderWay.{UnderWay}
use Rattle.drive_spec.specs.declared.under_way.UnderWay.TheVariants.{Nothing, Report, Awaited}
use Rattle.drive_spec.specs.Deck.{segments_per_track, is_stopped, is_streaming, is_at_bot, is_at_eot, view_of, limit}
use Rattle.drive_spec.specs.Effects.{error_word, accepted, reset, ticked, ends_early}
use Rattle.drive_spec.specs.Record.{Record, power_on}
use Rattle.drive_spec.specs.Parameters.{parameter_trains}
use Rattle.drive_spec.specs.Reports.{report_width, report_word}
use Rattle.drive_spec.specs.Row.{heard, moved_on, after_tick}
use Rattle.drive_spec.specs.Steps.{is_idle, command_steps}

-- ---- a deck

abbrev pub is_protected : Deck → Bool
is_protected d = option_map_or (λ c. c.protected) d.cartridge false

abbrev pub is_referenced : Deck → Bool
is_referenced d = option_map_or (λ c. c.referenced) d.cartridge false

-- the code of the first row that refuses a command
abbrev pub refusal_of : Deck → Command → Option ErrorCode
refusal_of d command = first_refusal (view_of d) command

-- the status word
abbrev pub status_word : Deck → ℕ
status_word d = status_of (view_of d) (not (d.error == 0)) (is_at_bot d) (is_at_eot d)

-- the format segments that a drive tells
abbrev pub told_segments : Deck → ℕ
told_segments d = if is_format d.mode then d.format_segments else segments_per_track d

-- the deck after the cartridge was put in
abbrev pub power_on_deck : Option TapeInfo → Deck
power_on_deck cartridge = (power_on cartridge).deck

-- ---- effects

-- the tape begins to stream, where it stands before a segment of its track
abbrev pub streaming : Deck → Deck
streaming d =
    if is_stopped d.motion && nat_lt d.offset (limit d)
    then record d { motion = Streaming 0; at_load_point = false }
    else d

-- what is known of the cartridge, with another referenced mark
abbrev pub referenced_as : Bool → Option TapeInfo → Option TapeInfo
referenced_as on cartridge = option_map (λ (c : TapeInfo). record c { referenced = on }) cartridge

abbrev pub referenced : Bool → Deck → Deck
referenced on d = record d { cartridge = referenced_as on d.cartridge }

-- the drive seeks the start of track 0
abbrev pub home : (at_load_point : Bool) → Deck → Deck
home at_load_point d = record d { track = 0; offset = 0; motion = Seeking 160; at_load_point = at_load_point }

-- the drive enters a mode, and keeps track and offset
abbrev pub entering : Mode → (at_load_point : Bool) → Deck → Deck
entering mode at_load_point d = record d { mode = mode; at_load_point = at_load_point }

-- the head goes to a track: where the parity of its number changes, so does the end from which offsets count
abbrev pub sought : (track : ℕ) → Deck → Deck
sought track d = record d {
  track = track;
  offset = if track % 2 == d.track % 2 then d.offset else segments_per_track d - d.offset;
  motion = Seeking 10;
  at_load_point = false;
}

-- the tape skips so many segments of its track, at most to an end of it
abbrev pub skipped : (forward : Bool) (count : ℕ) → Deck → Deck
skipped forward count d = record d {
  offset = if forward then min (d.offset + count) (segments_per_track d) else d.offset - count;
  motion = Seeking 80;
  at_load_point = false;
}

-- the tape that streams has run on by a segment, and stops at the limit
abbrev pub run_on : Deck → Deck
run_on d = record d {
  offset = d.offset + 1;
  motion = if nat_lt (d.offset + 1) (limit d) then Streaming 0 else Stopped;
  error = if ends_early d then error_word LogicalEot (number_of LogicalForward) else d.error;
}

-- ---- parameters

-- a parameter with one more value, of which the first is the lowest
abbrev pub longer : Parameter → (value : ℕ) → Parameter
longer a value = record a { taken = a.taken + 1; value = a.value + value * 16 ^ a.taken }

-- ---- reports

-- QIC-80, by the tape's length: 205 ft has 100 segments per track, 307.5 ft has 150
abbrev pub tape_status : (segments_per_track : ℕ) → ℕ
tape_status n = 0x02 + (if n == 100 then 0x10 else if n == 150 then 0x20 else 0x30)

abbrev pub is_report : Command → Bool
is_report command = nat_lt 0 (report_width command)

-- ---- rows

-- what an accepted command leaves under way: of a report its word's digits, and the final 1
abbrev pub begun : Command → Deck → UnderWay
begun command d =
    if nat_lt 0 (report_width command) then Report (digits (report_width command) (report_word command d) ++ true ∷ [])
    else if nat_lt 0 (parameter_trains command) then Awaited record { command = command; taken = 0; value = 0 }
    else Nothing

-- an accepted command; a report is acknowledged by the level 1
abbrev pub obeying : Record → Command → Record
obeying r command = record r { deck = accepted command r.deck; line = is_report command; under_way = begun command r.deck }

-- a train of one pulse or more
abbrev pub obeyed : Record → (train : ℕ) → Record
obeyed r train =
    if train == number_of Reset
    then record r { deck = reset r.deck; under_way = Nothing }
    else heard r train r.under_way

-- a gap after no pulse
abbrev pub idled : Record → Record
idled r = if is_streaming r.deck.motion then moved_on r else r

-- a gap after a train of so many pulses
abbrev pub row : Record → (train : ℕ) → Record
row r train = after_tick (record r { deck = ticked r.deck }) train

-- ---- steps

-- what a train does to the cartridge once the tick before it is done
abbrev pub steps_once_ticked : Record → (train : ℕ) → List Step
steps_once_ticked r train = if is_idle r.under_way then command_steps r.deck (command_at train) else []
