-- The trains that a host sends (this project's own).
use Rattle.std.specs.Prelude.{◌≡◌, ◌≢◌, ℕ, ◌-◌, true, if◌then◌else◌, nat_le}
use Rattle.qic117_commands.specs.Commands.{number_of}
use Rattle.qic117_commands.specs.Views.{is_format}
use Rattle.qic117_commands.specs.declared.command.Command.TheVariants.{Reset}
use Rattle.drive_spec.specs.declared.deck.Deck.{Deck}
use Rattle.drive_spec.specs.declared.deck.Motion.{Motion}
use Rattle.drive_spec.specs.declared.deck.Motion.TheVariants.{Stopped, Streaming, Seeking}
use Rattle.drive_spec.specs.Deck.{segments_per_track}
use Rattle.drive_spec.specs.Record.{Record}
use Rattle.drive_spec.specs.Row.{pulsed_row}

-- A train that a host may send: it isn't a reset, the drive latches no error for it, and in Format mode as many segments
-- are to be generated then as the tape has.
pub record TakesTrain (r : Record) (pulses : ℕ) : Type 0 where
  pub no_reset : pulses ≢ number_of Reset
  pub no_error : (pulsed_row r pulses).deck.error ≡ 0
  pub generates : is_format (pulsed_row r pulses).deck.mode ≡ true →
      (pulsed_row r pulses).deck.format_segments ≡ segments_per_track (pulsed_row r pulses).deck

-- a motion so many gaps later, of which none is empty
abbrev pub moved_for : (gaps : ℕ) → Motion → Motion
moved_for gaps Stopped = Stopped
moved_for gaps (Streaming next) = Streaming next
moved_for gaps (Seeking left) = if nat_le left gaps then Stopped else Seeking (left - gaps)

abbrev pub waited : (gaps : ℕ) → Deck → Deck
waited gaps d = record d { motion = moved_for gaps d.motion }

-- the drive is where it was on the way to
abbrev pub ready_deck : Deck → Deck
ready_deck d = record d { motion = Stopped }
