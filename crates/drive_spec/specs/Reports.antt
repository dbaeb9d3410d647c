-- The reports: how many bits each has, and the word that it shows (QIC-117; the words are this project's profile).
use Rattle.std.specs.Prelude.{ℕ, ◌+◌, ◌==◌, not, if◌then◌else◌}
use Rattle.qic117_commands.specs.StatusWord.{status_of}
use Rattle.qic117_commands.specs.Views.{is_format}
use Rattle.qic117_commands.specs.declared.command.Command.{Command}
use Rattle.qic117_commands.specs.declared.command.Command.TheVariants.{ReportStatus, ReportError, ReportConfiguration, ReportRom}
use Rattle.qic117_commands.specs.declared.command.Command.TheVariants.{ReportVendor, ReportTapeStatus, ReportFormatSegments}
use Rattle.drive_spec.specs.declared.deck.Deck.{Deck}
use Rattle.drive_spec.specs.Deck.{segments_per_track, view_of, is_at_bot, is_at_eot}

-- how many bits a report has; 0 where the command asks for none
abbrev pub report_width : Command → ℕ
report_width ReportStatus = 8
report_width ReportError = 16
report_width ReportConfiguration = 8
report_width ReportRom = 8
report_width ReportVendor = 16
report_width ReportTapeStatus = 8
report_width ReportFormatSegments = 16
report_width command = 0

-- the word that a report shows; of the tape, by its length: 205 ft has 100 segments per track, 307.5 ft has 150
abbrev pub report_word : Command → Deck → ℕ
report_word ReportStatus d = status_of (view_of d) (not (d.error == 0)) (is_at_bot d) (is_at_eot d)
report_word ReportError d = d.error
report_word ReportConfiguration d = 0x00
report_word ReportRom d = 0x01
report_word ReportVendor d = 0x0080
report_word ReportTapeStatus d =
    0x02 + (if segments_per_track d == 100 then 0x10 else if segments_per_track d == 150 then 0x20 else 0x30)
report_word ReportFormatSegments d = if is_format d.mode then d.format_segments else segments_per_track d
report_word command d = 0
