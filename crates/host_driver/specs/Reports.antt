-- What a host asks of the drive, and how long it waits for it (QIC-117; the waits are this project's profile).
use Rattle.std.specs.Prelude.{ℕ, ◌+◌, ◌/◌, true}
use Rattle.qic117_commands.specs.declared.command.Command.{Command}
use Rattle.qic117_commands.specs.declared.command.Command.TheVariants as command
use Rattle.drive_spec.specs.declared.deck.Motion.{Motion}
use Rattle.drive_spec.specs.declared.deck.Motion.TheVariants.{Stopped, Streaming, Seeking}
use Rattle.drive_spec.specs.Effects.{accepted, ticked}
use Rattle.drive_spec.specs.Record.{Record}
use Rattle.drive_spec.specs.Reports.{report_width, report_word}
use Rattle.host_driver.specs.declared.report.Report.{Report}
use Rattle.host_driver.specs.declared.report.Report.TheVariants.{Status, Error, Configuration, Rom, Vendor, TapeStatus, FormatSegments}
use Rattle.host_driver.specs.Train.{waited}

-- the command that asks for it
abbrev pub command_of : Report → Command
command_of Status = command.ReportStatus
command_of Error = command.ReportError
command_of Configuration = command.ReportConfiguration
command_of Rom = command.ReportRom
command_of Vendor = command.ReportVendor
command_of TapeStatus = command.ReportTapeStatus
command_of FormatSegments = command.ReportFormatSegments

-- how many bits it has
abbrev pub width_of : Report → ℕ
width_of kind = report_width (command_of kind)

-- the word that the drive shows: it is loaded when the gap of the command is counted
abbrev pub reported_word : Report → Record → ℕ
reported_word kind r = report_word (command_of kind) (ticked r.deck)

-- the drive after the report: a gap for the command, one for each bit, and one for the final 1
abbrev pub after_report : Report → Record → Record
after_report kind r = record r { deck = accepted (command_of kind) (waited (width_of kind + 2) r.deck); line = true }

-- The reports of the status, of ten gaps each, until one shows that the drive stands: the word of each is loaded when
-- its first gap is counted.
abbrev pub reports_until_ready : Motion → ℕ
reports_until_ready Stopped = 1
reports_until_ready (Streaming next) = 1
reports_until_ready (Seeking left) = (left + 8) / 10 + 1
