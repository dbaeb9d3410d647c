-- Which commands the host sends whole, with a gap behind them.
use Rattle.std.specs.Prelude.{◌≢◌, ℕ, ◌<◌, Bool, true, false}
use Rattle.qic117_commands.specs.declared.command.Command.{Command}
use Rattle.qic117_commands.specs.declared.command.Command.TheVariants.{Reset, ReportNextBit, EnterFormat, WriteReference, EnterVerify}
use Rattle.qic117_commands.specs.declared.command.Command.TheVariants.{EnterPrimary, SetFormatSegments}
use Rattle.qic117_commands.specs.declared.view.Mode.{Mode}
use Rattle.qic117_commands.specs.declared.view.Mode.TheVariants.{Primary, Format, Verify}
use Rattle.drive_spec.specs.declared.under_way.Parameter.{Parameter}
use Rattle.drive_spec.specs.Parameters.{parameter_values}

-- a reset latches its error, the next bit of a report is no command of its own, and the reference bursts may fail
abbrev pub is_plain : Command → Bool
is_plain Reset = false
is_plain ReportNextBit = false
is_plain WriteReference = false
is_plain command = true

-- a value that the parameter takes, of a command that moves the tape
pub record TakesValue (a : Parameter) (value : ℕ) : Type 0 where
  pub small : value < parameter_values a.command
  pub moves : a.command ≢ SetFormatSegments

-- the command that enters a mode
abbrev pub entry_of : Mode → Command
entry_of Primary = EnterPrimary
entry_of Format = EnterFormat
entry_of Verify = EnterVerify
