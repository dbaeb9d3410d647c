-- The commands: the record of each, from its own file, and its words and traits by that (this project's own).
use Rattle.command_spec.specs.Append.{append_command}
use Rattle.command_spec.specs.Check.{check_command}
use Rattle.command_spec.specs.Command.{Command, Traits}
use Rattle.command_spec.specs.Scrub.{deep_scrub_command, scrub_command}
use Rattle.command_spec.specs.Single.{defect_command, format_command, info_command, list_command, lose_command, new_command}
use Rattle.command_spec.specs.Single.{protect_command, upgrade_command}
use Rattle.command_spec.specs.Make.{make_command}
use Rattle.command_spec.specs.Pulses.{pulses_command}
use Rattle.command_spec.specs.Restore.{restore_command}
use Rattle.command_spec.specs.Room.{room_command}
use Rattle.command_spec.specs.Script.{script_command}
use Rattle.command_spec.specs.declared.words.Words.{Words}
use Rattle.command_spec.specs.declared.words.Words.TheVariants as words

abbrev pub command_of : Words → Command
command_of (words.New segments) = new_command segments
command_of (words.Defect segment sector) = defect_command segment sector
command_of (words.Lose segment sector) = lose_command segment sector
command_of (words.Protect on) = protect_command on
command_of (words.Format label date) = format_command label date
command_of words.Info = info_command
command_of words.Room = room_command
command_of words.Check = check_command
command_of (words.Append name date) = append_command name date
command_of words.List = list_command
command_of (words.Restore number) = restore_command number
command_of words.Scrub = scrub_command
command_of words.ScrubDeep = deep_scrub_command
command_of words.Pulses = pulses_command
command_of words.Script = script_command
command_of (words.Make seed count) = make_command seed count
command_of words.Upgrade = upgrade_command

abbrev pub traits_of : Words → Traits
traits_of command = (command_of command).traits
