-- The parameters of commands: their trains, and the values that these may have (QIC-117).
use Rattle.std.specs.Prelude.{ℕ}
use Rattle.qic117_commands.specs.declared.command.Command.{Command}
use Rattle.qic117_commands.specs.declared.command.Command.TheVariants.{SeekTrack, SkipReverse, SkipForward, SetFormatSegments}
use Rattle.qic117_commands.specs.declared.error_code.ErrorCode.{ErrorCode}
use Rattle.qic117_commands.specs.declared.error_code.ErrorCode.TheVariants.{UndefinedCommand, IllegalTrack}

-- how many trains make up a command's parameter; 0 where it takes none
abbrev pub parameter_trains : Command → ℕ
parameter_trains SeekTrack = 1
parameter_trains SkipReverse = 2
parameter_trains SkipForward = 2
parameter_trains SetFormatSegments = 3
parameter_trains command = 0

-- each value of a parameter is below this: a track, or a nibble
abbrev pub parameter_values : Command → ℕ
parameter_values SeekTrack = 28
parameter_values command = 16

-- the code of any other value
abbrev pub parameter_code : Command → ErrorCode
parameter_code SeekTrack = IllegalTrack
parameter_code command = UndefinedCommand
