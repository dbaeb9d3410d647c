-- Plain tests of a drive's mode and motion.
use Rattle.std.specs.Prelude.{Bool, true, false}
use Rattle.qic117_commands.specs.declared.view.Mode.{Mode}
use Rattle.qic117_commands.specs.declared.view.Mode.TheVariants.{Primary, Format, Verify}
use Rattle.qic117_commands.specs.declared.view.Motion.{Motion}
use Rattle.qic117_commands.specs.declared.view.Motion.TheVariants.{Stopped, Streaming, Seeking}

abbrev pub is_stopped : Motion → Bool
is_stopped Stopped = true
is_stopped motion = false

abbrev pub is_streaming : Motion → Bool
is_streaming Streaming = true
is_streaming motion = false

abbrev pub is_seeking : Motion → Bool
is_seeking Seeking = true
is_seeking motion = false

abbrev pub is_primary : Mode → Bool
is_primary Primary = true
is_primary mode = false

abbrev pub is_format : Mode → Bool
is_format Format = true
is_format mode = false

abbrev pub is_verify : Mode → Bool
is_verify Verify = true
is_verify mode = false
