-- The option and the command as `clap` builds them (this project's own).
use Rattle.std.specs.Prelude.{◌≡◌, ◌<◌, false, [], length, None}
use Rattle.clap.specs.Texts.{items_of}
use Rattle.clap.specs.Facts.{args_of, groups_of}
use Rattle.clap.specs.Built.{AddsArg, IsPlainArg}
use Rattle.clap.specs.Walk.{rule_of}
use Rattle.clap.specs.Simple.{new_app, app_of}
use Rattle.clap.specs.declared.builder.arg.Arg.{Arg}
use Rattle.clap.specs.declared.builder.command.Command.{Command}
use Rattle.clap.specs.declared.builder.command.Command.TheViews.{out-Command}
use Rattle.program_words.specs.TraceWords.{gap_rule, program_name}

-- the option, which excludes nothing
pub record IsGapOption (a : Arg) : Type 0 where
  pub rule : rule_of a ≡ gap_rule
  pub plain : IsPlainArg a
  pub local : a.global ≡ false
  pub always : a.default_vals_ifs.items ≡ []
  pub some_default : 0 < length (items_of a.default_vals)
  pub whole : a.val_delim ≡ None

-- an empty command of the program's name
pub record IsEmptyCommand (c : Command) : Type 0 where
  pub app : app_of c ≡ new_app program_name
  pub args : args_of c ≡ []
  pub groups : groups_of c ≡ []
  pub local : (out-Command c).has_globals ≡ false

-- the command with that option alone
pub record IsTraceCommand (c : Command) : Type 0 where
  pub start : Command
  pub option : Arg
  pub empty : IsEmptyCommand start
  pub gap : IsGapOption option
  pub adds : AddsArg start option c
