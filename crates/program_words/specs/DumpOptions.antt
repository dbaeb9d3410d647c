-- The options, the argument and the commands as `clap` builds them (this project's own).
use Rattle.std.specs.Prelude.{◌≡◌, false, [], None}
use Rattle.clap.specs.Facts.{args_of, groups_of}
use Rattle.clap.specs.Built.{AddsArg, IsPlainArg}
use Rattle.clap.specs.Walk.{Text, rule_of}
use Rattle.clap.specs.Simple.{new_app, app_of}
use Rattle.clap.specs.declared.builder.arg.Arg.{Arg}
use Rattle.clap.specs.declared.builder.command.Command.{Command}
use Rattle.clap.specs.declared.builder.command.Command.TheViews.{out-Command}
use Rattle.program_words.specs.DumpWords.{map_rule, segments_rule, image_rule, export_name, import_name}

-- the option of the map, which excludes nothing
pub record IsMapOption (a : Arg) : Type 0 where
  pub rule : rule_of a ≡ map_rule
  pub plain : IsPlainArg a
  pub local : a.global ≡ false

-- the option of the segments, which excludes nothing
pub record IsSegmentsOption (a : Arg) : Type 0 where
  pub rule : rule_of a ≡ segments_rule
  pub plain : IsPlainArg a
  pub local : a.global ≡ false

-- the argument, which excludes nothing
pub record IsImageArgument (a : Arg) : Type 0 where
  pub rule : rule_of a ≡ image_rule
  pub plain : IsPlainArg a
  pub local : a.global ≡ false
  pub whole : a.val_delim ≡ None

-- an empty command of this name
pub record IsEmptyCommand (name : Text) (c : Command) : Type 0 where
  pub app : app_of c ≡ new_app name
  pub args : args_of c ≡ []
  pub groups : groups_of c ≡ []
  pub local : (out-Command c).has_globals ≡ false
  pub negates : (out-Command c).subcommand_negates_reqs ≡ false

-- the command that exports, with these two alone
pub record IsExportCommand (c : Command) : Type 0 where
  pub start : Command
  pub option : Arg
  pub between : Command
  pub image : Arg
  pub empty : IsEmptyCommand export_name start
  pub is_option : IsMapOption option
  pub is_image : IsImageArgument image
  pub adds_option : AddsArg start option between
  pub adds_image : AddsArg between image c

-- the command that imports, with these three alone
pub record IsImportCommand (c : Command) : Type 0 where
  pub start : Command
  pub option : Arg
  pub with_map : Command
  pub segments : Arg
  pub with_segments : Command
  pub image : Arg
  pub empty : IsEmptyCommand import_name start
  pub is_option : IsMapOption option
  pub is_segments : IsSegmentsOption segments
  pub is_image : IsImageArgument image
  pub adds_option : AddsArg start option with_map
  pub adds_segments : AddsArg with_map segments with_segments
  pub adds_image : AddsArg with_segments image c
