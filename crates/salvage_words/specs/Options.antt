-- The options, the arguments and the commands as `clap` builds them (this project's own).
use Rattle.std.specs.Prelude.{◌≡◌, List, map}
use Rattle.clap.specs.Simple.{app_of, shape_of}
use Rattle.clap.specs.Walk.{rule_of}
use Rattle.clap.specs.declared.builder.arg.Arg.{Arg}
use Rattle.clap.specs.declared.builder.command.Command.{Command}
use Rattle.salvage_words.specs.SalvageWords.{IsFormWords, NameList, form_rule, salvage_app, salvage_rules, salvage_subcommands}

pub record IsFormOption (a : Arg) : Type 0 where
  pub forms : NameList
  pub words : IsFormWords forms
  pub rule : rule_of a ≡ form_rule forms

-- the options and the argument, in this order
pub record AreArguments (arguments : List Arg) : Type 0 where
  pub forms : NameList
  pub words : IsFormWords forms
  pub rules : map rule_of arguments ≡ salvage_rules forms

-- the subcommands, in this order
abbrev pub AreSubcommands : List Command → Type 0
AreSubcommands commands = map shape_of commands ≡ salvage_subcommands

pub record IsSalvageCommand (c : Command) : Type 0 where
  pub forms : NameList
  pub words : IsFormWords forms
  pub app : app_of c ≡ salvage_app forms
