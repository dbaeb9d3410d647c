use Rattle.std.proofs.Common.{◌≡◌, ◌∙◌, true, ap, codes}
use Rattle.std.specs.List.{list_all}
use Rattle.std.specs.Prelude.{fold}
use Rattle.std.proofs.lemmas.Result.{IfOk-weaker}
use Rattle.clap.specs.Simple.{App, Shape, app_of, app_of_fields, new_app, on_top, with_rule, with_subcommand}
use Rattle.clap.specs.Walk.{Rule}
use Rattle.salvage_words.specs.SalvageWords.{salvage_rules, salvage_subcommands}
use Rattle.salvage_words.proofs.Commands.{rules_added, shapes_added}
use Rattle.salvage_words.proofs.command.salvage_command.Goals as goal

abbrev required : Shape → Shape
required s = record s { subcommand_required = true }

pub returns : goal.returns
returns c =
    let start = c.subcommand_required-start.result in
    let with = c.in_ok-with_subcommands.with_subcommands in
    let shapes = c.in_ok-salvage_subcommands.ensures in
    let given = c.in_ok-salvage_arguments.ensures in
    let start_app : app_of start ≡ on_top required (new_app (codes "tape_salvage")) =
    ap app_of_fields c.subcommand_required-start.ensures ∙ ap (on_top required) (ap app_of_fields c.about.ensures ∙ c.new.ensures.app) in
    let with_app : app_of with ≡ fold with_subcommand (on_top required (new_app (codes "tape_salvage"))) salvage_subcommands =
    shapes_added start with c.in_ok-salvage_subcommands.field-0.items c.in_ok-with_subcommands.ensures
    (ap (list_all (λ (s : Shape). s.is_plain)) shapes)
    ∙ ap (fold with_subcommand (app_of start)) shapes
    ∙ ap (λ (a : App). fold with_subcommand a salvage_subcommands) start_app in
    IfOk-weaker c.args-2.result _ _ (λ m adds. record {
      forms = given.forms;
      words = given.words;
      app = rules_added with m c.in_ok-salvage_arguments.field-0.items adds (ap (list_all (λ (r : Rule). r.is_simple)) given.rules)
          ∙ ap (fold with_rule (app_of with)) given.rules
          ∙ ap (λ (a : App). fold with_rule a (salvage_rules given.forms)) with_app;
    }) c.args-2.ensures
