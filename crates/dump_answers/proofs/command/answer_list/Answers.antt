use Rattle.std.proofs.Common.{◌≡◌, Bool, refl, sym, ap, subst, ◌∙◌}
use Rattle.std.specs.Prelude.{Result}
use Rattle.std.proofs.lemmas.Result.{IfOk-weaker}
use Rattle.dump_spec.specs.Answers.{AnswersTo, TableIs, list_answer, warns}
use Rattle.dump_spec.specs.declared.asked.Command.TheVariants as commands
use Rattle.dump_tables.specs.Found.{table_in}
use Rattle.dump_answers.specs.Commands.{Prints, by_output, ended_by}
use Rattle.dump_answers.specs.declared.ending.Cut.{Cut}
use Rattle.dump_answers.specs.declared.ending.Ending.{Ending}
use Rattle.dump_answers.proofs.Commands.{list_no_map, list_only, list_warned, text_prints}
use Rattle.dump_answers.proofs.command.answer_list.Goals as goal

pub returns-clause-prints : goal.returns-clause-prints
returns-clause-prints g c = λ known shows.
    let table = table_in c.table_of.new.sectors c.in_ok-table.table in
    let is : TableIs known table = c.in_ok-table.ensures.table known shows in
    let ended : c.with_warning.result ≡ ended_by (warns table) (by_output c.tell_list-told.result) =
    c.with_warning.ensures ∙ ap (λ (b : Bool). ended_by b c.by_sink.result) (c.is_unsure.ensures c.table_of.new.sectors)
    ∙ ap (ended_by (warns table)) c.by_sink.ensures in
    subst (λ (r : Result Ending Cut).
    Prints g.K.Sink.means (AnswersTo known commands.List) c.args.output.now c.tell_list-told.new.output r) (sym ended)
    (text_prints g.K.Sink.means (AnswersTo known commands.List) (list_answer known table) (warns table) c.args.output.now
    c.tell_list-told.new.output c.tell_list-told.result (table, is, refl) (list_only known table is) (list_no_map known table)
    (list_warned known table)
    (IfOk-weaker c.tell_list-told.result _ _ (λ status all. all known) c.tell_list-told.ensures.status)
    (c.tell_list-told.ensures.written (g.D.Disk.means.told c.args.disk.now) known shows))
