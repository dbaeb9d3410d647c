use Rattle.std.proofs.Common.{◌≡◌, Bool, [], ◌∷◌, refl, sym, ap, subst, ◌∙◌}
use Rattle.std.specs.Prelude.{Result}
use Rattle.std.proofs.lemmas.Result.{IfOk-weaker}
use Rattle.dump_spec.specs.Answers.{AnswersTo, TableIs, info_answer, warns}
use Rattle.dump_spec.specs.declared.asked.Command.TheVariants as commands
use Rattle.dump_tables.specs.Found.{table_in}
use Rattle.dump_answers.specs.Commands.{Prints, by_output, ended_by}
use Rattle.dump_answers.specs.Ends.{CountsByFault, fault_of}
use Rattle.dump_answers.specs.declared.ending.Cut.{Cut}
use Rattle.dump_answers.specs.declared.ending.Ending.{Ending}
use Rattle.dump_answers.proofs.Commands.{info_only, print_counts, prints_unread, text_prints}
use Rattle.command_laws.proofs.Passing.{passed}
use Rattle.dump_answers.proofs.command.answer_info.Goals as goal

pub returns-clause-prints : goal.returns-clause-prints
returns-clause-prints g c = λ known shows.
    let table = table_in c.table_of.new.sectors c.in_ok-table.table in
    let is : TableIs known table = c.in_ok-table.ensures.table known shows in
    let ended : c.with_warning.result ≡ ended_by (warns table) (by_output c.tell_info-told.result) =
    c.with_warning.ensures ∙ ap (λ (b : Bool). ended_by b c.by_sink.result) (c.is_unsure.ensures c.table_of.new.sectors)
    ∙ ap (ended_by (warns table)) c.by_sink.ensures in
    subst (λ (r : Result Ending Cut).
    Prints g.K.Sink.means (AnswersTo known commands.Info) c.args.output.now c.tell_info-told.new.output r) (sym ended)
    (text_prints g.K.Sink.means (AnswersTo known commands.Info) (info_answer known table) (warns table) c.args.output.now
    c.tell_info-told.new.output c.tell_info-told.result (table, is, refl) (info_only known table is) refl refl
    (IfOk-weaker c.tell_info-told.result _ _ (λ status all. all known) c.tell_info-told.ensures.status)
    (c.tell_info-told.ensures.written (g.D.Disk.means.told c.args.disk.now) known shows))

pub returns-in_err-table-clause-prints : goal.returns-in_err-table-clause-prints
returns-in_err-table-clause-prints g c = λ known shows.
    let cut : Cut = c.in_err-table.field-0.0 in
    subst (λ (r : Result Ending Cut).
    Prints g.K.Sink.means (AnswersTo known commands.Info) c.args.output.now c.args.output.now r)
    (sym (passed c.from_residual.result cut c.from_residual.ensures.1))
    (prints_unread g.K.Sink.means (AnswersTo known commands.Info) c.args.output.now cut
    (ap (λ (x : Cut). x.warned) c.in_err-table.ensures.cut) (g.met.K.Sink.took_nothing _))

pub returns-clause-counts : goal.returns-clause-counts
returns-clause-counts g c =
    let ended : c.with_warning.result ≡ ended_by c.is_unsure.result (by_output c.tell_info-told.result) =
    c.with_warning.ensures ∙ ap (ended_by c.is_unsure.result) c.by_sink.ensures in
    subst (λ (r : Result Ending Cut). CountsByFault (g.D.Disk.means.faults c.args.disk.now ∷ [])
    (g.D.Disk.means.faults c.table_of.new.disk ∷ []) (g.K.Sink.means.faults c.args.output.now ∷ [])
    (g.K.Sink.means.faults c.tell_info-told.new.output ∷ []) (fault_of r)) (sym ended)
    (print_counts _ _ _ _ c.is_unsure.result c.tell_info-told.result c.in_ok-table.ensures.counts.0 c.tell_info-told.ensures.cause)
