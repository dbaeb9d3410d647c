use Rattle.std.proofs.Common.{◌≡◌, Bool, List, ℕ, Option, sym, ap, subst, ◌∙◌}
use Rattle.std.specs.Prelude.{Result}
use Rattle.dump_opening.specs.Opened.{Shows}
use Rattle.dump_spec.specs.Answers.{AnswersTo, TableIs, warns}
use Rattle.dump_spec.specs.declared.asked.Command.TheVariants as commands
use Rattle.dump_tables.specs.Found.{table_in}
use Rattle.dump_answers.specs.Commands.{ended_by}
use Rattle.dump_answers.specs.Ends.{Ends}
use Rattle.dump_answers.specs.declared.ending.Cut.{Cut}
use Rattle.dump_answers.specs.declared.ending.Ending.{Ending}
use Rattle.dump_answers.proofs.Commands.{volume_ends}
use Rattle.dump_answers.proofs.command.answer_volume.Goals as goal

pub returns-clause-ends : goal.returns-clause-ends
returns-clause-ends g c = λ known shows.
    let table = table_in c.table_of.new.sectors c.in_ok-table.table in
    let is : TableIs known table = c.in_ok-table.ensures.table known shows in
    let ended : c.with_warning.result ≡ ended_by (warns table) c.put_volume-put.result =
    c.with_warning.ensures ∙ ap (λ (b : Bool). ended_by b c.put_volume-put.result) (c.is_unsure.ensures c.table_of.new.sectors) in
    let still = subst (λ (t : Option (List ℕ)). Shows c.args.dump.now t known) (sym c.in_ok-table.ensures.told) shows in
    subst (λ (r : Result Ending Cut). Ends g.K.Sink.means g.M.Sink.means
    (AnswersTo known (commands.Volume c.args.asked.number c.args.asked.whole))
    (record { output = c.args.output.now; sure = c.args.sure.now })
    (record { output = c.put_volume-put.new.output; sure = c.put_volume-put.new.sure }) r) (sym ended)
    (volume_ends g.K.Sink.means g.M.Sink.means known c.args.asked.number c.args.asked.whole table
    (record { output = c.args.output.now; sure = c.args.sure.now })
    (record { output = c.put_volume-put.new.output; sure = c.put_volume-put.new.sure }) c.put_volume-put.result is
    (c.put_volume-put.ensures.puts known still))
