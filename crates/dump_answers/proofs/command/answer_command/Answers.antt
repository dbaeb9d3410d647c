use Rattle.std.proofs.Common.{false, sym, subst}
use Rattle.std.specs.Prelude.{Result}
use Rattle.dump_spec.specs.Answers.{AnswersTo}
use Rattle.dump_spec.specs.Volumes.{carried_between}
use Rattle.dump_spec.specs.declared.asked.Command.{Command}
use Rattle.dump_spec.specs.declared.asked.Command.TheVariants as commands
use Rattle.dump_answers.specs.Commands.{ended_by}
use Rattle.dump_answers.specs.Ends.{Ends}
use Rattle.dump_answers.specs.declared.ending.Cut.{Cut}
use Rattle.dump_answers.specs.declared.ending.Ending.{Ending}
use Rattle.dump_answers.proofs.Commands.{checks_print, prints_end, segments_end}
use Rattle.dump_answers.proofs.command.answer_command.Goals as goal

pub returns-in-Info-clause-ends : goal.returns-in-Info-clause-ends
returns-in-Info-clause-ends g c = λ known shows.
    subst (λ (command : Command). Ends g.K.Sink.means g.M.Sink.means (AnswersTo known command)
    (record { output = c.args.output.now; sure = c.args.sure.now })
    (record { output = c.answer_info.new.output; sure = c.args.sure.now }) c.answer_info.result) (sym c.in-Info.is)
    (prints_end g.K.Sink.means g.M.Sink.means (AnswersTo known commands.Info) c.args.output.now c.answer_info.new.output c.args.sure.now
    c.answer_info.result (g.met.M.Sink.took_nothing _) (c.answer_info.ensures.prints known shows))

pub returns-in-List-clause-ends : goal.returns-in-List-clause-ends
returns-in-List-clause-ends g c = λ known shows.
    subst (λ (command : Command). Ends g.K.Sink.means g.M.Sink.means (AnswersTo known command)
    (record { output = c.args.output.now; sure = c.args.sure.now })
    (record { output = c.answer_list.new.output; sure = c.args.sure.now }) c.answer_list.result) (sym c.in-List.is)
    (prints_end g.K.Sink.means g.M.Sink.means (AnswersTo known commands.List) c.args.output.now c.answer_list.new.output c.args.sure.now
    c.answer_list.result (g.met.M.Sink.took_nothing _) (c.answer_list.ensures.prints known shows))

pub returns-in-Check-clause-ends : goal.returns-in-Check-clause-ends
returns-in-Check-clause-ends g c = λ known shows.
    subst (λ (command : Command). Ends g.K.Sink.means g.M.Sink.means (AnswersTo known command)
    (record { output = c.args.output.now; sure = c.args.sure.now })
    (record { output = c.check_dump.new.output; sure = c.args.sure.now }) c.with_warning.result) (sym c.in-Check.is)
    (subst (λ (r : Result Ending Cut). Ends g.K.Sink.means g.M.Sink.means (AnswersTo known commands.Check)
    (record { output = c.args.output.now; sure = c.args.sure.now })
    (record { output = c.check_dump.new.output; sure = c.args.sure.now }) r) (sym c.with_warning.ensures)
    (prints_end g.K.Sink.means g.M.Sink.means (AnswersTo known commands.Check) c.args.output.now c.check_dump.new.output c.args.sure.now
    (ended_by false c.check_dump.result) (g.met.M.Sink.took_nothing _)
    (checks_print g.K.Sink.means known c.args.output.now c.check_dump.new.output c.check_dump.result
    (c.check_dump.ensures.checks known shows))))

pub returns-in-Segments-clause-ends : goal.returns-in-Segments-clause-ends
returns-in-Segments-clause-ends g c = λ known shows.
    subst (λ (command : Command). Ends g.K.Sink.means g.M.Sink.means (AnswersTo known command)
    (record { output = c.args.output.now; sure = c.args.sure.now })
    (record { output = c.put_segments-put.new.output; sure = c.put_segments-put.new.sure }) c.with_warning-in-Segments.result)
    (sym c.in-Segments.is)
    (subst (λ (r : Result Ending Cut). Ends g.K.Sink.means g.M.Sink.means
    (AnswersTo known (commands.Segments c.in-Segments.first c.in-Segments.last))
    (record { output = c.args.output.now; sure = c.args.sure.now })
    (record { output = c.put_segments-put.new.output; sure = c.put_segments-put.new.sure }) r) (sym c.with_warning-in-Segments.ensures)
    (segments_end g.K.Sink.means g.M.Sink.means known c.in-Segments.first c.in-Segments.last
    (carried_between known.layout.masks c.in-Segments.first c.in-Segments.last)
    (record { output = c.args.output.now; sure = c.args.sure.now })
    (record { output = c.put_segments-put.new.output; sure = c.put_segments-put.new.sure }) c.put_segments-put.result
    (c.put_segments-put.ensures.puts known shows)))
