use Rattle.std.proofs.Common.{◌∙◌, inl, inr, ap}
use Rattle.file_streams.specs.FileSink.{file_of}
use Rattle.tape_salvage.proofs.Running.{cut_before, refused_by, refusal_by}
use Rattle.tape_salvage.proofs.run.salvage_files.Goals as goal

pub returns-in-Ok-true-clause-answers : goal.returns-in-Ok-true-clause-answers
returns-in-Ok-true-clause-answers g c = λ inputs tells.
    inl (c.answer_files.ensures.writes inputs tells.read
    (refused_by g.D.Disk.means (file_of c.args.sure.now) inputs.sure c.in-Ok-true.field-0 tells.sure c.in-Ok-true.ensures.empty
    ∙ ap refusal_by c.in-Ok-true.field-0-test))

pub returns-in-Err-clause-answers : goal.returns-in-Err-clause-answers
returns-in-Err-clause-answers g c = λ inputs tells.
    inl (inr (inl (cut_before g.K.Sink.means inputs c.args.asked.now c.args.output.now c.make_ending-in-Err.result
    (g.met.K.Sink.took_nothing c.args.output.now) c.make_ending-in-Err.ensures.status c.make_ending-in-Err.ensures.warned)))
