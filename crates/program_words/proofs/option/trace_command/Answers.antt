use Rattle.std.proofs.lemmas.Result.{IfOk-weaker}
use Rattle.program_words.proofs.option.trace_command.Goals as goal

pub returns : goal.returns
returns c =
    IfOk-weaker c.arg.result _ _ (λ m h. record {
      start = c.new.result;
      option = c.gap_option.result;
      empty = record { app = c.new.ensures.app; args = c.new.ensures.empty.0; groups = c.new.ensures.empty.1; local = c.new.ensures.local };
      gap = c.gap_option.ensures;
      adds = h;
    }) c.arg.ensures
