use Rattle.std.proofs.Common.{[], drop, refl, arith}
use Rattle.std.proofs.lemmas.List.{take-append-drop}
use Rattle.qic_base.specs.Sink.{Wrote}
use Rattle.qic_base.specs.SinkCalls.{BrokeOff}
use Rattle.qic_base.proofs.Writing.{Wrote-Wrote, Wrote-BrokeOff}
use Rattle.qic_base.proofs.Arrays.{front_more, front_within, some_left}
use Rattle.qic_base.proofs.write.write_text.Goals as goal

pub loop-at-preserved : goal.loop-at-preserved
loop-at-preserved g c =
    let next : Wrote g.K.Sink.means c.loop-at.sink c.write.new.self _ =
    record { took = c.in-Ok.ensures.takes.2; later = c.in-Ok.ensures.cause.stood } in
    record {
      within = front_within c.args.text.now c.loop-at.at c.in-Ok.written c.loop-at.invariant.within c.in-Ok.ensures.takes.1;
      wrote = rw (← front_more c.args.text.now c.loop-at.at c.in-Ok.written c.in-Ok.ensures.takes.1)
          (Wrote-Wrote g.met.K.Sink.took_both c.loop-at.invariant.wrote next);
    }

pub returns-in-Err : goal.returns-in-Err
returns-in-Err g c =
    let broke : BrokeOff g.K.Sink.means c.loop-at.sink c.write.new.self (drop c.loop-at.at c.args.text.now) = record {
      front = [];
      rest = drop c.loop-at.at c.args.text.now;
      parts = refl;
      some = some_left c.args.text.now c.loop-at.at (omega arith);
      took = c.in-Err.ensures.takes;
      cause = c.in-Err.ensures.cause.failed;
      later = c.in-Err.ensures.cause.later;
    } in
    rw (← take-append-drop c.loop-at.at c.args.text.now) (Wrote-BrokeOff g.met.K.Sink.took_both c.loop-at.invariant.wrote broke)
