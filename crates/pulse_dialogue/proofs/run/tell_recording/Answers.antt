use Rattle.std.proofs.Common.{ℕ, Err, sym, subst, arith, ◌∙◌}
use Rattle.pulse_dialogue.specs.declared.teller.Teller.{Teller}
use Rattle.pulse_dialogue.specs.Steps.{Told}
use Rattle.pulse_dialogue.proofs.Running.{SoFar, begin, has_room, next, over, line_failed, end_came, sink_rose, sink_later}
use Rattle.pulse_dialogue.proofs.run.tell_recording.Goals as goal

pub loop-line-init : goal.loop-line-init
loop-line-init g c = record {
  far = subst (λ (t : Teller). SoFar g.S.Source.means g.K.Sink.means c.args.gap record {
    source = c.args.source.now;
    sink = c.args.sink.now;
  }
      record { teller = t; source = c.args.source.now; sink = c.args.sink.now } 0 0)
      (sym c.new-teller.ensures)
      (begin g.S.Source.means g.K.Sink.means c.args.gap c.args.source.now c.args.sink.now
      (record { took = g.met.K.Sink.took_nothing c.args.sink.now; later = omega arith }));
  bound = omega arith;
  kept = g.met.S.Source.keeps_itself c.args.source.now;
  later = omega arith;
}

pub tell_line-requires-clause-sound : goal.tell_line-requires-clause-sound
tell_line-requires-clause-sound g c = c.loop-line.invariant.far.sound

pub tell_line-requires-clause-room : goal.tell_line-requires-clause-room
tell_line-requires-clause-room g c =
    has_room c.loop-line.teller.open_train c.loop-line.line c.loop-line.invariant.far.counts (omega arith)

pub tell_end-requires : goal.tell_end-requires
tell_end-requires g c = c.loop-line.invariant.far.sound

pub returns-in-Ok-None-clause-tells : goal.returns-in-Ok-None-clause-tells
returns-in-Ok-None-clause-tells g c =
    let hears = rw c.in-Ok-None.field-0-is at c.in-Ok-None.ensures.hears in
    over g.S.Source.means g.K.Sink.means c.args.gap
    record { source = c.args.source.now; sink = c.args.sink.now }
    record { teller = c.loop-line.teller; source = c.loop-line.source; sink = c.loop-line.sink }
    record { teller = c.tell_line.new.teller; source = c.tell_line.new.source; sink = c.tell_line.new.sink }
    c.loop-line.line c.loop-line.place c.loop-line.invariant.far (omega arith) g.met.K.Sink.took_both hears

pub returns-in-Err-clause-tells : goal.returns-in-Err-clause-tells
returns-in-Err-clause-tells g c =
    line_failed g.S.Source.means g.K.Sink.means c.args.gap
    record { source = c.args.source.now; sink = c.args.sink.now }
    record { teller = c.loop-line.teller; source = c.loop-line.source; sink = c.loop-line.sink }
    record { teller = c.tell_line.new.teller; source = c.tell_line.new.source; sink = c.tell_line.new.sink }
    c.loop-line.line c.loop-line.place c.loop-line.invariant.far g.met.K.Sink.took_both (omega arith) c.in-Err.fault c.in-Err.ensures.hears

pub loop-line-preserved : goal.loop-line-preserved
loop-line-preserved g c =
    let hears = rw c.in-Ok-Some.field-0-is at c.in-Ok-Some.ensures.hears in
    record {
      far = next g.S.Source.means g.K.Sink.means c.args.gap
          record { source = c.args.source.now; sink = c.args.sink.now }
          record { teller = c.loop-line.teller; source = c.loop-line.source; sink = c.loop-line.sink }
          record { teller = c.tell_line.new.teller; source = c.tell_line.new.source; sink = c.tell_line.new.sink }
          c.loop-line.line c.loop-line.place c.loop-line.invariant.far c.from-place.result g.met.K.Sink.took_both
          (subst (λ (n : ℕ). Told g.S.Source.means g.K.Sink.means
          record { teller = c.loop-line.teller; source = c.loop-line.source; sink = c.loop-line.sink }
          record { teller = c.tell_line.new.teller; source = c.tell_line.new.source; sink = c.tell_line.new.sink } n)
          (sym c.from-place.ensures) hears);
      bound = let short = hears.read.short in let long = hears.long in let value = c.from-place.ensures in omega arith;
      kept = g.met.S.Source.keeps_on c.args.source.now c.loop-line.source c.tell_line.new.source c.loop-line.invariant.kept
          c.in-Ok-Some.ensures.kept;
      later = c.in-Ok-Some.ensures.stood (λ e. cc) ∙ c.loop-line.invariant.later;
    }

pub returns-clause-tells : goal.returns-clause-tells
returns-clause-tells g c =
    end_came g.S.Source.means g.K.Sink.means c.args.gap
    record { source = c.args.source.now; sink = c.args.sink.now }
    record { teller = c.loop-line.teller; source = c.loop-line.source; sink = c.loop-line.sink }
    record { teller = c.tell_end.new.teller; source = c.tell_end.new.source; sink = c.tell_end.new.sink }
    c.loop-line.line c.loop-line.place c.loop-line.invariant.far g.met.K.Sink.took_both
    (omega arith) c.tell_end.result c.tell_end.ensures.hears

pub returns-in-Err-clause-sink_fault : goal.returns-in-Err-clause-sink_fault
returns-in-Err-clause-sink_fault g c e =
    sink_rose g.S.Source.means g.K.Sink.means c.args.gap
    record { source = c.args.source.now; sink = c.args.sink.now } record { source = c.tell_line.new.source; sink = c.tell_line.new.sink }
    (Err c.in-Err.fault) (returns-in-Err-clause-tells g c) e

pub returns-in-Err-clause-sink_later : goal.returns-in-Err-clause-sink_later
returns-in-Err-clause-sink_later g c =
    sink_later g.S.Source.means g.K.Sink.means c.args.gap
    record { source = c.args.source.now; sink = c.args.sink.now } record { source = c.tell_line.new.source; sink = c.tell_line.new.sink }
    (Err c.in-Err.fault) (returns-in-Err-clause-tells g c)

pub returns-clause-sink_fault : goal.returns-clause-sink_fault
returns-clause-sink_fault g c e =
    sink_rose g.S.Source.means g.K.Sink.means c.args.gap
    record { source = c.args.source.now; sink = c.args.sink.now } record { source = c.tell_end.new.source; sink = c.tell_end.new.sink }
    c.tell_end.result (returns-clause-tells g c) e

pub returns-clause-sink_later : goal.returns-clause-sink_later
returns-clause-sink_later g c =
    sink_later g.S.Source.means g.K.Sink.means c.args.gap
    record { source = c.args.source.now; sink = c.args.sink.now } record { source = c.tell_end.new.source; sink = c.tell_end.new.sink }
    c.tell_end.result (returns-clause-tells g c)
