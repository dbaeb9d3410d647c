use Rattle.std.proofs.Common.{refl, ◌∙◌, arith}
use Rattle.hand_commands.proofs.Running.{begin, next, over, insert_failed, line_failed, end_came}
use Rattle.hand_commands.proofs.pulses.run.run_pulses.Goals as goal

pub returns-in-Err-clause-ends : goal.returns-in-Err-clause-ends
returns-in-Err-clause-ends g c =
    insert_failed record { tape = c.args.unit.now.tape; source = c.args.source.now; sink = c.args.sink.now }
    c.insert.new.self.tape (g.met.K.Sink.took_nothing c.args.sink.now) c.in-Err.ensures.did

pub loop-line-init : goal.loop-line-init
loop-line-init g c = record {
  far = begin record { tape = c.args.unit.now.tape; source = c.args.source.now; sink = c.args.sink.now }
      c.insert.new.self (g.met.K.Sink.took_nothing c.args.sink.now) c.in_default.ensures.did c.in_default.ensures.inserted;
  kept = g.met.S.Source.keeps_itself c.args.source.now;
  tells = refl;
}

pub returns-in-Ok-None-clause-ends : goal.returns-in-Ok-None-clause-ends
returns-in-Ok-None-clause-ends g c =
    over g.met.K.Sink.took_both
    record { tape = c.args.unit.now.tape; source = c.args.source.now; sink = c.args.sink.now }
    record { tape = c.loop-line.unit.tape; source = c.loop-line.source; sink = c.loop-line.sink }
    record { tape = c.carry_out_line.new.unit.tape; source = c.carry_out_line.new.source; sink = c.carry_out_line.new.sink }
    c.loop-line.unit.drive c.carry_out_line.new.unit.drive c.loop-line.line c.loop-line.place c.loop-line.invariant.far (omega arith)
    (rw c.in-Ok-None.field-0-is at c.in-Ok-None.ensures.hears)

pub returns-in-Err-carry_out_line-clause-ends : goal.returns-in-Err-carry_out_line-clause-ends
returns-in-Err-carry_out_line-clause-ends g c =
    line_failed g.met.K.Sink.took_both
    record { tape = c.args.unit.now.tape; source = c.args.source.now; sink = c.args.sink.now }
    record { tape = c.loop-line.unit.tape; source = c.loop-line.source; sink = c.loop-line.sink }
    record { tape = c.carry_out_line.new.unit.tape; source = c.carry_out_line.new.source; sink = c.carry_out_line.new.sink }
    c.loop-line.unit.drive c.carry_out_line.new.unit.drive c.loop-line.line c.loop-line.place c.loop-line.invariant.far (omega arith)
    c.in-Err-carry_out_line.fault c.in-Err-carry_out_line.ensures.hears

pub loop-line-preserved : goal.loop-line-preserved
loop-line-preserved g c =
    record {
      far = next g.met.K.Sink.took_both
          record { tape = c.args.unit.now.tape; source = c.args.source.now; sink = c.args.sink.now }
          record { tape = c.loop-line.unit.tape; source = c.loop-line.source; sink = c.loop-line.sink }
          record { tape = c.carry_out_line.new.unit.tape; source = c.carry_out_line.new.source; sink = c.carry_out_line.new.sink }
          c.loop-line.unit.drive c.carry_out_line.new.unit.drive c.loop-line.line c.loop-line.place c.loop-line.invariant.far
          c.from-place.result (rw c.from-place.ensures (rw c.in-Ok-Some.field-0-is at c.in-Ok-Some.ensures.hears));
      kept = g.met.S.Source.keeps_on c.args.source.now c.loop-line.source c.carry_out_line.new.source c.loop-line.invariant.kept
          c.in-Ok-Some.ensures.kept;
      tells = c.in-Ok-Some.ensures.source_tells ∙ c.loop-line.invariant.tells;
    }

pub returns-clause-ends : goal.returns-clause-ends
returns-clause-ends g c =
    end_came g.met.K.Sink.took_both
    record { tape = c.args.unit.now.tape; source = c.args.source.now; sink = c.args.sink.now }
    record { tape = c.loop-line.unit.tape; source = c.loop-line.source; sink = c.loop-line.sink }
    c.loop-line.unit.drive c.end_input.new.source c.loop-line.line c.loop-line.place c.loop-line.invariant.far (omega arith)
    (g.met.K.Sink.took_nothing c.loop-line.sink) c.end_input.result c.end_input.ensures.later c.end_input.ensures.stood
    c.end_input.ensures.hears
