use Rattle.std.proofs.Common.{◌∙◌, refl, arith}
use Rattle.std.proofs.lemmas.Result.{err_from_is_err_and}
use Rattle.volume_script.proofs.Running.{begin, next, over, line_failed, end_over, end_failed}
use Rattle.volume_script.proofs.run.run_script.Goals as goal

pub loop-line-init : goal.loop-line-init
loop-line-init g c = record {
  far = begin c.args.store.now record { tape = c.args.unit.now.tape; source = c.args.source.now; sink = c.args.sink.now }
      g.met.K.Sink.took_nothing;
  fits = c.requires.fits;
  format = record { header = refl; words = refl };
  kept = g.met.S.Source.keeps_itself c.args.source.now;
  tells = refl;
}

pub returns-in-None-clause-ends : goal.returns-in-None-clause-ends
returns-in-None-clause-ends g c =
    over g.met.K.Sink.took_both g.met.K.Sink.took_nothing c.args.store.now c.loop-line.store
    record { tape = c.args.unit.now.tape; source = c.args.source.now; sink = c.args.sink.now }
    record { tape = c.loop-line.unit.tape; source = c.loop-line.source; sink = c.loop-line.sink }
    c.loop-line.line c.loop-line.place c.loop-line.invariant.far (omega arith)
    record { tape = c.carry_out_line.new.unit.tape; source = c.carry_out_line.new.source; sink = c.carry_out_line.new.sink }
    c.carry_out_line.new.store c.write_end.new.sink c.write_end.result (rw c.in-None.is at c.in_ok-read.ensures.hears)
    c.write_end.ensures

pub returns-in_err-read-clause-ends : goal.returns-in_err-read-clause-ends
returns-in_err-read-clause-ends g c =
    let p = err_from_is_err_and c.from_residual.result c.from_residual.ensures.1 in
    rw (p.1, p.2)
    (line_failed g.met.K.Sink.took_both g.met.K.Sink.took_nothing c.args.store.now c.loop-line.store
    record { tape = c.args.unit.now.tape; source = c.args.source.now; sink = c.args.sink.now }
    record { tape = c.loop-line.unit.tape; source = c.loop-line.source; sink = c.loop-line.sink }
    c.loop-line.line c.loop-line.place c.loop-line.invariant.far (omega arith)
    record { tape = c.carry_out_line.new.unit.tape; source = c.carry_out_line.new.source; sink = c.carry_out_line.new.sink }
    c.carry_out_line.new.store (omega arith) c.in_err-read.field-0.0 c.in_err-read.ensures.hears)

pub loop-line-preserved : goal.loop-line-preserved
loop-line-preserved g c = record {
  far = next g.met.K.Sink.took_both c.args.store.now c.loop-line.store c.carry_out_line.new.store
      record { tape = c.args.unit.now.tape; source = c.args.source.now; sink = c.args.sink.now }
      record { tape = c.loop-line.unit.tape; source = c.loop-line.source; sink = c.loop-line.sink }
      record { tape = c.carry_out_line.new.unit.tape; source = c.carry_out_line.new.source; sink = c.carry_out_line.new.sink }
      c.loop-line.line c.loop-line.place c.loop-line.invariant.far c.in-Some.read c.in_ok-read.ensures.format.words
      (rw c.in-Some.is at c.in_ok-read.ensures.few)
      (rw c.in-Some.is at c.in_ok-read.ensures.hears);
  fits = c.in_ok-read.ensures.fits (λ e. cc);
  format = record {
    header = c.in_ok-read.ensures.format.header ∙ c.loop-line.invariant.format.header;
    words = c.in_ok-read.ensures.format.words ∙ c.loop-line.invariant.format.words;
  };
  kept = g.met.S.Source.keeps_on c.args.source.now c.loop-line.source c.carry_out_line.new.source c.loop-line.invariant.kept
      c.in_ok-read.ensures.kept;
  tells = c.in_ok-read.ensures.tells ∙ c.loop-line.invariant.tells;
}

pub returns-clause-ends : goal.returns-clause-ends
returns-clause-ends g c =
    end_over g.met.K.Sink.took_both g.met.K.Sink.took_nothing c.args.store.now c.loop-line.store
    record { tape = c.args.unit.now.tape; source = c.args.source.now; sink = c.args.sink.now }
    record { tape = c.loop-line.unit.tape; source = c.loop-line.source; sink = c.loop-line.sink }
    c.loop-line.line c.loop-line.place c.loop-line.invariant.far (omega arith)
    c.end_input.new.source c.write_end-2.new.sink c.write_end-2.result
    (c.in_ok-end_input.ensures.stood (λ e. cc)) c.in_ok-end_input.ensures.hears c.write_end-2.ensures

pub returns-in_err-end_input-clause-ends : goal.returns-in_err-end_input-clause-ends
returns-in_err-end_input-clause-ends g c =
    let p = err_from_is_err_and c.from_residual-in_err-end_input.result c.from_residual-in_err-end_input.ensures.1 in
    rw (p.1, p.2)
    (end_failed g.met.K.Sink.took_both g.met.K.Sink.took_nothing c.args.store.now c.loop-line.store
    record { tape = c.args.unit.now.tape; source = c.args.source.now; sink = c.args.sink.now }
    record { tape = c.loop-line.unit.tape; source = c.loop-line.source; sink = c.loop-line.sink }
    c.loop-line.line c.loop-line.place c.loop-line.invariant.far (omega arith)
    c.end_input.new.source c.in_err-end_input.field-0.0 (omega arith) c.in_err-end_input.ensures.later
    (λ other. c.in_err-end_input.ensures.stood (λ e. other (cc))) c.in_err-end_input.ensures.hears)
