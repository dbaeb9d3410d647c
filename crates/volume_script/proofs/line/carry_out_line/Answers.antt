use Rattle.std.proofs.Common.{◌≡◌, ◌∙◌, Some, refl, inr, subst, arith}
use Rattle.qic_base.specs.SourceCalls.{Gave}
use Rattle.volume_script.proofs.Hearing.{ends_script, heard_item, heard_failed, unheard}
use Rattle.volume_script.proofs.Input.{end_text, line_short}
use Rattle.command_laws.proofs.ScriptLifting.{rested}
use Rattle.volume_script.proofs.Telling.{gave_tells}
use Rattle.command_spec.specs.declared.status.Status.TheVariants as status
use Rattle.qic_base.specs.declared.store_fault.StoreFault.TheVariants as fault
use Rattle.volume_script.proofs.line.carry_out_line.Goals as goal

pub returns-in-Ok-Line-End-default-clause-hears : goal.returns-in-Ok-Line-End-default-clause-hears
returns-in-Ok-Line-End-default-clause-hears g c =
    let read = rw c.in-Ok-Line-End-default.field-0-0-is at
    (rw c.in-Ok-Line-End-default.field-0-is at c.in-Ok-Line-End-default.ensures.read) in (
      rested g.T.Tape.means g.S.Source.means g.K.Sink.means g.met.K.Sink.took_nothing c.args.unit.now.tape c.args.source.now
          c.read_line.new.source c.args.sink.now
          c.in-Ok-Line-End-default.ensures.cause.stood,
      refl,
      inr (subst (Gave g.S.Source.means c.args.source.now c.read_line.new.source) (end_text read.0 read.1) read.3),
    )

pub returns-in-Ok : goal.returns-in-Ok
returns-in-Ok g c =
    let read = rw c.in-Ok-Line.field-0-is at c.in-Ok-Line.ensures.read in
    record {
      hears = rw (c.from.ensures, c.from-in-Ok.ensures, c.promised.ensures.bytes)
          (heard_item g.T.Tape.means g.S.Source.means g.K.Sink.means c.args.store.now c.carry_out.new.store c.args.unit.now.tape
          c.carry_out.new.unit.tape c.args.source.now c.read_line.new.source c.carry_out.new.source
          c.args.sink.now c.carry_out.new.sink c.in-Ok-Line.ensures.cause.stood c.in-Ok-Line.asked read.0 read.1 c.in-Ok.ensures.other
          read.3 c.in-Ok-Line.read read.2 c.in-Ok.ensures.ends);
      few = let short = line_short read.0 c.in-Ok-Line.asked read.1 in let long = read.2 in let wide = c.promised.ensures.few in
          let sum = c.from.ensures in let more = c.from-in-Ok.ensures in omega arith;
      fits = λ other. c.in-Ok.ensures.fits (λ e. cc);
      format = c.in-Ok.ensures.format;
      kept = g.met.S.Source.keeps_on c.args.source.now c.read_line.new.source c.carry_out.new.source c.in-Ok-Line.ensures.kept
          c.in-Ok.ensures.kept;
      tells = c.in-Ok.ensures.tells ∙ gave_tells g.S.Source.means c.args.source.now c.read_line.new.source read.0 read.3;
    }

pub status_behind-requires : goal.status_behind-requires
status_behind-requires g c =
    let read = rw c.in-Ok-Line.field-0-is at c.in-Ok-Line.ensures.read in
    record {
      ends = ends_script g.T.Tape.means g.S.Source.means g.K.Sink.means c.args.store.now c.carry_out.new.store c.args.unit.now.tape
          c.carry_out.new.unit.tape c.args.source.now c.read_line.new.source c.carry_out.new.source
          c.args.sink.now c.carry_out.new.sink c.in-Ok-Line.ensures.cause.stood c.in-Ok-Line.asked read.0 read.1
          c.in-Err-carry_out.ensures.other read.3 c.args.line c.args.place c.in-Err-carry_out.fault c.in-Err-carry_out.ensures.ends;
    }

pub returns-in-Err-carry_out : goal.returns-in-Err-carry_out
returns-in-Err-carry_out g c =
    let read = rw c.in-Ok-Line.field-0-is at c.in-Ok-Line.ensures.read in
    record {
      hears = heard_failed g.T.Tape.means g.S.Source.means g.K.Sink.means c.args.store.now c.carry_out.new.store c.args.unit.now.tape
          c.carry_out.new.unit.tape c.args.source.now c.read_line.new.source c.carry_out.new.source
          c.args.sink.now c.carry_out.new.sink c.in-Ok-Line.ensures.cause.stood c.in-Ok-Line.asked read.0 read.1
          c.in-Err-carry_out.ensures.other read.3 c.args.line c.args.place c.in-Err-carry_out.fault c.status_behind.result c.requires.within
          c.status_behind.ensures c.in-Err-carry_out.ensures.ends;
      few = tt;
      fits = λ other. c.in-Err-carry_out.ensures.fits (λ e.
          let tape : c.in-Err-carry_out.fault ≡ fault.Tape = cc in
          let is : Some c.status_behind.result ≡ Some status.TapeFault = rw tape at c.status_behind.ensures in other (cc));
      format = c.in-Err-carry_out.ensures.format;
      kept = g.met.S.Source.keeps_on c.args.source.now c.read_line.new.source c.carry_out.new.source c.in-Ok-Line.ensures.kept
          c.in-Err-carry_out.ensures.kept;
      tells = c.in-Err-carry_out.ensures.tells ∙ gave_tells g.S.Source.means c.args.source.now c.read_line.new.source read.0 read.3;
    }

pub returns-in-Err-clause-hears : goal.returns-in-Err-clause-hears
returns-in-Err-clause-hears g c =
    unheard g.T.Tape.means g.S.Source.means g.K.Sink.means c.args.store.now c.args.store.now c.args.unit.now.tape c.args.unit.now.tape
    c.args.source.now c.read_line.new.source c.read_line.new.source
    c.args.sink.now c.args.sink.now c.in-Err.ensures.cause.later g.met.K.Sink.took_nothing c.args.line c.args.place
    c.in-Err.ensures.cause.failed c.in-Err.ensures.read
