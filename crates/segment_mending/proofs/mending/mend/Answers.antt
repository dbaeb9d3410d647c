use Rattle.std.proofs.Common.{◌≡◌, Err}
use Rattle.command_spec.specs.Scrub.{Looked}
use Rattle.segment_mending.specs.Locating.{mending}
use Rattle.command_laws.proofs.Passing.{passed}
use Rattle.qic_base.specs.declared.store_fault.StoreFault.TheVariants.{Sink, Tape}
use Rattle.segment_mending.proofs.Reading.{goes_broken, goes_unwritten, goes_written}
use Rattle.segment_mending.proofs.mending.mend.Goals as goal

pub returns-in_err-write_lost-clause-goes : goal.returns-in_err-write_lost-clause-goes
returns-in_err-write_lost-clause-goes g c =
    let l : Looked = record { segment = c.args.segment; mask = c.args.usable } in
    let is : c.from_residual.result ≡ Err Tape = passed c.from_residual.result Tape c.from_residual.ensures.1 in
    rw is (goes_broken g.T.Tape.means g.K.Sink.means g.met.K.Sink.took_nothing c.args.unit.now.tape c.write_lost.new.unit.tape
    c.args.sink.now (mending l c.args.lost c.args.wrong c.args.work.now) c.in_err-write_lost.ensures.did)

pub returns-in_err-tell_wrong-clause-goes : goal.returns-in_err-tell_wrong-clause-goes
returns-in_err-tell_wrong-clause-goes g c =
    let l : Looked = record { segment = c.args.segment; mask = c.args.usable } in
    let is : c.from_residual-in_err-tell_wrong.result ≡ Err Sink =
    passed c.from_residual-in_err-tell_wrong.result Sink c.from_residual-in_err-tell_wrong.ensures.1 in
    rw is (goes_unwritten g.T.Tape.means g.K.Sink.means c.args.unit.now.tape c.write_lost.new.unit.tape c.args.sink.now
    c.tell_wrong.new.sink (mending l c.args.lost c.args.wrong c.args.work.now) c.in_ok-write_lost.ensures.did c.in_err-tell_wrong.ensures)

pub returns-clause-goes : goal.returns-clause-goes
returns-clause-goes g c =
    let l : Looked = record { segment = c.args.segment; mask = c.args.usable } in
    goes_written g.T.Tape.means g.K.Sink.means c.args.unit.now.tape c.write_lost.new.unit.tape c.args.sink.now c.tell_wrong.new.sink
    (mending l c.args.lost c.args.wrong c.args.work.now) c.in_ok-write_lost.ensures.did c.in_ok-tell_wrong.ensures
