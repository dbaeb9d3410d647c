use Rattle.std.proofs.Common.{Err, subst}
use Rattle.qic_base.specs.Alone.{around}
use Rattle.qic_base.specs.declared.store_fault.StoreFault.{StoreFault}
use Rattle.made_volumes.specs.Runs.{MakeEnds}
use Rattle.tape_cmd.proofs.Made.{make_done, make_failed, make_refused}
use Rattle.tape_cmd.proofs.command.make.make.Goals as goal

pub returns-in-Err : goal.returns-in-Err
returns-in-Err g c =
    make_refused g.T.Tape.means g.K.Sink.means c.args.seed c.args.count c.args.unit.now.tape c.open_writable.new.unit c.args.sink.now
    c.in-Err.status g.met.K.Sink.took_nothing c.in-Err.ensures

pub returns-in-Ok-make_volumes : goal.returns-in-Ok-make_volumes
returns-in-Ok-make_volumes g c =
    make_done g.T.Tape.means g.K.Sink.means c.args.seed c.args.count c.args.unit.now.tape c.open_writable.new.unit
    c.in-Ok.store c.in-Ok.ensures.1 c.in-Ok.ensures.0
    c.make_volumes.new.unit.tape c.args.sink.now c.make_volumes.new.sink g.met.K.Sink.took_both
    g.met.K.Sink.took_nothing c.in-Ok-make_volumes.ensures.ends

pub store_status-requires : goal.store_status-requires
store_status-requires g c = λ promised read is.
    subst (λ (f : StoreFault). MakeEnds g.T.Tape.means g.K.Sink.means c.in-Ok.store c.args.seed c.args.count
    (around c.open_writable.new.unit.tape c.args.sink.now) (around c.make_volumes.new.unit.tape c.make_volumes.new.sink) (Err f)) is
    c.in-Err-make_volumes.ensures.ends

pub returns : goal.returns
returns g c =
    rw c.store_status.ensures (make_failed g.T.Tape.means g.K.Sink.means c.args.seed c.args.count c.args.unit.now.tape
    c.open_writable.new.unit c.in-Ok.store c.in-Ok.ensures.1 c.in-Ok.ensures.0
    c.make_volumes.new.unit.tape c.args.sink.now c.make_volumes.new.sink c.in-Err-make_volumes.fault g.met.K.Sink.took_both
    g.met.K.Sink.took_nothing c.in-Err-make_volumes.ensures.ends)
