use Rattle.std.proofs.Common.{◌≡◌, Ok, Err, arith}
use Rattle.std.proofs.lemmas.Grind.{common_steps}
use Rattle.qic_base.specs.declared.sink.SinkFailed.{SinkFailed}
use Rattle.qic_base.specs.declared.store_fault.StoreFault.{StoreFault}
use Rattle.qic_base.specs.declared.store_fault.StoreFault.TheVariants as fault
use Rattle.made_volumes.proofs.Sums.{sum_printed, restore_so_at}
use Rattle.made_volumes.proofs.summing.sum_volume.Goals as goal

pub returns-in_err-bytes-clause-ends : goal.returns-in_err-bytes-clause-ends
returns-in_err-bytes-clause-ends g c = λ seed.
    let why : StoreFault = c.in_err-bytes.field-0.0 in
    let is : c.from_residual.result ≡ Err why = grind (arith, common_steps, c.from_residual.ensures) in
    rw is (restore_so_at g.T.Tape.means g.K.Sink.means seed c.args.store.now c.args.number c.args.unit.now.tape
    c.restore.new.unit.tape c.args.sink.now g.met.K.Sink.took_nothing c.restore.new.sink
    c.new-summed.result c.new-summed.ensures c.requires.some c.requires.within why c.in_err-bytes.ensures.ends).0

pub returns-in_err-bytes-clause-room : goal.returns-in_err-bytes-clause-room
returns-in_err-bytes-clause-room g c =
    let why : StoreFault = c.in_err-bytes.field-0.0 in
    let is : c.from_residual.result ≡ Err why = grind (arith, common_steps, c.from_residual.ensures) in
    rw is (restore_so_at g.T.Tape.means g.K.Sink.means 0 c.args.store.now c.args.number c.args.unit.now.tape
    c.restore.new.unit.tape c.args.sink.now g.met.K.Sink.took_nothing c.restore.new.sink
    c.new-summed.result c.new-summed.ensures c.requires.some c.requires.within why c.in_err-bytes.ensures.ends).1

pub returns-clause-ends : goal.returns-clause-ends
returns-clause-ends g c = λ seed.
    sum_printed g.T.Tape.means g.K.Sink.means seed c.args.store.now c.args.number c.args.unit.now.tape c.restore.new.unit.tape
    c.args.sink.now g.met.K.Sink.took_nothing c.restore.new.sink
    c.write_text.new.sink c.in_ok-bytes.bytes (Ok c.in_ok-write_text.field-0) (omega (arith, c.sum.ensures, c.sum.type_inv))
    (rw c.new-summed.ensures at c.in_ok-bytes.ensures.ends)
    (rw (c.bytes.ensures, c.sum_text.ensures, c.sum.ensures) at c.in_ok-write_text.ensures)

pub returns-in_err-write_text-clause-ends : goal.returns-in_err-write_text-clause-ends
returns-in_err-write_text-clause-ends g c = λ seed.
    let why : SinkFailed = c.in_err-write_text.field-0.0 in
    let is : c.from_residual-in_err-write_text.result ≡ Err fault.Sink =
    grind (arith, common_steps, c.from_residual-in_err-write_text.ensures) in
    rw is (sum_printed g.T.Tape.means g.K.Sink.means seed c.args.store.now c.args.number c.args.unit.now.tape c.restore.new.unit.tape
    c.args.sink.now g.met.K.Sink.took_nothing c.restore.new.sink
    c.write_text.new.sink c.in_ok-bytes.bytes (Err why) (omega (arith, c.sum.ensures, c.sum.type_inv))
    (rw c.new-summed.ensures at c.in_ok-bytes.ensures.ends)
    (rw (c.bytes.ensures, c.sum_text.ensures, c.sum.ensures) at c.in_err-write_text.ensures))
