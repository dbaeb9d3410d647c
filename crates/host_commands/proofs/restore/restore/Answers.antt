use Rattle.std.proofs.Common.{◌≤◌, ℕ, false, Err, subst}
use Rattle.qic_base.specs.Alone.{around}
use Rattle.qic_base.specs.declared.store_fault.StoreFault.{StoreFault}
use Rattle.volume_store.specs.Restoring.{RestoreEnds}
use Rattle.host_commands.proofs.Restored.{restore_refused, restore_done, restore_failed}
use Rattle.host_commands.proofs.restore.restore.Goals as goal

pub returns-in-Err : goal.returns-in-Err
returns-in-Err g c =
    restore_refused g.T.Tape.means g.K.Sink.means c.args.number c.args.unit.now.tape c.open.new.unit c.args.sink.now c.in-Err.status
    g.met.K.Sink.took_nothing c.in-Err.ensures

pub returns-in-Ok-restore : goal.returns-in-Ok-restore
returns-in-Ok-restore g c =
    restore_done g.T.Tape.means g.K.Sink.means c.args.number c.args.unit.now.tape c.open.new.unit c.in-Ok.store c.in-Ok.ensures
    (subst (λ (n : ℕ). n ≤ 232) c.count.ensures.count c.count.ensures.few) c.restore.new.unit.tape c.args.sink.now
    c.restore.new.sink c.in-Ok-restore.field-0 g.met.K.Sink.took_both g.met.K.Sink.took_nothing c.in-Ok-restore.ensures.ends

pub returns : goal.returns
returns g c =
    rw c.store_status.ensures (restore_failed g.T.Tape.means g.K.Sink.means c.args.number c.args.unit.now.tape c.open.new.unit c.in-Ok.store
    c.in-Ok.ensures (subst (λ (n : ℕ). n ≤ 232) c.count.ensures.count c.count.ensures.few)
    c.restore.new.unit.tape c.args.sink.now c.restore.new.sink c.in-Err-restore.fault g.met.K.Sink.took_both g.met.K.Sink.took_nothing
    c.in-Err-restore.ensures.ends)

pub store_status-requires : goal.store_status-requires
store_status-requires g c = λ promised read is.
    subst (λ (f : StoreFault). RestoreEnds g.T.Tape.means g.K.Sink.means c.in-Ok.store c.args.number false
    (around c.open.new.unit.tape c.args.sink.now) (around c.restore.new.unit.tape c.restore.new.sink) (Err f)) is
    c.in-Err-restore.ensures.ends
