use Rattle.std.proofs.Common.{◌≡◌, ℕ, ◌<◌, [], ◌∷◌, true, arith, Err}
use Rattle.qic_base.specs.Alone.{around}
use Rattle.qic_base.specs.Tape.{Meaning}
use Rattle.command_spec.specs.Scrub.{whole_segment}
use Rattle.drive_spec.specs.Terms.{is_referenced}
use Rattle.drive_states.specs.Unit.{UnitView}
use Rattle.host_driver.specs.declared.host.Host.{Host}
use Rattle.host_driver.specs.Calls.{IsReady, MayWrite, Keeps}
use Rattle.host_driver.proofs.Keeping.{cartridge_kept, may_write_kept}
use Rattle.segment_io.specs.Calls.{CanWrite}
use Rattle.segment_io.proofs.Going.{front_segment}
use Rattle.qic_base.specs.declared.store_fault.StoreFault.{StoreFault}
use Rattle.segment_mending.specs.Looking.{HasLooked, Looks}
use Rattle.segment_mending.proofs.Joining.{looked_both, looks_then, looks_longer}
use Rattle.command_laws.proofs.Passing.{passed}
use Rattle.segment_mending.proofs.scrubbing.look_at_front.Goals as goal

-- a host that is ready can write a segment in front
can_write : {T : Type 0} {m : Meaning T} {h : Host} {u : UnitView T} (segment : ℕ) → IsReady m h u → is_referenced u.drive.deck ≡ true →
    MayWrite u.drive.deck → segment < 3 → CanWrite m h u segment 4294967295
can_write segment ready referenced may front =
    record { ready = ready; segment = front_segment segment ready.fits referenced front; writable = may }

-- and another behind it
can_write_next : {T : Type 0} {m : Meaning T} {h k : Host} {a b : UnitView T} (before segment : ℕ) →
    CanWrite m h a before 4294967295 → Keeps m k a b → segment < 3 → CanWrite m k b segment 4294967295
can_write_next {a = a} {b = b} before segment can keeps front =
    can_write segment keeps.ready
    (cartridge_kept (λ info. info.referenced) true a.drive.deck b.drive.deck keeps.same can.segment.referenced)
    (may_write_kept a.drive.deck b.drive.deck keeps.same can.writable) front

pub look_at-requires-clause-can : goal.look_at-requires-clause-can
look_at-requires-clause-can g c = can_write 0 c.requires.ready c.requires.referenced c.requires.writable (omega arith)

pub look_at-requires-2-clause-can : goal.look_at-requires-2-clause-can
look_at-requires-2-clause-can g c =
    can_write_next 0 1 (can_write 0 c.requires.ready c.requires.referenced c.requires.writable (omega arith))
    c.in_ok-look_at.ensures.keeps (omega arith)

pub look_at-requires-3-clause-can : goal.look_at-requires-3-clause-can
look_at-requires-3-clause-can g c =
    can_write_next 1 2 (can_write_next 0 1 (can_write 0 c.requires.ready c.requires.referenced c.requires.writable (omega arith))
    c.in_ok-look_at.ensures.keeps (omega arith)) c.in_ok-look_at-2.ensures.keeps (omega arith)

pub returns-in_err-look_at-clause-looks : goal.returns-in_err-look_at-clause-looks
returns-in_err-look_at-clause-looks g c =
    let after = c.look_at.new.progress in
    let fault : StoreFault = c.in_err-look_at.field-0.0 in
    let is : c.from_residual.result ≡ Err fault = passed c.from_residual.result fault c.from_residual.ensures.1 in
    rw is (looks_longer g.T.Tape.means g.K.Sink.means (whole_segment 0 ∷ []) (whole_segment 1 ∷ whole_segment 2 ∷ [])
    (around c.args.unit.now.tape c.args.sink.now) (around c.look_at.new.unit.tape c.look_at.new.sink) c.args.progress.now after after fault
    c.in_err-look_at.ensures.looks)

pub returns-in_err-look_at-2-clause-looks : goal.returns-in_err-look_at-2-clause-looks
returns-in_err-look_at-2-clause-looks g c =
    let t = g.T.Tape.means in
    let k = g.K.Sink.means in
    let a = around c.args.unit.now.tape c.args.sink.now in
    let b = around c.look_at.new.unit.tape c.look_at.new.sink in
    let d = around c.look_at-2.new.unit.tape c.look_at-2.new.sink in
    let after = c.look_at-2.new.progress in
    let fault : StoreFault = c.in_err-look_at-2.field-0.0 in
    let is : c.from_residual-in_err-look_at-2.result ≡ Err fault =
    passed c.from_residual-in_err-look_at-2.result fault c.from_residual-in_err-look_at-2.ensures.1 in
    let front : Looks t k (whole_segment 0 ∷ whole_segment 1 ∷ []) a d c.args.progress.now after (Err fault) =
    looks_then t k g.met.K.Sink.took_both (whole_segment 0 ∷ []) (whole_segment 1 ∷ []) a b d c.args.progress.now c.look_at.new.progress
    after (Err fault) c.in_ok-look_at.ensures.looks c.in_err-look_at-2.ensures.looks in
    rw is (looks_longer t k (whole_segment 0 ∷ whole_segment 1 ∷ []) (whole_segment 2 ∷ []) a d c.args.progress.now after after fault front)

pub returns-clause-looks : goal.returns-clause-looks
returns-clause-looks g c =
    let a = around c.args.unit.now.tape c.args.sink.now in
    let b = around c.look_at.new.unit.tape c.look_at.new.sink in
    let d = around c.look_at-2.new.unit.tape c.look_at-2.new.sink in
    let e = around c.look_at-3.new.unit.tape c.look_at-3.new.sink in
    let between = c.look_at-2.new.progress in
    let front : HasLooked g.T.Tape.means g.K.Sink.means (whole_segment 0 ∷ whole_segment 1 ∷ []) a d c.args.progress.now between =
    looked_both g.met.K.Sink.took_both (whole_segment 0 ∷ []) (whole_segment 1 ∷ []) a b d c.args.progress.now c.look_at.new.progress
    between c.in_ok-look_at.ensures.looks c.in_ok-look_at-2.ensures.looks in
    looks_then g.T.Tape.means g.K.Sink.means g.met.K.Sink.took_both (whole_segment 0 ∷ whole_segment 1 ∷ []) (whole_segment 2 ∷ []) a d e
    c.args.progress.now between c.look_at-3.new.progress c.look_at-3.result front c.look_at-3.ensures.looks
