use Rattle.std.proofs.Common.{◌∙◌, ℕ, ◌-◌, ◌*◌, ap, take, subst, sym}
use Rattle.command_laws.proofs.Passing.{passed}
use Rattle.cartridge_laws.specs.Table.{IsSoundList}
use Rattle.host_driver.specs.Fits.{segments_of}
use Rattle.qic_base.specs.declared.store_fault.StoreFault.{StoreFault}
use Rattle.volume_store.proofs.FoundRoom.{look_found, look_refused}
use Rattle.volume_store.proofs.Started.{there_of, present}
use Rattle.volume_store.proofs.Storing.{sound_volumes}
use Rattle.volume_store.specs.Opening.{HasStarted}
use Rattle.qic_base.specs.declared.store_fault.StoreFault.TheVariants as fault
use Rattle.volume_store.proofs.looking.find_room.Goals as goal

pub returns-in_err-host : goal.returns-in_err-host
returns-in_err-host g c = rw (passed c.from_residual.result fault.Tape c.from_residual.ensures.1) c.in_err-host.ensures

pub free_room-requires-clause-map : goal.free_room-requires-clause-map
free_room-requires-clause-map g c =
    c.in_ok-learn.ensures.words.size ∙ sym (c.segments-segments.ensures.value ∙ ap (λ (n : ℕ). 28 * n) c.geometry.ensures)

pub free_room-requires-clause-list : goal.free_room-requires-clause-list
free_room-requires-clause-list g c =
    subst (λ (n : ℕ). IsSoundList (n - 1) c.learn.new.table) (sym c.in_ok-learn.ensures.words.size)
    (sound_volumes (take 29 c.learn.new.work) (28 * segments_of c.learn.new.host - 1) c.learn.new.table
    c.in_ok-learn.ensures.volumes)

pub returns : goal.returns
returns g c =
    let m = g.T.Tape.means in
    let started : HasStarted m c.args.unit.now c.start.new.unit c.in-Some.host = rw c.in-Some.is at c.in_ok-host.ensures in
    look_found m c.args.unit.now.tape c.start.new.unit.tape c.learn.new.unit.tape (there_of started).info
    c.learn.new.map c.learn.new.work c.learn.new.table c.in_ok-learn.field-0 c.free_room.result (present started)
    c.in_ok-learn.ensures.did (c.in_ok-learn.ensures.found (λ same. cc)) c.free_room.ensures

pub returns-in_err-learn : goal.returns-in_err-learn
returns-in_err-learn g c =
    let m = g.T.Tape.means in
    let started : HasStarted m c.args.unit.now c.start.new.unit c.in-Some.host = rw c.in-Some.is at c.in_ok-host.ensures in
    let why : StoreFault = c.in_err-learn.field-0.0 in
    rw (passed c.from_residual-in_err-learn.result why c.from_residual-in_err-learn.ensures.1)
    (look_refused _ m c.args.unit.now.tape c.start.new.unit.tape c.learn.new.unit (there_of started).info
    why (present started) c.in_err-learn.ensures.did
    (λ other. c.in_err-learn.ensures.found (λ same. other (cc))) c.in_err-learn.ensures.kind c.in_err-learn.ensures.cause)
