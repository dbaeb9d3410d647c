use Rattle.std.proofs.Common.{◌≡◌, ℕ, List, take, Err, inr}
use Rattle.qic_base.proofs.Steps.{Tells-map}
use Rattle.cartridge_spec.specs.TableSegment.{TableIs}
use Rattle.cartridge_front.specs.Again.{HasTable}
use Rattle.drive_spec.specs.Terms.{is_protected}
use Rattle.qic_base.specs.declared.store_fault.StoreFault.{StoreFault}
use Rattle.qic_base.specs.declared.store_fault.StoreFault.TheVariants.{Tape}
use Rattle.cartridge_front.specs.Settling.{mending_steps}
use Rattle.cartridge_front.proofs.Again.{broke_reading, fault_unread, settled_by, settling_broke, settles_refused, told_mending}
use Rattle.command_laws.proofs.Passing.{passed}
use Rattle.cartridge_front.proofs.refreshing.settle_again.Goals as goal

pub returns-clause-did : goal.returns-clause-did
returns-clause-did g c =
    let m = g.T.Tape.means in
    let sectors : List (List ℕ) = c.read_list.new.work in
    settled_by m c.args.unit.now.tape c.read_list.new.unit.tape c.settle.new.unit.tape c.args.table.now (take 29 sectors) c.settle.new.work
    (mending_steps (is_protected c.read_list.new.unit.drive.deck) c.in_ok-unread.unread sectors)
    c.in_ok-unread.ensures.did c.in_ok-settle.ensures.did c.in_ok-unread.ensures.shown c.in_ok-settle.ensures.data
    (told_mending m c.read_list.new.host c.args.unit.now.tape c.read_list.new.unit sectors c.in_ok-unread.unread
    c.in_ok-unread.ensures.keeps.ready.fits
    (c.in_ok-unread.ensures.keeps.agrees c.requires.agrees) c.in_ok-unread.ensures.did c.in_ok-unread.ensures.room
    (c.in_ok-unread.ensures.found (λ same. cc)))

pub returns-in_err-settle-clause-did : goal.returns-in_err-settle-clause-did
returns-in_err-settle-clause-did g c =
    let m = g.T.Tape.means in
    let sectors : List (List ℕ) = c.read_list.new.work in
    let is : c.from_residual-in_err-settle.result ≡ Err Tape =
    passed c.from_residual-in_err-settle.result Tape c.from_residual-in_err-settle.ensures.1 in
    settling_broke m c.args.unit.now.tape c.read_list.new.unit.tape c.settle.new.unit.tape c.args.table.now (take 29 sectors)
    c.settle.new.work (mending_steps (is_protected c.read_list.new.unit.drive.deck) c.in_ok-unread.unread sectors)
    c.from_residual-in_err-settle.result is c.in_ok-unread.ensures.did c.in_err-settle.ensures.did
    (told_mending m c.read_list.new.host c.args.unit.now.tape c.read_list.new.unit sectors c.in_ok-unread.unread
    c.in_ok-unread.ensures.keeps.ready.fits
    (c.in_ok-unread.ensures.keeps.agrees c.requires.agrees) c.in_ok-unread.ensures.did c.in_ok-unread.ensures.room
    (c.in_ok-unread.ensures.found (λ same. cc)))

pub returns-in_err-settle-clause-unread : goal.returns-in_err-settle-clause-unread
returns-in_err-settle-clause-unread g c =
    let m = g.T.Tape.means in
    let sectors : List (List ℕ) = c.read_list.new.work in
    fault_unread m c.args.unit.now.tape c.settle.new.unit.tape c.from_residual-in_err-settle.result
    (λ failed. inr (Tells-map m c.args.unit.now.tape (λ c'. HasTable c' sectors c.in_ok-unread.unread)
    (λ c'. (area : List (List ℕ)) × TableIs c' area)
    (λ c' has. (take 29 sectors, has.table)) (c.in_ok-unread.ensures.found (λ same. cc))))

pub returns-in_err-unread-clause-did : goal.returns-in_err-unread-clause-did
returns-in_err-unread-clause-did g c =
    let fault : StoreFault = c.in_err-unread.field-0.0 in
    let is : c.from_residual.result ≡ Err fault = passed c.from_residual.result fault c.from_residual.ensures.1 in
    settles_refused g.T.Tape.means c.args.unit.now.tape c.read_list.new.unit.tape c.args.table.now c.read_list.new.work c.read_list.new.work
    fault c.from_residual.result is
    c.in_err-unread.ensures.did (λ apart. c.in_err-unread.ensures.found (λ same. apart (cc))) c.in_err-unread.ensures.kind

pub returns-in_err-unread-clause-unread : goal.returns-in_err-unread-clause-unread
returns-in_err-unread-clause-unread g c =
    let fault : StoreFault = c.in_err-unread.field-0.0 in
    let is : c.from_residual.result ≡ Err fault = passed c.from_residual.result fault c.from_residual.ensures.1 in
    fault_unread g.T.Tape.means c.args.unit.now.tape c.read_list.new.unit.tape c.from_residual.result
    (broke_reading g.T.Tape.means c.args.unit.now.tape c.read_list.new.unit.tape fault c.from_residual.result is
    c.in_err-unread.ensures.did)
