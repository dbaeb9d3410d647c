use Rattle.std.proofs.Common.{◌≡◌, Err, ap, arith}
use Rattle.std.proofs.lemmas.Grind.{common_steps}
use Rattle.drive_spec.specs.Terms.{is_protected}
use Rattle.qic_base.specs.declared.store_fault.StoreFault.{StoreFault}
use Rattle.made_volumes.proofs.Appends.{append_so_at, append_done, appended_entry, not_marked}
use Rattle.made_volumes.proofs.appending.append_volume.Goals as goal

pub returns-clause-ends : goal.returns-clause-ends
returns-clause-ends g c =
    append_done g.T.Tape.means c.args.seed c.args.volume c.args.store.now c.args.unit.now c.requires.fits c.append.new.unit.tape
    c.append.new.source c.append.new.self
    c.in_ok-append.field-0 (not_marked _ (is_protected c.args.unit.now.drive.deck) c.in_ok-append.ensures.protected.1 (λ is. cc))
    (rw (c.made_name-name.ensures, c.made_length-promised.ensures, c.new-bytes.ensures) at c.in_ok-append.ensures.ends)

pub returns-clause-list : goal.returns-clause-list
returns-clause-list g c =
    appended_entry g.T.Tape.means c.args.seed c.args.volume c.args.store.now c.args.unit.now c.requires.fits c.append.new.unit.tape
    c.append.new.source c.append.new.self
    c.in_ok-append.field-0
    (rw (c.made_name-name.ensures, c.made_length-promised.ensures, c.new-bytes.ensures) at c.in_ok-append.ensures.ends)

pub returns-in_err-append-clause-ends : goal.returns-in_err-append-clause-ends
returns-in_err-append-clause-ends g c =
    let fault : StoreFault = c.in_err-append.field-0.0 in
    let is : c.from_residual.result ≡ Err fault = grind (arith, common_steps, c.from_residual.ensures) in
    let mark = c.in_err-append.ensures.protected in
    rw is (append_so_at g.T.Tape.means c.args.seed c.args.volume c.args.store.now c.args.unit.now c.requires.fits
    c.append.new.unit.tape c.append.new.source c.append.new.self
    c.made_name-name.result c.new-bytes.result c.made_length-promised.result c.made_name-name.ensures c.new-bytes.ensures
    c.made_length-promised.ensures
    fault ((λ same. mark.0 (ap Err same)), (λ locked. let is = mark.1 locked in cc)) c.in_err-append.ensures.ends
    c.in_err-append.ensures.unread)
