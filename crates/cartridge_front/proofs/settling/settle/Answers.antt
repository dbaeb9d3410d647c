use Rattle.std.proofs.Common.{◌≡◌, ℕ, ◌++◌, Bool, List, Err, sym, ap, ◌∙◌}
use Rattle.cartridge_laws.specs.Segment.{sectors_of}
use Rattle.drive_spec.specs.Terms.{is_protected}
use Rattle.cartridge_spec.specs.Settling.{block_writes}
use Rattle.qic_base.specs.declared.tape.TapeFailed.{TapeFailed}
use Rattle.cartridge_front.specs.Settling.{mending_steps}
use Rattle.cartridge_front.proofs.Adding.{does_after, broke_front}
use Rattle.cartridge_front.proofs.Mending.{mend_both, data_kept}
use Rattle.command_laws.proofs.Passing.{passed}
use Rattle.cartridge_front.proofs.settling.settle.Goals as goal

pub returns-clause-did : goal.returns-clause-did
returns-clause-did g c =
    let new : List (List ℕ) = c.renew_parity-stale.new.work in
    let steps : block_writes new (sectors_of c.args.unread.left_out) ++ block_writes new
    (sectors_of c.renew_parity-stale.result) ≡ mending_steps (is_protected c.args.unit.now.drive.deck) c.args.unread c.args.work.now =
    mend_both c.args.unread c.renew_parity-stale.result c.args.work.now new c.renew_parity-stale.ensures.block
    c.renew_parity-stale.ensures.stale
    ∙ ap (λ (b : Bool). mending_steps b c.args.unread c.args.work.now)
    (c.if-protected.ensures ∙ sym (ap is_protected c.requires.ready.fits.deck)) in
    does_after g.T.Tape.means c.args.unit.now.tape c.write_places.new.unit.tape c.write_places-2.new.unit.tape
    (block_writes new (sectors_of c.args.unread.left_out)) (block_writes new (sectors_of c.renew_parity-stale.result))
    (mending_steps (is_protected c.args.unit.now.drive.deck) c.args.unread c.args.work.now) c.write_places-2.result
    steps c.in_ok-write_places.ensures.did c.write_places-2.ensures.did

pub returns-in_err-write_places-clause-did : goal.returns-in_err-write_places-clause-did
returns-in_err-write_places-clause-did g c =
    let new : List (List ℕ) = c.renew_parity-stale.new.work in
    let steps : block_writes new (sectors_of c.args.unread.left_out) ++ block_writes new
    (sectors_of c.renew_parity-stale.result) ≡ mending_steps (is_protected c.args.unit.now.drive.deck) c.args.unread c.args.work.now =
    mend_both c.args.unread c.renew_parity-stale.result c.args.work.now new c.renew_parity-stale.ensures.block
    c.renew_parity-stale.ensures.stale
    ∙ ap (λ (b : Bool). mending_steps b c.args.unread c.args.work.now)
    (c.if-protected.ensures ∙ sym (ap is_protected c.requires.ready.fits.deck)) in
    let fault : TapeFailed = c.in_err-write_places.field-0.0 in
    let is : c.from_residual.result ≡ Err fault = passed c.from_residual.result fault c.from_residual.ensures.1 in
    broke_front g.T.Tape.means c.args.unit.now.tape c.write_places.new.unit.tape
    (block_writes new (sectors_of c.args.unread.left_out)) (block_writes new (sectors_of c.renew_parity-stale.result))
    (mending_steps (is_protected c.args.unit.now.drive.deck) c.args.unread c.args.work.now) fault c.from_residual.result is steps
    c.in_err-write_places.ensures.did

pub returns-clause-data : goal.returns-clause-data
returns-clause-data g c = data_kept c.args.work.now c.renew_parity-stale.new.work c.requires.room c.renew_parity-stale.ensures.block

pub returns-in_err-write_places-clause-data : goal.returns-in_err-write_places-clause-data
returns-in_err-write_places-clause-data g c =
    data_kept c.args.work.now c.renew_parity-stale.new.work c.requires.room c.renew_parity-stale.ensures.block
