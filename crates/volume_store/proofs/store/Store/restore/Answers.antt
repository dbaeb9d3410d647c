use Rattle.std.proofs.Common.{◌≡◌, Ok, Err, ap, ◌∙◌}
use Rattle.command_laws.proofs.Passing.{passed}
use Rattle.qic_base.specs.declared.store_fault.StoreFault.{StoreFault}
use Rattle.volume_output.specs.Form.{is_lined}
use Rattle.volume_store.specs.Mounting.{StoreView}
use Rattle.volume_store.proofs.Restored.{none_given, all_given, giving_failed, output_told, still_fits}
use Rattle.qic_base.specs.declared.store_fault.StoreFault.TheVariants as fault
use Rattle.volume_store.proofs.store.Store.restore.Goals as goal

pub returns-in_err-volume-clause-ends : goal.returns-in_err-volume-clause-ends
returns-in_err-volume-clause-ends g c =
    let why : StoreFault = c.in_err-volume.field-0.0 in
    rw (passed c.from_residual.result why c.from_residual.ensures.1)
    (none_given g.T.Tape.means g.K.Sink.means c.args.self.now c.args.number (is_lined c.args.form) _ why c.in_err-volume.ensures.found)

pub returns-in_err-give_volume-clause-ends : goal.returns-in_err-give_volume-clause-ends
returns-in_err-give_volume-clause-ends g c =
    let why : StoreFault = c.in_err-give_volume.field-0.0 in
    rw (passed c.from_residual-in_err-give_volume.result why c.from_residual-in_err-give_volume.ensures.1)
    (giving_failed g.T.Tape.means g.K.Sink.means c.args.self.now c.args.number (is_lined c.args.form) _ _ c.self.inside.map
    c.in_ok-volume.volume (ap (λ (v : StoreView). v.words) c.self.view_is) c.in_ok-volume.ensures.found why
    c.in_err-give_volume.ensures.ends)

pub returns-clause-ends : goal.returns-clause-ends
returns-clause-ends g c =
    all_given g.T.Tape.means g.K.Sink.means c.args.self.now c.args.number (is_lined c.args.form) _ _ c.self.inside.map
    c.in_ok-volume.volume (ap (λ (v : StoreView). v.words) c.self.view_is) c.in_ok-volume.ensures.found c.in_ok-give_volume.ensures.ends

pub returns-in_err-give_volume-clause-fits : goal.returns-in_err-give_volume-clause-fits
returns-in_err-give_volume-clause-fits g c = λ other.
    let why : StoreFault = c.in_err-give_volume.field-0.0 in
    let is = passed c.from_residual-in_err-give_volume.result why c.from_residual-in_err-give_volume.ensures.1 in
    still_fits g.T.Tape.means _ c.args.self.now _ _ c.args.unit.now _ c.self.view_is c.requires.fits c.give_volume.ensures.keeps
    (output_told g.T.Tape.means g.K.Sink.means _ _ (is_lined c.args.form) _ _ _ (Err why) c.in_err-give_volume.ensures.ends
    (λ same. let tape : why ≡ fault.Tape = cc in other (is ∙ ap Err tape)) c.requires.fits.volumes)

pub returns-clause-fits : goal.returns-clause-fits
returns-clause-fits g c = λ other.
    still_fits g.T.Tape.means _ c.args.self.now _ _ c.args.unit.now _ c.self.view_is c.requires.fits c.give_volume.ensures.keeps
    (output_told g.T.Tape.means g.K.Sink.means _ _ (is_lined c.args.form) _ _ _ (Ok tt) c.in_ok-give_volume.ensures.ends
    (λ is. cc) c.requires.fits.volumes)
