use Rattle.std.proofs.Common.{◌≡◌, ◌-◌, List, length, Bool, true, false, sym, ap, ◌∙◌, subst}
use Rattle.cartridge_laws.specs.TableCells.{HasList}
use Rattle.qic_base.specs.Alone.{around}
use Rattle.cartridge_spec.specs.Table.{Entry}
use Rattle.drive_spec.specs.Terms.{is_protected}
use Rattle.host_driver.specs.Fits.{deck_of}
use Rattle.qic_base.specs.TapeCalls.{Tells}
use Rattle.segment_mending.specs.Mending.{ScrubEnds}
use Rattle.volume_store.specs.Mounting.{StoreView}
use Rattle.volume_store.proofs.Restored.{still_fits}
use Rattle.volume_store.proofs.Scrubs.{told_there, scrub_ends, scrub_lists, unprotected}
use Rattle.volume_store.proofs.store.Store.mend.Goals as goal

pub returns-clause-fits : goal.returns-clause-fits
returns-clause-fits g c = λ other.
    let m = g.T.Tape.means in
    let k = g.K.Sink.means in
    let store : StoreView = c.args.self.now in
    let map = c.self.inside.map in
    let table : List Entry = c.self.inside.table in
    let same : table ≡ store.entries = ap (λ (v : StoreView). v.entries) c.self.view_is in
    let a = around c.args.unit.now.tape c.args.sink.now in
    let b = around c.scrub_segments.new.unit.tape c.scrub_segments.new.sink in
    let right = g.met.T.Tape.told_right c.args.unit.now.tape in
    let there = told_there m store.host c.args.unit.now c.requires.fits.host c.requires.fits.agrees in
    let before : Tells m c.args.unit.now.tape (λ c'. c'.info.protected ≡ false → HasList c' table) =
    subst (λ (es : List Entry). Tells m c.args.unit.now.tape (λ c'. c'.info.protected ≡ false → HasList c' es))
    (sym same) c.requires.fits.volumes in
    let behind : Tells m c.scrub_segments.new.unit.tape (λ c'. c'.info.protected ≡ false → HasList c' table) =
    scrub_lists m k c.args.depth map table (length map - 1) c.self.invariant.1 a b c.scrub_segments.result c.scrub_segments.ensures.ends
    other right there before in
    still_fits m _ store _ _ c.args.unit.now _ c.self.view_is c.requires.fits c.scrub_segments.ensures.keeps
    (subst (λ (es : List Entry). Tells m c.scrub_segments.new.unit.tape (λ c'. c'.info.protected ≡ false → HasList c' es)) same behind)

pub returns-clause-ends : goal.returns-clause-ends
returns-clause-ends g c =
    let m = g.T.Tape.means in
    let k = g.K.Sink.means in
    let a = around c.args.unit.now.tape c.args.sink.now in
    let b = around c.scrub_segments.new.unit.tape c.scrub_segments.new.sink in
    scrub_ends m k c.args.depth c.args.self.now a b c.scrub_segments.result
    (subst (λ (v : StoreView). ScrubEnds m k c.args.depth v.words v.entries a b c.scrub_segments.result) c.self.view_is
    c.scrub_segments.ensures.ends)

pub returns-clause-protected : goal.returns-clause-protected
returns-clause-protected g c =
    let free : is_protected c.args.unit.now.drive.deck ≡ false = ap is_protected c.requires.fits.host.deck
    ∙ ap (λ (v : StoreView). is_protected (deck_of v.host)) (sym c.self.view_is) ∙ sym c.protected.ensures ∙ c.if-protected.false in (
      λ is. absurd (unprotected g.T.Tape.means g.K.Sink.means _ _ _ _ _ c.scrub_segments.result c.scrub_segments.ensures.ends is),
      λ locked. (let never : ◌≡◌ {A = Bool} true false = sym locked ∙ free in absurd (cc)),
    )
