use Rattle.std.proofs.Common.{◌≡◌, true, sym, ap, ◌∙◌}
use Rattle.drive_spec.specs.declared.deck.Deck.{Deck}
use Rattle.host_driver.specs.Place.{streams_before}
use Rattle.host_driver.proofs.Reaching.{length_is}
use Rattle.host_driver.proofs.Running.{streams_into}
use Rattle.host_driver.proofs.host.Host.go_to.Goals as goal

pub returns-then-streams_before-clause-place : goal.returns-then-streams_before-clause-place
returns-then-streams_before-clause-place g c =
    let deck = c.args.unit.now.drive.deck in
    let n = c.args.self.now.geometry in
    let track = c.track_of-track in
    let offset = c.logical_offset-offset in
    let fits = c.requires.ready.fits in
    let before : streams_before track.result offset.result deck ≡ true =
    ap (λ (d : Deck). streams_before track.result offset.result d) fits.deck ∙ sym c.streams_before.ensures ∙ c.if-streams_before.true in
    streams_into n c.args.segment track.result offset.result deck c.next_segment.new.unit.drive.deck
    (length_is n deck.cartridge fits.cartridge) track.ensures.track offset.ensures.offset offset.ensures.within before
    c.next_segment.ensures.next
