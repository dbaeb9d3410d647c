use Rattle.std.proofs.Common.{◌≡◌, ◌<◌, ◌∙◌, arith}
use Rattle.drive_spec.specs.Deck.{segments_per_track}
use Rattle.formatter.proofs.Places.{length_known, first_within, none_before}
use Rattle.formatter.proofs.track.go_to_track.Goals as goal

pub go_to-requires-clause-on_tape : goal.go_to-requires-clause-on_tape
go_to-requires-clause-on_tape g c =
    let count : c.from-count.result ≡ segments_per_track c.args.unit.now.drive.deck =
    c.from-count.ensures ∙ c.segments_per_track.ensures.value ∙ c.geometry.ensures ∙ length_known c.requires.ready.ready.fits in
    let some : 0 < c.from-count.result = omega (arith, c.segments_per_track.ensures.length.shortest, c.from-count.ensures) in
    first_within c.args.track c.from-count.result (segments_per_track c.args.unit.now.drive.deck) count some c.requires.track

pub go_to-requires-clause-first : goal.go_to-requires-clause-first
go_to-requires-clause-first g c = λ formats.
    let count : c.from-count.result ≡ segments_per_track c.args.unit.now.drive.deck =
    c.from-count.ensures ∙ c.segments_per_track.ensures.value ∙ c.geometry.ensures ∙ length_known c.requires.ready.ready.fits in
    let some : 0 < c.from-count.result = omega (arith, c.segments_per_track.ensures.length.shortest, c.from-count.ensures) in
    none_before c.args.track c.from-count.result (segments_per_track c.args.unit.now.drive.deck) count some

pub returns-clause-count : goal.returns-clause-count
returns-clause-count g c = c.from-count.ensures ∙ c.segments_per_track.ensures.value ∙ c.geometry.ensures
    ∙ length_known c.requires.ready.ready.fits
