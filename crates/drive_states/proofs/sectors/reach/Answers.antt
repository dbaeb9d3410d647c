use Rattle.std.proofs.Common.{◌≡◌, refl, sym, ◌∙◌}
use Rattle.std.proofs.lemmas.Bool.{ne_eqb}
use Rattle.tape_geometry.specs.Geometry.{HasAddress}
use Rattle.drive_spec.specs.declared.deck.Deck.{Deck}
use Rattle.drive_spec.specs.Deck.{segments_per_track}
use Rattle.drive_states.proofs.Places.{unknown_length, stands_there, one_place, reached_from, passed_already}
use Rattle.drive_states.proofs.sectors.reach.Goals as goal
use Rattle.drive_states.proofs.sectors.reach.Goals.{then-segment-segment_of, else-segment-segment_of}

pub returns-in_err-info-clause-reached : goal.returns-in_err-info-clause-reached
returns-in_err-info-clause-reached c = rw c.from_residual.ensures tt

pub returns-in_err-info-clause-none : goal.returns-in_err-info-clause-none
returns-in_err-info-clause-none c =
    rw c.from_residual.ensures (λ segment index reaches.
    unknown_length c.args.deck.now.cartridge segment index c.args.addr c.in_err-info.was reaches.address)

pub returns-in_default : goal.returns-in_default
returns-in_default c = record {
  reached = tt;
  none = λ segment index reaches. stands_there c.args.deck.now.motion index c.in_default.not-Streaming reaches.under.streams;
}

pub returns-in_default-new-clause-none : goal.returns-in_default-new-clause-none
returns-in_default-new-clause-none c segment index reaches =
    let no = c.in_default-new.ensures.ok.1 (rw c.in_ok-info.was at c.requires.long) in cc

pub returns-in_default-place-clause-none : goal.returns-in_default-place-clause-none
returns-in_default-place-clause-none c segment index reaches =
    let known = c.in_default-place.ensures in
    let long : segments_per_track c.args.deck.now ≡ c.in-Ok.geometry = rw c.in_ok-info.was (sym c.in-Ok.ensures.value) in
    let there : HasAddress c.in-Ok.geometry segment index c.args.addr = rw (← long) reaches.address in
    known.none segment index there

pub returns-clause-reached : goal.returns-clause-reached
returns-clause-reached c =
    let d : Deck = c.args.deck.now in
    let long : segments_per_track d ≡ c.in-Ok.geometry = rw c.in_ok-info.was (sym c.in-Ok.ensures.value) in
    let address : HasAddress (segments_per_track d) c.in-Some.segment c.in-Some.index c.args.addr = rw long c.in-Some.ensures.found in
    elim c.if-segment-segment_of.branch [
      | then-segment-segment_of w ↦
          rw (c.then_some.ensures, w.then_some-is)
          (reached_from d c.args.addr c.in-Streaming.next c.in-Some.segment c.in-Some.index _ refl c.in-Streaming.is
          (w.if-segment-segment_of.true ∙ c.segment_of.ensures) address)
      | else-segment-segment_of w ↦ rw (c.then_some.ensures, w.then_some-is, ne_eqb _ _ w.if-segment-segment_of.false) tt
    ]

pub returns-clause-none : goal.returns-clause-none
returns-clause-none c =
    let d : Deck = c.args.deck.now in
    let long : segments_per_track d ≡ c.in-Ok.geometry = rw c.in_ok-info.was (sym c.in-Ok.ensures.value) in
    let address : HasAddress (segments_per_track d) c.in-Some.segment c.in-Some.index c.args.addr = rw long c.in-Some.ensures.found in
    elim c.if-segment-segment_of.branch [
      | then-segment-segment_of w ↦
          rw (c.then_some.ensures, w.then_some-is)
          (passed_already d c.args.addr c.in-Streaming.next c.in-Some.segment c.in-Some.index _ refl c.in-Streaming.is address)
      | else-segment-segment_of w ↦
          rw (c.then_some.ensures, w.then_some-is, ne_eqb _ _ w.if-segment-segment_of.false) (λ segment index reaches.
          w.if-segment-segment_of.false
          ((one_place _ _ _ _ _ _ address reaches.address).0 ∙ reaches.under.here ∙ sym c.segment_of.ensures))
    ]
