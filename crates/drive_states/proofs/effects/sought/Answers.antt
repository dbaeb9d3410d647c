use Rattle.std.proofs.Common.{◌≡◌, ◌%◌, ◌==◌, true, false, refl}
use Rattle.std.proofs.lemmas.Bool.{eq-eqb, ne_eqb}
use Rattle.drive_states.proofs.effects.sought.Goals as goal

pub returns-then-track-deck : goal.returns-then-track-deck
returns-then-track-deck c =
    let same : (c.args.track % 2 == c.args.deck.track % 2) ≡ true = eq-eqb _ _ c.if-track-deck.true in
    rw same refl

pub returns-else-track-deck : goal.returns-else-track-deck
returns-else-track-deck c =
    let differs : (c.args.track % 2 == c.args.deck.track % 2) ≡ false = ne_eqb _ _ c.if-track-deck.false in
    rw (differs, c.saturating_sub-offset.ensures, c.segments_per_track.ensures) refl
