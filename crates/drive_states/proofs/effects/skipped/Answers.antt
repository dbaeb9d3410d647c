use Rattle.std.proofs.Common.{◌≡◌, ◌+◌, min, refl, arith}
use Rattle.drive_spec.specs.Deck.{segments_per_track}
use Rattle.drive_states.proofs.effects.skipped.Goals as goal

pub returns-then-forward : goal.returns-then-forward
returns-then-forward c =
    let offset : c.min-offset.result ≡ min (c.args.deck.offset + c.args.count) (segments_per_track c.args.deck) = omega arith in
    rw (c.if-forward.true, offset) refl

pub returns-else-forward : goal.returns-else-forward
returns-else-forward c = rw (c.if-forward.false, c.saturating_sub-offset.ensures) refl
