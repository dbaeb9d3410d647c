use Rattle.std.proofs.Common.{refl, ap, ◌∙◌, Ok}
use Rattle.drive_states.proofs.Units.{formats_if_ok}
use Rattle.drive_states.proofs.dialogue.Dialogue.format_segment.Goals as goal

pub returns-then-early-clause-unreached : goal.returns-then-early-clause-unreached
returns-then-early-clause-unreached g c none =
    absurd (none (formats_if_ok _ _ c.format_segment.ensures.unreached (c.in-Ok-Ok.is ∙ ap Ok c.in-Ok-Ok.field-0-is)))

pub returns-else-early-clause-unreached : goal.returns-else-early-clause-unreached
returns-else-early-clause-unreached g c none =
    absurd (none (formats_if_ok _ _ c.format_segment.ensures.unreached (c.in-Ok-Ok.is ∙ ap Ok c.in-Ok-Ok.field-0-is)))

pub returns-then-early-clause-moved : goal.returns-then-early-clause-moved
returns-then-early-clause-moved g c done =
    let formats = formats_if_ok _ _ c.format_segment.ensures.unreached (c.in-Ok-Ok.is ∙ ap Ok c.in-Ok-Ok.field-0-is) in
    let ran = rw (c.in-Ok-Ok.is, c.in-Ok-Ok.field-0-is) at c.format_segment.ensures.reached formats in
    rw (ran.0, ← c.deck.ensures.deck, ← c.if-early.ensures) refl

pub returns-else-early-clause-moved : goal.returns-else-early-clause-moved
returns-else-early-clause-moved g c done =
    let formats = formats_if_ok _ _ c.format_segment.ensures.unreached (c.in-Ok-Ok.is ∙ ap Ok c.in-Ok-Ok.field-0-is) in
    let ran = rw (c.in-Ok-Ok.is, c.in-Ok-Ok.field-0-is) at c.format_segment.ensures.reached formats in
    rw (ran.0, ← c.deck.ensures.deck, ← c.if-early.ensures) refl
