use Rattle.std.proofs.Common.{◌≡◌, true, sym, ap, ◌∙◌}
use Rattle.qic117_commands.specs.Views.{is_format}
use Rattle.drive_spec.specs.Deck.{is_streaming}
use Rattle.drive_states.specs.Reach.{IsFormatting}
use Rattle.drive_states.proofs.Bounds.{IsSound-run_on}
use Rattle.drive_states.proofs.Places.{IsPlaceOf-here, IsIn-run_on}
use Rattle.drive_states.proofs.sectors.Drive+Format+T.format_segment.Goals as goal

pub format_segment-requires : goal.format_segment-requires
format_segment-requires g c =
    let here = c.self.invariant in
    let streams : is_streaming c.self.inside.deck.motion ≡ true = sym c.is_streaming.ensures ∙ c.if-not-is_streaming.false in
    rw c.segment_of.ensures (IsPlaceOf-here c.self.inside.deck _ here.0 streams here.2)

pub invariant_of-self : goal.invariant_of-self
invariant_of-self g c =
    let here = c.self.invariant in
    let streams : is_streaming c.self.inside.deck.motion ≡ true = sym c.is_streaming.ensures ∙ c.if-not-is_streaming.false in
    rw (c.run_on-self-inside.ensures, c.format_segment.ensures.size)
    (IsSound-run_on c.self.inside.deck here.0 streams, IsIn-run_on _ c.self.inside.deck here.1 streams, here.2)

pub invariant_of-self-in-Err : goal.invariant_of-self-in-Err
invariant_of-self-in-Err g c =
    let here = c.self.invariant in
    (here.0, here.1, rw c.format_segment.ensures.size here.2)

pub returns-in-Ok-clause-unreached : goal.returns-in-Ok-clause-unreached
returns-in-Ok-clause-unreached g c none =
    let streams : is_streaming c.self.inside.deck.motion ≡ true = sym c.is_streaming.ensures ∙ c.if-not-is_streaming.false in
    let formats : IsFormatting c.self.inside.deck = record { mode = ap is_format c.self.invariant.1.mode; streams = streams } in
    absurd (none (rw (← c.self.view_is) formats))

pub returns-in-Ok-clause-reached : goal.returns-in-Ok-clause-reached
returns-in-Ok-clause-reached g c formats =
    rw (← c.self.view_is) (c.run_on-self-inside.ensures, rw c.segment_of.ensures at c.in-Ok.ensures.did)

pub returns-in-Err-clause-unreached : goal.returns-in-Err-clause-unreached
returns-in-Err-clause-unreached g c none =
    let streams : is_streaming c.self.inside.deck.motion ≡ true = sym c.is_streaming.ensures ∙ c.if-not-is_streaming.false in
    let formats : IsFormatting c.self.inside.deck = record { mode = ap is_format c.self.invariant.1.mode; streams = streams } in
    absurd (none (rw (← c.self.view_is) formats))
