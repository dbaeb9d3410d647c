use Rattle.std.proofs.Common.{ap}
use Rattle.drive_states.specs.declared.dialogue.Dialogue.{Dialogue}
use Rattle.drive_states.specs.Cable.{record_of, unit_of}
use Rattle.drive_states.proofs.Units.{IsSoundUnit-formatted}
use Rattle.drive_states.proofs.unit.Unit.format_segment.Goals as goal

pub invariant_of-self : goal.invariant_of-self
invariant_of-self g c =
    let e = c.format_segment-answer.ensures in
    IsSoundUnit-formatted g.T.Tape.means (unit_of c.self.inside.dialogue)
    (unit_of c.format_segment-answer.new.self) c.format_segment-answer.result
    c.self.invariant.drive (λ none. ap (λ (x : Dialogue g.row.T.Denot). record_of x) (e.unreached none).1) e.moved e.stayed
    c.reveal.ensures.known

pub returns-clause-sound : goal.returns-clause-sound
returns-clause-sound g c = invariant_of-self g c

pub returns-clause-reached : goal.returns-clause-reached
returns-clause-reached g c = rw (← c.self.view_is) c.format_segment-answer.ensures.reached

pub returns-clause-moved : goal.returns-clause-moved
returns-clause-moved g c = rw (← c.self.view_is) c.format_segment-answer.ensures.moved

pub returns-clause-stayed : goal.returns-clause-stayed
returns-clause-stayed g c = rw (← c.self.view_is) c.format_segment-answer.ensures.stayed

pub returns-clause-size : goal.returns-clause-size
returns-clause-size g c = rw (← c.self.view_is) c.format_segment-answer.ensures.size
