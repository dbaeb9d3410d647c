use Rattle.drive_states.specs.Cable.{unit_of}
use Rattle.drive_states.proofs.Units.{IsSoundUnit-gap}
use Rattle.drive_states.proofs.unit.Unit.gap.Goals as goal

pub invariant_of-self : goal.invariant_of-self
invariant_of-self g c =
    let e = c.gap-answer.ensures in
    IsSoundUnit-gap _ g.T.Tape.means (unit_of c.self.inside.dialogue)
    (unit_of c.gap-answer.new.self) c.gap-answer.result c.self.invariant.drive
    e.ok e.failed e.over c.reveal.ensures.sound c.reveal.ensures.known

pub returns-clause-sound : goal.returns-clause-sound
returns-clause-sound g c = invariant_of-self g c

pub returns-clause-row : goal.returns-clause-row
returns-clause-row g c = rw (← c.self.view_is) c.gap-answer.ensures.ok

pub returns-clause-failed : goal.returns-clause-failed
returns-clause-failed g c = rw (← c.self.view_is) c.gap-answer.ensures.failed

pub returns-clause-did : goal.returns-clause-did
returns-clause-did g c = rw (← c.self.view_is) c.gap-answer.ensures.did

pub returns-clause-untouched : goal.returns-clause-untouched
returns-clause-untouched g c = rw (← c.self.view_is) c.gap-answer.ensures.untouched

pub returns-clause-size : goal.returns-clause-size
returns-clause-size g c = rw (← c.self.view_is) c.gap-answer.ensures.size
