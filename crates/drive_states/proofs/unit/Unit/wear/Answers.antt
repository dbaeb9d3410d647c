use Rattle.drive_states.specs.AnyDrive.{drive_of}
use Rattle.drive_states.specs.Cable.{record_of, unit_of}
use Rattle.drive_states.proofs.Units.{IsAnswerOf, IsSoundUnit-kept, Wears-at, reached}
use Rattle.drive_states.proofs.unit.Unit.wear.Goals as goal
use Rattle.drive_states.proofs.unit.Unit.wear.Goals.{in-Ok-wear, in-Err-wear}

pub invariant_of-self : goal.invariant_of-self
invariant_of-self g c =
    let old = c.self.inside.dialogue in
    let e = c.wear.ensures in
    IsSoundUnit-kept g.T.Tape.means (record_of old) (drive_of old.drive).tape (drive_of c.wear.new.self) c.self.invariant e.deck e.size

pub returns-clause-placed : goal.returns-clause-placed
returns-clause-placed g c =
    let answer : IsAnswerOf c.wear.result c.match-wear.result =
    elim c.match-wear.branch [ in-Ok-wear w ↦ rw w.in-Ok-wear.is w.result-is | in-Err-wear w ↦ rw w.in-Err-wear.is w.result-is ] in
    rw (← c.self.view_is)
    (Wears-at g.T.Tape.means (unit_of c.self.inside.dialogue) (unit_of record c.self.inside.dialogue { drive = c.wear.new.self })
    (record_of c.self.inside.dialogue).deck.cartridge c.args.segment c.args.sector c.in-Ok.sector c.wear.result c.match-wear.result
    (rw (← c.self.view_is) at c.in-Ok.ensures.placed) c.wear.ensures.did answer)

pub returns-clause-untouched : goal.returns-clause-untouched
returns-clause-untouched g c none =
    let answer : IsAnswerOf c.wear.result c.match-wear.result =
    elim c.match-wear.branch [ in-Ok-wear w ↦ rw w.in-Ok-wear.is w.result-is | in-Err-wear w ↦ rw w.in-Err-wear.is w.result-is ] in
    absurd (reached c.wear.result c.match-wear.result answer none)
