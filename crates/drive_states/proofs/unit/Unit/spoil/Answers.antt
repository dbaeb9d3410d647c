use Rattle.drive_states.specs.AnyDrive.{drive_of}
use Rattle.drive_states.specs.Cable.{record_of, unit_of}
use Rattle.drive_states.proofs.Units.{IsSpoilAnswerOf, IsSoundUnit-kept, Spoils-at, reached_to_spoil}
use Rattle.drive_states.proofs.unit.Unit.spoil.Goals as goal
use Rattle.drive_states.proofs.unit.Unit.spoil.Goals.{in-Ok-true, in-Ok-false, in-Err-spoil}

pub invariant_of-self : goal.invariant_of-self
invariant_of-self g c =
    let old = c.self.inside.dialogue in
    let e = c.spoil.ensures in
    IsSoundUnit-kept g.T.Tape.means (record_of old) (drive_of old.drive).tape (drive_of c.spoil.new.self) c.self.invariant e.deck e.size

pub returns-clause-placed : goal.returns-clause-placed
returns-clause-placed g c =
    let answer : IsSpoilAnswerOf c.spoil.result c.match-spoil.result =
    elim c.match-spoil.branch [
      | in-Ok-true w ↦ rw (w.in-Ok-true.is, w.in-Ok-true.field-0-test) w.result-is
      | in-Ok-false
          w ↦ rw (w.in-Ok-false.is, w.in-Ok-false.field-0-test) w.result-is
      | in-Err-spoil w ↦ rw w.in-Err-spoil.is w.result-is
    ] in
    rw (← c.self.view_is)
    (Spoils-at g.T.Tape.means (unit_of c.self.inside.dialogue) (unit_of record c.self.inside.dialogue { drive = c.spoil.new.self })
    (record_of c.self.inside.dialogue).deck.cartridge c.args.segment c.args.sector c.in-Ok.sector c.spoil.result c.match-spoil.result
    (rw (← c.self.view_is) at c.in-Ok.ensures.placed) c.spoil.ensures.did c.spoil.ensures.answer answer)

pub returns-clause-untouched : goal.returns-clause-untouched
returns-clause-untouched g c none =
    let answer : IsSpoilAnswerOf c.spoil.result c.match-spoil.result =
    elim c.match-spoil.branch [
      | in-Ok-true w ↦ rw (w.in-Ok-true.is, w.in-Ok-true.field-0-test) w.result-is
      | in-Ok-false
          w ↦ rw (w.in-Ok-false.is, w.in-Ok-false.field-0-test) w.result-is
      | in-Err-spoil w ↦ rw w.in-Err-spoil.is w.result-is
    ] in
    absurd (reached_to_spoil c.spoil.result c.match-spoil.result answer none)
