use Rattle.std.proofs.Common.{◌∙◌, refl, ap, sym, subst}
use Rattle.qic117_commands.specs.Views.{is_primary}
use Rattle.drive_states.specs.Reach.{ReachesNone}
use Rattle.drive_states.specs.declared.any_drive.AnyDrive.{AnyDrive}
use Rattle.drive_states.specs.AnyDrive.{drive_of}
use Rattle.drive_states.specs.Cable.{record_of, unit_of}
use Rattle.drive_states.specs.Unit.{UnitView}
use Rattle.drive_states.proofs.Units.{IsSoundUnit-moved, unreached}
use Rattle.drive_states.proofs.unit.Unit.write_sectors.Goals as goal

pub invariant_of-self : goal.invariant_of-self
invariant_of-self g c =
    let e = c.write_sectors-answer.ensures in
    let old = c.self.inside.dialogue in
    IsSoundUnit-moved g.T.Tape.means (record_of old) (drive_of c.write_sectors-answer.new.self).deck
    (drive_of c.write_sectors-answer.new.self).tape c.self.invariant.drive
    (λ stopped. ap (λ (x : AnyDrive g.row.T.Denot). (drive_of x).deck)
    (e.unreached (unreached is_primary (record_of old).deck c.args.addr stopped)).1)
    c.reveal.ensures.sound c.reveal.ensures.known

pub returns-clause-sound : goal.returns-clause-sound
returns-clause-sound g c = invariant_of-self g c

pub returns-clause-unreached : goal.returns-clause-unreached
returns-clause-unreached g c nowhere =
    let here : ReachesNone is_primary (record_of c.self.inside.dialogue).deck c.args.addr =
    subst (λ (u : UnitView g.row.T.Denot). ReachesNone is_primary u.drive.deck c.args.addr) (sym c.self.view_is) nowhere in
    let none = c.write_sectors-answer.ensures.unreached here in
    (none.0, ap (λ (x : AnyDrive g.row.T.Denot). unit_of record c.self.inside.dialogue { drive = x }) none.1 ∙ c.self.view_is)

pub returns-clause-reached : goal.returns-clause-reached
returns-clause-reached g c segment index reaches =
    rw (← c.self.view_is) (c.write_sectors-answer.ensures.reached segment index (rw (← c.self.view_is) at reaches))

pub returns-clause-cable : goal.returns-clause-cable
returns-clause-cable g c = rw (← c.self.view_is) refl

pub returns-clause-size : goal.returns-clause-size
returns-clause-size g c = rw (← c.self.view_is) c.write_sectors-answer.ensures.size
