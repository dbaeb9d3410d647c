use Rattle.drive_states.proofs.Units.{either_way}
use Rattle.drive_states.proofs.unit.Unit.upgrade.Goals as goal

pub returns-clause-present : goal.returns-clause-present
returns-clause-present g c = either_way c.args.self.now.drive.deck.cartridge (rw (← c.self.view_is) c.in_ok-answer.ensures)
