use Rattle.std.proofs.Common.{ℕ, ◌*◌, ◌<◌, subst}
use Rattle.drive_states.specs.Reach.{reads_in}
use Rattle.host_driver.proofs.Reaching.{length_is, under_on_tape, reaches}
use Rattle.host_driver.proofs.host.Host.read_all_under.Goals as goal

pub address-requires-clause-on_tape : goal.address-requires-clause-on_tape
address-requires-clause-on_tape g c =
    subst (λ (n : ℕ). c.args.segment < 28 * n)
    (length_is c.args.self.now.geometry c.args.unit.now.drive.deck.cartridge c.requires.ready.fits.cartridge)
    (under_on_tape c.args.unit.now.drive.deck c.args.segment 0 c.requires.ready.fits.sound.drive.deck c.requires.under)

pub returns-clause-found : goal.returns-clause-found
returns-clause-found g c =
    c.read_sectors.ensures.reached c.args.segment 0
    (reaches reads_in c.args.unit.now.drive.deck c.args.self.now.geometry c.args.segment 0 c.address.result
    c.requires.ready.fits.cartridge c.requires.mode c.requires.under c.address.ensures)
