use Rattle.std.proofs.Common.{ℕ, ◌*◌, ◌<◌, subst}
use Rattle.qic117_commands.specs.Views.{is_primary}
use Rattle.host_driver.proofs.Reaching.{length_is, under_on_tape, reaches}
use Rattle.host_driver.proofs.host.Host.write_all_under.Goals as goal

pub address-requires-clause-on_tape : goal.address-requires-clause-on_tape
address-requires-clause-on_tape g c =
    subst (λ (n : ℕ). c.args.segment < 28 * n)
    (length_is c.args.self.now.geometry c.args.unit.now.drive.deck.cartridge c.requires.ready.fits.cartridge)
    (under_on_tape c.args.unit.now.drive.deck c.args.segment 0 c.requires.ready.fits.sound.drive.deck c.requires.under)

pub returns-clause-wrote : goal.returns-clause-wrote
returns-clause-wrote g c =
    rw c.requires.writable.writable at (c.write_sectors.ensures.reached c.args.segment 0
    (reaches is_primary c.args.unit.now.drive.deck c.args.self.now.geometry c.args.segment 0 c.address.result
    c.requires.ready.fits.cartridge c.requires.writable.mode c.requires.under c.address.ensures))
