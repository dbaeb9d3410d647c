use Rattle.host_driver.proofs.Taking.{stands_known, forward_of}
use Rattle.host_driver.proofs.host.Host.forward.Goals as goal

pub command-requires-clause-taken : goal.command-requires-clause-taken
command-requires-clause-taken g c = forward_of c.args.unit.now.drive.deck
    (stands_known c.requires.ready.fits c.requires.stopped) c.requires.referenced c.requires.first
