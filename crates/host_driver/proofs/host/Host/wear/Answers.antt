use Rattle.std.proofs.Common.{rules}
use Rattle.host_driver.proofs.Wearing.{wears_of}
use Rattle.host_driver.proofs.host.Host.wear.Goals as goal

pub returns-clause-keeps : goal.returns-clause-keeps
returns-clause-keeps g c = record {
  ready = search rules;
  same = search rules;
  agrees = wears_of g.T.Tape.means c.args.unit.now c.wear.new.self c.args.self.now.geometry c.args.segment c.args.sector c.wear.result
      c.requires.ready.fits.cartridge
      c.wear.ensures.drive c.wear.ensures.placed c.wear.ensures.misplaced c.wear.ensures.untouched;
  size = search rules;
}
