use Rattle.std.proofs.Common.{◌≡◌, ◌*◌, ◌-◌, ◌<◌}
use Rattle.drive_states.specs.Unit.{IsSoundUnit}
use Rattle.host_driver.specs.Reports.{reports_until_ready}
use Rattle.host_driver.specs.Train.{waited}
use Rattle.host_driver.proofs.host.Host.wait.Given as goal

abbrev pub invariant-loop-before : goal.invariant-loop-before
invariant-loop-before g l = record {
  deck : l.unit.drive.deck ≡ waited (10 * l.before) l.fn.unit.drive.deck;
  cable : l.unit.drive ≡ record l.fn.unit.drive { deck = l.unit.drive.deck; line = l.unit.drive.line };
  tape : l.unit.tape ≡ l.fn.unit.tape;
  sound : IsSoundUnit g.T.Tape.means l.unit;
  waits : l.before < reports_until_ready l.fn.unit.drive.deck.motion;
}

abbrev pub decreases-loop-before : goal.decreases-loop-before
decreases-loop-before g l = reports_until_ready l.fn.unit.drive.deck.motion - l.before
