use Rattle.std.proofs.Common.{ap}
use Rattle.drive_states.specs.declared.any_drive.AnyDrive.TheVariants.{Primary, Verify}
use Rattle.drive_states.proofs.any_drive.AnyDrive.read_sectors.Goals as goal

pub returns-in-Primary-clause-unreached : goal.returns-in-Primary-clause-unreached
returns-in-Primary-clause-unreached g c =
    rw c.in-Primary.is (λ none. let e = c.read_sectors.ensures.unreached none in (e.0, ap Primary e.1, e.2))

pub returns-in-Primary-clause-reached : goal.returns-in-Primary-clause-reached
returns-in-Primary-clause-reached g c = rw c.in-Primary.is c.read_sectors.ensures.reached

pub returns-in-Verify-clause-unreached : goal.returns-in-Verify-clause-unreached
returns-in-Verify-clause-unreached g c =
    rw c.in-Verify.is (λ none. let e = c.read_sectors-in-Verify.ensures.unreached none in (e.0, ap Verify e.1, e.2))

pub returns-in-Verify-clause-reached : goal.returns-in-Verify-clause-reached
returns-in-Verify-clause-reached g c = rw c.in-Verify.is c.read_sectors-in-Verify.ensures.reached
