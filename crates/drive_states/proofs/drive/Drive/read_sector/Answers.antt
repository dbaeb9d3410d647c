use Rattle.drive_states.proofs.Places.{one_place, Finds-at}
use Rattle.drive_states.proofs.drive.Drive.read_sector.Goals as goal

pub returns-clause-reached : goal.returns-clause-reached
returns-clause-reached g c segment index reaches =
    let same = one_place _ _ _ _ _ _ c.in-Some.ensures.reached.address (rw (← c.self.view_is) at reaches.sector.address) in
    Finds-at g.T.Tape.means c.args.self.now c.read_under.new.self _ _ segment index c.args.into.now c.read_under.new.into
    c.read_under.result
    same.0 same.1 c.read_under.ensures.found
