use Rattle.std.proofs.Common.{[], Ok, Err, sym, ◌∙◌}
use Rattle.drive_states.proofs.Places.{one_place}
use Rattle.drive_states.proofs.Passing.{refused-at}
use Rattle.drive_states.proofs.sectors.Drive+Primary+T.write_sectors.Goals as goal

pub returns-in-Ok-clause-reached : goal.returns-in-Ok-clause-reached
returns-in-Ok-clause-reached g c segment index reaches =
    let same = one_place _ _ _ _ _ _ c.in-Some.ensures.reached.address (rw (← c.self.view_is) at reaches.sector.address) in
    refused-at g.T.Tape.means c.args.self.now c.refuse_write.new.self _ _ segment index c.args.written c.args.from.now _
    (Ok c.in-Ok.fault) (rw (← c.self.view_is) (sym c.is_protected.ensures ∙ c.if-is_protected.true)) same.0 same.1
    (rw c.in-Ok.is at c.refuse_write.ensures.refused [])

pub returns-in-Err-clause-reached : goal.returns-in-Err-clause-reached
returns-in-Err-clause-reached g c segment index reaches =
    let same = one_place _ _ _ _ _ _ c.in-Some.ensures.reached.address (rw (← c.self.view_is) at reaches.sector.address) in
    refused-at g.T.Tape.means c.args.self.now c.refuse_write.new.self _ _ segment index c.args.written c.args.from.now _
    (Err record {}) (rw (← c.self.view_is) (sym c.is_protected.ensures ∙ c.if-is_protected.true)) same.0 same.1
    (rw c.in-Err.is at c.refuse_write.ensures.refused [])
