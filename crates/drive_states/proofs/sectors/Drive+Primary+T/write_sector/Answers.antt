use Rattle.std.proofs.Common.{true, false, Ok, Err, sym, ◌∙◌}
use Rattle.drive_states.proofs.Places.{one_place, Writes-at}
use Rattle.drive_states.proofs.sectors.Drive+Primary+T.write_sector.Goals as goal

pub returns-in-Ok-clause-reached : goal.returns-in-Ok-clause-reached
returns-in-Ok-clause-reached g c segment index reaches =
    let same = one_place _ _ _ _ _ _ c.in-Some.ensures.reached.address (rw (← c.self.view_is) at reaches.sector.address) in
    Writes-at g.T.Tape.means c.args.self.now c.refuse_write.new.self _ _ segment index c.args.from.now true _
    (Ok (Err c.in-Ok.fault))
    (rw (← c.self.view_is) (sym c.is_protected.ensures ∙ c.if-is_protected.true)) same.0 same.1
    (rw c.in-Ok.is at c.refuse_write.ensures.refused c.args.from.now)

pub returns-in-Err-clause-reached : goal.returns-in-Err-clause-reached
returns-in-Err-clause-reached g c segment index reaches =
    let same = one_place _ _ _ _ _ _ c.in-Some.ensures.reached.address (rw (← c.self.view_is) at reaches.sector.address) in
    Writes-at g.T.Tape.means c.args.self.now c.refuse_write.new.self _ _ segment index c.args.from.now true _
    (Err c.in-Err.field-0)
    (rw (← c.self.view_is) (sym c.is_protected.ensures ∙ c.if-is_protected.true)) same.0 same.1
    (rw c.in-Err.is at c.refuse_write.ensures.refused c.args.from.now)

pub returns-clause-reached : goal.returns-clause-reached
returns-clause-reached g c segment index reaches =
    let same = one_place _ _ _ _ _ _ c.in-Some.ensures.reached.address (rw (← c.self.view_is) at reaches.sector.address) in
    Writes-at g.T.Tape.means c.args.self.now c.write_under.new.self _ _ segment index c.args.from.now false _ c.write_under.result
    (rw (← c.self.view_is) (sym c.is_protected.ensures ∙ c.if-is_protected.false)) same.0 same.1 c.write_under.ensures.wrote
