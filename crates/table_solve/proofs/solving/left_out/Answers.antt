use Rattle.std.proofs.Common.{refl}
use Rattle.table_solve.proofs.Collected.{left_some}
use Rattle.table_solve.proofs.solving.left_out.Goals as goal

pub returns-in-Some : goal.returns-in-Some
returns-in-Some c = left_some c.args.set c.from_mask.result c.in-Some.place c.args.used c.in-Some.is c.requires
    (c.if-contains.ensures.lost.0 refl) c.from_mask.ensures
