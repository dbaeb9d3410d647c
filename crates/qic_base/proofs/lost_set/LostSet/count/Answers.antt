use Rattle.std.proofs.Common.{◌^◌, ◌<◌, sym, ap, ◌∙◌, arith}
use Rattle.std.proofs.Math.Nat.{mod-eq_of_lt}
use Rattle.qic_base.proofs.LostSetLaws.{length-lost_places}
use Rattle.qic_base.proofs.lost_set.LostSet.count.Goals as goal
use lib.Count.{ones}

pub returns : goal.returns
returns c =
    let mask : c.args.self.now < 2 ^ 32 = omega arith in
    ap ones c.self.view_is ∙ sym (length-lost_places c.args.self.now 32 ∙ ap ones (mod-eq_of_lt mask))
