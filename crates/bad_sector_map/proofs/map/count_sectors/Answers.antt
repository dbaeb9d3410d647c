use Rattle.std.proofs.Common.{◌^◌, ◌<◌, sym, ap, ◌∙◌, arith}
use Rattle.std.proofs.Math.Nat.{mod-eq_of_lt}
use Rattle.qic_base.proofs.LostSetLaws.{length-lost_places}
use Rattle.bad_sector_map.proofs.map.count_sectors.Goals as goal
use lib.Count.{ones}

pub returns-clause-count : goal.returns-clause-count
returns-clause-count c =
    let bits : c.args.bits < 2 ^ 32 = omega arith in
    sym (length-lost_places c.args.bits 32 ∙ ap ones (mod-eq_of_lt bits))
