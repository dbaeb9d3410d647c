-- A mask has no bit from 32 on.
use Rattle.std.proofs.Common.{◌≡◌, ◌/◌, ◌^◌, ◌<◌, arith}
use Rattle.qic_base.proofs.LostSetLaws.{none_lost_above}
use Rattle.qic_base.proofs.lost_set.LostSet.contains.Goals as goal

pub returns-else-place-lt32-clause-lost : goal.returns-else-place-lt32-clause-lost
returns-else-place-lt32-clause-lost c =
    let mask : c.args.self.now < 2 ^ 32 = omega arith in
    let none : c.args.self.now / 2 ^ c.args.place ≡ 0 = none_lost_above c.args.self.now c.args.place mask c.if-place-lt32.false in
    grind (arith, none)
