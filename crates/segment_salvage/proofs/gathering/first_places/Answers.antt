use Rattle.std.proofs.Common.{◌^◌, ◌<◌, arith}
use Rattle.std.proofs.Math.Pow.{pow-lt}
use Rattle.std.proofs.lemmas.Nat.{pow_pos}
use Rattle.segment_salvage.proofs.gathering.first_places.Goals as goal

pub overflow_sub-result : goal.overflow_sub-result
overflow_sub-result c =
    let low : 2 ^ c.args.count < 2 ^ 32 = pow-lt {i = c.args.count} {j = 32} c.requires in
    omega (arith, pow_pos c.args.count)

pub returns : goal.returns
returns c =
    let low : 2 ^ c.args.count < 2 ^ 32 = pow-lt {i = c.args.count} {j = 32} c.requires in
    omega (arith, pow_pos c.args.count)
