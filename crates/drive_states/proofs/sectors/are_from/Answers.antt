use Rattle.std.proofs.Common.{◌≡◌, ◌*◌, ◌%◌, ◌^◌, arith}
use Rattle.std.proofs.lemmas.Bool.{eq-eqb, eqb-true}
use Rattle.std.proofs.lemmas.Nat.{one_shl, pow_pos}
use Rattle.drive_states.proofs.sectors.are_from.Goals as goal

pub nonzero_rem-result : goal.nonzero_rem-result
nonzero_rem-result c = omega (arith, one_shl c.args.index 32 c.requires, pow_pos c.args.index)

pub returns : goal.returns
returns c =
    let shifted : 1 * 2 ^ c.args.index % 4294967296 ≡ 2 ^ c.args.index = one_shl c.args.index 32 c.requires in
    rw (shifted, c.mask.ensures) (eqb-true _ _, eq-eqb _ _)
