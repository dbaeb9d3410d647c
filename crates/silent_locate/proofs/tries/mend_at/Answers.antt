use Rattle.std.proofs.Common.{◌≡◌, ℕ, ◌+◌, ◌≤◌, arith}
use Rattle.erasure_solve.specs.Lost.{lost_count}
use Rattle.silent_locate.specs.Tries.{lost_or}
use Rattle.silent_locate.proofs.Sets.{with_place-test, count_with_place}
use Rattle.qic_base.specs.CartridgeTerms.{is_lost}
use Rattle.silent_locate.proofs.tries.mend_at.Goals as goal

pub returns-in_default-clause-mended : goal.returns-in_default-clause-mended
returns-in_default-clause-mended c =
    let more : ℕ = c.with_place.result in
    let test : (i : ℕ) → is_lost more i ≡ lost_or c.args.lost c.args.place i =
    with_place-test c.args.lost more c.args.place c.with_place.ensures.more c.with_place.ensures.others in
    let most : lost_count more ≤ lost_count c.args.lost + 1 = count_with_place c.args.lost more c.args.place test in
    let few : lost_count more ≤ 3 = omega (arith, c.requires.few) in
    let made = c.in_default.ensures.planned.1 few in
    absurd (cc made)
