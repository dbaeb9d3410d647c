use Rattle.std.proofs.Common.{◌≡◌, ℕ, ◌+◌, ◌*◌, ◌∙◌, ap, subst, arith, List}
use Rattle.cartridge_spec.specs.Code.{product}
use Rattle.erasure_solve.proofs.Columns.{AreFirst, values_more, none_first, all_first}
use Rattle.erasure_solve.proofs.values.Values.of.Goals as goal

pub loop-strip-init : goal.loop-strip-init
loop-strip-init c = none_first _ c.args.sectors.now (c.mul.ensures ∙ ap (product 2) c.pow.ensures)

pub loop-strip-preserved : goal.loop-strip-preserved
loop-strip-preserved c =
    let ss : List (List ℕ) = c.args.sectors.now in
    let i : ℕ = c.loop-strip.strip in
    let next : i * 128 + 128 ≡ (i + 1) * 128 = omega arith in
    subst (λ (n : ℕ). AreFirst n c.put.new.self ss) next
    (values_more c.loop-strip.values c.put.new.self c.of.result (i * 128) ss (omega arith) c.requires c.are_sectors.ensures
    c.put.ensures c.of.ensures c.loop-strip.invariant)

pub returns-clause-values : goal.returns-clause-values
returns-clause-values c =
    all_first (c.loop-strip.strip * 128) c.loop-strip.values c.args.sectors.now (omega arith) c.loop-strip.invariant
