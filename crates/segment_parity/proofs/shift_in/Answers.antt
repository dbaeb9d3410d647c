use Rattle.std.proofs.Common.{◌≡◌, ℕ, refl, ◌∙◌, arith, List, length, subst}
use Rattle.segment_parity.specs.Register.{feedback, Shifted}
use Rattle.segment_parity.proofs.Steps.{shifted_none, shifted_more, untouched_more, sectors_more, length-thrice}
use Rattle.segment_parity.proofs.shift_in.Goals as goal

pub loop-j-init : goal.loop-j-init
loop-j-init c = record {
  size = c.told-register;
  done = λ all. shifted_none c.args.register.now c.args.sector.now;
  open' = λ r k h. refl;
  rows = λ all. all;
}

pub loop-j-preserved : goal.loop-j-preserved
loop-j-preserved c =
    let old : List (List ℕ) = c.args.register.now in
    let rows : List (List ℕ) = c.loop-j.register in
    let s : List ℕ = c.args.sector.now in
    let j : ℕ = c.loop-j.j in
    let w : ℕ = c.times_0xc0-multiple.result in
    let three : length rows ≡ 3 = c.loop-j.invariant.size in
    record {
      size = length-thrice rows j w (feedback rows s j) ∙ three;
      done = λ all.
          shifted_more old rows s j w three c.loop-j-test.true (c.loop-j.invariant.rows all)
          c.times_0xc0-multiple.ensures c.loop-j.invariant.open' (c.loop-j.invariant.done all);
      open' = untouched_more old rows j w (feedback rows s j) three c.loop-j.invariant.open';
      rows = λ all.
          sectors_more rows s j w three c.loop-j-test.true (c.fits-sector j) c.times_0xc0-multiple.type_inv
          (c.loop-j.invariant.rows all);
    }

pub returns-clause-columns : goal.returns-clause-columns
returns-clause-columns c = λ all.
    let end : c.loop-j.j ≡ 1024 = omega arith in
    subst (λ (n : ℕ). Shifted c.args.register.now c.args.sector.now c.loop-j.register n) end (c.loop-j.invariant.done all)
