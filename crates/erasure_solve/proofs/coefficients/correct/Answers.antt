use Rattle.std.proofs.Common.{ℕ, ◌∙◌, ap, arith, bit_xor, get_or, List}
use Rattle.erasure_solve.specs.Rows.{weighed_by, weighed_byte}
use Rattle.erasure_solve.proofs.coefficients.correct.Goals as goal

pub returns : goal.returns
returns c =
    let old = c.args.values.now in
    let f : List ℕ = c.args.first.now.factors in
    let g : List ℕ = c.args.second.now.factors in
    let p : ℕ → ℕ → ℕ = λ k j. weighed_by k (get_or f 1 0) (get_or f 2 0) old j in
    let u : ℕ → ℕ → ℕ = λ k j. weighed_by k (get_or g 1 0) (get_or g 2 0) old j in
    record {
      at_first = λ j h. c.loop-j.invariant.at_first j (omega arith) ∙ ap (λ k. p k j) c.mul-p.ensures;
      at_second = λ j h. c.loop-j.invariant.at_second j (omega arith) ∙ ap (λ k. u k j) c.mul-u.ensures;
      at_third = λ j h.
          c.loop-j.invariant.at_third j (omega arith)
          ∙ ap (λ k. bit_xor (bit_xor (p k j) (u c.mul-u.result j)) (get_or old.at_one j 0)) c.mul-p.ensures
          ∙ ap (λ k. bit_xor (bit_xor (weighed_byte old f j) (u k j)) (get_or old.at_one j 0)) c.mul-u.ensures;
    }
