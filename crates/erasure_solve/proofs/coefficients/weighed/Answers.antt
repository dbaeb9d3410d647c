use Rattle.std.proofs.Common.{◌∙◌, ℕ, List, ap, arith, get_or}
use Rattle.std.proofs.lemmas.List.FromFn.{fill_by_all}
use Rattle.erasure_solve.specs.Rows.{weighed_by, weighed_byte, weighed_row}
use Rattle.erasure_solve.proofs.coefficients.weighed.Goals as goal

pub returns : goal.returns
unfolding weighed_row
returns c =
    let f : List ℕ = c.args.factors.now in
    fill_by_all (weighed_byte c.args.values.now f) c.loop-j.byte-items 1024 0 c.loop-j.invariant.size
    (λ k h.
    c.loop-j.invariant.done k (omega arith)
    ∙ ap (λ p. weighed_by p (get_or f 1 0) (get_or f 2 0) c.args.values.now k) c.mul-p.ensures)
