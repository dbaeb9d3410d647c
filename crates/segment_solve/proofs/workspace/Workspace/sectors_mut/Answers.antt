use Rattle.std.proofs.Common.{◌++◌, ℕ, List, length, take, drop, refl, ap, ◌∙◌}
use Rattle.segment_solve.proofs.workspace.Workspace.sectors_mut.Goals as goal

-- the workspace has 32 sectors, whatever stands in them
pub returns : goal.returns
returns c = (
  (
    refl,
    λ left.
        ap (λ (n : ℕ). take n (left ++ drop (length left) c.self.inside.sectors.items)) c.self.invariant
        ∙ ap (λ (items : List (List ℕ)). take 32 (left ++ drop (length left) items)) c.self.view_is,
  ),
  record {
    writes_back = tt;
    value = c.deref_mut.ensures.value ∙ c.self.view_is;
    size = c.deref_mut.ensures.len ∙ c.self.invariant;
  },
)
