-- A source tells its bytes behind each of its calls just where it did before.
use Rattle.std.proofs.Common.{◌≡◌, ℕ, List, ◌++◌, sym, ap, ◌∙◌}
use Rattle.std.specs.Prelude.{is_some}
use Rattle.qic_base.specs.Source.{Meaning}
use Rattle.qic_base.specs.SourceCalls.{Gave}
use Rattle.qic_base.proofs.Steps.{is_some-option_map}

pub gave_tells : {S : Type 0} (m : Meaning S) (a b : S) (bytes : List ℕ) → Gave m a b bytes → is_some (m.left b) ≡ is_some (m.left a)
gave_tells m a b bytes gave = sym (ap is_some gave ∙ is_some-option_map (λ rest. bytes ++ rest) (m.left b))
