-- What a source in memory shows: the bytes that are left, and its chosen failures (this project's profile).
use Rattle.std.specs.Prelude.{ℕ, List, Some}
use Rattle.qic_base.specs.Source.{Meaning}
use Rattle.qic_mem.specs.Plan.{Plan}

pub record SourceState : Type 0 where
  pub left : List ℕ
  pub plan : Plan

-- it tells its bytes, and names nothing that it keeps
abbrev pub source_means : Meaning SourceState
source_means = record { left = λ s. Some s.left; keeps = λ _ _. Unit {0}; faults = λ s. s.plan.faults }

-- one whose reads never fail shows the bytes that are left, and counts no faults
abbrev pub sure_source_means : Meaning (List ℕ)
sure_source_means = record { left = λ s. Some s; keeps = λ _ _. Unit {0}; faults = λ s. 0 }
