use Rattle.std.proofs.Common.{◌≡◌, ℕ, ◌<◌}
use Rattle.gf256_qic.specs.Code.{IsSolvable}
use Rattle.silent_locate.specs.Tries.{lost_or}
use Rattle.silent_locate.proofs.tries.mend_one.Given as goal

abbrev pub invariant-loop-place : goal.invariant-loop-place
invariant-loop-place l = record {
  same : l.sectors ≡ l.fn.sectors;
  none : (place : ℕ) → place < l.place → IsSolvable (lost_or l.lost place) l.fn.sectors → ⊥;
}
