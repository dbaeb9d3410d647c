use Rattle.std.proofs.Common.{ℕ, ◌<◌}
use Rattle.qic_base.specs.CartridgeTerms.{IsLost}
use Rattle.volume_table.proofs.reading.loses_data.Given as goal

abbrev pub invariant-loop-place : goal.invariant-loop-place
invariant-loop-place l = (k : ℕ) → k < l.place → ¬ (IsLost l.lost k)
