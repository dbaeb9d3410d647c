use Rattle.std.proofs.Common.{◌≡◌, ℕ, ◌<◌, [], get_or, replicate}
use Rattle.header_segments.proofs.writing.clear.Given as goal

abbrev pub invariant-loop-sector : goal.invariant-loop-sector
invariant-loop-sector l = (i : ℕ) → i < l.sector-index → get_or l.area i [] ≡ replicate 1024 0
