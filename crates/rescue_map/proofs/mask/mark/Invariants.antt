use Rattle.std.proofs.Common.{◌↔◌, ℕ, ◌*◌, ◌<◌, ◌≤◌, length}
use Rattle.rescue_map.specs.Mask.{IsMarked}
use Rattle.rescue_map.proofs.Masking.{IsMarkedTo}
use Rattle.rescue_map.proofs.mask.mark.Given as goal

abbrev pub invariant-loop-index : goal.invariant-loop-index
invariant-loop-index l = (sector : ℕ) → sector < 32 * length l.mask →
    (IsMarked l.mask sector ↔ IsMarkedTo l.initial.mask l.first l.end l.index sector)
