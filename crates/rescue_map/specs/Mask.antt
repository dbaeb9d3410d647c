-- The sectors of a dump as a mask: a word of 32 bits for each segment (this project's own).
use Rattle.std.specs.Prelude.{◌≡◌, ◌↔◌, ℕ, ◌*◌, ◌/◌, ◌%◌, ◌<◌, List, length, slice_index}
use Rattle.std.specs.Int.{bit_at}
use Rattle.rescue_map.specs.declared.form.Block.{Block}
use Rattle.rescue_map.specs.Map.{IsWhole}

-- bit i of word s is 1 where sector 32 s + i is in the mask
abbrev pub IsMarked : List ℕ → (sector : ℕ) → Type 0
IsMarked mask sector = bit_at (slice_index mask (sector / 32)) (sector % 32) ≡ 1

-- in the mask are exactly the sectors that were rescued whole
abbrev pub IsMaskOf : List Block → List ℕ → Type 0
IsMaskOf blocks mask = (sector : ℕ) → sector < 32 * length mask → (IsMarked mask sector ↔ IsWhole blocks sector)
