-- The mask while blocks come (this project's own).
use Rattle.std.specs.Prelude.{◌≡◌, ℕ, ◌+◌, ◌^◌, ◌≤◌, ◌<◌, Bool, true, false, List, []}
use Rattle.rescue_map.specs.declared.form.Block.{Block}
use Rattle.rescue_map.specs.declared.form.Expected.{Expected}
use Rattle.rescue_map.specs.declared.form.Expected.TheVariants as awaits
use Rattle.rescue_map.specs.declared.form.Said.{Said}
use Rattle.rescue_map.specs.declared.form.Said.TheVariants as said
use Rattle.rescue_map.specs.Map.{Rescued, Going, Failed, behind_said}
use Rattle.rescue_map.specs.Mask.{IsMarked, IsMaskOf}

-- a block has at least a byte, and its end is a number
pub record IsBlock (block : Block) : Type 0 where
  pub some : 1 ≤ block.size
  pub fits : block.start + block.size < 2 ^ 63

abbrev pub IsSound : Said → Type 0
IsSound said.Nothing = Unit {0}
IsSound said.Status = Unit {0}
IsSound (said.Block block) = IsBlock block
IsSound said.Bad = Unit {0}

-- The mask is that of these blocks, which end at a byte, and of the bytes before that one those from another on were
-- rescued without a gap.
pub record Marks (mask : List ℕ) (blocks : List Block) (from end : ℕ) : Type 0 where
  pub marked : IsMaskOf blocks mask
  pub low : from ≤ end
  pub above : (byte : ℕ) → end ≤ byte → Rescued blocks byte → ⊥
  pub rescued : (byte : ℕ) → from ≤ byte → byte < end → Rescued blocks byte
  pub gap : (byte : ℕ) → byte < from → ((later : ℕ) → byte ≤ later → later < end → Rescued blocks later) → ⊥

-- no sector is in the mask
abbrev pub NoneMarked : List ℕ → Type 0
NoneMarked mask = (sector : ℕ) → IsMarked mask sector → ⊥

-- what is kept of the blocks so far, where this is expected
abbrev pub Tracked : (mask : List ℕ) → List Block → Expected → (from : ℕ) → Type 0
Tracked mask blocks awaits.Status from = (blocks ≡ []) × NoneMarked mask
Tracked mask blocks awaits.First from = (blocks ≡ []) × NoneMarked mask
Tracked mask blocks (awaits.Next end) from = Marks mask blocks from end

-- the block starts where it has to
abbrev pub Continues : Expected → Block → Type 0
Continues awaits.Status block = Unit {0}
Continues awaits.First block = Unit {0}
Continues (awaits.Next end) block = block.start ≡ end

-- the line was taken, or it is at fault
abbrev pub Moves : (mask : List ℕ) (blocks : List Block) (old new : Expected) (from line : ℕ) → Said → (taken : Bool) → Type 0
Moves mask blocks old new from line what true =
    (more : List Block) × (behind_said blocks old line what ≡ Going more new (line + 1)) × Tracked mask more new from
Moves mask blocks old new from line what false = behind_said blocks old line what ≡ Failed line
