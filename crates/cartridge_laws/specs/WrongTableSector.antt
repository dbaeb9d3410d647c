-- A sector of the table's segment that can be read and silently holds other bytes than the block of all others (QIC-80-MC: two
-- code blocks differ in at least four sectors).
use Rattle.std.specs.Prelude.{◌≡◌, ◌≢◌, ℕ, ◌<◌, List}
use Rattle.cartridge_spec.specs.Says.{Data, HasNoBlock, Says, with_parity}
use Rattle.cartridge_spec.specs.Shape.{sector_at}
use Rattle.cartridge_spec.specs.TableSegment.{ChangesTableAlone, table_cells}
use Rattle.cartridge_spec.specs.Volumes.{worn}
use Rattle.qic_base.specs.Cartridge.{Cartridge, view_at}
use Rattle.qic_base.specs.declared.tape.SectorView.TheVariants.{Holds}

-- No code block agrees with all sectors of the table's segment that can be read. Once this one is lost, at most three can't be read,
-- and one block agrees with the others, of these data.
pub record IsWrongInTable (c : Cartridge) (wrong : ℕ) (area : List (List ℕ)) : Type 0 where
  pub within : wrong < 32
  pub mismatch : HasNoBlock (table_cells c)
  pub says : Says (table_cells (worn 2 wrong c)) (Data area)

-- one sector of the table's segment holds other bytes than its part of these data and their parity, and nothing else has changed
pub record RotsInTable (c d : Cartridge) (area : List (List ℕ)) (wrong : ℕ) : Type 0 where
  pub within : wrong < 32
  pub held : List ℕ
  pub here : view_at d 2 wrong ≡ Holds held
  pub differs : held ≢ sector_at (with_parity area) wrong
  pub others : (i : ℕ) → i < 32 → i ≢ wrong → view_at d 2 i ≡ view_at c 2 i
  pub alone : ChangesTableAlone c d
