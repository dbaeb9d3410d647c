-- The segment of the volume table: its data, whether these can be read, whether its sectors take writes, and where one of
-- them is lost (its place is this project's profile).
use Rattle.std.specs.Prelude.{ℕ, List, ◌⊎◌, ◌≡◌, take, ◌≤◌, ◌<◌, ◌≢◌}
use Rattle.cartridge_spec.specs.Says.{whole_mask, cells_of, Data, TableSays, AsRead, ByCode, unreadable_count, Says, ReadsAll}
use Rattle.cartridge_spec.specs.Shape.{IsLive}
use Rattle.qic_base.specs.Cartridge.{Cartridge, view_at}
use Rattle.qic_base.specs.declared.tape.SectorView.{SectorView}
use Rattle.qic_base.specs.declared.tape.SectorView.TheVariants.{Lost}

-- the cells of the segment, of whose 32 sectors all are usable
abbrev pub table_cells : Cartridge → List SectorView
table_cells c = cells_of c 2 whole_mask

-- the table's segment says these data, read as they are or found by the code
abbrev pub TableIs : Cartridge → List (List ℕ) → Type 0
TableIs c area = TableSays (table_cells c) (AsRead area) ⊎ TableSays (table_cells c) (ByCode (Data area))

-- none of the data sectors of its table is unreadable, or at most three sectors of its segment are: on a cartridge that stands for
-- a plain one its data can then be read, or be found by the code
abbrev pub CanBeRead : Cartridge → Type 0
CanBeRead c = (unreadable_count (take 29 (table_cells c)) ≡ 0) ⊎ (unreadable_count (table_cells c) ≤ 3)

-- no readable sector is left out of account: the data are read as they are, or are those of the code block that agrees
-- with all readable sectors
abbrev pub ReadsPlainly : Cartridge → (area : List (List ℕ)) → Type 0
ReadsPlainly c area = ReadsAll (table_cells c) area ⊎ Says (table_cells c) (Data area)

-- each sector of the table's segment takes what is written to it
abbrev pub IsTableLive : Cartridge → Type 0
IsTableLive c = (i : ℕ) → i < 32 → IsLive (view_at c 2 i)

-- one sector of the table's segment is lost, and the others are as they were
pub record LosesOne (c d : Cartridge) (lost : ℕ) : Type 0 where
  pub within : lost < 32
  pub here : view_at d 2 lost ≡ Lost
  pub others : (i : ℕ) → i < 32 → i ≢ lost → view_at d 2 i ≡ view_at c 2 i

-- nothing but the table's segment has changed: neither a mark nor a sector of another segment
pub record ChangesTableAlone (c d : Cartridge) : Type 0 where
  pub info : d.info ≡ c.info
  pub others : (segment sector : ℕ) → sector < 32 → segment ≢ 2 → view_at d segment sector ≡ view_at c segment sector

-- one sector of the table's segment is lost, and nothing else has changed
pub record LosesOneAlone (c d : Cartridge) (lost : ℕ) : Type 0 where
  pub loses : LosesOne c d lost
  pub alone : ChangesTableAlone c d
