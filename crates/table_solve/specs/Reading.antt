-- How the sectors of the volume table's segment that were collected are solved, by the sets that its reading tries (this
-- project's own).
use Rattle.std.specs.Prelude.{◌≡◌, ◌≢◌, ◌↔◌, ℕ, ◌<◌, ◌≤◌, List, length, take, Option, Some, None, slice_get, Result, Ok, Err}
use Rattle.qic_base.specs.CartridgeTerms.{IsLost}
use Rattle.qic_base.specs.declared.tape.SectorView.{SectorView}
use Rattle.qic_base.specs.declared.tape.SectorView.TheVariants.{Holds}
use Rattle.cartridge_spec.specs.Code.{IsCodeBlock}
use Rattle.cartridge_spec.specs.Says.{Data, ByCode, TableSays, HasNoBlock, unreadable_count}
use Rattle.cartridge_spec.specs.Says as says
use Rattle.segment_solve.specs.Gathered.{Gathered, NamesUnreadable}
use Rattle.segment_solve.specs.Reading.{HasSolved}
use Rattle.segment_solve.specs.declared.fault.SegFault.{SegFault}
use Rattle.segment_solve.specs.declared.fault.SegFault.TheVariants.{Mismatch}
use Rattle.table_solve.specs.declared.unread.Unread.{Unread}

-- ---- the sectors that stand as the tape holds them

-- a sector of data can be read, and holds other bytes than stand in its place
pub record HoldsOther (cells : List SectorView) (sectors : List (List ℕ)) (i : ℕ) : Type 0 where
  pub data_sector : i < 29
  pub bytes : List ℕ
  pub held : slice_get cells i ≡ Some (Holds bytes)
  pub other : slice_get sectors i ≢ Some bytes

-- just these can't be read, just this one of data was left out of account and holds other bytes, and the bytes of each other
-- one stand in its place
pub record IsReadBut (cells : List SectorView) (unread : Unread) (sectors : List (List ℕ)) : Type 0 where
  pub lost : NamesUnreadable cells unread.lost
  pub left_out : (i : ℕ) → IsLost unread.left_out i ↔ HoldsOther cells sectors i
  pub held : (i : ℕ) (bytes : List ℕ) → ¬ (IsLost unread.left_out i) → slice_get cells i ≡ Some (Holds bytes) →
      slice_get sectors i ≡ Some bytes

-- ---- solved by one set after the other

-- the sectors outside the set are those of no code block: that is what cells say of which just these were gathered
abbrev pub Unsolved : (set : ℕ) (sectors : List (List ℕ)) → Type 0
Unsolved set sectors =
    (cells : List SectorView) → length cells ≡ 32 → Gathered cells set sectors → unreadable_count cells ≤ 3 → HasNoBlock cells

-- they are those of the code block that the sectors became
abbrev pub IsSolved : (set : ℕ) (old new : List (List ℕ)) → Type 0
IsSolved set old new = (cells : List SectorView) → length cells ≡ 32 → Gathered cells set old → HasSolved cells new

-- the sectors became the code block by the set at a place, and by none before it
pub record IsSolvedAt (sets : List ℕ) (old new : List (List ℕ)) (set : ℕ) : Type 0 where
  pub place : ℕ
  pub there : slice_get sets place ≡ Some set
  pub before : (i other : ℕ) → i < place → slice_get sets i ≡ Some other → Unsolved other old
  pub code : IsCodeBlock new
  pub solved : IsSolved set old new

-- no set solves the sectors, which stay
pub record IsUnsolved (sets : List ℕ) (old new : List (List ℕ)) : Type 0 where
  pub each : (i other : ℕ) → slice_get sets i ≡ Some other → Unsolved other old
  pub kept : new ≡ old

abbrev pub SolvesFirst : (sets : List ℕ) (old new : List (List ℕ)) → Option ℕ → Type 0
SolvesFirst sets old new None = IsUnsolved sets old new
SolvesFirst sets old new (Some set) = IsSolvedAt sets old new set

-- ---- the table's data

-- the cells say the data in the first 29 sectors by the code, and the others stand as the tape holds them, but for these
pub record HasTableData (cells : List SectorView) (sectors : List (List ℕ)) (unread : Unread) : Type 0 where
  pub says : TableSays cells (ByCode (Data (take 29 sectors)))
  pub known : IsReadBut cells unread sectors

-- or they say that no code block agrees
abbrev pub SolvesTable : (cells : List SectorView) (sectors : List (List ℕ)) → Result Unread SegFault → Type 0
SolvesTable cells sectors (Ok unread) = HasTableData cells sectors unread
SolvesTable cells sectors (Err (Mismatch segment)) = (segment ≡ 2) × TableSays cells (ByCode says.Mismatch)
SolvesTable cells sectors (Err fault) = ⊥
