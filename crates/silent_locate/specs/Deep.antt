-- What a segment says where one of its sectors may hold wrong bytes and can be read all the same: the code block of its
-- cells, and the place of the wrong one (QIC-80-MC: two code blocks differ in at least four sectors; the rest is this
-- project's profile).
use Rattle.std.specs.Prelude.{◌≡◌, ◌≢◌, ℕ, suc, ◌/◌, ◌%◌, ◌^◌, ◌≤◌, ◌==◌, Bool, true, false, List, [], ◌∷◌, length, Option, Some, None}
use Rattle.std.specs.Prelude.{slice_get}
use Rattle.qic_base.specs.declared.tape.SectorView.{SectorView}
use Rattle.qic_base.specs.declared.tape.SectorView.TheVariants.{Lost, Holds}
use Rattle.cartridge_spec.specs.Code.{IsCodeBlock}
use Rattle.cartridge_spec.specs.Says.{unreadable_count, Agrees, HasNoBlock}

-- ---- cells

-- each cell that can be read holds its sector of the block, but for the one at a place
pub record AgreesBut (cells : List SectorView) (place : ℕ) (block : List (List ℕ)) : Type 0 where
  pub size : length block ≡ length cells
  pub each : (i : ℕ) (bytes : List ℕ) → i ≢ place → slice_get cells i ≡ Some (Holds bytes) → slice_get block i ≡ Some bytes

-- ---- the deep reading

-- no cell is wrong: at most three are unreadable, and the code block agrees with the others
pub record IsAllRight (cells : List SectorView) (block : List (List ℕ)) : Type 0 where
  pub few : unreadable_count cells ≤ 3
  pub code : IsCodeBlock block
  pub agrees : Agrees cells block

-- The cell at a place is wrong: no code block agrees with all cells that can be read, at most one cell is unreadable, and
-- the code block agrees with all that can be read but this one.
pub record IsWrongAt (cells : List SectorView) (place : ℕ) (block : List (List ℕ)) : Type 0 where
  pub none_agrees : HasNoBlock cells
  pub few : unreadable_count cells ≤ 1
  pub code : IsCodeBlock block
  pub agrees : AgreesBut cells place block

-- the code block of cells, and the place of the wrong one, if one is
abbrev pub Deep : List SectorView → List (List ℕ) → Option ℕ → Type 0
Deep cells block None = IsAllRight cells block
Deep cells block (Some place) = IsWrongAt cells place block

-- there is no such block and place
abbrev pub HasNoReading : List SectorView → Type 0
HasNoReading cells = (block : List (List ℕ)) (wrong : Option ℕ) → Deep cells block wrong → ⊥

-- ---- the cells of sectors

-- a sector's cell, by whether its place is lost
abbrev pub cell_of : (is_lost : Bool) → List ℕ → SectorView
cell_of true bytes = Lost
cell_of false bytes = Holds bytes

-- those of sectors from a place on
unfoldable pub cells_from : (lost place : ℕ) → List (List ℕ) → List SectorView
cells_from lost place [] = []
cells_from lost place (bytes ∷ sectors) =
    cell_of (lost / 2 ^ place % 2 == 1) bytes ∷ cells_from lost (suc place) sectors

-- the cells of sectors, of which those at the places of a set can't be read
abbrev pub cells_without : (lost : ℕ) → List (List ℕ) → List SectorView
cells_without lost sectors = cells_from lost 0 sectors
