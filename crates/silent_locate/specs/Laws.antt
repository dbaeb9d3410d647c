-- The laws of the deep reading, as facts.
use Rattle.std.specs.Prelude.{◌≡◌, ◌≢◌, ◌↔◌, ℕ, ◌≤◌, List, length, Option, Some, slice_get}
use Rattle.qic_base.specs.declared.tape.SectorView.{SectorView}
use Rattle.qic_base.specs.declared.tape.SectorView.TheVariants.{Holds}
use Rattle.cartridge_spec.specs.Code.{IsCodeBlock}
use Rattle.cartridge_spec.specs.Says.{unreadable_count}
use Rattle.silent_locate.specs.Deep.{AgreesBut, Deep}

-- cells have at most one deep reading: one block, and one place or none
abbrev pub OneDeepReading : Type 0
OneDeepReading =
    (cells : List SectorView) (a b : List (List ℕ)) (v w : Option ℕ) → Deep cells a v → Deep cells b w → (a ≡ b) × (v ≡ w)

-- the cell at a place can be read, and holds other bytes than the block's
pub record DiffersAt (cells : List SectorView) (place : ℕ) (block : List (List ℕ)) : Type 0 where
  pub bytes : List ℕ
  pub held : slice_get cells place ≡ Some (Holds bytes)
  pub differs : slice_get block place ≢ Some bytes

-- the place of a deep reading is that of such a cell
abbrev pub WrongPlaceDiffers : Type 0
WrongPlaceDiffers =
    (cells : List SectorView) (block : List (List ℕ)) (place : ℕ) → Deep cells block (Some place) → DiffersAt cells place block

-- and of cells that differ from a code block at one place, with at most one of them unreadable, that place is found
abbrev pub OneWrongIsFound : Type 0
OneWrongIsFound =
    (cells : List SectorView) (block : List (List ℕ)) (place : ℕ) → unreadable_count cells ≤ 1 →
    IsCodeBlock block → AgreesBut cells place block → DiffersAt cells place block → Deep cells block (Some place)

-- equally many cells, of which the same can be read, and hold the same
pub record ReadAlike (cells others : List SectorView) : Type 0 where
  pub size : length cells ≡ length others
  pub each : (i : ℕ) (bytes : List ℕ) → (slice_get cells i ≡ Some (Holds bytes)) ↔ (slice_get others i ≡ Some (Holds bytes))

-- have the same deep readings, whatever the unreadable ones are
abbrev pub DeepByReadable : Type 0
DeepByReadable =
    (cells others : List SectorView) (block : List (List ℕ)) (wrong : Option ℕ) → ReadAlike cells others →
    Deep cells block wrong → Deep others block wrong
