-- Several sectors of a segment that are written in one call (this project's profile).
use Rattle.std.specs.Prelude.{ℕ, ◌<◌, ◌≡◌, Bool, true, false, List, [], length, slice_index_or}
use Rattle.qic_base.specs.declared.tape.SectorView.{SectorView}
use Rattle.qic_base.specs.declared.tape.SectorView.TheVariants.{Lost, Holds}

-- a write is taken by a formatted sector that is no defect
abbrev pub takes_write : SectorView → Bool
takes_write Lost = true
takes_write (Holds bytes) = true
takes_write view = false

-- the sectors of a segment
pub record AreSectors (sectors : List (List ℕ)) : Type 0 where
  pub count : length sectors ≡ 32
  pub each : (i : ℕ) → i < 32 → length (slice_index_or sectors i []) ≡ 1024
