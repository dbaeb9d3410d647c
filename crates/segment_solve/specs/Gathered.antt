-- What the reading of a segment's usable sectors leaves (this project's own).
use Rattle.std.specs.Prelude.{◌≡◌, ◌↔◌, ℕ, List, Some, IsSomeAnd, slice_get}
use Rattle.qic_base.specs.CartridgeTerms.{IsLost}
use Rattle.qic_base.specs.declared.tape.SectorView.{SectorView}
use Rattle.qic_base.specs.declared.tape.SectorView.TheVariants.{Holds}
use Rattle.cartridge_laws.specs.Segment.{IsUnreadable}

-- the cell at a place is unreadable
abbrev pub IsUnreadableAt : List SectorView → ℕ → Type 0
IsUnreadableAt cells i = IsSomeAnd (slice_get cells i) IsUnreadable

-- the places in a set are just those of the unreadable cells
abbrev pub NamesUnreadable : List SectorView → (lost : ℕ) → Type 0
NamesUnreadable cells lost = (i : ℕ) → IsLost lost i ↔ IsUnreadableAt cells i

-- and the bytes of each other cell are in the sectors at its place
pub record Gathered (cells : List SectorView) (lost : ℕ) (sectors : List (List ℕ)) : Type 0 where
  pub unreadable : NamesUnreadable cells lost
  pub readable : (i : ℕ) (bytes : List ℕ) → slice_get cells i ≡ Some (Holds bytes) → slice_get sectors i ≡ Some bytes
