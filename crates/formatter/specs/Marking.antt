-- What the pass over a formatted tape finds, and the map that it makes (QIC-80-MC: the bad sector map; the pass is this
-- project's profile).
use Rattle.std.specs.Prelude.{◌≡◌, ◌↔◌, ℕ, ◌^◌, ◌<◌, List, length, slice_index}
use Rattle.qic_base.specs.Cartridge.{Cartridge, view_at}
use Rattle.qic_base.specs.CartridgeTerms.{place_of, IsLost, is_lost}
use Rattle.qic_base.specs.TapeCalls.{is_readable}
use Rattle.qic_base.specs.declared.tape.SectorView.{SectorView}
use Rattle.cartridge_laws.specs.Segment.{IsUnreadable}

-- the map has the sector's bit
abbrev pub IsMarked : (words : List ℕ) (segment sector : ℕ) → Type 0
IsMarked words segment sector = IsLost (slice_index words segment) sector

-- just the readable sectors of a segment are in the set
abbrev pub AreReadable : (good : ℕ) → (view : ℕ → SectorView) → Type 0
AreReadable good view = (sector : ℕ) → sector < 32 → is_lost good sector ≡ is_readable (view sector)

-- of the sectors before a place, segment after segment, just the unreadable ones are marked, and none of the others is
pub record MarksBelow (c : Cartridge) (words : List ℕ) (place : ℕ) : Type 0 where
  pub fits : (segment : ℕ) → slice_index words segment < 2 ^ 32
  pub each : (segment sector : ℕ) → segment < length words → sector < 32 →
      IsMarked words segment sector ↔ (place_of segment sector < place) × IsUnreadable (view_at c segment sector)

-- just the unreadable sectors are marked
pub record MarksUnreadable (c : Cartridge) (words : List ℕ) : Type 0 where
  pub fits : (segment : ℕ) → slice_index words segment < 2 ^ 32
  pub each : (segment sector : ℕ) → segment < length words → sector < 32 →
      IsMarked words segment sector ↔ IsUnreadable (view_at c segment sector)

-- no sector of the segment is marked
abbrev pub HasNoMark : List ℕ → (segment : ℕ) → Type 0
HasNoMark words segment = slice_index words segment ≡ 0

-- the first of the segments 0 to 2 that has a mark
pub record IsFirstMarked (words : List ℕ) (segment : ℕ) : Type 0 where
  pub in_front : segment < 3
  pub here : ¬ (HasNoMark words segment)
  pub before : (t : ℕ) → t < segment → HasNoMark words t

abbrev pub HasNoMarkInFront : List ℕ → Type 0
HasNoMarkInFront words = (segment : ℕ) → segment < 3 → HasNoMark words segment
