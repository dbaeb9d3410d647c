-- Words of cartridges that contracts and proofs cite, and that no clause of `run` reaches: a cartridge that is whole, a place of its
-- views, a changed segment, what is known of it, and a place in a set.
use Rattle.std.specs.Prelude.{◌≡◌, ◌==◌, Bool, List, ℕ, ◌+◌, ◌*◌, ◌/◌, ◌%◌, ◌^◌, ◌≤◌, ◌++◌, length, take, drop, map, All, Option, bit_or}
use Rattle.qic_base.specs.declared.tape.SectorView.{SectorView}
use Rattle.qic_base.specs.declared.tape.SectorView.TheVariants.{Blank, Defect, Lost, Holds}
use Rattle.qic_base.specs.Cartridge.{Cartridge, IsSector, IsLength, info_of}
use Rattle.qic_base.specs.Step.{FormatSegment, Halfway}
use Rattle.qic_base.specs.declared.tape.TapeInfo.{TapeInfo}

-- what a readable sector holds is a sector
abbrev pub IsView : SectorView → Type 0
IsView Blank = Unit {0}
IsView Defect = Unit {0}
IsView Lost = Unit {0}
IsView (Holds bytes) = IsSector bytes

-- the version of a layout: there are two
pub record IsVersion (version : ℕ) : Type 0 where
  pub oldest : 1 ≤ version
  pub newest : version ≤ 2

-- 28 tracks of 32 sectors a segment: 896 sectors for each segment per track (QIC-80-MC)
pub record IsCartridge (c : Cartridge) : Type 0 where
  pub long : IsLength c.info.segments_per_track
  pub version : IsVersion c.version
  pub sectors : length c.views ≡ 896 * c.info.segments_per_track
  pub views : All IsView c.views

-- where the view of a sector stands
abbrev pub place_of : ℕ → ℕ → ℕ
place_of segment sector = 32 * segment + sector

-- views, with the 32 of one segment changed
abbrev pub changed_views : List SectorView → ℕ → (SectorView → SectorView) → List SectorView
changed_views views segment change =
    take (32 * segment) views ++ map change (take 32 (drop (32 * segment) views)) ++ drop (32 * (segment + 1)) views

-- the cartridge with those of one segment changed
abbrev pub with_segment : Cartridge → ℕ → (SectorView → SectorView) → Cartridge
with_segment c segment change = record c { views = changed_views c.views segment change }

-- A segment's formatting was stopped.
abbrev pub HalfFormatted : ℕ → Option Cartridge → Option Cartridge → Type 0
HalfFormatted segment held left = Halfway (FormatSegment segment) held left

-- these are its length and marks, or it is not there
abbrev pub IsInfoOf : Option TapeInfo → Option Cartridge → Type 0
IsInfoOf info held = info ≡ info_of held

-- the place is in the set: its bit of the mask is 1
abbrev pub IsLost : ℕ → ℕ → Type 0
IsLost mask place = mask / 2 ^ place % 2 ≡ 1

-- whether it is
abbrev pub is_lost : ℕ → ℕ → Bool
is_lost mask place = mask / 2 ^ place % 2 == 1

-- the set with one place more
abbrev pub with_place : (set place : ℕ) → ℕ
with_place set place = bit_or set (2 ^ place)
