-- Lists of steps that are writes of sectors alone, which of them are free, and a cartridge whose front stayed.
use Rattle.std.specs.Prelude.{ℕ, List, [], ◌∷◌, ◌<◌, ◌≡◌, ◌≤◌}
use Rattle.qic_base.specs.Cartridge.{IsSector, Cartridge, view_at}
use Rattle.qic_base.specs.Step.{Step, NewSector, WriteSectors, FormatSegment, SetReferenced, SetProtected, Renew, Wear, Spoil, Upgrade}

-- sectors of a segment of which this is true: the segment, the sector's index and its bytes
abbrev pub EachIs : (of : ℕ → ℕ → List ℕ → Type 0) → (segment : ℕ) → List NewSector → Type 0
EachIs of segment [] = Unit {0}
EachIs of segment (new ∷ more) = of segment new.sector new.bytes × EachIs of segment more

-- a write of such sectors
abbrev pub IsWrite : (of : ℕ → ℕ → List ℕ → Type 0) → Step → Type 0
IsWrite of (WriteSectors segment new) = EachIs of segment new
IsWrite of (FormatSegment segment) = ⊥
IsWrite of SetReferenced = ⊥
IsWrite of (SetProtected on) = ⊥
IsWrite of (Renew n) = ⊥
IsWrite of (Wear segment sector) = ⊥
IsWrite of (Spoil segment sector) = ⊥
IsWrite of Upgrade = ⊥

abbrev pub AreWrites : (of : ℕ → ℕ → List ℕ → Type 0) → List Step → Type 0
AreWrites of [] = Unit {0}
AreWrites of (s ∷ ss) = IsWrite of s × AreWrites of ss

-- a write to a segment behind this one
abbrev pub IsFree : (before : ℕ) → (segment sector : ℕ) → List ℕ → Type 0
IsFree before segment sector bytes = (before < segment) × (sector < 32)

-- a write of 1,024 bytes
abbrev pub IsOfSector : (segment sector : ℕ) → List ℕ → Type 0
IsOfSector segment sector bytes = IsSector bytes

-- the marks are as they were, and so are the segments up to this one
pub record KeepsTo (last : ℕ) (c d : Cartridge) : Type 0 where
  pub info : d.info ≡ c.info
  pub sectors : (segment sector : ℕ) → segment ≤ last → sector < 32 → view_at d segment sector ≡ view_at c segment sector
