-- The changes that the calls of a tape in memory make, as steps (this project's profile).
use Rattle.std.specs.Prelude.{ℕ, ◌<◌, Bool, false, List, [], ◌∷◌, Option, IsSome, IsSomeAnd, nat_lt}
use Rattle.qic_base.specs.Cartridge.{IsLength, IsPlace}
use Rattle.qic_base.specs.Step.{Step, NewSector, WriteSectors, FormatSegment, SetReferenced, SetProtected, Renew, Wear}
use Rattle.qic_base.specs.Step.{Spoil, Upgrade}
use Rattle.qic_base.specs.TapeCalls.{chosen}
use Rattle.qic_mem.specs.declared.tape.change.TapeChange.{TapeChange}
use Rattle.qic_mem.specs.declared.tape.change.TapeChange.TheVariants as change

abbrev pub step_of : TapeChange → Step
step_of (change.WriteSectors segment written sectors) = WriteSectors segment (chosen written sectors)
step_of (change.FormatSegment segment) = FormatSegment segment
step_of change.SetReferenced = SetReferenced
step_of (change.SetProtected on) = SetProtected on
step_of (change.Renew n) = Renew n
step_of (change.Wear segment sector) = Wear segment sector
step_of (change.Spoil segment sector) = Spoil segment sector
step_of change.Upgrade = Upgrade

-- each is a sector of a segment
abbrev pub AreInSegment : List NewSector → Type 0
AreInSegment [] = Unit {0}
AreInSegment (new ∷ more) = (new.sector < 32) × AreInSegment more

-- the segment lies within the size that was told, and the sectors in it
pub record AreReached (size : Option ℕ) (segment : ℕ) (new : List NewSector) : Type 0 where
  pub on_tape : IsSomeAnd size (λ n. IsPlace n segment 0)
  pub in_segment : AreInSegment new

-- the sectors or the segment lie within the size that was told; a new cartridge has a length
abbrev pub IsReached : Option ℕ → Step → Type 0
IsReached size (WriteSectors segment new) = AreReached size segment new
IsReached size (FormatSegment segment) = IsSomeAnd size (λ n. IsPlace n segment 0)
IsReached size SetReferenced = IsSome size
IsReached size (SetProtected on) = IsSome size
IsReached size (Renew n) = IsLength n
IsReached size (Wear segment sector) = IsSomeAnd size (λ n. IsPlace n segment sector)
IsReached size (Spoil segment sector) = IsSomeAnd size (λ n. IsPlace n segment sector)
IsReached size Upgrade = IsSome size

-- a new cartridge is longer than the room, in segments per track
abbrev pub is_past : ℕ → Step → Bool
is_past room (Renew n) = nat_lt room n
is_past room s = false
