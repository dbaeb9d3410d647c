-- Sectors filled from a source: which bytes were read, and where they are (this project's own).
use Rattle.std.specs.Prelude.{◌≡◌, ℕ, ◌-◌, ◌*◌, ◌≤◌, ◌<◌, min, List, ◌++◌, length, take, drop, replicate, Some, IfSome, Result, Ok, Err}
use Rattle.qic_base.specs.Source.{Meaning}
use Rattle.qic_base.specs.SourceCalls.{Gave, HasEnded}
use Rattle.cartridge_spec.specs.Appending.{in_sectors}

-- From old to new the source gave these bytes, no more than there is room for and no more than were asked for; fewer than
-- both only where it has ended.
pub record GaveUpTo {S : Type 0} (m : Meaning S) (old new : S) (room most : ℕ) (bytes : List ℕ) : Type 0 where
  pub gave : Gave m old new bytes
  pub fits : length bytes ≤ room
  pub within : length bytes ≤ most
  pub ended : length bytes < room → length bytes < most → HasEnded m new

-- it gave some bytes, no more than there is room for and no more than were asked for
abbrev pub GaveWithin : {S : Type 0} → Meaning S → (old new : S) → (room most : ℕ) → Type 0
GaveWithin m old new room most = (bytes : List ℕ) × (length bytes ≤ room) × (length bytes ≤ most) × Gave m old new bytes

-- what was read stands in front, fewer bytes than there is room for only at the end of the source
abbrev pub FillsFront : {S E : Type 0} → Meaning S → (old new : S) → (into : List ℕ) → Result ℕ E → Type 0
FillsFront m old new into (Ok n) = (n ≤ length into) × Gave m old new (take n into) × (n < length into → HasEnded m new)
FillsFront m old new into (Err e) = (bytes : List ℕ) × (length bytes ≤ length into) × Gave m old new bytes

-- a slice has what was read, and zero bytes behind it
abbrev pub IsFilled : {S : Type 0} → Meaning S → (old new : S) → (most : ℕ) → (into : List ℕ) → ℕ → Type 0
IsFilled m old new most into n =
    (bytes : List ℕ) × (length bytes ≡ n) × GaveUpTo m old new (length into) most bytes
    × (into ≡ bytes ++ replicate (length into - n) 0)

abbrev pub FillsBytes : {S E : Type 0} → Meaning S → (old new : S) → (most : ℕ) → (into : List ℕ) → Result ℕ E → Type 0
FillsBytes m old new most into (Ok n) = IsFilled m old new most into n
FillsBytes m old new most into (Err e) = GaveWithin m old new (length into) most

-- so many sectors have what was read, one behind the other, and zero bytes behind it
abbrev pub AreFilled : {S : Type 0} → Meaning S → (old new : S) → (count most : ℕ) → (sectors : List (List ℕ)) → ℕ → Type 0
AreFilled m old new count most sectors n =
    (bytes : List ℕ) × (length bytes ≡ n) × GaveUpTo m old new (1024 * count) most bytes × (sectors ≡ in_sectors count bytes)

abbrev pub FillsSectors : {S E : Type 0} → Meaning S → (old new : S) → (count most : ℕ) → (sectors : List (List ℕ)) →
    Result ℕ E → Type 0
FillsSectors m old new count most sectors (Ok n) = AreFilled m old new count most sectors n
FillsSectors m old new count most sectors (Err e) = GaveWithin m old new (1024 * count) most

-- where the source tells its bytes, these are the first ones of them, as many as there are up to both limits, and the
-- others are left
abbrev pub IsFrontOf : {S : Type 0} → Meaning S → (old new : S) → (count most : ℕ) → (sectors : List (List ℕ)) → ℕ → Type 0
IsFrontOf m old new count most sectors n =
    IfSome (m.left old) (λ bytes. (n ≡ min (length bytes) (min (1024 * count) most))
    × (sectors ≡ in_sectors count (take n bytes)) × (m.left new ≡ Some (drop n bytes)))
