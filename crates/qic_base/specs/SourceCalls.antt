-- What a call of a source gave (this project's profile).
use Rattle.std.specs.Prelude.{ℕ, List, Option, Some, None, Result, Ok, Err, ◌≡◌, ◌↔◌, ◌≤◌, [], ◌∷◌, length, take, ◌++◌, IfSome}
use Rattle.std.specs.Option.{option_map}
use Rattle.qic_base.specs.Source.{Meaning}

-- A read that answers n gave the first n of the bytes left, and none exactly at their end.
pub record Gives (bytes into : List ℕ) (n : ℕ) : Type 0 where
  pub there : n ≤ length bytes
  pub front : take n into ≡ take n bytes
  pub ended : (n ≡ 0) ↔ (bytes ≡ [])

-- of the bytes left before, these were given, and the others are left now
abbrev pub WereGiven : (before now : Option (List ℕ)) → List ℕ → Type 0
WereGiven before now bytes = before ≡ option_map (λ rest. bytes ++ rest) now

-- where the bytes left are told, there are none
abbrev pub NoneLeft : Option (List ℕ) → Type 0
NoneLeft left = IfSome left (λ bytes. bytes ≡ [])

-- a byte of those left, or their end; a failure takes none
abbrev pub TakesByte : {E : Type 0} → (before now : Option (List ℕ)) → Result (Option ℕ) E → Type 0
TakesByte before now (Ok None) = NoneLeft before × WereGiven before now []
TakesByte before now (Ok (Some byte)) = WereGiven before now (byte ∷ [])
TakesByte before now (Err e) = WereGiven before now []

-- from old to new the source gave these bytes
abbrev pub Gave : {S : Type 0} → Meaning S → (old new : S) → List ℕ → Type 0
Gave m old new bytes = WereGiven (m.left old) (m.left new) bytes

-- it gave so many bytes
abbrev pub GaveSome : {S : Type 0} → Meaning S → (old new : S) → ℕ → Type 0
GaveSome m old new n = (bytes : List ℕ) × (length bytes ≡ n) × Gave m old new bytes

-- where it tells its bytes, none are left
abbrev pub HasEnded : {S : Type 0} → Meaning S → S → Type 0
HasEnded m s = NoneLeft (m.left s)

-- the bytes that a source has left, and none where it tells none
abbrev pub input_of : Option (List ℕ) → List ℕ
input_of None = []
input_of (Some bytes) = bytes
