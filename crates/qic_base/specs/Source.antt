-- A source of bytes: what is left of it, what its calls keep, and how often it failed (this project's profile).
use Rattle.std.specs.Prelude.{ℕ, List, Option, ◌≡◌, IfSome}

-- All that a source means to the code above it: the bytes left, None where the source doesn't tell them; what each call
-- keeps, of the source before and after; and the count of its faults.
pub record Meaning (S : Type 0) : Type 1 where
  pub left : S → Option (List ℕ)
  pub keeps : S → S → Type 0
  pub faults : S → ℕ

-- an input: the bytes that a source tells, or any where it tells none
abbrev pub IsInput : (told : Option (List ℕ)) → (input : List ℕ) → Type 0
IsInput told input = IfSome told (λ bytes. input ≡ bytes)
