-- A sink of bytes: what was written to it, what it took, and how often it failed (this project's profile).
use Rattle.std.specs.Prelude.{ℕ, ◌≡◌, List, Option}

-- All that a sink means to the code above it: the bytes written so far, None where the sink doesn't tell them; what it
-- took, from the sink before to the sink after; and the count of its faults.
pub record Meaning (K : Type 0) : Type 1 where
  pub written : K → Option (List ℕ)
  pub took : K → List ℕ → K → Type 0
  pub faults : K → ℕ

-- From old on, the text was taken, all of it, and no call failed.
pub record Wrote {K : Type 0} (m : Meaning K) (old new : K) (text : List ℕ) : Type 0 where
  pub took : m.took old text new
  pub later : m.faults new ≡ m.faults old
