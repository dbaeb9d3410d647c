-- What a call of a sink did, by its answer (this project's profile).
use Rattle.std.specs.Prelude.{◌≡◌, ◌≢◌, ℕ, ◌≤◌, List, [], ◌++◌, length, take, Result, Ok, Err}
use Rattle.qic_base.specs.Tape.{Rose}
use Rattle.qic_base.specs.Sink.{Meaning, Wrote}

-- A write that answers n took the first n bytes, at least one; a failure took none.
abbrev pub Takes : {K E : Type 0} (m : Meaning K) (old new : K) (bytes : List ℕ) (result : Result ℕ E) → Type 0
Takes m old new bytes (Ok n) = (1 ≤ n) × (n ≤ length bytes) × m.took old (take n bytes) new
Takes m old new bytes (Err e) = m.took old [] new

-- From old on, a fault of the sink broke the text off: a front of it was taken, and not the whole.
pub record BrokeOff {K : Type 0} (m : Meaning K) (old new : K) (text : List ℕ) : Type 0 where
  pub front : List ℕ
  pub rest : List ℕ
  pub parts : front ++ rest ≡ text
  pub some : rest ≢ []
  pub took : m.took old front new
  pub cause : Rose (m.faults old) (m.faults new)
  pub later : m.faults old ≤ m.faults new

-- What the writing of a text did, by its answer.
abbrev pub Writes : {K T E : Type 0} (m : Meaning K) (old new : K) (text : List ℕ) (result : Result T E) → Type 0
Writes m old new text (Ok x) = Wrote m old new text
Writes m old new text (Err e) = BrokeOff m old new text
