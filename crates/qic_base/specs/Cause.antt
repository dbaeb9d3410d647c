-- The cause of a failure (this project's profile).
use Rattle.std.specs.Prelude.{ℕ, ◌≡◌, ◌≤◌, Result, OnOk, OnErr}
use Rattle.qic_base.specs.Tape.{Rose}

-- The count never falls; what was carried out left it as it was, and a failure raised it by one.
pub record HasCause {T E : Type 0} (before now : ℕ) (result : Result T E) : Type 0 where
  pub later : before ≤ now
  pub stood : OnOk result (now ≡ before)
  pub failed : OnErr result (Rose before now)
