-- A source without an end, as the tests have one: it tells nothing of its bytes, and never fails (this project's own).
use Rattle.std.specs.Prelude.{None}
use Rattle.qic_base.specs.Source.{Meaning}

abbrev pub endless_means : {S : Type 0} → Meaning S
endless_means = record { left = λ _. None; keeps = λ _ _. Unit {0}; faults = λ _. 0 }
