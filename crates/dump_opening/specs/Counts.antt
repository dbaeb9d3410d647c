-- How often the objects of the outside failed, by the answer of a call (this project's own).
use Rattle.std.specs.Prelude.{ℕ, ◌≡◌, ◌⊎◌, List, ◌∷◌, Option, Some, None, Result, Ok, Err}
use Rattle.qic_base.specs.Tape.{Rose}
use Rattle.dump_opening.specs.declared.opened.OpenError.{OpenError}
use Rattle.dump_opening.specs.declared.opened.OpenError.TheVariants as error

-- the faults of an object, if there is one
abbrev pub faults_in : {A : Type 0} → (A → ℕ) → Option A → ℕ
faults_in faults None = 0
faults_in faults (Some a) = faults a

-- a read that failed raised the count by one, and nothing else did
abbrev pub CountsBy : {T : Type 0} → (before now : ℕ) → Result T OpenError → Type 0
CountsBy before now (Ok x) = now ≡ before
CountsBy before now (Err (error.Refused status)) = now ≡ before
CountsBy before now (Err error.Input) = Rose before now

-- just one of the counts rose by one
abbrev pub OneRose : (before now : List ℕ) → Type 0
OneRose (b ∷ before) (n ∷ now) = (Rose b n × (now ≡ before)) ⊎ ((n ≡ b) × OneRose before now)
OneRose before now = ⊥

-- the same of several objects: a read of one of them failed
abbrev pub AllCountBy : {T : Type 0} → (before now : List ℕ) → Result T OpenError → Type 0
AllCountBy before now (Ok x) = now ≡ before
AllCountBy before now (Err (error.Refused status)) = now ≡ before
AllCountBy before now (Err error.Input) = OneRose before now
