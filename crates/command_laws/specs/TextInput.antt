-- Each input is read in one way: its lines, its items, and what ends them, as facts (this project's own).
use Rattle.std.specs.Prelude.{◌≡◌, ℕ, List, [], ◌++◌}
use Rattle.command_laws.specs.Inputs.{HasLineForm}
use Rattle.command_spec.specs.Input.{Ending, HasItems}
use Rattle.command_spec.specs.declared.line.Line.{Line}

-- ---- laws

-- each list of words has at most one line
abbrev pub OneLine : Type 0
OneLine = (words : List (List ℕ)) (a b : Line) → HasLineForm words a → HasLineForm words b → a ≡ b

-- no item is a proper prefix of another, and no text is that of two items
abbrev pub NoItemBegins : {I : Type 0} → (List ℕ → I → Type 0) → Type 0
NoItemBegins {I} Spelled =
    (a rest : List ℕ) (x y : I) → Spelled a x → Spelled (a ++ rest) y → (rest ≡ []) × (x ≡ y)

-- the items of an input, and what ends them, are unique
abbrev pub OneReading : {I : Type 0} → (List ℕ → I → Type 0) → Type 0
OneReading {I} Spelled =
    (line place : ℕ) (input : List ℕ) (xs ys : List I) (a b : Ending) →
    HasItems Spelled line place input xs a → HasItems Spelled line place input ys b → (xs ≡ ys) × (a ≡ b)

-- each input has items and an ending
abbrev pub EachReading : {I : Type 0} → (List ℕ → I → Type 0) → Type 0
EachReading {I} Spelled =
    (input : List ℕ) → (xs : List I) × ((ending : Ending) × HasItems Spelled 1 0 input xs ending)
