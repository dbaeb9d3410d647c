-- The commands, and what their words have to be (this project's own).
use Rattle.std.specs.Prelude.{◌≡◌, ◌≢◌, ℕ, ◌⊎◌, List, [], ◌∷◌, codes, map, Option, Some, None}
use Rattle.command_spec.specs.Command.{IsDateWord, Number, SpellsPart}
use Rattle.qic_base.specs.Field.{IsNameText}
use Rattle.qic_base.specs.declared.TheConstants.{LONGEST}
use Rattle.word_hints.specs.Faults.{IsNameFault, IsNumberFault}
use Rattle.word_hints.specs.declared.fault.WordFault.{WordFault}
use Rattle.word_hints.specs.declared.fault.WordFault.TheVariants as faults
use Rattle.word_hints.specs.declared.forms.Form.{Form}
use Rattle.word_hints.specs.declared.forms.Part.{Part}
use Rattle.word_hints.specs.declared.forms.Part.TheVariants as parts

-- ---- the table

-- what a word has to be: a number from the first to the second, a name, a date, or one of two words
pub data Place : Type 0 where
  InRange : ℕ → ℕ → Place
  AName : Place
  ADate : Place
  OneOf : List ℕ → List ℕ → Place

abbrev pub any_number : Place
any_number = InRange 0 999999999

-- a command: its first word, its form as it is told, how many words it has behind the first one at least, and what these have to be
pub record Row : Type 0 where
  pub first : List ℕ
  pub text : List ℕ
  pub least : ℕ
  pub places : List Place

abbrev pub row : (first text : List ℕ) (least : ℕ) (places : List Place) → Row
row first text least places = record { first = first; text = text; least = least; places = places }

abbrev pub rows : List Row
rows =
    row (codes "new") (codes "new N") 1 (InRange 3 LONGEST ∷ []) ∷
    row (codes "defect") (codes "defect SEG SEC") 2 (any_number ∷ any_number ∷ []) ∷
    row (codes "lose") (codes "lose SEG SEC") 2 (any_number ∷ any_number ∷ []) ∷
    row (codes "protect") (codes "protect on | off") 1 (OneOf (codes "on") (codes "off") ∷ []) ∷
    row (codes "upgrade") (codes "upgrade") 0 [] ∷
    row (codes "format") (codes "format LABEL [DATE]") 1 (AName ∷ ADate ∷ []) ∷
    row (codes "info") (codes "info") 0 [] ∷
    row (codes "append") (codes "append NAME [DATE]") 1 (AName ∷ ADate ∷ []) ∷
    row (codes "list") (codes "list") 0 [] ∷
    row (codes "room") (codes "room") 0 [] ∷
    row (codes "check") (codes "check") 0 [] ∷
    row (codes "restore") (codes "restore N") 1 (any_number ∷ []) ∷
    row (codes "scrub") (codes "scrub [deep]") 0 (OneOf (codes "deep") (codes "deep") ∷ []) ∷
    row (codes "pulses") (codes "pulses") 0 [] ∷
    row (codes "script") (codes "script") 0 [] ∷
    row (codes "make") (codes "make SEED COUNT") 2 (any_number ∷ InRange 1 200 ∷ []) ∷
    []

-- ---- a row of it

abbrev pub place_of : Part → Place
place_of (parts.Number least greatest) = InRange least greatest
place_of parts.Name = AName
place_of parts.Date = ADate
place_of (parts.Either one other) = OneOf one.now other.now

abbrev pub row_of : Form → Row
row_of form = row form.0.now form.1.now form.2 (map place_of form.3.now)

-- the row with this first word, where there is one
abbrev pub HasRow : List Row → (first : List ℕ) → Row → Type 0
HasRow [] first found = ⊥
HasRow (row ∷ rows) first found = ((row.first ≡ first) × (found ≡ row)) ⊎ HasRow rows first found

-- there is one
abbrev pub IsCommand : (word : List ℕ) → Type 0
IsCommand word = (row : Row) × HasRow rows word row

abbrev pub HasNoRow : List Row → (first : List ℕ) → Type 0
HasNoRow [] first = Unit {0}
HasNoRow (row ∷ rows) first = (row.first ≢ first) × HasNoRow rows first

-- ---- a word at its place

-- the word is one that may stand there
abbrev pub Fits : Place → List ℕ → Type 0
Fits (InRange least greatest) word = (n : ℕ) × SpellsPart word (Number least greatest n)
Fits AName word = IsNameText word
Fits ADate word = (date : ℕ) × IsDateWord word date
Fits (OneOf one other) word = (word ≡ one) ⊎ (word ≡ other)

-- what is wrong with one that may not
abbrev pub IsFaultOf : Place → List ℕ → WordFault → Type 0
IsFaultOf (InRange least greatest) word fault = IsNumberFault word least greatest fault
IsFaultOf AName word fault = IsNameFault word fault
IsFaultOf ADate word fault = fault ≡ faults.NoDate
IsFaultOf (OneOf one other) word fault = fault ≡ faults.OtherWord

-- one that may has no fault
abbrev pub Faults : Place → List ℕ → Option WordFault → Type 0
Faults place word None = Fits place word
Faults place word (Some fault) = ¬ (Fits place word) × IsFaultOf place word fault
