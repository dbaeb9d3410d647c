-- Which of some words is wrong (this project's own).
use Rattle.std.specs.Prelude.{◌≡◌, ◌≤◌, ◌⊎◌, ℕ, List, [], ◌∷◌, length, Option, Some, None}
use Rattle.std.specs.Borrow.{Bor}
use Rattle.word_hints.specs.Forms.{Fits, HasNoRow, HasRow, IsCommand, IsFaultOf, Place, Row, rows}
use Rattle.word_hints.specs.declared.fault.WordFault.{WordFault}
use Rattle.word_hints.specs.declared.hint.Hint.{Hint}
use Rattle.word_hints.specs.declared.hint.Hint.TheVariants as hints

-- as many words as the form may have
abbrev pub HasCount : Row → List (List ℕ) → Type 0
HasCount row words = (row.least ≤ length words) × (length words ≤ length row.places)

-- each word may stand at its place
abbrev pub AllFit : List Place → List (List ℕ) → Type 0
AllFit [] words = Unit {0}
AllFit (place ∷ places) [] = Unit {0}
AllFit (place ∷ places) (word ∷ words) = Fits place word × AllFit places words

-- this is the first word that may not, and why
abbrev pub FirstFault : List Place → List (List ℕ) → (wrong : List ℕ) → WordFault → Type 0
FirstFault [] words wrong fault = ⊥
FirstFault (place ∷ places) [] wrong fault = ⊥
FirstFault (place ∷ places) (word ∷ words) wrong fault =
    (¬ (Fits place word) × (wrong ≡ word) × IsFaultOf place word fault) ⊎ (Fits place word × FirstFault places words wrong fault)

-- what is wrong with the words behind a command's first one
abbrev pub IsHintAfter : Row → List (List ℕ) → Hint → Type 0
IsHintAfter row behind (hints.Form form) = (form.now ≡ row.text) × (HasCount row behind → AllFit row.places behind)
IsHintAfter row behind (hints.Word word fault) = HasCount row behind × FirstFault row.places behind word.now fault
IsHintAfter row behind hint = ⊥

-- what is wrong with the words of a command
abbrev pub IsHintOf : (first : List ℕ) (behind : List (List ℕ)) → Hint → Type 0
IsHintOf first behind (hints.NoCommand word) = (word.now ≡ first) × HasNoRow rows first
IsHintOf first behind (hints.Form form) = (row : Row) × HasRow rows first row × IsHintAfter row behind (hints.Form form)
IsHintOf first behind (hints.Word word fault) = (row : Row) × HasRow rows first row × IsHintAfter row behind (hints.Word word fault)
IsHintOf first behind hint = ⊥

-- the text of a word, if there is one
abbrev pub text_of : Option (Bor (List ℕ)) → Option (List ℕ)
text_of None = None
text_of (Some word) = Some word.now

-- a command's word stands in the place of the image
abbrev pub IsMisplaced : (image : Option (List ℕ)) → Type 0
IsMisplaced None = ⊥
IsMisplaced (Some word) = IsCommand word

-- this one
abbrev pub IsMisplacedAs : (image : Option (List ℕ)) (word : List ℕ) → Type 0
IsMisplacedAs None word = ⊥
IsMisplacedAs (Some image) word = (word ≡ image) × IsCommand image

-- this one, and the word after it is none
abbrev pub IsSwapped : (image : Option (List ℕ)) (command first : List ℕ) → Type 0
IsSwapped image command first = IsMisplacedAs image command × ¬ (IsCommand first)

-- if a command stands in the place of the image, so does one after it
abbrev pub IsInOrder : (image : Option (List ℕ)) (first : List ℕ) → Type 0
IsInOrder image first = IsMisplaced image → IsCommand first

-- What is wrong with the words: a command stands in the place of the image, alone or before a word that is no command's; there is none;
-- or one of its words is wrong.
abbrev pub IsHint : (image : Option (List ℕ)) (words : List (List ℕ)) → Hint → Type 0
IsHint image [] hints.NoWord = ¬ (IsMisplaced image)
IsHint image [] (hints.NoImage command) = IsMisplacedAs image command.now
IsHint image [] hint = ⊥
IsHint image (first ∷ behind) (hints.Swapped command word) = IsSwapped image command.now first × (word.now ≡ first)
IsHint image (first ∷ behind) hint = IsInOrder image first × IsHintOf first behind hint

-- a form that has room in a line
abbrev pub IsShort : Hint → Type 0
IsShort (hints.Form form) = length form.now ≤ 40
IsShort hint = Unit {0}
