-- The inputs of `script` and of `pulses`: items, and what ends them (this project's own).
use Rattle.std.specs.Prelude.{◌≡◌, ◌≢◌, ℕ, ◌+◌, ◌-◌, ◌<◌, ◌≤◌, List, [], ◌∷◌, ◌++◌, length, take, ◌==◌, codes}
use Rattle.std.specs.List.{slice_split}
use Rattle.command_spec.specs.Command.{Part, Word, Name, dated, AnyNumber, HasForm, SpellsPart, Number}
use Rattle.command_spec.specs.declared.line.Line.{Line}
use Rattle.command_spec.specs.declared.status.Status.{Status}
use Rattle.qic_base.specs.LineBytes.{NoNewline}
use Rattle.command_spec.specs.declared.line.Line.TheVariants as line
use Rattle.command_spec.specs.declared.status.Status.TheVariants as status

-- ---- lines

-- The text is a line with its newline: at most 127 bytes before it, none of them a newline, which have the property.
pub record IsLined (P : List ℕ → Type 0) (text : List ℕ) : Type 0 where
  pub before : List ℕ
  pub short : length before ≤ 127
  pub one_line : NoNewline before
  pub whole : text ≡ before ++ 0x0A ∷ []
  pub has : P before

-- the forms of a script's lines
abbrev pub line_forms : Line → List (List Part)
line_forms (line.Append name length date) = dated (Word (codes "append") ∷ Name name ∷ AnyNumber length ∷ []) date
line_forms line.List = (Word (codes "list") ∷ []) ∷ []
line_forms (line.Restore number) = (Word (codes "restore") ∷ AnyNumber number ∷ []) ∷ []
line_forms line.Scrub = (Word (codes "scrub") ∷ []) ∷ []
line_forms (line.Lose segment sector) = (Word (codes "lose") ∷ AnyNumber segment ∷ AnyNumber sector ∷ []) ∷ []
line_forms line.End = (Word (codes "end") ∷ []) ∷ []

-- a line of a script, with its newline: its words are what stands before, between and behind its spaces, so that one
-- space parts each two
abbrev pub IsLineText : List ℕ → Line → Type 0
IsLineText text line = IsLined (λ before. HasForm (slice_split (λ b. b == 0x20) before) (line_forms line)) text

-- ---- items

-- how many bytes follow a line at once
abbrev pub promised : Line → ℕ
promised (line.Append name length date) = length
promised other = 0

-- what one line of a script asks for: the line, and the bytes of an append
pub record Item : Type 0 where
  pub line : Line
  pub bytes : List ℕ

-- the text of an item: any line but `end`, with its newline, and then the bytes that it promises
pub record IsItem (text : List ℕ) (item : Item) : Type 0 where
  pub front : List ℕ
  pub lined : IsLineText front item.line
  pub not_end : item.line ≢ line.End
  pub whole : text ≡ front ++ item.bytes
  pub kept : length item.bytes ≡ promised item.line

-- the text of an item of `pulses`: a number of pulses, with its newline
abbrev pub IsPulse : List ℕ → ℕ → Type 0
IsPulse text pulses = IsLined (λ before. SpellsPart before (Number 0 255 pulses)) text

-- An append's line begins these bytes, and fewer than it promises stand behind it.
pub record EndsEarly (rest : List ℕ) : Type 0 where
  pub name : List ℕ
  pub promised : ℕ
  pub date : ℕ
  pub text : List ℕ
  pub bytes : List ℕ
  pub lined : IsLineText text (line.Append name promised date)
  pub parts : rest ≡ text ++ bytes
  pub short : length bytes < promised

-- ---- inputs

-- the most items before the line `end`
abbrev pub most_items : ℕ
most_items = 65536

-- what ends the items: the end of the input, the line `end`, or a fault in the line with this number, counted from 1,
-- with so many bytes of the input before it
pub data Ending : Type 0 where
  AtEnd : Ending
  AtStop : Ending
  AtFault : ℕ → ℕ → Ending

-- how an input is answered that was carried out up to there
abbrev pub input_status : Ending → Status
input_status (AtFault line place) = status.ScriptFault line place
input_status other = status.Done

-- the line `end`, and anything behind it
abbrev pub HasStop : List ℕ → Type 0
HasStop input = (rest : List ℕ) × (input ≡ codes "end\n" ++ rest)

-- No line is read here: some bytes are left, not those of the line `end`, and no item begins them or none may come any
-- more.
pub record IsFault {I : Type 0} (Spelled : List ℕ → I → Type 0) (line : ℕ) (input : List ℕ) : Type 0 where
  pub some : input ≢ []
  pub no_stop : ¬ (HasStop input)
  pub no_item : line ≤ most_items →
      ¬ ((item : I) × ((text : List ℕ) × ((rest : List ℕ) × ((input ≡ text ++ rest) × Spelled text item))))

-- how the items end, in front of the line with this number
abbrev pub ItemsEnd : {I : Type 0} → (List ℕ → I → Type 0) → (line place : ℕ) → List ℕ → Ending → Type 0
ItemsEnd Spelled line place input AtEnd = input ≡ []
ItemsEnd Spelled line place input AtStop = HasStop input
ItemsEnd Spelled line place input (AtFault number before) = IsFault Spelled line input × (number ≡ line) × (before ≡ place)

-- the input is these items and then this ending, from the line with this number and the place with so many bytes
-- before it
abbrev pub HasItems : {I : Type 0} → (List ℕ → I → Type 0) → (line place : ℕ) → List ℕ → List I → Ending → Type 0
HasItems Spelled line place input [] ending = ItemsEnd Spelled line place input ending
HasItems Spelled line place input (item ∷ items) ending =
    (line ≤ most_items) × ((text : List ℕ) × ((rest : List ℕ) × ((input ≡ text ++ rest) × Spelled text item
    × HasItems Spelled (line + 1) (place + length text) rest items ending)))

abbrev pub IsScript : List ℕ → List Item → Ending → Type 0
IsScript input items ending = HasItems IsItem 1 0 input items ending

abbrev pub IsPulses : List ℕ → List ℕ → Ending → Type 0
IsPulses input trains ending = HasItems IsPulse 1 0 input trains ending

-- ---- how far an input was taken

-- Into some bytes so many were taken: those of one line, at most 128, of which at most the last is a newline.
abbrev pub ReachesLine : (back : List ℕ) → (more : ℕ) → Type 0
ReachesLine back more = (more ≤ 128) × NoNewline (take (more - 1) back)

-- Of an input all of these items were taken, which did this, and into the bytes behind them so many more.
pub record Reaches {I : Type 0} (Spelled : List ℕ → I → Type 0) (Did : List I → Type 0) (Into : (back : List ℕ) → ℕ → Type 0)
    (input : List ℕ) (taken : ℕ) : Type 0 where
  pub front : List ℕ
  pub back : List ℕ
  pub parts : input ≡ front ++ back
  pub items : List I
  pub read : HasItems Spelled 1 0 front items AtEnd
  pub did : Did items
  pub more : ℕ
  pub count : taken ≡ length front + more
  pub into : Into back more
