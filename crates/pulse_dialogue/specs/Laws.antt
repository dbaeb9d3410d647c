-- The laws of recordings and of their dialogue, as facts (this project's own).
use Rattle.std.specs.Prelude.{◌≡◌, ℕ, List}
use Rattle.pulse_dialogue.specs.declared.line.Line.{Line}
use Rattle.pulse_dialogue.specs.Lines.{Ending, IsRecording}

-- each input has lines and an ending
abbrev pub EachRecording : Type 0
EachRecording = (input : List ℕ) → (lines : List Line) × ((ending : Ending) × IsRecording input lines ending)

-- it has one list of lines and one ending
abbrev pub OneRecording : Type 0
OneRecording =
    (input : List ℕ) (xs ys : List Line) (a b : Ending) →
    IsRecording input xs a → IsRecording input ys b → (xs ≡ ys) × (a ≡ b)
