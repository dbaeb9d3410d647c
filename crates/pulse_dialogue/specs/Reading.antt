-- What a reading of a line took from a source, and what it found (this project's own).
use Rattle.std.specs.Prelude.{◌≡◌, ℕ, ◌<◌, ◌≤◌, List, [], length, Result, Ok, Err}
use Rattle.qic_base.specs.Source.{Meaning}
use Rattle.qic_base.specs.SourceCalls.{Gave, GaveSome, HasEnded}
use Rattle.tape_script.specs.Reading.{BeginsWithNo}
use Rattle.pulse_dialogue.specs.declared.line.Line.{Line}
use Rattle.pulse_dialogue.specs.declared.line.LineRead.{LineRead}
use Rattle.pulse_dialogue.specs.declared.line.LineRead.TheVariants as read
use Rattle.pulse_dialogue.specs.Lines.{line_bytes, time_of, greatest_time}

-- the bytes of a line with its newline
pub record IsLineText (text : List ℕ) (line : Line) : Type 0 where
  pub spelled : text ≡ line_bytes line
  pub nine : time_of line ≤ greatest_time

-- no line begins what is left
abbrev pub BeginsWithNoLine : {S : Type 0} → Meaning S → S → Type 0
BeginsWithNoLine m s = (line : Line) → BeginsWithNo m s (λ text. IsLineText text line)

-- it gave some bytes, no more than a line's
abbrev pub GaveBytes : {S : Type 0} → Meaning S → (old new : S) → Type 0
GaveBytes m old new = (n : ℕ) × (0 < n) × (n ≤ 128) × GaveSome m old new n

-- the end of the source before any byte; bytes that begin with no line; or a line, with its newline
abbrev pub ReadsLine : {S E : Type 0} → Meaning S → (old new : S) → Result LineRead E → Type 0
ReadsLine m old new (Ok read.End) = HasEnded m old × Gave m old new []
ReadsLine m old new (Ok read.Bad) = GaveBytes m old new × BeginsWithNoLine m old
ReadsLine m old new (Ok (read.Line line n)) =
    (time_of line ≤ greatest_time) × (length (line_bytes line) ≡ n) × (n ≤ 128)
    × Gave m old new (line_bytes line)
ReadsLine m old new (Err e) = Unit {0}
