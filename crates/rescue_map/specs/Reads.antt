-- What the reading of a map took from a source, and how it ended (this project's own).
use Rattle.std.specs.Prelude.{◌≡◌, ℕ, ◌<◌, ◌≤◌, Bool, false, List, [], ◌∷◌, ◌++◌, length, take, drop, Option, Result, Ok, Err}
use Rattle.std.specs.Prelude.{if◌then◌else◌}
use Rattle.std.specs.Option.{option_map}
use Rattle.qic_base.specs.Source.{Meaning, IsInput}
use Rattle.rescue_map.specs.declared.ahead.Ahead.{Ahead}
use Rattle.rescue_map.specs.declared.line.LineRead.{LineRead}
use Rattle.rescue_map.specs.declared.line.LineRead.TheVariants as read
use Rattle.rescue_map.specs.declared.reading.MapError.{MapError}
use Rattle.rescue_map.specs.declared.reading.MapError.TheVariants as error
use Rattle.rescue_map.specs.declared.form.Block.{Block}
use Rattle.rescue_map.specs.Lines.{words_of}
use Rattle.rescue_map.specs.Map.{endless, Reading, Blocks, Fault, reading_of}
use Rattle.rescue_map.specs.Mask.{IsMaskOf}
use Rattle.rescue_map.specs.Scanning.{AreWords}
use Rattle.qic_base.specs.SourceCalls.{WereGiven, NoneLeft}
use Rattle.qic_base.specs.LineBytes.{NoNewline}

-- ---- bytes, where a source tells them

-- the bytes that are left: those read ahead, and behind them those of the source
abbrev pub left_of : {S : Type 0} → Meaning S → S → (buffer : List ℕ) → Ahead → Option (List ℕ)
left_of m source buffer ahead = option_map (λ rest. drop ahead.at (take ahead.end buffer) ++ rest) (m.left source)

-- what is read ahead lies in the buffer
pub record IsAhead (buffer : List ℕ) (ahead : Ahead) : Type 0 where
  pub ordered : ahead.at ≤ ahead.end
  pub within : ahead.end ≤ length buffer

-- ---- lines

abbrev pub newline_of : (ended : Bool) → List ℕ
newline_of ended = if ended then 10 ∷ [] else []

-- The end before any byte; a line with its words, and its newline or the end of the bytes behind it; or as many bytes as
-- no line has.
abbrev pub TakesLine : {E : Type 0} → (old new : Option (List ℕ)) → Result LineRead E → Type 0
TakesLine old new (Ok read.End) = NoneLeft old × WereGiven old new []
TakesLine old new (Ok (read.Line words ended)) =
    (bytes : List ℕ) × NoNewline bytes × (length bytes < endless) × (ended ≡ false → 0 < length bytes)
    × AreWords words (words_of record { bytes = bytes; ended = ended })
    × WereGiven old new (bytes ++ newline_of ended) × (ended ≡ false → NoneLeft new)
TakesLine old new (Ok read.Endless) =
    (bytes : List ℕ) × NoNewline bytes × (length bytes ≡ endless) × WereGiven old new bytes
TakesLine old new (Err e) = Unit {0}

-- ---- maps

-- the text was read to its end, and is the map of blocks whose mask this is
pub record ReadWhole {S : Type 0} (m : Meaning S) (old new : S) (mask : List ℕ) : Type 0 where
  pub text : List ℕ
  pub told : IsInput (m.left old) text
  pub blocks : List Block
  pub reading : reading_of text ≡ Blocks blocks
  pub marks : IsMaskOf blocks mask
  pub ended : NoneLeft (m.left new)

-- the text has its first fault in this line
pub record ReadFault {S : Type 0} (m : Meaning S) (old : S) (line : ℕ) : Type 0 where
  pub text : List ℕ
  pub told : IsInput (m.left old) text
  pub reading : reading_of text ≡ Fault line

-- a map that is over: a reading, and the answer to it
abbrev pub Ends : Reading → List Block → Result (Unit {0}) MapError → Type 0
Ends reading blocks (Ok done) = reading ≡ Blocks blocks
Ends reading blocks (Err (error.Fault line)) = reading ≡ Fault line
Ends reading blocks (Err error.Source) = ⊥

-- how a reading ended
abbrev pub Reads : {S : Type 0} (m : Meaning S) (old new : S) (mask : List ℕ) → Result (Unit {0}) MapError → Type 0
Reads m old new mask (Ok done) = ReadWhole m old new mask
Reads m old new mask (Err (error.Fault line)) = ReadFault m old line
Reads m old new mask (Err error.Source) = Unit {0}
