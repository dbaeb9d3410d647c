-- What the reading of a list took from a source, and how it ended (this project's own).
use Rattle.std.specs.Prelude.{ℕ, ◌≡◌, ◌<◌, ◌++◌, Bool, true, false, List, [], take, Option, Some, None, Result, Ok, Err}
use Rattle.qic_base.specs.LineBytes.{NoNewline}
use Rattle.qic_base.specs.Source.{Meaning, IsInput}
use Rattle.qic_base.specs.SourceCalls.{WereGiven, NoneLeft}
use Rattle.rescue_map.specs.Reads.{newline_of}
use Rattle.dump_spec.specs.Lists.{Listed, Fault, reading_of}
use Rattle.dump_lists.specs.Masks.{IsMaskOf}
use Rattle.dump_lists.specs.Names.{BitRange}
use Rattle.dump_lists.specs.declared.line.LineRead.{LineRead}
use Rattle.dump_lists.specs.declared.line.LineRead.TheVariants as read
use Rattle.dump_lists.specs.declared.reading.ListError.{ListError}
use Rattle.dump_lists.specs.declared.reading.ListError.TheVariants as error

-- ---- lists

-- the text was read to its end, and this is the mask of what it names
pub record ReadWhole {S A : Type 0} (named : List ℕ → Option (List A)) (IsSet : List A → List ℕ → Type 0) (m : Meaning S) (old new : S)
    (mask : List ℕ) : Type 0 where
  pub text : List ℕ
  pub told : IsInput (m.left old) text
  pub names : List A
  pub reading : reading_of named text ≡ Listed names
  pub set : IsSet names mask
  pub ended : NoneLeft (m.left new)

-- the text has its first fault in this line
pub record ReadFault {S A : Type 0} (named : List ℕ → Option (List A)) (m : Meaning S) (old : S) (line : ℕ) : Type 0 where
  pub text : List ℕ
  pub told : IsInput (m.left old) text
  pub reading : reading_of named text ≡ Fault line

-- how a reading ended
abbrev pub ReadsList : {S A : Type 0} (named : List ℕ → Option (List A)) (IsSet : List A → List ℕ → Type 0) (m : Meaning S) (old new : S)
    (mask : List ℕ) → Result (Unit {0}) ListError → Type 0
ReadsList named IsSet m old new mask (Ok done) = ReadWhole named IsSet m old new mask
ReadsList named IsSet m old new mask (Err (error.Fault line)) = ReadFault named m old line
ReadsList named IsSet m old new mask (Err error.Source) = Unit {0}

-- ---- lines

-- The end before any byte; a line that is the first bytes kept, with its newline or the end of the bytes behind it; or more
-- bytes than a line has.
abbrev pub TakesLine : {E : Type 0} → (old new : Option (List ℕ)) (line : List ℕ) → Result LineRead E → Type 0
TakesLine old new line (Ok read.End) = NoneLeft old × WereGiven old new []
TakesLine old new line (Ok (read.Line len ended)) =
    NoNewline (take len line) × (len < 33) × (ended ≡ false → 0 < len)
    × WereGiven old new (take len line ++ newline_of ended) × (ended ≡ false → NoneLeft new)
TakesLine old new line (Ok read.Long) = NoNewline (take 33 line) × WereGiven old new (take 33 line)
TakesLine old new line (Err e) = Unit {0}

-- the line was taken, with what it names; or it is at fault
abbrev pub Moves : (mask : List ℕ) (ranges : List BitRange) → Option (List BitRange) → (taken : Bool) → Type 0
Moves mask ranges named true = (more : List BitRange) × (named ≡ Some more) × IsMaskOf (ranges ++ more) mask
Moves mask ranges named false = named ≡ None
