-- What a reading of a line took from a source, and what it found (this project's own).
use Rattle.std.specs.Prelude.{◌≡◌, ℕ, ◌+◌, ◌-◌, List, length, take, drop, ◌≤◌, ◌++◌, IfSome, ◌<◌, [], Result, Ok, Err, codes, ◌∷◌, ◌⊎◌}
use Rattle.std.specs.Option.{option_map}
use Rattle.qic_base.specs.LineBytes.{NoNewline}
use Rattle.command_spec.specs.Input.{IsLineText, IsPulse}
use Rattle.command_spec.specs.declared.line.Line.{Line}
use Rattle.qic_base.specs.Source.{Meaning}
use Rattle.qic_base.specs.SourceCalls.{Gave, HasEnded, GaveSome}
use Rattle.tape_script.specs.declared.line.LineRead.{LineRead}
use Rattle.tape_script.specs.declared.taking.Taken.{Taken}
use Rattle.tape_script.specs.declared.train.TrainRead.{TrainRead}
use Rattle.tape_script.specs.declared.line.LineRead.TheVariants as read
use Rattle.tape_script.specs.declared.train.TrainRead.TheVariants as train
use Rattle.tape_script.specs.declared.taking.Taken.TheVariants as taken

-- bytes that it gave go as far as a line may: they end with a newline, are 128, or were all that was left
abbrev pub GoAsALine : {S : Type 0} → Meaning S → (new : S) → (bytes : List ℕ) → Type 0
GoAsALine m new bytes =
    ((before : List ℕ) × (bytes ≡ before ++ 0x0A ∷ [])) ⊎ ((length bytes ≡ 128) ⊎ HasEnded m new)

-- it gave so many bytes, as far as a line may go, none of them behind a newline: only the last may be one
abbrev pub GaveInLine : {S : Type 0} → Meaning S → (old new : S) → ℕ → Type 0
GaveInLine m old new n =
    (bytes : List ℕ) × (length bytes ≡ n) × Gave m old new bytes × NoNewline (take (n - 1) bytes) × GoAsALine m new bytes

-- it gave the front of a line: at most 127 bytes, none of them a newline
abbrev pub GaveFront : {S : Type 0} → Meaning S → (old new : S) → Type 0
GaveFront m old new = (bytes : List ℕ) × (length bytes ≤ 127) × NoNewline bytes × Gave m old new bytes

-- what is left is an end of its bytes from this place on, of which at most a line's were taken
abbrev pub LeftFromLine : {S : Type 0} → Meaning S → (old new : S) → (place : ℕ) → Type 0
LeftFromLine m old new place =
    (more : ℕ) × (more ≤ 128) × (m.left new ≡ option_map (drop (place + more)) (m.left old))

-- where it tells its bytes, no text with this property begins them
abbrev pub BeginsWithNo : {S : Type 0} → Meaning S → S → (List ℕ → Type 0) → Type 0
BeginsWithNo m s P = IfSome (m.left s) (λ bytes. (text rest : List ℕ) → bytes ≡ text ++ rest → ¬ (P text))

-- it had ended, or it gave the line `end`
abbrev pub GaveEnd : {S : Type 0} → Meaning S → (old new : S) → Type 0
GaveEnd m old new = (HasEnded m old × Gave m old new []) ⊎ Gave m old new (codes "end\n")

-- it gave some bytes, no more than a line's and none behind one, and the line `end` did not begin there
pub record GaveNoEnd {S : Type 0} (m : Meaning S) (old new : S) : Type 0 where
  pub n : ℕ
  pub some : 0 < n
  pub few : n ≤ 128
  pub gave : GaveInLine m old new n
  pub no_stop : BeginsWithNo m old (λ text. text ≡ codes "end\n")

-- the end of the source before any byte; bytes that begin with no line, taken up to the first newline, or 128, or up to
-- the end, and none behind that; or a line, with its newline. A failure comes before the line's newline.
abbrev pub ReadsLine : {S E : Type 0} → Meaning S → (old new : S) → Result LineRead E → Type 0
ReadsLine m old new (Ok read.End) = HasEnded m old × Gave m old new []
ReadsLine m old new (Ok (read.Bad n)) =
    (0 < n) × (n ≤ 128) × GaveInLine m old new n × ((line : Line) → BeginsWithNo m old (λ text. IsLineText text line))
ReadsLine m old new (Ok (read.Line line n)) =
    (text : List ℕ) × IsLineText text line × (length text ≡ n) × Gave m old new text
ReadsLine m old new (Err e) = GaveFront m old new

-- the same for a line of `pulses`
abbrev pub ReadsTrain : {S E : Type 0} → Meaning S → (old new : S) → Result TrainRead E → Type 0
ReadsTrain m old new (Ok train.End) = HasEnded m old × Gave m old new []
ReadsTrain m old new (Ok (train.Bad n)) =
    (0 < n) × (n ≤ 128) × GaveInLine m old new n × BeginsWithNo m old (λ text. text ≡ codes "end\n")
    × ((pulses : ℕ) → BeginsWithNo m old (λ text. IsPulse text pulses))
ReadsTrain m old new (Ok train.Stop) = Gave m old new (codes "end\n")
ReadsTrain m old new (Ok (train.Train pulses n)) =
    (text : List ℕ) × IsPulse text pulses × (length text ≡ n) × Gave m old new text
ReadsTrain m old new (Err e) = GaveFront m old new

-- bytes skipped: fewer than asked for exactly at the end of the source, or where it failed
abbrev pub Skips : {S E : Type 0} → Meaning S → (old new : S) → ℕ → Result ℕ E → Type 0
Skips m old new asked (Ok n) = (n ≤ asked) × GaveSome m old new n × (n < asked → HasEnded m new)
Skips m old new asked (Err e) = (n : ℕ) × (n < asked) × GaveSome m old new n

-- ---- lines of any kind

-- the end before any byte; bytes with no newline, where 128 came or the source ended; or a line with its newline, of
-- which the buffer has the bytes before it
abbrev pub TakesLine : {S E : Type 0} → Meaning S → (old new : S) → (buffer : List ℕ) → Result Taken E → Type 0
TakesLine m old new buffer (Ok taken.End) = HasEnded m old × Gave m old new []
TakesLine m old new buffer (Ok (taken.Open n)) =
    (0 < n) × (n ≤ 128) × ((bytes : List ℕ) × (length bytes ≡ n) × NoNewline bytes × Gave m old new bytes)
    × ((n ≡ 128) ⊎ HasEnded m new)
TakesLine m old new buffer (Ok (taken.Line n)) =
    (n ≤ 127) × NoNewline (take n buffer) × Gave m old new (take n buffer ++ 0x0A ∷ [])
TakesLine m old new buffer (Err e) = GaveFront m old new
