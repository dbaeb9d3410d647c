-- The lines of a text.
use Rattle.std.proofs.Common.{◌≡◌, ◌≢◌, ℕ, ◌+◌, ◌<◌, ◌≤◌, ◌==◌, Bool, true, false, List, [], ◌∷◌, ◌++◌, length, Option, Some, None}
use Rattle.std.proofs.Common.{if◌then◌else◌, refl, sym, ap, ◌∙◌, subst, arith, append_assoc, append-nil}
use Rattle.std.proofs.lemmas.Bool.{ne_eqb, false≢true}
use Rattle.std.proofs.lemmas.List.{length_push, nil_from_length}
use Rattle.std.proofs.lemmas.List.Elements.{All-push}
use Rattle.rescue_map.specs.declared.scan.Scan.{Scan}
use Rattle.rescue_map.specs.declared.words.LineWords.{LineWords}
use Rattle.rescue_map.specs.Lines.{Line, lines_from, lines_of, words_of}
use Rattle.rescue_map.specs.Map.{endless}
use Rattle.rescue_map.specs.Scanning.{AreWords, Scanned}
use Rattle.qic_base.specs.LineBytes.{NoNewline}
use Rattle.qic_base.specs.SourceCalls.{WereGiven, NoneLeft}
use Rattle.rescue_map.specs.Reads.{newline_of}
use Rattle.qic_base.proofs.Giving.{WereGiven-both, NoneLeft-now}
use Rattle.qic_base.proofs.LineBytes.{NoNewline-tail, NoNewline-head}

-- ---- a line that is read

-- so many bytes of a line were taken
pub record LineSoFar (old new : Option (List ℕ)) (scan : Scan) (count : ℕ) : Type 0 where
  pub line : List ℕ
  pub none : NoNewline line
  pub long : length line ≡ count
  pub scanned : Scanned scan line
  pub gave : WereGiven old new line

pub next_byte : (old new now : Option (List ℕ)) (scan next : Scan) (count byte : ℕ) → (far : LineSoFar old new scan count) → byte ≢ 10 →
    WereGiven new now (byte ∷ []) →
    ((line : List ℕ) → Scanned scan line → Scanned next (line ++ byte ∷ [])) → LineSoFar old now next (count + 1)
next_byte old new now scan next count byte far other gave taken = record {
  line = far.line ++ byte ∷ [];
  none = All-push (λ b. b ≢ 10) far.line byte far.none other;
  long = length_push far.line byte ∙ ap (λ n. n + 1) far.long;
  scanned = taken far.line far.scanned;
  gave = WereGiven-both far.line (byte ∷ []) old new now far.gave gave;
}

-- ---- the lines of a text

-- bytes that are no newline belong to the line
lines_from-bytes : (begun line rest : List ℕ) → NoNewline line → lines_from begun (line ++ rest) ≡ lines_from (begun ++ line) rest
lines_from-bytes begun [] rest none = ap (λ xs. lines_from xs rest) (sym (append-nil begun))
lines_from-bytes begun (b ∷ line) rest none =
    let other : (b == 10) ≡ false = ne_eqb b 10 (NoNewline-head b line none) in
    let next : lines_from begun (b ∷ (line ++ rest)) ≡ lines_from (begun ++ b ∷ []) (line ++ rest) = rw other refl in
    next ∙ lines_from-bytes (begun ++ b ∷ []) line rest (NoNewline-tail b line none)
    ∙ ap (λ xs. lines_from xs rest) (append_assoc begun (b ∷ []) line)

-- a line that a newline ends
pub lines_of-ended : (line rest : List ℕ) → NoNewline line →
    lines_of ((line ++ 10 ∷ []) ++ rest) ≡ record { bytes = line; ended = true } ∷ lines_of rest
lines_of-ended line rest none = ap lines_of (append_assoc line (10 ∷ []) rest) ∙ lines_from-bytes [] line (10 ∷ rest) none

-- the last line
pub lines_of-last : (line : List ℕ) → NoNewline line → 0 < length line → lines_of line ≡ record { bytes = line; ended = false } ∷ []
lines_of-last line none some =
    let there : (length line == 0) ≡ false = ne_eqb (length line) 0 (λ e. omega arith) in
    ap lines_of (sym (append-nil line)) ∙ lines_from-bytes [] line [] none ∙ rw there refl

-- the first line has at least the bytes that have begun
pub record LongLine (lines : List Line) (count : ℕ) : Type 0 where
  pub line : Line
  pub lines_behind : List Line
  pub are : lines ≡ line ∷ lines_behind
  pub long : count ≤ length line.bytes

lines_from-long : (begun rest : List ℕ) → 0 < length begun → LongLine (lines_from begun rest) (length begun)
lines_from-long begun [] some =
    let there : (length begun == 0) ≡ false = ne_eqb (length begun) 0 (λ e. omega arith) in
    record { line = record { bytes = begun; ended = false }; lines_behind = []; are = rw there refl; long = omega arith }
lines_from-long begun (b ∷ rest) some = by_test (b == 10)
    (lines_from-long (begun ++ b ∷ []) rest (let l = length_push begun b in omega arith)) where
      by_test : (t : Bool) → LongLine (lines_from (begun ++ b ∷ []) rest) (length (begun ++ b ∷ [])) →
          LongLine (if t then record { bytes = begun; ended = true } ∷ lines_from [] rest else lines_from (begun ++ b ∷ []) rest)
          (length begun)
      by_test true next = record {
        line = record { bytes = begun; ended = true };
        lines_behind = lines_from [] rest;
        are = refl;
        long = omega arith;
      }
      by_test false next = record {
        line = next.line;
        lines_behind = next.lines_behind;
        are = next.are;
        long = (let l = length_push begun b in let n = next.long in omega arith);
      }

pub lines_of-long : (line rest : List ℕ) → NoNewline line → 0 < length line → LongLine (lines_of (line ++ rest)) (length line)
lines_of-long line rest none some =
    let P : List Line → Type 0 = λ lines. LongLine lines (length line) in
    subst P (sym (lines_from-bytes [] line rest none)) (lines_from-long line rest some)

-- where a byte is, there is a line
pub first_line : (byte : ℕ) (rest : List ℕ) → LongLine (lines_of (byte ∷ rest)) 0
first_line byte rest = by_test (byte == 10) (lines_from-long (byte ∷ []) rest (omega arith)) where
  by_test : (t : Bool) → LongLine (lines_from (byte ∷ []) rest) 1 →
      LongLine (if t then record { bytes = []; ended = true } ∷ lines_from [] rest else lines_from (byte ∷ []) rest) 0
  by_test true next = record {
    line = record { bytes = []; ended = true };
    lines_behind = lines_from [] rest;
    are = refl;
    long = omega arith;
  }
  by_test false next = record { line = next.line; lines_behind = next.lines_behind; are = next.are; long = omega arith }

-- ---- what a line's reading gives

abbrev pub TookLine : (old now : Option (List ℕ)) (words : LineWords) (ended : Bool) → Type 0
TookLine old now words ended =
    (bytes : List ℕ) × NoNewline bytes × (length bytes < endless) × (ended ≡ false → 0 < length bytes)
    × AreWords words (words_of record { bytes = bytes; ended = ended })
    × WereGiven old now (bytes ++ newline_of ended) × (ended ≡ false → NoneLeft now)

pub took_ended : (old new now : Option (List ℕ)) (scan : Scan) (count : ℕ) (words : LineWords) → (far : LineSoFar old new scan count) →
    count < endless → WereGiven new now (10 ∷ []) →
    ((line : List ℕ) → Scanned scan line → AreWords words (words_of record { bytes = line; ended = true })) → TookLine old now words true
took_ended old new now scan count words far few gave finished =
    let long = far.long in (
      far.line,
      far.none,
      omega arith,
      (λ e. absurd (false≢true (sym e))),
      finished far.line far.scanned,
      WereGiven-both far.line (10 ∷ []) old new now far.gave gave,
      (λ e. absurd (false≢true (sym e))),
    )

pub took_last : (old new now : Option (List ℕ)) (scan : Scan) (count : ℕ) (words : LineWords) → (far : LineSoFar old new scan count) →
    count < endless → (count ≡ 0 → ⊥) →
    NoneLeft new → WereGiven new now [] →
    ((line : List ℕ) → Scanned scan line → AreWords words (words_of record { bytes = line; ended = false })) → TookLine old now words false
took_last old new now scan count words far few some ended gave finished =
    let long = far.long in (
      far.line,
      far.none,
      omega arith,
      (λ e. omega (arith, some)),
      finished far.line far.scanned,
      WereGiven-both far.line [] old new now far.gave gave,
      (λ e. NoneLeft-now new now ended gave),
    )

pub took_none : (old new now : Option (List ℕ)) (scan : Scan) (count : ℕ) → (far : LineSoFar old new scan count) → count ≡ 0 →
    NoneLeft new → WereGiven new now [] →
    NoneLeft old × WereGiven old now []
took_none old new now scan count far none ended gave =
    let empty : far.line ≡ [] = nil_from_length far.line (far.long ∙ none) in
    let before : WereGiven old new [] = rw empty at far.gave in
    (ended_before old new before ended, WereGiven-both [] [] old new now before gave) where
      ended_before : (o p : Option (List ℕ)) → WereGiven o p [] → NoneLeft p → NoneLeft o
      ended_before o None before ended = rw before tt
      ended_before o (Some bytes) before ended = rw before ended
