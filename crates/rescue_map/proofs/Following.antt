-- The reading of a map, line by line.
use Rattle.std.proofs.Common.{◌≡◌, ℕ, ◌+◌, ◌-◌, ◌*◌, ◌^◌, ◌<◌, ◌≤◌, Bool, true, false, List, [], ◌∷◌, ◌++◌, length, take, drop, Option}
use Rattle.std.proofs.Common.{Some, None, IfSome, Result, Ok, Err, ◌||◌, nat_lt, nat_le, refl, sym, ap, ◌∙◌, arith, append_assoc}
use Rattle.std.proofs.Common.{append-nil}
use Rattle.std.specs.Option.{option_map}
use Rattle.std.proofs.lemmas.Bool.{le-ltb, lt-ltb, lt-leb, le-leb}
use Rattle.qic_base.specs.Source.{Meaning, IsInput}
use Rattle.rescue_map.specs.declared.ahead.Ahead.{Ahead}
use Rattle.rescue_map.specs.declared.form.Block.{Block}
use Rattle.rescue_map.specs.declared.form.Expected.{Expected}
use Rattle.rescue_map.specs.declared.form.Expected.TheVariants as awaits
use Rattle.rescue_map.specs.declared.reading.MapError.{MapError}
use Rattle.rescue_map.specs.declared.reading.MapError.TheVariants as error
use Rattle.rescue_map.specs.declared.words.LineWords.{LineWords}
use Rattle.rescue_map.specs.Form.{line_says}
use Rattle.rescue_map.specs.Lines.{Line, lines_of, words_of}
use Rattle.rescue_map.specs.Map.{State, Going, Failed, most_lines, endless, behind_said, behind_line, behind_lines, behind_all, reading_of}
use Rattle.rescue_map.specs.Map.{Reading, Fault}
use Rattle.rescue_map.specs.Marking.{Tracked, Moves, NoneMarked}
use Rattle.rescue_map.specs.Mask.{IsMaskOf}
use Rattle.qic_base.specs.LineBytes.{NoNewline}
use Rattle.qic_base.specs.SourceCalls.{WereGiven, NoneLeft}
use Rattle.rescue_map.specs.Reads.{left_of, ReadFault, Reads, Ends}
use Rattle.rescue_map.specs.Scanning.{AreWords}
use Rattle.qic_base.proofs.Giving.{WereGiven-both}
use Rattle.rescue_map.proofs.Lining.{TookLine, lines_of-ended, lines_of-last, lines_of-long, first_line}

abbrev pub start : State
start = Going [] awaits.Status 1

-- so many lines were read, each ended by a newline, and came to this
pub record SoFar (old new : Option (List ℕ)) (mask : List ℕ) (expected : Expected) (from lines : ℕ) : Type 0 where
  pub given : List ℕ
  pub blocks : List Block
  pub gave : WereGiven old new given
  pub behind : (rest : List ℕ) → behind_lines start (lines_of (given ++ rest)) ≡ behind_lines (Going blocks expected (lines + 1))
      (lines_of rest)
  pub tracked : Tracked mask blocks expected from

-- ---- a line

-- a line that may stand there
line_there : (blocks : List Block) (expected : Expected) (number : ℕ) (line : Line) → number ≤ most_lines → length line.bytes < endless →
    behind_line (Going blocks expected number) line ≡ behind_said blocks expected number (line_says expected (words_of line))
line_there blocks expected number line few short =
    let a : nat_lt most_lines number ≡ false = le-ltb most_lines number few in
    let b : nat_le endless (length line.bytes) ≡ false = lt-leb endless (length line.bytes) short in
    rw (a, b) refl

-- a fault stays
failed_lines : (n : ℕ) (lines : List Line) → behind_lines (Failed n) lines ≡ Failed n
failed_lines n [] = refl
failed_lines n (line ∷ lines) = failed_lines n lines

-- what is behind a line that a newline ended
behind_ended : (old new : Option (List ℕ)) (mask : List ℕ) (expected : Expected) (from lines : ℕ)
    (far : SoFar old new mask expected from lines)
    (bytes : List ℕ) → NoNewline bytes → length bytes < endless → lines < most_lines → (rest : List ℕ) →
    behind_lines start (lines_of ((far.given ++ (bytes ++ 10 ∷ [])) ++ rest))
    ≡ behind_lines (behind_said far.blocks expected (lines + 1) (line_says expected (words_of record { bytes = bytes; ended = true })))
    (lines_of rest)
behind_ended old new mask expected from lines far bytes none short few rest =
    ap (λ (t : List ℕ). behind_lines start (lines_of t)) (append_assoc far.given (bytes ++ 10 ∷ []) rest)
    ∙ far.behind ((bytes ++ 10 ∷ []) ++ rest)
    ∙ ap (behind_lines (Going far.blocks expected (lines + 1))) (lines_of-ended bytes rest none)
    ∙ ap (λ (s : State). behind_lines s (lines_of rest))
    (line_there far.blocks expected (lines + 1) record { bytes = bytes; ended = true } (omega arith) short)

-- and behind the last line
behind_last : (old new : Option (List ℕ)) (mask : List ℕ) (expected : Expected) (from lines : ℕ)
    (far : SoFar old new mask expected from lines)
    (bytes : List ℕ) → NoNewline bytes → length bytes < endless → 0 < length bytes → lines < most_lines →
    behind_lines start (lines_of (far.given ++ bytes)) ≡ behind_said far.blocks expected (lines + 1)
    (line_says expected (words_of record { bytes = bytes; ended = false }))
behind_last old new mask expected from lines far bytes none short some few =
    far.behind bytes
    ∙ ap (behind_lines (Going far.blocks expected (lines + 1))) (lines_of-last bytes none some)
    ∙ line_there far.blocks expected (lines + 1) record { bytes = bytes; ended = false } (omega arith) short

-- ---- the text

-- the text that was given, and what the source tells behind it
pub record TextOf (old : Option (List ℕ)) (given : List ℕ) : Type 0 where
  pub rest : List ℕ
  pub told : IfSome old (λ bytes. given ++ rest ≡ bytes)

pub text_of : (o p : Option (List ℕ)) (given : List ℕ) → WereGiven o p given → TextOf o given
text_of o None given gave = record { rest = []; told = rw gave tt }
text_of o (Some rest) given gave = record { rest = rest; told = rw gave refl }

pub text_ended : (o p : Option (List ℕ)) (given : List ℕ) → WereGiven o p given → NoneLeft p → IsInput o given
text_ended o None given gave ended = rw gave tt
text_ended o (Some rest) given gave ended = rw (gave, ended) (sym (append-nil given))

-- where nothing is left, nothing is left of the source
pub source_ended : {S : Type 0} (m : Meaning S) (s : S) (buffer : List ℕ) (ahead : Ahead) → NoneLeft (left_of m s buffer ahead) →
    NoneLeft (m.left s)
source_ended m s buffer ahead ended = by_left (drop ahead.at (take ahead.end buffer)) (m.left s) ended where
  none : (front rest : List ℕ) → front ++ rest ≡ [] → rest ≡ []
  none [] rest e = e
  none (x ∷ front) rest e = absurd (cc)

  by_left : (front : List ℕ) (o : Option (List ℕ)) → NoneLeft (option_map (λ rest. front ++ rest) o) → NoneLeft o
  by_left front None e = tt
  by_left front (Some rest) e = none front rest e

-- ---- how it ends

-- the line is at fault, whatever comes behind it
read_fault : {S : Type 0} (m : Meaning S) (old : S) (new : Option (List ℕ)) (given : List ℕ) (line : ℕ) → WereGiven (m.left old) new given →
    ((rest : List ℕ) → reading_of (given ++ rest) ≡ Fault line) → ReadFault m old line
read_fault m old new given line gave always =
    let text = text_of (m.left old) new given gave in
    record { text = given ++ text.rest; told = text.told; reading = always text.rest }

-- at the end of the text
read_ended : {S : Type 0} (m : Meaning S) (old new : S) (left : Option (List ℕ)) (mask given : List ℕ) (blocks : List Block)
    (reading : Reading) (result : Result (Unit {0}) MapError) →
    WereGiven (m.left old) left given → NoneLeft left → NoneLeft (m.left new) → reading_of given ≡ reading → Ends reading blocks result →
    IsMaskOf blocks mask → Reads m old new mask result
read_ended m old new left mask given blocks reading (Ok done) gave ended over is ends marks = record {
  text = given;
  told = text_ended (m.left old) left given gave ended;
  blocks = blocks;
  reading = is ∙ ends;
  marks = marks;
  ended = over;
}
read_ended m old new left mask given blocks reading (Err (error.Fault line)) gave ended over is ends marks = record {
  text = given;
  told = text_ended (m.left old) left given gave ended;
  reading = is ∙ ends;
}
read_ended m old new left mask given blocks reading (Err error.Source) gave ended over is ends marks = absurd ends

-- no byte was rescued by no block
no_blocks : (mask : List ℕ) → NoneMarked mask → IsMaskOf [] mask
no_blocks mask none sector within = ((λ m. absurd (none sector m)), (λ whole. absurd (whole (1024 * sector) (omega arith) (omega arith))))

-- the mask of the blocks so far
tracked_mask : (mask : List ℕ) (blocks : List Block) (expected : Expected) (from : ℕ) → Tracked mask blocks expected from →
    IsMaskOf blocks mask
tracked_mask mask blocks awaits.Status from tracked = rw tracked.0 (no_blocks mask tracked.1)
tracked_mask mask blocks awaits.First from tracked = rw tracked.0 (no_blocks mask tracked.1)
tracked_mask mask blocks (awaits.Next end) from tracked = tracked.marked

or_true : (b : Bool) → (b || true) ≡ true
or_true true = refl
or_true false = refl

-- ---- the steps

-- a line was read, and a newline ended it
pub next : (old new now : Option (List ℕ)) (before mask : List ℕ) (was expected : Expected) (at from lines : ℕ) (words : LineWords) →
    (far : SoFar old new before was at lines) → lines < most_lines →
    TookLine new now words true →
    ((blocks : List Block) (line : ℕ) (list : List (List ℕ)) → AreWords words list → Tracked before blocks was at →
    Moves mask blocks was expected from line (line_says was list) true) →
    SoFar old now mask expected from (lines + 1)
next old new now before mask was expected at from lines words far few took moves =
    let bytes = took.0 in
    let moved = moves far.blocks (lines + 1) (words_of record { bytes = bytes; ended = true }) took.4 far.tracked in
    record {
      given = far.given ++ (bytes ++ 10 ∷ []);
      blocks = moved.0;
      gave = WereGiven-both far.given (bytes ++ 10 ∷ []) old new now far.gave took.5;
      behind = λ rest. behind_ended old new before was at lines far bytes took.1 took.2 few rest
          ∙ ap (λ (s : State). behind_lines s (lines_of rest)) moved.1;
      tracked = moved.2;
    }

-- it is at fault
pub line_fault : {S : Type 0} (m : Meaning S) (old : S) (new now : Option (List ℕ)) (before mask : List ℕ) (was expected : Expected)
    (at from lines : ℕ) (words : LineWords) (ended : Bool) →
    (far : SoFar (m.left old) new before was at lines) → lines < most_lines → TookLine new now words ended →
    ((blocks : List Block) (line : ℕ) (list : List (List ℕ)) → AreWords words list → Tracked before blocks was at →
    Moves mask blocks was expected from line (line_says was list) false) →
    ReadFault m old (lines + 1)
line_fault m old new now before mask was expected at from lines words true far few took moves =
    let bytes = took.0 in
    let moved = moves far.blocks (lines + 1) (words_of record { bytes = bytes; ended = true }) took.4 far.tracked in
    read_fault m old now (far.given ++ (bytes ++ 10 ∷ [])) (lines + 1)
    (WereGiven-both far.given (bytes ++ 10 ∷ []) (m.left old) new now far.gave took.5)
    (λ rest. ap behind_all (behind_ended (m.left old) new before was at lines far bytes took.1 took.2 few rest
    ∙ ap (λ (s : State). behind_lines s (lines_of rest)) moved ∙ failed_lines (lines + 1) (lines_of rest)))
line_fault m old new now before mask was expected at from lines words false far few took moves =
    let bytes = took.0 in
    let moved = moves far.blocks (lines + 1) (words_of record { bytes = bytes; ended = false }) took.4 far.tracked in
    let gave : WereGiven new now bytes = rw append-nil at took.5 in
    record {
      text = far.given ++ bytes;
      told = text_ended (m.left old) now (far.given ++ bytes) (WereGiven-both far.given bytes (m.left old) new now far.gave gave)
          (took.6 refl);
      reading = ap behind_all (behind_last (m.left old) new before was at lines far bytes took.1 took.2 (took.3 refl) few ∙ moved);
    }

-- it is the last one, and the map is over
pub last_line : {S : Type 0} (m : Meaning S) (old source : S) (new : Option (List ℕ)) (buffer : List ℕ) (ahead : Ahead)
    (before mask : List ℕ) (was expected : Expected) (at from lines number : ℕ) (words : LineWords)
    (result : Result (Unit {0}) MapError) →
    (far : SoFar (m.left old) new before was at lines) → lines < most_lines → TookLine new (left_of m source buffer ahead) words false →
    ((blocks : List Block) (line : ℕ) (list : List (List ℕ)) → AreWords words list → Tracked before blocks was at →
    Moves mask blocks was expected from line (line_says was list) true) →
    number ≡ lines + 2 → ((blocks : List Block) → Ends (behind_all (Going blocks expected number)) blocks result) →
    Reads m old source mask result
last_line m old source new buffer ahead before mask was expected at from lines number words result far few took moves is ends =
    let bytes = took.0 in
    let now = left_of m source buffer ahead in
    let moved = moves far.blocks (lines + 1) (words_of record { bytes = bytes; ended = false }) took.4 far.tracked in
    let gave : WereGiven new now bytes = rw append-nil at took.5 in
    let same : lines + 1 + 1 ≡ number = omega arith in
    read_ended m old source now mask (far.given ++ bytes) moved.0 (behind_all (Going moved.0 expected number)) result
    (WereGiven-both far.given bytes (m.left old) new now far.gave gave) (took.6 refl) (source_ended m source buffer ahead (took.6 refl))
    (ap behind_all (behind_last (m.left old) new before was at lines far bytes took.1 took.2 (took.3 refl) few ∙ moved.1
    ∙ ap (Going moved.0 expected) same))
    (ends moved.0) (tracked_mask mask moved.0 expected from moved.2)

-- the map is over in front of a line
pub map_over : {S : Type 0} (m : Meaning S) (old source : S) (new : Option (List ℕ)) (buffer : List ℕ) (ahead : Ahead) (mask : List ℕ)
    (expected : Expected) (from lines number : ℕ)
    (result : Result (Unit {0}) MapError) →
    (far : SoFar (m.left old) new mask expected from lines) → NoneLeft new → WereGiven new (left_of m source buffer ahead) [] →
    NoneLeft (left_of m source buffer ahead) →
    number ≡ lines + 1 → ((blocks : List Block) → Ends (behind_all (Going blocks expected number)) blocks result) →
    Reads m old source mask result
map_over m old source new buffer ahead mask expected from lines number result far before gave over is ends =
    read_ended m old source new mask far.given far.blocks (behind_all (Going far.blocks expected number)) result
    far.gave before (source_ended m source buffer ahead over)
    (ap (λ (t : List ℕ). reading_of t) (sym (append-nil far.given))
    ∙ ap behind_all (far.behind [] ∙ ap (Going far.blocks expected) (sym is)))
    (ends far.blocks) (tracked_mask mask far.blocks expected from far.tracked)

-- a line that is too long
pub line_endless : {S : Type 0} (m : Meaning S) (old : S) (new now : Option (List ℕ)) (mask : List ℕ) (expected : Expected)
    (from lines : ℕ) →
    (far : SoFar (m.left old) new mask expected from lines) → (bytes : List ℕ) → NoNewline bytes → length bytes ≡ endless →
    WereGiven new now bytes → ReadFault m old (lines + 1)
line_endless m old new now mask expected from lines far bytes none long gave =
    read_fault m old now (far.given ++ bytes) (lines + 1) (WereGiven-both far.given bytes (m.left old) new now far.gave gave) always where
      always : (rest : List ℕ) → reading_of ((far.given ++ bytes) ++ rest) ≡ Fault (lines + 1)
      always rest =
          let first = lines_of-long bytes rest none (let e : endless ≡ 2 ^ 64 - 1 = refl in omega arith) in
          let b : nat_le endless (length first.line.bytes) ≡ true = le-leb endless (length first.line.bytes)
          (let l = first.long in omega arith) in
          let failed : behind_line (Going far.blocks expected (lines + 1)) first.line ≡ Failed (lines + 1) =
          rw (b, or_true (nat_lt most_lines (lines + 1))) refl in
          ap behind_all
          (ap (λ (t : List ℕ). behind_lines start (lines_of t)) (append_assoc far.given bytes rest)
          ∙ far.behind (bytes ++ rest) ∙ ap (behind_lines (Going far.blocks expected (lines + 1))) first.are
          ∙ ap (λ (s : State). behind_lines s first.lines_behind) failed ∙ failed_lines (lines + 1) first.lines_behind)

-- a line too many
pub line_too_many : {S : Type 0} (m : Meaning S) (old : S) (new now : Option (List ℕ)) (mask : List ℕ) (expected : Expected)
    (from lines byte : ℕ) →
    (far : SoFar (m.left old) new mask expected from lines) → most_lines ≤ lines → WereGiven new now (byte ∷ []) →
    ReadFault m old (lines + 1)
line_too_many m old new now mask expected from lines byte far many gave =
    read_fault m old now (far.given ++ byte ∷ []) (lines + 1) (WereGiven-both far.given (byte ∷ []) (m.left old) new now far.gave gave)
    always where
      always : (rest : List ℕ) → reading_of ((far.given ++ byte ∷ []) ++ rest) ≡ Fault (lines + 1)
      always rest =
          let first = first_line byte rest in
          let a : nat_lt most_lines (lines + 1) ≡ true = lt-ltb most_lines (lines + 1) (omega arith) in
          let failed : behind_line (Going far.blocks expected (lines + 1)) first.line ≡ Failed (lines + 1) = rw a refl in
          ap behind_all
          (ap (λ (t : List ℕ). behind_lines start (lines_of t)) (append_assoc far.given (byte ∷ []) rest)
          ∙ far.behind (byte ∷ rest) ∙ ap (behind_lines (Going far.blocks expected (lines + 1))) first.are
          ∙ ap (λ (s : State). behind_lines s first.lines_behind) failed ∙ failed_lines (lines + 1) first.lines_behind)
