-- The reading of a list, line after line.
use Rattle.std.proofs.Common.{◌≡◌, ℕ, ◌+◌, ◌-◌, ◌<◌, ◌≤◌, ◌==◌, Bool, true, false, List, [], ◌∷◌, ◌++◌, length, take, drop, Option}
use Rattle.std.proofs.Common.{Some, None, if◌then◌else◌, nat_lt, slice_index, refl, sym, ap, ◌∙◌, arith, append_assoc, append-nil}
use Rattle.std.proofs.lemmas.Bool.{le-ltb, lt-ltb}
use Rattle.std.proofs.lemmas.List.{length-take-le}
use Rattle.std.specs.Option.{option_map, option_and_then}
use Rattle.qic_base.specs.LineBytes.{NoNewline}
use Rattle.qic_base.specs.Source.{Meaning}
use Rattle.qic_base.specs.SourceCalls.{WereGiven, NoneLeft}
use Rattle.qic_base.proofs.Giving.{WereGiven-both}
use Rattle.rescue_map.specs.Lines.{Line, lines_of, content_of, without_return}
use Rattle.rescue_map.specs.Map.{most_lines}
use Rattle.rescue_map.specs.Mask.{IsMarked}
use Rattle.rescue_map.specs.Reads.{left_of, newline_of}
use Rattle.rescue_map.specs.declared.ahead.Ahead.{Ahead}
use Rattle.rescue_map.proofs.Following.{text_of, text_ended, source_ended}
use Rattle.rescue_map.proofs.Lining.{lines_of-ended, lines_of-last, lines_of-long, first_line}
use Rattle.dump_spec.specs.Lists.{Reading, Listed, Fault, with_line, reading_from, reading_of, line_numbers}
use Rattle.dump_lists.specs.Masks.{IsMaskOf}
use Rattle.dump_lists.specs.Names.{BitRange}
use Rattle.dump_lists.specs.Reads.{ReadWhole, ReadFault, Moves}

-- ---- readings

-- what lines named, in front of those behind them
abbrev pub behind_names : {A : Type 0} → List A → Reading A → Reading A
behind_names names (Listed more) = Listed (names ++ more)
behind_names names (Fault line) = Fault line

behind_none : {A : Type 0} (r : Reading A) → r ≡ behind_names [] r
behind_none (Listed names) = refl
behind_none (Fault line) = refl

behind_both : {A : Type 0} (names more : List A) (line : ℕ) (r : Reading A) →
    behind_names names (with_line line (Some more) r) ≡ behind_names (names ++ more) r
behind_both names more line (Listed others) = ap (λ (xs : List _). Listed xs) (sym (append_assoc names more others))
behind_both names more line (Fault other) = refl

-- what a line with these bytes names
abbrev pub line_named : {A : Type 0} → (List ℕ → Option (List A)) → Line → Option (List A)
line_named named line = option_and_then named (line_numbers (content_of line))

-- ---- how far a list was read

-- so many lines were read, and this is the mask of what they named
pub record SoFar (named : List ℕ → Option (List BitRange)) (old new : Option (List ℕ)) (mask : List ℕ) (lines : ℕ) : Type 0 where
  pub given : List ℕ
  pub ranges : List BitRange
  pub gave : WereGiven old new given
  pub behind : (rest : List ℕ) → reading_of named (given ++ rest) ≡ behind_names ranges (reading_from named (lines + 1) (lines_of rest))
  pub set : IsMaskOf ranges mask

pub first : {S : Type 0} (named : List ℕ → Option (List BitRange)) (m : Meaning S) (s : S) (buffer mask : List ℕ) →
    ((bit : ℕ) → IsMarked mask bit → ⊥) → SoFar named (m.left s) (left_of m s buffer record { at = 0; end = 0 }) mask 0
first named m s buffer mask none = record {
  given = [];
  ranges = [];
  gave = by_left (m.left s);
  behind = λ rest. behind_none (reading_of named rest);
  set = λ bit within. ((λ h. absurd (none bit h)), (λ h. absurd (cc)));
} where
  by_left : (o : Option (List ℕ)) → o ≡ option_map (λ rest. [] ++ rest) (option_map (λ rest. drop 0 (take 0 buffer) ++ rest) o)
  by_left None = refl
  by_left (Some bytes) = refl

-- ---- a line

-- what is behind a line that a newline ended
behind_ended : (named : List ℕ → Option (List BitRange)) (old new : Option (List ℕ)) (mask : List ℕ) (lines : ℕ)
    (far : SoFar named old new mask lines) (bytes : List ℕ) → NoNewline bytes → lines < most_lines → (rest : List ℕ) →
    reading_of named ((far.given ++ (bytes ++ 10 ∷ [])) ++ rest)
    ≡ behind_names far.ranges (with_line (lines + 1) (line_named named record { bytes = bytes; ended = true })
    (reading_from named (lines + 1 + 1) (lines_of rest)))
behind_ended named old new mask lines far bytes none few rest =
    let here : nat_lt most_lines (lines + 1) ≡ false = le-ltb most_lines (lines + 1) (omega arith) in
    ap (reading_of named) (append_assoc far.given (bytes ++ 10 ∷ []) rest)
    ∙ far.behind ((bytes ++ 10 ∷ []) ++ rest)
    ∙ ap (λ (ls : List Line). behind_names far.ranges (reading_from named (lines + 1) ls)) (lines_of-ended bytes rest none)
    ∙ rw here refl

-- and behind the last line
behind_last : (named : List ℕ → Option (List BitRange)) (old new : Option (List ℕ)) (mask : List ℕ) (lines : ℕ)
    (far : SoFar named old new mask lines) (bytes : List ℕ) → NoNewline bytes → 0 < length bytes → lines < most_lines →
    reading_of named (far.given ++ bytes)
    ≡ behind_names far.ranges (with_line (lines + 1) (line_named named record { bytes = bytes; ended = false }) (Listed []))
behind_last named old new mask lines far bytes none some few =
    let here : nat_lt most_lines (lines + 1) ≡ false = le-ltb most_lines (lines + 1) (omega arith) in
    far.behind bytes
    ∙ ap (λ (ls : List Line). behind_names far.ranges (reading_from named (lines + 1) ls)) (lines_of-last bytes none some)
    ∙ rw here refl

-- ---- how it ends

-- the line is at fault, whatever comes behind it
read_fault : {S : Type 0} (named : List ℕ → Option (List BitRange)) (m : Meaning S) (old : S) (new : Option (List ℕ)) (given : List ℕ)
    (line : ℕ) → WereGiven (m.left old) new given → ((rest : List ℕ) → reading_of named (given ++ rest) ≡ Fault line) →
    ReadFault named m old line
read_fault named m old new given line gave always =
    let text = text_of (m.left old) new given gave in
    record { text = given ++ text.rest; told = text.told; reading = always text.rest }

-- ---- the steps

-- a line was read, and a newline ended it
pub next : (named : List ℕ → Option (List BitRange)) (old new now : Option (List ℕ)) (before mask : List ℕ) (lines : ℕ) (bytes : List ℕ) →
    (far : SoFar named old new before lines) → lines < most_lines → NoNewline bytes → WereGiven new now (bytes ++ 10 ∷ []) →
    ((ranges : List BitRange) → IsMaskOf ranges before →
    Moves mask ranges (line_named named record { bytes = bytes; ended = true }) true) →
    SoFar named old now mask (lines + 1)
next named old new now before mask lines bytes far few none gave moves =
    let moved = moves far.ranges far.set in
    record {
      given = far.given ++ (bytes ++ 10 ∷ []);
      ranges = far.ranges ++ moved.0;
      gave = WereGiven-both far.given (bytes ++ 10 ∷ []) old new now far.gave gave;
      behind = λ rest. behind_ended named old new before lines far bytes none few rest
          ∙ ap (λ (o : Option (List BitRange)). behind_names far.ranges (with_line (lines + 1) o
          (reading_from named (lines + 1 + 1) (lines_of rest)))) moved.1
          ∙ behind_both far.ranges moved.0 (lines + 1) (reading_from named (lines + 1 + 1) (lines_of rest));
      set = moved.2;
    }

-- it is at fault
pub line_fault : {S : Type 0} (named : List ℕ → Option (List BitRange)) (m : Meaning S) (old : S) (new now : Option (List ℕ))
    (before mask : List ℕ) (lines : ℕ) (bytes : List ℕ) (ended : Bool) →
    (far : SoFar named (m.left old) new before lines) → lines < most_lines → NoNewline bytes → (ended ≡ false → 0 < length bytes) →
    WereGiven new now (bytes ++ newline_of ended) → (ended ≡ false → NoneLeft now) →
    ((ranges : List BitRange) → IsMaskOf ranges before →
    Moves mask ranges (line_named named record { bytes = bytes; ended = ended }) false) →
    ReadFault named m old (lines + 1)
line_fault named m old new now before mask lines bytes true far few none some gave over moves =
    read_fault named m old now (far.given ++ (bytes ++ 10 ∷ [])) (lines + 1)
    (WereGiven-both far.given (bytes ++ 10 ∷ []) (m.left old) new now far.gave gave)
    (λ rest. behind_ended named (m.left old) new before lines far bytes none few rest
    ∙ ap (λ (o : Option (List BitRange)). behind_names far.ranges (with_line (lines + 1) o
    (reading_from named (lines + 1 + 1) (lines_of rest)))) (moves far.ranges far.set))
line_fault named m old new now before mask lines bytes false far few none some gave over moves =
    let given : WereGiven new now bytes = rw append-nil at gave in
    record {
      text = far.given ++ bytes;
      told = text_ended (m.left old) now (far.given ++ bytes)
          (WereGiven-both far.given bytes (m.left old) new now far.gave given) (over refl);
      reading = behind_last named (m.left old) new before lines far bytes none (some refl) few
          ∙ ap (λ (o : Option (List BitRange)). behind_names far.ranges (with_line (lines + 1) o (Listed []))) (moves far.ranges far.set);
    }

-- the list is over in front of a line
pub list_over : {S : Type 0} (named : List ℕ → Option (List BitRange)) (m : Meaning S) (old source : S) (new : Option (List ℕ))
    (buffer : List ℕ) (ahead : Ahead) (mask : List ℕ) (lines : ℕ) →
    (far : SoFar named (m.left old) new mask lines) → NoneLeft new → NoneLeft (left_of m source buffer ahead) →
    ReadWhole named IsMaskOf m old source mask
list_over named m old source new buffer ahead mask lines far before over = record {
  text = far.given;
  told = text_ended (m.left old) new far.given far.gave before;
  names = far.ranges;
  reading = ap (reading_of named) (sym (append-nil far.given)) ∙ far.behind []
      ∙ ap (λ (xs : List BitRange). Listed xs) (append-nil far.ranges);
  set = far.set;
  ended = source_ended m source buffer ahead over;
}

-- a line was the last one
pub last_line : {S : Type 0} (named : List ℕ → Option (List BitRange)) (m : Meaning S) (old source : S) (new : Option (List ℕ))
    (buffer : List ℕ) (ahead : Ahead) (before mask : List ℕ) (lines : ℕ) (bytes : List ℕ) →
    (far : SoFar named (m.left old) new before lines) → lines < most_lines → NoNewline bytes → 0 < length bytes →
    WereGiven new (left_of m source buffer ahead) bytes → NoneLeft (left_of m source buffer ahead) →
    ((ranges : List BitRange) → IsMaskOf ranges before →
    Moves mask ranges (line_named named record { bytes = bytes; ended = false }) true) →
    ReadWhole named IsMaskOf m old source mask
last_line named m old source new buffer ahead before mask lines bytes far few none some gave over moves =
    let moved = moves far.ranges far.set in
    record {
      text = far.given ++ bytes;
      told = text_ended (m.left old) (left_of m source buffer ahead) (far.given ++ bytes)
          (WereGiven-both far.given bytes (m.left old) new (left_of m source buffer ahead) far.gave gave) over;
      names = far.ranges ++ moved.0;
      reading = behind_last named (m.left old) new before lines far bytes none some few
          ∙ ap (λ (o : Option (List BitRange)). behind_names far.ranges (with_line (lines + 1) o (Listed []))) moved.1
          ∙ ap (λ (xs : List BitRange). Listed (far.ranges ++ xs)) (append-nil moved.0);
      set = moved.2;
      ended = source_ended m source buffer ahead over;
    }

-- a line of so many bytes has more than 31 without a carriage return
long_content : (line : Line) → 33 ≤ length line.bytes → line_numbers (content_of line) ≡ None
long_content line long = let many : nat_lt 31 (length (content_of line)) ≡ true = lt-ltb 31 (length (content_of line)) (by_end line.ended)
    in rw many refl where
      by_last : (t : Bool) → 31 < length (if t then take (length line.bytes - 1) line.bytes else line.bytes)
      by_last true = let l = length-take-le (length line.bytes - 1) line.bytes (omega arith) in omega arith
      by_last false = omega arith

      by_end : (e : Bool) → 31 < length (if e then without_return line.bytes else line.bytes)
      by_end true = by_last (slice_index line.bytes (length line.bytes - 1) == 13)
      by_end false = omega arith

pub line_long : {S : Type 0} (named : List ℕ → Option (List BitRange)) (m : Meaning S) (old : S) (new now : Option (List ℕ))
    (mask : List ℕ) (lines : ℕ) (bytes : List ℕ) →
    (far : SoFar named (m.left old) new mask lines) → NoNewline bytes → length bytes ≡ 33 → WereGiven new now bytes →
    ReadFault named m old (lines + 1)
line_long named m old new now mask lines bytes far none long gave =
    read_fault named m old now (far.given ++ bytes) (lines + 1)
    (WereGiven-both far.given bytes (m.left old) new now far.gave gave) always where
      by_test : (t : Bool) (line : Line) (r : Reading BitRange) → line_numbers (content_of line) ≡ None →
          behind_names far.ranges (with_line (lines + 1) (if t then None else line_named named line) r) ≡ Fault (lines + 1)
      by_test true line r is = refl
      by_test false line r is = rw is refl

      always : (rest : List ℕ) → reading_of named ((far.given ++ bytes) ++ rest) ≡ Fault (lines + 1)
      always rest =
          let first = lines_of-long bytes rest none (omega arith) in
          ap (reading_of named) (append_assoc far.given bytes rest)
          ∙ far.behind (bytes ++ rest)
          ∙ ap (λ (ls : List Line). behind_names far.ranges (reading_from named (lines + 1) ls)) first.are
          ∙ by_test (nat_lt most_lines (lines + 1)) first.line (reading_from named (lines + 1 + 1) first.lines_behind)
          (long_content first.line (let l = first.long in omega arith))

-- a line too many
pub line_too_many : {S : Type 0} (named : List ℕ → Option (List BitRange)) (m : Meaning S) (old : S) (new now : Option (List ℕ))
    (mask : List ℕ) (lines byte : ℕ) →
    (far : SoFar named (m.left old) new mask lines) → most_lines ≤ lines → WereGiven new now (byte ∷ []) → ReadFault named m old (lines + 1)
line_too_many named m old new now mask lines byte far many gave =
    read_fault named m old now (far.given ++ byte ∷ []) (lines + 1)
    (WereGiven-both far.given (byte ∷ []) (m.left old) new now far.gave gave) always where
      always : (rest : List ℕ) → reading_of named ((far.given ++ byte ∷ []) ++ rest) ≡ Fault (lines + 1)
      always rest =
          let first = first_line byte rest in
          let over : nat_lt most_lines (lines + 1) ≡ true = lt-ltb most_lines (lines + 1) (omega arith) in
          ap (reading_of named) (append_assoc far.given (byte ∷ []) rest)
          ∙ far.behind (byte ∷ rest)
          ∙ ap (λ (ls : List Line). behind_names far.ranges (reading_from named (lines + 1) ls)) first.are
          ∙ rw over refl
