-- The texts of lines: how they are read, and that each is that of one line.
use Rattle.std.proofs.Common.{◌≡◌, ◌≢◌, ℕ, ◌+◌, ◌-◌, ◌<◌, ◌≤◌, ◌==◌, Bool, true, false, List, [], ◌∷◌, ◌++◌, length, take, drop, get_or}
use Rattle.std.proofs.Common.{Option, Some, None, IfSome, decimal, if◌then◌else◌, refl, sym, ap, ◌∙◌, subst, arith, append_assoc}
use Rattle.std.proofs.Common.{drop_of_length-le}
use Rattle.std.specs.Option.{option_map}
use Rattle.std.proofs.Math.Seq.{take-append_seam}
use Rattle.std.proofs.lemmas.Bool.Decides.{nat_tests}
use Rattle.std.proofs.lemmas.List.{length-append, length_push, take-append-drop, drop_more, get_or_at, get_or_default, append_cancel_left}
use Rattle.std.proofs.lemmas.List.Elements.{All-push}
use Rattle.qic_base.specs.Source.{Meaning}
use Rattle.command_spec.specs.Command.{IsNumber}
use Rattle.command_spec.specs.Input.{IsLined}
use Rattle.qic_base.specs.SourceCalls.{Gave}
use Rattle.qic_base.specs.LineBytes.{NoNewline}
use Rattle.tape_script.specs.Reading.{BeginsWithNo}
use Rattle.command_laws.proofs.TextCommands.{number_value, IsNumber-value}
use Rattle.tape_script.proofs.Decimals.{wrong_length}
use Rattle.command_laws.proofs.TextDecimals.{all_digits}
use Rattle.command_laws.proofs.TextLined.{one_before}
use Rattle.pulse_dialogue.specs.declared.line.Line.{Line}
use Rattle.pulse_dialogue.specs.declared.line.Line.TheVariants.{Pulse, Sample}
use Rattle.pulse_dialogue.specs.Lines.{time_of, level_digit, line_text, line_bytes, greatest_time, IsLine, IsNoLine, Follows}
use Rattle.pulse_dialogue.specs.Reading.{IsLineText, GaveBytes}

-- ---- a text that ends with a space and one byte

record EndsSo (text word : List ℕ) (last : ℕ) : Type 0 where
  two : 2 ≤ length text
  front : take (length text - 2) text ≡ word
  space : get_or text (length text - 2) 0 ≡ 0x20
  digit : get_or text (length text - 1) 0 ≡ last

ends_so : (text word : List ℕ) (last : ℕ) → text ≡ word ++ 0x20 ∷ last ∷ [] → EndsSo text word last
ends_so text word last e =
    let l = ap length e in
    let m = length-append word (0x20 ∷ last ∷ []) in
    let p = length_push word 0x20 in
    let before : length word ≡ length text - 2 = omega arith in
    let behind : length (word ++ 0x20 ∷ []) ≡ length text - 1 = omega arith in
    record {
      two = omega arith;
      front = ap (λ (n : ℕ). take n text) (sym before) ∙ ap (take (length word)) e ∙ take-append_seam word (0x20 ∷ last ∷ []);
      space = ap (λ xs. get_or xs (length text - 2) 0) e ∙ get_or_at word 0x20 (last ∷ []) 0 (length text - 2) before;
      digit = ap (λ xs. get_or xs (length text - 1) 0) (e ∙ sym (append_assoc word (0x20 ∷ []) (last ∷ [])))
          ∙ get_or_at (word ++ 0x20 ∷ []) last [] 0 (length text - 1) behind;
    }

parts : (text : List ℕ) → 2 ≤ length text → get_or text (length text - 2) 0 ≡ 0x20 →
    text ≡ take (length text - 2) text ++ 0x20 ∷ get_or text (length text - 1) 0 ∷ []
parts text two space =
    let i : ℕ = length text - 2 in
    let first : drop i text ≡ get_or text i 0 ∷ drop (i + 1) text = drop_more text i 0 (omega arith) in
    let next : drop (i + 1) text ≡ get_or text (i + 1) 0 ∷ drop (i + 1 + 1) text = drop_more text (i + 1) 0 (omega arith) in
    let none : drop (i + 1 + 1) text ≡ [] = drop_of_length-le text (omega arith) in
    let at : i + 1 ≡ length text - 1 = omega arith in
    sym (take-append-drop i text)
    ∙ ap (λ xs. take i text ++ xs)
    (first ∙ ap (λ (b : ℕ). b ∷ drop (i + 1) text) space
    ∙ ap (λ xs. 0x20 ∷ xs) (next ∙ ap (λ xs. get_or text (i + 1) 0 ∷ xs) none ∙ ap (λ (n : ℕ). get_or text n 0 ∷ []) at))

-- ---- what a text is read as

pub no_line_plain : (text : List ℕ) → ((n : ℕ) → IsNumber text n → ⊥) → (2 ≤ length text → get_or text (length text - 2) 0 ≡ 0x20 → ⊥) →
    IsNoLine text
no_line_plain text none other (Pulse time) is = none time (record { digits = is.spelled; nine = is.nine })
no_line_plain text none other (Sample time level) is =
    let e = ends_so text (decimal time) (level_digit level) is.spelled in other e.two e.space

pub no_line_sampled : (text : List ℕ) → 2 ≤ length text → get_or text (length text - 2) 0 ≡ 0x20 →
    ((time : ℕ) (level : Bool) → IsNumber (take (length text - 2) text) time → get_or text (length text - 1) 0 ≡ level_digit level → ⊥) →
    IsNoLine text
no_line_sampled text two space none (Pulse time) is =
    let d = all_digits text time (length text - 2) (record { digits = is.spelled; nine = is.nine }) (omega arith) in omega arith
no_line_sampled text two space none (Sample time level) is =
    let e = ends_so text (decimal time) (level_digit level) is.spelled in
    none time level (record { digits = e.front; nine = is.nine }) e.digit

pub sampled : (text : List ℕ) (time : ℕ) (level : Bool) → 2 ≤ length text → get_or text (length text - 2) 0 ≡ 0x20 →
    IsNumber (take (length text - 2) text) time → get_or text (length text - 1) 0 ≡ level_digit level → IsLine text (Sample time level)
sampled text time level two space number digit = record {
  spelled = parts text two space ∙ ap (λ w. w ++ 0x20 ∷ get_or text (length text - 1) 0 ∷ []) number.digits
      ∙ ap (λ (d : ℕ). decimal time ++ 0x20 ∷ d ∷ []) digit;
  nine = number.nine;
}

-- ---- a text has one line

number_of : (time : ℕ) → time ≤ greatest_time → IsNumber (decimal time) time
number_of time few = record { digits = refl; nine = few }

digits_no_newline : (time : ℕ) → time ≤ greatest_time → NoNewline (decimal time)
digits_no_newline time few k d here e =
    let digit = all_digits (decimal time) time k (number_of time few) here in
    let same = get_or_default (decimal time) k d 0 here in omega arith

level_no_newline : (level : Bool) → level_digit level ≢ 0x0A
level_no_newline false e = omega arith
level_no_newline true e = omega arith

pub line_no_newline : (line : Line) → time_of line ≤ greatest_time → NoNewline (line_text line)
line_no_newline (Pulse time) few = digits_no_newline time few
line_no_newline (Sample time level) few =
    subst NoNewline (append_assoc (decimal time) (0x20 ∷ []) (level_digit level ∷ []))
    (All-push (λ b. b ≢ 0x0A) (decimal time ++ 0x20 ∷ []) (level_digit level)
    (All-push (λ b. b ≢ 0x0A) (decimal time) 0x20 (digits_no_newline time few) (λ e. omega arith)) (level_no_newline level))

text_short : (line : Line) → time_of line ≤ greatest_time → length (line_text line) ≤ 11
text_short (Pulse time) few = let l = (wrong_length (decimal time) time (number_of time few)).1 in omega arith
text_short (Sample time level) few =
    let l = (wrong_length (decimal time) time (number_of time few)).1 in
    let m = length-append (decimal time) (0x20 ∷ level_digit level ∷ []) in omega arith

text_some : (line : Line) → time_of line ≤ greatest_time → 1 ≤ length (line_text line)
text_some (Pulse time) few = let l = (wrong_length (decimal time) time (number_of time few)).0 in omega arith
text_some (Sample time level) few =
    let m = length-append (decimal time) (0x20 ∷ level_digit level ∷ []) in omega arith

-- a line has two bytes at least and twelve at most
pub bytes_some : (line : Line) → time_of line ≤ greatest_time → (2 ≤ length (line_bytes line)) × (length (line_bytes line) ≤ 12)
unfolding line_bytes
bytes_some line few =
    let a = text_some line few in
    let b = text_short line few in
    let l = length_push (line_text line) 0x0A in (omega arith, omega arith)

pub lined : (text : List ℕ) (line : Line) → IsLineText text line → IsLined (λ before. IsLine before line) text
unfolding line_bytes
lined text line is = record {
  before = line_text line;
  short = (let l = text_short line is.nine in omega arith);
  one_line = line_no_newline line is.nine;
  whole = is.spelled;
  has = record { spelled = refl; nine = is.nine };
}

pub guess : List ℕ → Line
guess text =
    if get_or text (length text - 2) 0 == 0x20 then Sample (number_value (take (length text - 2) text))
    (get_or text (length text - 1) 0 == 49)
    else Pulse (number_value text)

level_of : (level : Bool) (d : ℕ) → d ≡ level_digit level → (d == 49) ≡ level
level_of false d e = rw e refl
level_of true d e = rw e refl

pub guess_is : (text : List ℕ) (line : Line) → IsLine text line → guess text ≡ line
unfolding guess
guess_is text (Pulse time) is =
    let number : IsNumber text time = record { digits = is.spelled; nine = is.nine } in
    let some = (wrong_length text time number).0 in
    let digit = all_digits text time (length text - 2) number (omega arith) in
    let other : (get_or text (length text - 2) 0 == 0x20) ≡ false = grind (arith, nat_tests) in
    rw other (ap (λ (n : ℕ). Pulse n) (IsNumber-value text time number))
guess_is text (Sample time level) is =
    let e = ends_so text (decimal time) (level_digit level) is.spelled in
    let space = e.space in
    let here : (get_or text (length text - 2) 0 == 0x20) ≡ true = grind (arith, nat_tests) in
    let value : number_value (take (length text - 2) text) ≡ time = IsNumber-value (take (length text - 2) text) time
    (record { digits = e.front; nine = is.nine }) in
    let digit : (get_or text (length text - 1) 0 == 49) ≡ level = level_of level (get_or text (length text - 1) 0) e.digit in
    rw (here, value, digit) refl

one_line : (text : List ℕ) (x y : Line) → IsLine text x → IsLine text y → x ≡ y
one_line text x y a b = sym (guess_is text x a) ∙ guess_is text y b

-- the lines at the front of two inputs that begin alike are one
pub record SameLine (x y : Line) (r q : List ℕ) : Type 0 where
  pub lines : x ≡ y
  pub rests : r ≡ q

pub same_line : (x y : Line) (r q : List ℕ) → time_of x ≤ greatest_time → time_of y ≤ greatest_time →
    line_bytes x ++ r ≡ line_bytes y ++ q → SameLine x y r q
unfolding line_bytes
same_line x y r q few less e =
    let texts : line_text x ≡ line_text y =
    one_before (line_text x) (line_text y) r q (line_no_newline x few) (line_no_newline y less)
    (sym (append_assoc (line_text x) (0x0A ∷ []) r) ∙ e ∙ append_assoc (line_text y) (0x0A ∷ []) q) in
    let same : x ≡ y = one_line (line_text x) x y (record { spelled = refl; nine = few }) (record { spelled = texts; nine = less }) in
    record {
      lines = same;
      rests = append_cancel_left (line_text x ++ 0x0A ∷ []) r q (e ∙ ap (λ t. (t ++ 0x0A ∷ []) ++ q) (sym texts));
    }

-- a line that may not stand there: none that may begins what it begins
pub another_line : {S : Type 0} (m : Meaning S) (a b : S) (last : ℕ) (x : Line) → time_of x ≤ greatest_time → Gave m a b (line_bytes x) →
    time_of x < last →
    (y : Line) → Follows last y → BeginsWithNo m a (λ text. text ≡ line_bytes y)
another_line m a b last x few gave early y follows = go (m.left a) (m.left b) gave where
  go : (o p : Option (List ℕ)) → o ≡ option_map (λ rest. line_bytes x ++ rest) p →
      IfSome o (λ bytes. (text rest : List ℕ) → bytes ≡ text ++ rest → ¬ (text ≡ line_bytes y))
  go None p e = tt
  go (Some bytes) None e = absurd (cc)
  go (Some bytes) (Some left) e = λ text rest split is.
      let same : bytes ≡ line_bytes x ++ left = cc in
      let one = same_line x y left rest few follows.nine (sym same ∙ split ∙ ap (λ t. t ++ rest) is) in
      let time : time_of x ≡ time_of y = ap time_of one.lines in
      let later = follows.later in omega arith

-- what a source gave that is a line and a newline
pub line_given : {S : Type 0} (m : Meaning S) (a b : S) (before : List ℕ) (line : Line) (n : ℕ) → IsLine before line →
    Gave m a b (before ++ 0x0A ∷ []) →
    length before ≡ n → n ≤ 127 →
    (time_of line ≤ greatest_time) × (length (line_bytes line) ≡ n + 1) × (n + 1 ≤ 128) × Gave m a b (line_bytes line)
unfolding line_bytes
line_given m a b before line n is gave long short =
    let texts : before ++ 0x0A ∷ [] ≡ line_text line ++ 0x0A ∷ [] = ap (λ t. t ++ 0x0A ∷ []) is.spelled in (
      is.nine,
      (let l = ap length texts in let p = length_push before 0x0A in omega arith),
      omega arith,
      subst (Gave m a b) texts gave,
    )

-- a line's bytes are some, and no more than 128
pub gave_on : {S : Type 0} (m : Meaning S) (a b : S) (line : Line) (n : ℕ) → length (line_bytes line) ≡ n → time_of line ≤ greatest_time →
    n ≤ 128 →
    Gave m a b (line_bytes line) → GaveBytes m a b
gave_on m a b line n long few short gave =
    (n, (let s = (bytes_some line few).0 in omega arith), short, (line_bytes line, long, gave))
