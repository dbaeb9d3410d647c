-- Inputs that begin with lines: each has lines and an ending, and only those.
use Rattle.std.proofs.Common.{◌≡◌, inl, inr, ℕ, zero, suc, ◌+◌, ◌≤◌, ◌<◌, List, [], ◌∷◌, ◌++◌, length, Option, Some, None, IfSome, refl}
use Rattle.std.proofs.Common.{sym, ap, ◌∙◌, subst, arith, append_assoc, append-nil}
use Rattle.std.specs.Option.{option_map}
use Rattle.std.proofs.lemmas.List.{length-append}
use Rattle.command_laws.proofs.TextDeciding.{both, at_most, same_bytes}
use Rattle.cartridge_laws.proofs.Search.{Decided, decide_as}
use Rattle.command_laws.proofs.TextLined.{one_before}
use Rattle.command_laws.proofs.TextReadings.{Cut, cut, no_line_without}
use Rattle.tape_script.proofs.Rests.{Rest}
use Rattle.pulse_dialogue.specs.declared.line.Line.{Line}
use Rattle.pulse_dialogue.specs.Lines.{time_of, line_text, line_bytes, greatest_time, most_lines, IsLine, Ending, AtEnd, AtFault, Follows}
use Rattle.pulse_dialogue.specs.Lines.{HasLine, IsFault, LinesEnd, HasLines}
use Rattle.pulse_dialogue.specs.Laws.{EachRecording, OneRecording}
use Rattle.pulse_dialogue.proofs.Lines.{line_no_newline, lined, guess, guess_is, same_line, bytes_some}

-- ---- each input has lines

is_line : (text : List ℕ) (line : Line) → Decided (IsLine text line)
is_line text line =
    decide_as ((text ≡ line_text line) × (time_of line ≤ greatest_time)) (IsLine text line)
    (λ h. record { spelled = h.0; nine = h.1 }) (λ h. (h.spelled, h.nine))
    (both (text ≡ line_text line) (time_of line ≤ greatest_time) (same_bytes text (line_text line)) (at_most (time_of line) greatest_time))

line_begins : (last : ℕ) (input : List ℕ) → Decided (HasLine last input)
unfolding line_bytes
line_begins last input = elim (cut input) [
  | inl c ↦ found c
  | inr none ↦ inr (λ h. no_line_without (λ before. IsLine before h.0) input (line_text h.0 ++ 0x0A ∷ []) h.1.0 none
      (lined (line_text h.0 ++ 0x0A ∷ []) h.0 (record { spelled = refl; nine = h.1.1.1.nine })) h.1.1.0)
] where
  found : Cut input → Decided (HasLine last input)
  found c =
      let l : Line = guess c.before in
      decide_as (IsLine c.before l × (last ≤ time_of l)) (HasLine last input)
      (λ h. (
        l,
        (
          c.rest,
          (
            c.parts ∙ sym (append_assoc c.before (0x0A ∷ []) c.rest) ∙ ap (λ t. (t ++ 0x0A ∷ []) ++ c.rest) h.0.spelled,
            record { later = h.1; nine = h.0.nine },
          ),
        ),
      ))
      (λ h.
      let follows = h.1.1.1 in
      let same : line_text h.0 ≡ c.before = one_before (line_text h.0) c.before h.1.0 c.rest (line_no_newline h.0 follows.nine) c.one_line
      (sym (append_assoc (line_text h.0) (0x0A ∷ []) h.1.0) ∙ sym h.1.1.0 ∙ c.parts) in
      let is : IsLine c.before h.0 = record { spelled = sym same; nine = follows.nine } in
      let one : l ≡ h.0 = guess_is c.before h.0 is in
      let P : Line → Type 0 = λ x. IsLine c.before x in
      let Q : Line → Type 0 = λ x. last ≤ time_of x in
      (subst P (sym one) is, subst Q (sym one) follows.later))
      (both (IsLine c.before l) (last ≤ time_of l) (is_line c.before l) (at_most last (time_of l)))

-- lines and an ending of an input
pub record Lined (last line place : ℕ) (input : List ℕ) : Type 0 where
  pub lines : List Line
  pub ending : Ending
  pub has : HasLines last line place input lines ending

read_from : (n last line place : ℕ) (input : List ℕ) → length input ≤ n → Lined last line place input
read_from n last line place [] few = record { lines = []; ending = AtEnd; has = refl }
read_from zero last line place (b ∷ input) few = absurd (omega arith)
read_from (suc n) last line place (b ∷ input) few =
    elim (both (line ≤ most_lines) (HasLine last (b ∷ input)) (at_most line most_lines) (line_begins last (b ∷ input))) [
      | inl h ↦
          let x = h.1.0 in
          let rest = h.1.1.0 in
          let e : b ∷ input ≡ line_bytes x ++ rest = h.1.1.1.0 in
          let follows = h.1.1.1.1 in
          let shorter : length rest ≤ n =
          (let some = (bytes_some x follows.nine).0 in let l = ap length e in let m = length-append (line_bytes x) rest in omega arith)
          in
          let next = read_from n (time_of x) (line + 1) (place + length (line_bytes x)) rest shorter in
          record { lines = x ∷ next.lines; ending = next.ending; has = (h.0, follows, (rest, (e, next.has))) }
      | inr none ↦ record {
        lines = [];
        ending = AtFault line place;
        has = (record { some = λ e. cc; no_line = λ within here. none (within, here) }, refl, refl);
      }
    ]

pub lined_from : (last line place : ℕ) (input : List ℕ) → Lined last line place input
lined_from last line place input = read_from (length input) last line place input (omega arith)

pub each_recording : EachRecording
each_recording input = let l = lined_from 0 1 0 input in (l.lines, (l.ending, l.has))

-- ---- and only those

one_ending : (last line place : ℕ) (input : List ℕ) (a b : Ending) → LinesEnd last line place input a → LinesEnd last line place input b →
    a ≡ b
one_ending last line place input AtEnd AtEnd p q = refl
one_ending last line place input AtEnd (AtFault n m) p q = absurd (q.0.some p)
one_ending last line place input (AtFault n m) AtEnd p q = absurd (p.0.some q)
one_ending last line place input (AtFault n m) (AtFault k l) p q = rw (p.1, p.2, q.1, q.2) refl

-- where a line begins the input, it doesn't end there
no_ending : (last line place : ℕ) (input rest : List ℕ) (x : Line) (a : Ending) → line ≤ most_lines → Follows last x →
    input ≡ line_bytes x ++ rest →
    LinesEnd last line place input a → ⊥
no_ending last line place input rest x AtEnd within follows e p =
    let some = (bytes_some x follows.nine).0 in
    let l = ap length (sym p ∙ e) in
    let m = length-append (line_bytes x) rest in omega arith
no_ending last line place input rest x (AtFault n k) within follows e p = p.0.no_line within (x, (rest, (e, follows)))

one_from : (last line place : ℕ) (input : List ℕ) (xs ys : List Line) (a b : Ending) →
    HasLines last line place input xs a → HasLines last line place input ys b → (xs ≡ ys) × (a ≡ b)
one_from last line place input [] [] a b p q = (refl, one_ending last line place input a b p q)
one_from last line place input [] (y ∷ ys) a b p q = absurd (no_ending last line place input q.2.0 y a q.0 q.1 q.2.1.0 p)
one_from last line place input (x ∷ xs) [] a b p q = absurd (no_ending last line place input p.2.0 x b p.0 p.1 p.2.1.0 q)
one_from last line place input (x ∷ xs) (y ∷ ys) a b p q =
    let one = same_line x y p.2.0 q.2.0 p.1.nine q.1.nine (sym p.2.1.0 ∙ q.2.1.0) in
    let P : Line → Type 0 = λ z. HasLines (time_of z) (line + 1) (place + length (line_bytes z)) q.2.0 ys b in
    let Q : List ℕ → Type 0 = λ z. HasLines (time_of x) (line + 1) (place + length (line_bytes x)) z ys b in
    let next : HasLines (time_of x) (line + 1) (place + length (line_bytes x)) p.2.0 ys b = subst Q (sym one.rests)
    (subst P (sym one.lines) q.2.1.1) in
    let rest = one_from (time_of x) (line + 1) (place + length (line_bytes x)) p.2.0 xs ys a b p.2.1.1 next in
    (ap (λ (z : Line). z ∷ xs) one.lines ∙ ap (λ (zs : List Line). y ∷ zs) rest.0, rest.1)

pub one_recording : OneRecording
one_recording input xs ys a b p q = one_from 0 1 0 input xs ys a b p q

-- ---- lines that were read

-- each may stand behind the one before
abbrev pub AreLines : (last : ℕ) → List Line → Type 0
AreLines last [] = Unit {0}
AreLines last (x ∷ xs) = Follows last x × AreLines (time_of x) xs

abbrev pub last_time : (last : ℕ) → List Line → ℕ
last_time last [] = last
last_time last (x ∷ xs) = last_time (time_of x) xs

abbrev pub lines_bytes : List Line → List ℕ
lines_bytes [] = []
lines_bytes (x ∷ xs) = line_bytes x ++ lines_bytes xs

abbrev pub push : List Line → Line → List Line
push xs x = xs ++ x ∷ []

pub AreLines-push : (last : ℕ) (xs : List Line) (x : Line) → AreLines last xs → Follows (last_time last xs) x → AreLines last (push xs x)
AreLines-push last [] x are follows = (follows, tt)
AreLines-push last (y ∷ xs) x are follows = (are.0, AreLines-push (time_of y) xs x are.1 follows)

pub last_time-push : (last : ℕ) (xs : List Line) (x : Line) → last_time last (push xs x) ≡ time_of x
last_time-push last [] x = refl
last_time-push last (y ∷ xs) x = last_time-push (time_of y) xs x

pub lines_bytes-push : (xs : List Line) (x : Line) → lines_bytes xs ++ line_bytes x ≡ lines_bytes (push xs x)
lines_bytes-push [] x = sym (append-nil (line_bytes x))
lines_bytes-push (y ∷ xs) x = append_assoc (line_bytes y) (lines_bytes xs) (line_bytes x)
    ∙ ap (λ t. line_bytes y ++ t) (lines_bytes-push xs x)

-- a reading, from equal numbers
read_at : (last line place end here at : ℕ) (input : List ℕ) (lines : List Line) (ending : Ending) → end ≡ last → here ≡ line → at ≡ place →
    HasLines end here at input lines ending → HasLines last line place input lines ending
read_at last line place end here at input lines ending times same equal read =
    let P : ℕ → Type 0 = λ n. HasLines n here at input lines ending in
    let Q : ℕ → Type 0 = λ n. HasLines last n at input lines ending in
    let R : ℕ → Type 0 = λ n. HasLines last line n input lines ending in
    subst R equal (subst Q same (subst P times read))

-- what is read behind lines is read behind them
pub read_behind : (xs ys : List Line) (rest : List ℕ) (last line place here at : ℕ) (ending : Ending) → AreLines last xs →
    line + length xs ≤ most_lines + 1 →
    here ≡ line + length xs → at ≡ place + length (lines_bytes xs) →
    HasLines (last_time last xs) here at rest ys ending → HasLines last line place (lines_bytes xs ++ rest) (xs ++ ys) ending
read_behind [] ys rest last line place here at ending are few same equal read =
    read_at last line place last here at rest ys ending refl (omega arith) (omega arith) read
read_behind (x ∷ xs) ys rest last line place here at ending are few same equal read =
    let long = length-append (line_bytes x) (lines_bytes xs) in (
      omega arith,
      are.0,
      (
        lines_bytes xs ++ rest,
        (
          append_assoc (line_bytes x) (lines_bytes xs) rest,
          read_behind xs ys rest (time_of x) (line + 1) (place + length (line_bytes x)) here at ending are.1 (omega arith) (omega arith)
              (omega arith) read,
        ),
      ),
    )

-- ---- the input, from what is left

-- a byte that begins no line
no_line : (last line : ℕ) → IsFault last line (0 ∷ [])
no_line last line = record {
  some = λ e. cc;
  no_line = λ within here.
      let two = (bytes_some here.0 here.1.1.1.nine).0 in
      let l = ap length here.1.1.0 in
      let m = length-append (line_bytes here.0) here.1.0 in omega arith;
}

-- bytes were given, and no line that may stand there began them
pub fault_rest : (o p : Option (List ℕ)) (last line n : ℕ) (bytes : List ℕ) → 0 < n → length bytes ≡ n →
    o ≡ option_map (λ rest. bytes ++ rest) p →
    (line ≤ most_lines → (x : Line) → Follows last x →
    IfSome o (λ all. (text rest : List ℕ) → all ≡ text ++ rest → ¬ (text ≡ line_bytes x))) →
    Rest o (IsFault last line)
fault_rest None p last line n bytes some long gave none = record { rest = 0 ∷ []; told = tt; has = no_line last line }
fault_rest (Some all) p last line n bytes some long gave none = record {
  rest = all;
  told = refl;
  has = record {
    some = λ e. given p gave e;
    no_line = λ within here. none within here.0 here.1.1.1 (line_bytes here.0) here.1.0 here.1.1.0 refl;
  };
} where
  given : (p : Option (List ℕ)) → Some all ≡ option_map (λ rest. bytes ++ rest) p → all ≡ [] → ⊥
  given None gave e = cc
  given (Some rest) gave e =
      let same : all ≡ bytes ++ rest = cc in
      let l = ap length (sym e ∙ same) in
      let m = length-append bytes rest in omega arith
