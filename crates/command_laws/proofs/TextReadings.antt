-- Each input of `script` and of `pulses` has a reading.
use Rattle.std.proofs.Common.{◌≡◌, ℕ, ◌+◌, List, ◌∷◌, ◌++◌, ◌≢◌, zero, suc, arith, ◌⊎◌, inl, inr, [], ap, sym, ◌∙◌, append_assoc, length}
use Rattle.std.proofs.Common.{get_or, refl, ◌≤◌, subst, take, drop, codes, ◌<◌}
use Rattle.std.proofs.lemmas.List.{length-append, get_or_at, take-append-drop, append_cancel_left, length-take-le}
use Rattle.command_laws.proofs.TextCommands.{number_value, IsNumber-value}
use Rattle.command_laws.proofs.TextDeciding.{same_number, both, at_most, spelled, has_form, same_bytes}
use Rattle.cartridge_laws.proofs.Search.{Decided, decide_as}
use Rattle.command_laws.proofs.TextInputs.{AreItems, items, pulses}
use Rattle.command_laws.proofs.TextLined.{one_before}
use Rattle.command_laws.specs.TextInput.{EachReading}
use Rattle.qic_base.specs.LineBytes.{NoNewline}
use Rattle.command_spec.specs.Command.{Number}
use Rattle.command_spec.specs.Input.{IsLined, IsPulse, line_forms, promised, IsItem, HasStop, Ending, HasItems, AtEnd, AtStop, AtFault}
use Rattle.command_spec.specs.Input.{most_items}
use Rattle.command_laws.specs.Inputs.{IsTrain, HasItem, IsLine, words_of}
use Rattle.command_spec.specs.declared.line.Line.{Line}
use Rattle.command_spec.specs.declared.line.Line.TheVariants as line
use Rattle.command_laws.proofs.TextLines as lines

-- the bytes at the first newline
pub record Cut (bytes : List ℕ) : Type 0 where
  pub before : List ℕ
  pub rest : List ℕ
  pub one_line : NoNewline before
  pub parts : bytes ≡ before ++ 0x0A ∷ rest

longer_line : (b : ℕ) (bytes : List ℕ) → b ≢ 0x0A → NoNewline bytes → NoNewline (b ∷ bytes)
longer_line b bytes first rest zero d here = first
longer_line b bytes first rest (suc k) d here = rest k d (omega arith)

newline_or : (b : ℕ) → (b ≡ 0x0A) ⊎ (b ≢ 0x0A)
newline_or b = same_number b 0x0A

pub cut : (bytes : List ℕ) → Cut bytes ⊎ NoNewline bytes
cut [] = inr (λ k d here. absurd (omega arith))
cut (b ∷ bytes) = elim (newline_or b) [
  | inl e ↦ inl record { before = []; rest = bytes; one_line = λ k d here. absurd (omega arith); parts = ap (λ (x : ℕ). x ∷ bytes) e }
  | inr other ↦ elim (cut bytes) [
    | inl c ↦ inl record {
      before = b ∷ c.before;
      rest = c.rest;
      one_line = longer_line b c.before other c.one_line;
      parts = ap (λ t. b ∷ t) c.parts;
    }
    | inr none ↦ inr (longer_line b bytes other none)
  ]
]

-- where a line begins the bytes, it is the one before the first newline
line_is : (P : List ℕ → Type 0) (bytes text rest : List ℕ) (c : Cut bytes) (l : IsLined P text) → bytes ≡ text ++ rest → l.before ≡ c.before
line_is P bytes text rest c l e =
    one_before l.before c.before rest c.rest l.one_line c.one_line
    (sym (append_assoc l.before (0x0A ∷ []) rest) ∙ ap (λ t. t ++ rest) (sym l.whole) ∙ sym e ∙ c.parts)

pub no_line_without : (P : List ℕ → Type 0) (bytes text rest : List ℕ) → NoNewline bytes → IsLined P text → bytes ≡ text ++ rest → ⊥
no_line_without P bytes text rest none l e =
    let parts : bytes ≡ l.before ++ 0x0A ∷ rest = e ∙ ap (λ t. t ++ rest) l.whole ∙ append_assoc l.before (0x0A ∷ []) rest in
    let long = length-append l.before (0x0A ∷ rest) in
    none (length l.before) 0 (let s = ap length parts in omega arith)
    (ap (λ t. get_or t (length l.before) 0) parts ∙ get_or_at l.before 0x0A rest 0 (length l.before) refl)

-- ---- items of `pulses`

pulse_begins : (input : List ℕ) → Decided (HasItem IsPulse input)
pulse_begins input = elim (cut input) [
  | inl c ↦ found c
  | inr none ↦ inr
      (λ h. no_line_without (λ before. IsTrain before h.0) input h.1.0 h.1.1.0 none h.1.1.1.1 h.1.1.1.0)
] where
  found : Cut input → Decided (HasItem IsPulse input)
  found c =
      let n : ℕ = number_value c.before in
      decide_as ((length c.before ≤ 127) × IsTrain c.before n) (HasItem IsPulse input)
      (λ h. (
        n,
        (
          c.before ++ 0x0A ∷ [],
          (
            c.rest,
            (
              c.parts ∙ sym (append_assoc c.before (0x0A ∷ []) c.rest),
              record { before = c.before; short = h.0; one_line = c.one_line; whole = refl; has = h.1 },
            ),
          ),
        ),
      ))
      (λ h.
      let l = h.1.1.1.1 in
      let same : l.before ≡ c.before = line_is (λ before. IsTrain before h.0) input h.1.0 h.1.1.0 c l h.1.1.1.0 in
      let has : IsTrain c.before h.0 = let P : List ℕ → Type 0 = λ t. IsTrain t h.0 in subst P same l.has in
      let is : n ≡ h.0 = IsNumber-value c.before h.0 has.0 in
      (rw (← same) l.short, let P : ℕ → Type 0 = λ m. IsTrain c.before m in subst P (sym is) has))
      (both (length c.before ≤ 127) (IsTrain c.before n) (at_most (length c.before) 127) (spelled c.before (Number 0 255 n)))

-- ---- items of a script

not_end : (l : Line) → Decided (l ≢ line.End)
not_end (line.Append name length date) = inl (λ e. cc)
not_end line.List = inl (λ e. cc)
not_end (line.Restore number) = inl (λ e. cc)
not_end line.Scrub = inl (λ e. cc)
not_end (line.Lose segment sector) = inl (λ e. cc)
not_end line.End = inr (λ other. other refl)

item_begins : (input : List ℕ) → Decided (HasItem IsItem input)
item_begins input = elim (cut input) [
  | inl c ↦ found c
  | inr none ↦ inr (λ h. no_line_without (λ before. IsLine before h.0.line) input h.1.1.1.1.front
      (h.0.bytes ++ h.1.1.0) none h.1.1.1.1.lined
      (h.1.1.1.0 ∙ ap (λ t. t ++ h.1.1.0) h.1.1.1.1.whole ∙ append_assoc h.1.1.1.1.front h.0.bytes h.1.1.0))
] where
  found : Cut input → Decided (HasItem IsItem input)
  found c =
      let l : Line = lines.guess (words_of c.before) in
      let n : ℕ = promised l in
      let E : Type 0 = l ≢ line.End in
      decide_as ((length c.before ≤ 127) × (IsLine c.before l × (E × (n ≤ length c.rest)))) (HasItem IsItem input)
      (λ h. (
        record { line = l; bytes = take n c.rest },
        (
          (c.before ++ 0x0A ∷ []) ++ take n c.rest,
          (
            drop n c.rest,
            (
              c.parts ∙ sym (append_assoc c.before (0x0A ∷ []) c.rest) ∙ ap (λ t. (c.before ++ 0x0A ∷ []) ++ t)
                  (sym (take-append-drop n c.rest))
                  ∙ sym (append_assoc (c.before ++ 0x0A ∷ []) (take n c.rest) (drop n c.rest)),
              record {
                front = c.before ++ 0x0A ∷ [];
                lined = record { before = c.before; short = h.0; one_line = c.one_line; whole = refl; has = h.1.0 };
                not_end = h.1.1.0;
                whole = refl;
                kept = length-take-le n c.rest h.1.1.1;
              },
            ),
          ),
        ),
      ))
      (λ h.
      let s = h.1.1.1.1 in
      let e : input ≡ s.front ++ (h.0.bytes ++ h.1.1.0) = h.1.1.1.0 ∙ ap (λ t. t ++ h.1.1.0) s.whole
      ∙ append_assoc s.front h.0.bytes h.1.1.0 in
      let same : s.lined.before ≡ c.before = line_is (λ before. IsLine before h.0.line) input s.front (h.0.bytes ++ h.1.1.0) c s.lined e in
      let has : IsLine c.before h.0.line = let P : List ℕ → Type 0 = λ t. IsLine t h.0.line in subst P same s.lined.has in
      let is : l ≡ h.0.line = lines.guess_is (words_of c.before) h.0.line has in
      let front : s.front ≡ c.before ++ 0x0A ∷ [] = s.lined.whole ∙ ap (λ t. t ++ 0x0A ∷ []) same in
      let rest : h.0.bytes ++ h.1.1.0 ≡ c.rest = append_cancel_left (c.before ++ 0x0A ∷ []) (h.0.bytes ++ h.1.1.0) c.rest
      (ap (λ t. t ++ (h.0.bytes ++ h.1.1.0)) (sym front) ∙ sym e ∙ c.parts ∙ sym (append_assoc c.before (0x0A ∷ []) c.rest)) in
      let fits : n ≤ length c.rest = let k = s.kept in let m = ap promised is in let p = ap length rest in
      let q = length-append h.0.bytes h.1.1.0 in omega arith in (
        rw (← same) s.lined.short,
        (
          (let P : Line → Type 0 = λ k. IsLine c.before k in subst P (sym is) has),
          ((λ end. s.not_end (sym is ∙ end)), fits),
        ),
      ))
      (both (length c.before ≤ 127) (IsLine c.before l × (E × (n ≤ length c.rest))) (at_most (length c.before) 127)
      (both (IsLine c.before l) (E × (n ≤ length c.rest)) (has_form (words_of c.before) (line_forms l))
      (both E (n ≤ length c.rest) (not_end l) (at_most n (length c.rest)))))

-- ---- inputs

stops : (input : List ℕ) → Decided (HasStop input)
stops input =
    decide_as (take 4 input ≡ codes "end\n") (HasStop input)
    (λ e. (drop 4 input, sym (take-append-drop 4 input) ∙ ap (λ t. t ++ drop 4 input) e))
    (λ h. ap (take 4) h.1)
    (same_bytes (take 4 input) (codes "end\n"))

Read : {I : Type 0} → (List ℕ → I → Type 0) → (line place : ℕ) → List ℕ → Type 0
Read {I} Spelled line place input = (xs : List I) × ((ending : Ending) × HasItems Spelled line place input xs ending)

read_from : {I : Type 0} (Spelled : List ℕ → I → Type 0) → AreItems Spelled → ((input : List ℕ) → Decided (HasItem Spelled input)) →
    (n line place : ℕ) (input : List ℕ) → length input ≤ n → Read Spelled line place input
unfolding Read
read_from {I} Spelled are begins n line place [] few = ([], (AtEnd, refl))
read_from {I} Spelled are begins zero line place (b ∷ input) few = absurd (omega arith)
read_from {I} Spelled are begins (suc n) line place (b ∷ input) few = elim (stops (b ∷ input)) [
  | inl stop ↦ ([], (AtStop, stop))
  | inr no_stop ↦ elim (both (line ≤ most_items) (HasItem Spelled (b ∷ input)) (at_most line most_items) (begins (b ∷ input))) [
    | inl h ↦
        let text = h.1.1.0 in
        let rest = h.1.1.1.0 in
        let e : b ∷ input ≡ text ++ rest = h.1.1.1.1.0 in
        let some : 0 < length text = positive text (are.some text h.1.0 h.1.1.1.1.1) in
        let shorter : length rest ≤ n = let l = ap length e in let m = length-append text rest in omega arith in
        let next = read_from Spelled are begins n (line + 1) (place + length text) rest shorter in
        (h.1.0 ∷ next.0, (next.1.0, (h.0, (text, (rest, (e, h.1.1.1.1.1, next.1.1))))))
    | inr none ↦ (
      [],
      (
        AtFault line place,
        (record { some = λ e. cc; no_stop = no_stop; no_item = λ within item. none (within, item) }, refl, refl),
      ),
    )
  ]
] where
  positive : (text : List ℕ) → text ≢ [] → 0 < length text
  positive [] some = absurd (some refl)
  positive (x ∷ text) some = omega arith

pub each_script : EachReading IsItem
unfolding Read
each_script input = read_from IsItem items item_begins (length input) 1 0 input (omega arith)

pub each_pulses : EachReading IsPulse
unfolding Read
each_pulses input = read_from IsPulse pulses pulse_begins (length input) 1 0 input (omega arith)
