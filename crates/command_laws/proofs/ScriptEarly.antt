-- Whether an append's line begins some bytes, with fewer behind it than it promises.
use Rattle.std.proofs.Common.{ℕ, List, ◌≡◌, ◌+◌, [], ◌∷◌, ◌++◌, sym, ap, ◌∙◌, append_assoc, subst, ◌<◌, ◌≤◌, arith, length, refl, inr, inl}
use Rattle.std.proofs.lemmas.List.{append_cancel_left}
use Rattle.command_laws.proofs.TextDeciding.{at_most, both, has_form}
use Rattle.cartridge_laws.proofs.Search.{Decided, decide_as}
use Rattle.command_laws.proofs.TextLined.{one_before}
use Rattle.command_laws.proofs.TextReadings.{Cut, cut, no_line_without}
use Rattle.command_laws.specs.Inputs.{IsLine, words_of}
use Rattle.command_spec.specs.Input.{EndsEarly, line_forms, promised}
use Rattle.command_spec.specs.declared.line.Line.{Line}
use Rattle.command_spec.specs.declared.line.Line.TheVariants as line
use Rattle.command_laws.proofs.TextLines as lines

abbrev line_of : (rest : List ℕ) → EndsEarly rest → Line
line_of rest early = line.Append early.name early.promised early.date

-- that line is the one before the first newline, and its bytes are those behind it
record AtCut (rest : List ℕ) (c : Cut rest) (early : EndsEarly rest) : Type 0 where
  before : early.lined.before ≡ c.before
  behind : early.bytes ≡ c.rest

at_cut : (rest : List ℕ) (c : Cut rest) (early : EndsEarly rest) → AtCut rest c early
at_cut rest c early =
    let front : early.lined.before ++ 0x0A ∷ early.bytes ≡ c.before ++ 0x0A ∷ c.rest =
    sym (append_assoc early.lined.before (0x0A ∷ []) early.bytes) ∙ ap (λ (t : List ℕ). t ++ early.bytes) (sym early.lined.whole)
    ∙ sym early.parts ∙ c.parts in
    let before : early.lined.before ≡ c.before = one_before early.lined.before c.before early.bytes c.rest early.lined.one_line c.one_line
    front in
    record {
      before = before;
      behind = append_cancel_left (c.before ++ 0x0A ∷ []) early.bytes c.rest
          (append_assoc c.before (0x0A ∷ []) early.bytes ∙ ap (λ (t : List ℕ). t ++ 0x0A ∷ early.bytes) (sym before) ∙ front
          ∙ sym (append_assoc c.before (0x0A ∷ []) c.rest));
    }

has_at : (rest : List ℕ) (c : Cut rest) (early : EndsEarly rest) → IsLine c.before (line_of rest early)
has_at rest c early = subst (λ (t : List ℕ). IsLine t (line_of rest early)) (at_cut rest c early).before early.lined.has

below : (m n : ℕ) → Decided (m < n)
below m n = decide_as (m + 1 ≤ n) (m < n) (λ h. omega arith) (λ h. omega arith) (at_most (m + 1) n)

-- the only line that the bytes before the first newline can be
by_line : (rest : List ℕ) (c : Cut rest) (l : Line) → lines.guess (words_of c.before) ≡ l → Decided (EndsEarly rest)
by_line rest c (line.Append name count date) is =
    let asked : Line = line.Append name count date in
    decide_as ((length c.before ≤ 127) × (IsLine c.before asked × (length c.rest < count))) (EndsEarly rest)
    (λ h. record {
      name = name;
      promised = count;
      date = date;
      text = c.before ++ 0x0A ∷ [];
      bytes = c.rest;
      lined = record { before = c.before; short = h.0; one_line = c.one_line; whole = refl; has = h.1.0 };
      parts = c.parts ∙ sym (append_assoc c.before (0x0A ∷ []) c.rest);
      short = h.1.1;
    })
    (λ early.
    let at = at_cut rest c early in
    let same : asked ≡ line_of rest early = sym is ∙ lines.guess_is (words_of c.before) (line_of rest early) (has_at rest c early) in (
      subst (λ (t : List ℕ). length t ≤ 127) at.before early.lined.short,
      (
        subst (λ (l : Line). IsLine c.before l) (sym same) (has_at rest c early),
        (let n = ap promised same in let r = ap length at.behind in let s = early.short in omega arith),
      ),
    ))
    (both (length c.before ≤ 127) (IsLine c.before asked × (length c.rest < count)) (at_most (length c.before) 127)
    (both (IsLine c.before asked) (length c.rest < count) (has_form (words_of c.before) (line_forms asked)) (below (length c.rest) count)))
by_line rest c line.List is = inr (λ early. let e : line.List ≡ line_of rest early = sym is ∙ lines.guess_is (words_of c.before)
    (line_of rest early) (has_at rest c early) in cc)
by_line rest c (line.Restore number) is =
    inr (λ early. let e : line.Restore number ≡ line_of rest early = sym is ∙ lines.guess_is (words_of c.before) (line_of rest early)
    (has_at rest c early) in cc)
by_line rest c line.Scrub is = inr (λ early. let e : line.Scrub ≡ line_of rest early = sym is ∙ lines.guess_is (words_of c.before)
    (line_of rest early) (has_at rest c early) in cc)
by_line rest c (line.Lose segment sector) is =
    inr (λ early. let e : line.Lose segment sector ≡ line_of rest early = sym is ∙ lines.guess_is (words_of c.before) (line_of rest early)
    (has_at rest c early) in cc)
by_line rest c line.End is = inr (λ early. let e : line.End ≡ line_of rest early = sym is ∙ lines.guess_is (words_of c.before)
    (line_of rest early) (has_at rest c early) in cc)

pub early_or_not : (rest : List ℕ) → Decided (EndsEarly rest)
early_or_not rest = elim (cut rest) [
  | inl c ↦ by_line rest c (lines.guess (words_of c.before)) refl
  | inr none ↦ inr (λ early. no_line_without (λ before. IsLine before (line_of rest early)) rest early.text early.bytes none early.lined
      early.parts)
]
