-- The segments of a dump, one after the other, that pass a test.
use Rattle.std.proofs.Common.{◌≡◌, ℕ, suc, ◌+◌, ◌&&◌, Bool, true, false, cond, List, [], ◌∷◌, ◌++◌, refl, sym, ap, ◌∙◌, append-nil}
use Rattle.std.proofs.Common.{arith}
use Rattle.std.specs.Prelude.{filter}
use Rattle.std.specs.List.{range_with_len}
use Rattle.std.proofs.lemmas.List.Elements.{filter-append}
use Rattle.command_laws.proofs.ScrubNamed.{range_more}
use Rattle.dump_answers.specs.Pieces.{below}
use Rattle.qic_base.proofs.Arrays.{range_part}

-- ---- those below a number

pub below_none : (test : ℕ → Bool) → below test 0 ≡ []
unfolding below
below_none test = refl

pub below_next : (test : ℕ → Bool) (n : ℕ) → below test (n + 1) ≡ below test n ++ cond (test n) (n ∷ []) []
unfolding below
below_next test n =
    let next : n + 1 ≡ suc n = omega arith in
    let last : 0 + n ≡ n = omega arith in
    ap (λ (k : ℕ). filter test (range_with_len 0 k)) next
    ∙ ap (filter test) (range_more 0 n ∙ ap (λ (k : ℕ). range_with_len 0 n ++ (k ∷ [])) last)
    ∙ filter-append test (range_with_len 0 n) (n ∷ [])

pub below_yes : (test : ℕ → Bool) (n : ℕ) → test n ≡ true → below test (n + 1) ≡ below test n ++ (n ∷ [])
below_yes test n passes = below_next test n ∙ ap (λ (b : Bool). below test n ++ cond b (n ∷ []) []) passes

pub below_no : (test : ℕ → Bool) (n : ℕ) → test n ≡ false → below test (n + 1) ≡ below test n
below_no test n fails =
    below_next test n ∙ ap (λ (b : Bool). below test n ++ cond b (n ∷ []) []) fails ∙ append-nil (below test n)

pub below_all : (test : ℕ → Bool) (n : ℕ) → n ≡ 65536 → below test n ≡ filter test (range_with_len 0 65536)
unfolding below
below_all test n all = ap (λ (k : ℕ). filter test (range_with_len 0 k)) all

-- those below one come in front of the others
pub below_front : (test : ℕ → Bool) (n k : ℕ) → n + k ≡ 65536 →
    (rest : List ℕ) × (filter test (range_with_len 0 65536) ≡ below test n ++ rest)
unfolding below
below_front test n k all = (
  filter test (range_with_len (0 + n) k),
  ap (λ (m : ℕ). filter test (range_with_len 0 m)) (sym all) ∙ ap (filter test) (range_part 0 n k)
      ∙ filter-append test (range_with_len 0 n) (range_with_len (0 + n) k),
)

-- a test behind another
both_next : (p q : ℕ → Bool) (k : ℕ) (xs : List ℕ) (a b : Bool) → p k ≡ a → q k ≡ b →
    filter q (filter p xs) ≡ filter (λ j. p j && q j) xs → filter q (filter p (k ∷ xs)) ≡ filter (λ j. p j && q j) (k ∷ xs)
both_next p q k xs true true e f rest = rw (e, f) (ap (λ (ys : List ℕ). k ∷ ys) rest)
both_next p q k xs true false e f rest = rw (e, f) rest
both_next p q k xs false b e f rest = rw e rest

pub both_filters : (p q : ℕ → Bool) (xs : List ℕ) → filter q (filter p xs) ≡ filter (λ j. p j && q j) xs
both_filters p q [] = refl
both_filters p q (k ∷ xs) = both_next p q k xs (p k) (q k) refl refl (both_filters p q xs)
