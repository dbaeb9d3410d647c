-- Search among finitely many: what is decided of each number below a bound is decided of some, and so of columns that
-- are filled in where they have no byte.
use Rattle.std.proofs.Common.{◌⊎◌, inl, inr, ℕ, ◌<◌, zero, suc, subst, arith, ◌≡◌, List, [], ◌∷◌, Option, Some, None, refl, ap, length, ◌∙◌}
use Rattle.std.proofs.Common.{slice_get, ◌≤◌, All}
use Rattle.std.proofs.lemmas.Bool.{cases_lt, cases_eq}
use Rattle.std.proofs.lemmas.List.Elements.{All-nil, All-cons, All-head, All-tail}
use Rattle.cartridge_spec.specs.Code.{IsCodeword, value_at}

-- it holds, or it does not
abbrev pub Decided : Type 0 → Type 0
Decided P = P ⊎ (P → ⊥)

pub record BothOf (P Q : Type 0) : Type 0 where
  pub first : P
  pub second : Q

decide_both : (P Q : Type 0) → Decided P → Decided Q → Decided (BothOf P Q)
decide_both P Q (inl p) (inl q) = inl (record { first = p; second = q })
decide_both P Q (inl p) (inr not_so) = inr (λ both. not_so both.second)
decide_both P Q (inr not_so) d = inr (λ both. not_so both.first)

pub decide_as : (P Q : Type 0) → (P → Q) → (Q → P) → Decided P → Decided Q
decide_as P Q to from (inl p) = inl (to p)
decide_as P Q to from (inr not_so) = inr (λ q. not_so (from q))

-- ---- numbers below a bound

pub record SomeBelow (n : ℕ) (P : ℕ → Type 0) : Type 0 where
  pub number : ℕ
  pub below : number < n
  pub holds : P number

decide_some_below : (n : ℕ) (P : ℕ → Type 0) → ((i : ℕ) → Decided (P i)) → Decided (SomeBelow n P)
decide_some_below zero P d = inr (λ some. let h : some.number < 0 = some.below in omega arith)
decide_some_below (suc n) P d =
    elim (d n) [
      | inl here ↦ inl (record { number = n; below = omega arith; holds = here })
      | inr not_here ↦ elim (decide_some_below n P d) [
        | inl some ↦ inl (record { number = some.number; below = omega (arith, some.below); holds = some.holds })
        | inr none ↦ inr (λ some. elim (cases_lt some.number n) [
          | inl lower ↦ none (record { number = some.number; below = lower; holds = some.holds })
          | inr last ↦ not_here (subst P (omega (arith, some.below)) some.holds)
        ])
      ]
    ]

-- it holds of each number below a bound, or of one it does not
pub decide_each_below : (n : ℕ) (P : ℕ → Type 0) → ((i : ℕ) → Decided (P i)) →
    ((i : ℕ) → i < n → P i) ⊎ SomeBelow n (λ i. P i → ⊥)
decide_each_below zero P d = inl (λ i h. absurd (omega arith))
decide_each_below (suc n) P d =
    elim (d n) [
      | inl here ↦ elim (decide_each_below n P d) [
        | inl each ↦ inl (λ i h. elim (cases_lt i n) [
          | inl lower ↦ each i lower
          | inr last ↦ let same : n ≡ i = omega arith in subst P same here
        ])
        | inr some ↦ inr (record { number = some.number; below = omega (arith, some.below); holds = some.holds })
      ]
      | inr not_here ↦ inr (record { number = n; below = omega arith; holds = not_here })
    ]

-- ---- columns with bytes that are not known

-- the column has each byte that is known, and some byte where none is
unfoldable pub FitsKnown : List (Option ℕ) → List ℕ → Type 0
FitsKnown [] [] = Unit {0}
FitsKnown [] (x ∷ xs) = ⊥
FitsKnown (o ∷ os) [] = ⊥
FitsKnown (None ∷ os) (x ∷ xs) = BothOf (x < 256) (FitsKnown os xs)
FitsKnown (Some b ∷ os) (x ∷ xs) = BothOf (x ≡ b) (FitsKnown os xs)

pub length-fits : (os : List (Option ℕ)) (xs : List ℕ) → FitsKnown os xs → length xs ≡ length os
unfolding FitsKnown
length-fits [] [] fits = refl
length-fits [] (x ∷ xs) fits = absurd fits
length-fits (None ∷ os) [] fits = absurd fits
length-fits (Some b ∷ os) [] fits = absurd fits
length-fits (None ∷ os) (x ∷ xs) fits = ap suc (length-fits os xs fits.second)
length-fits (Some b ∷ os) (x ∷ xs) fits = ap suc (length-fits os xs fits.second)

-- a byte that is known stands in its place
pub known_byte : (os : List (Option ℕ)) (xs : List ℕ) (i b : ℕ) → FitsKnown os xs → slice_get os i ≡ Some (Some b) →
    slice_get xs i ≡ Some b
unfolding FitsKnown
known_byte [] xs i b fits known = absurd (cc)
known_byte (None ∷ os) [] i b fits known = absurd fits
known_byte (Some c ∷ os) [] i b fits known = absurd fits
known_byte (None ∷ os) (x ∷ xs) zero b fits known = absurd (cc)
known_byte (Some c ∷ os) (x ∷ xs) zero b fits known =
    let here : x ≡ c = fits.first in
    let same : c ≡ b = cc in
    ap Some (here ∙ same)
known_byte (None ∷ os) (x ∷ xs) (suc i) b fits known = known_byte os xs i b fits.second known
known_byte (Some c ∷ os) (x ∷ xs) (suc i) b fits known = known_byte os xs i b fits.second known

-- some column that fits, of which a fact holds
pub record Filled (os : List (Option ℕ)) (P : List ℕ → Type 0) : Type 0 where
  pub bytes : List ℕ
  pub fits : FitsKnown os bytes
  pub holds : P bytes

-- the same with the first byte known
filled_known : (b : ℕ) (os : List (Option ℕ)) (P : List ℕ → Type 0) →
    Filled os (λ xs. P (b ∷ xs)) → Filled (Some b ∷ os) P
unfolding FitsKnown
filled_known b os P f = record {
  bytes = b ∷ f.bytes;
  fits = record { first = refl; second = f.fits };
  holds = f.holds;
}

known_filled : (b : ℕ) (os : List (Option ℕ)) (P : List ℕ → Type 0) →
    (xs : List ℕ) → FitsKnown (Some b ∷ os) xs → P xs → Filled os (λ ys. P (b ∷ ys))
unfolding FitsKnown
known_filled b os P [] fits holds = absurd fits
known_filled b os P (x ∷ xs) fits holds = record {
  bytes = xs;
  fits = fits.second;
  holds = subst (λ (y : ℕ). P (y ∷ xs)) fits.first holds;
}

-- and with it unknown
filled_unknown : (os : List (Option ℕ)) (P : List ℕ → Type 0) →
    SomeBelow 256 (λ b. Filled os (λ xs. P (b ∷ xs))) → Filled (None ∷ os) P
unfolding FitsKnown
filled_unknown os P some = record {
  bytes = some.number ∷ some.holds.bytes;
  fits = record { first = some.below; second = some.holds.fits };
  holds = some.holds.holds;
}

unknown_filled : (os : List (Option ℕ)) (P : List ℕ → Type 0) →
    (xs : List ℕ) → FitsKnown (None ∷ os) xs → P xs → SomeBelow 256 (λ b. Filled os (λ ys. P (b ∷ ys)))
unfolding FitsKnown
unknown_filled os P [] fits holds = absurd fits
unknown_filled os P (x ∷ xs) fits holds = record {
  number = x;
  below = fits.first;
  holds = record { bytes = xs; fits = fits.second; holds = holds };
}

none_filled : (P : List ℕ → Type 0) → Decided (P []) → Decided (Filled [] P)
unfolding FitsKnown
none_filled P (inl p) = inl (record { bytes = []; fits = tt; holds = p })
none_filled P (inr not_so) = inr (λ f. not_so (only f.bytes f.fits f.holds))
  where
    only : (xs : List ℕ) → FitsKnown [] xs → P xs → P []
    only [] fits holds = holds
    only (x ∷ xs) fits holds = absurd fits

-- whether some column fits with a fact that is decided of each
pub decide_filled : (os : List (Option ℕ)) (P : List ℕ → Type 0) → ((xs : List ℕ) → Decided (P xs)) → Decided (Filled os P)
decide_filled [] P d = none_filled P (d [])
decide_filled (None ∷ os) P d =
    decide_as (SomeBelow 256 (λ b. Filled os (λ xs. P (b ∷ xs)))) (Filled (None ∷ os) P)
    (filled_unknown os P) (λ f. unknown_filled os P f.bytes f.fits f.holds)
    (decide_some_below 256 (λ b. Filled os (λ xs. P (b ∷ xs)))
    (λ b. decide_filled os (λ xs. P (b ∷ xs)) (λ xs. d (b ∷ xs))))
decide_filled (Some b ∷ os) P d =
    decide_as (Filled os (λ xs. P (b ∷ xs))) (Filled (Some b ∷ os) P)
    (filled_known b os P) (λ f. known_filled b os P f.bytes f.fits f.holds)
    (decide_filled os (λ xs. P (b ∷ xs)) (λ xs. d (b ∷ xs)))

-- ---- codewords

decide_lt : (m n : ℕ) → Decided (m < n)
decide_lt m n = elim (cases_lt m n) [ inl h ↦ inl h | inr h ↦ inr (λ l. omega arith) ]

decide_le : (m n : ℕ) → Decided (m ≤ n)
decide_le m n = elim (cases_lt n m) [ inl h ↦ inr (λ l. omega arith) | inr h ↦ inl h ]

decide_bytes : (xs : List ℕ) → Decided (All (λ b. b < 256) xs)
decide_bytes [] = inl (All-nil (λ b. b < 256))
decide_bytes (x ∷ xs) =
    elim (decide_lt x 256) [
      | inl here ↦ elim (decide_bytes xs) [
        | inl rest ↦ inl (All-cons (λ b. b < 256) x xs here rest)
        | inr not_so ↦ inr (λ all. not_so (All-tail (λ b. b < 256) x xs all))
      ]
      | inr not_so ↦ inr (λ all. not_so (All-head (λ b. b < 256) x xs all))
    ]

-- whether a column is a codeword
pub decide_codeword : (cs : List ℕ) → Decided (IsCodeword cs)
decide_codeword cs =
    decide_as
    (BothOf (4 ≤ length cs) (BothOf (length cs ≤ 32) (BothOf (All (λ c. c < 256) cs)
    (BothOf (value_at 0xC3 cs ≡ 0) (BothOf (value_at 0x01 cs ≡ 0) (value_at 0x02 cs ≡ 0))))))
    (IsCodeword cs)
    (λ p. record {
      least = p.first;
      most = p.second.first;
      bytes = p.second.second.first;
      at_inverse = p.second.second.second.first;
      at_one = p.second.second.second.second.first;
      at_generator = p.second.second.second.second.second;
    })
    (λ w. record {
      first = w.least;
      second = record {
        first = w.most;
        second = record {
          first = w.bytes;
          second = record { first = w.at_inverse; second = record { first = w.at_one; second = w.at_generator } };
        };
      };
    })
    (decide_both (4 ≤ length cs) _ (decide_le 4 (length cs))
    (decide_both (length cs ≤ 32) _ (decide_le (length cs) 32)
    (decide_both (All (λ c. c < 256) cs) _ (decide_bytes cs)
    (decide_both (value_at 0xC3 cs ≡ 0) _ (cases_eq (value_at 0xC3 cs) 0)
    (decide_both (value_at 0x01 cs ≡ 0) (value_at 0x02 cs ≡ 0)
    (cases_eq (value_at 0x01 cs) 0) (cases_eq (value_at 0x02 cs) 0))))))
