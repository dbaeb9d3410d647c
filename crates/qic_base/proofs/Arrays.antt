-- Laws of lists and of rows of bytes that several crates cite.
use Rattle.std.proofs.Common.{◌≡◌, ℕ, zero, suc, refl, List, [], ◌∷◌, set, slice_get, ◌≢◌, ap, get_or, replicate, ◌<◌, length, ◌++◌, take}
use Rattle.std.proofs.Common.{drop, ◌+◌, arith, ◌-◌, ◌≤◌, ◌∙◌}
use Rattle.std.specs.List.{range_with_len}
use Rattle.std.proofs.lemmas.List.Elements.{All-from_get_or, All-replicate}
use Rattle.qic_base.specs.Cartridge.{IsSector, zero_sector}
use Rattle.std.proofs.lemmas.List.{take_at, take-take, drop-take, take-append-drop, length-take, length-drop, length-replicate, append-nil}

-- what is set at one index leaves what stands at another
pub slice_get-set_other : {A : Type 0} (xs : List A) (i j : ℕ) (y : A) → j ≢ i → slice_get (set xs i y) j ≡ slice_get xs j
slice_get-set_other [] i j y apart = refl
slice_get-set_other (x ∷ xs) zero zero y apart = absurd (apart refl)
slice_get-set_other (x ∷ xs) zero (suc j) y apart = refl
slice_get-set_other (x ∷ xs) (suc i) zero y apart = refl
slice_get-set_other (x ∷ xs) (suc i) (suc j) y apart = slice_get-set_other xs i j y (λ e. apart (ap suc e))

-- a range in two parts
pub range_part : (a m n : ℕ) → range_with_len a (m + n) ≡ range_with_len a m ++ range_with_len (a + m) n
range_part a zero n =
    let none : zero + n ≡ n = omega arith in
    let here : a ≡ a + zero = omega arith in
    ap (range_with_len a) none ∙ ap (λ (b : ℕ). range_with_len b n) here
range_part a (suc m) n =
    let first : suc m + n ≡ suc (m + n) = omega arith in
    let here : a + 1 + m ≡ a + suc m = omega arith in
    ap (range_with_len a) first ∙ ap (λ (xs : List ℕ). a ∷ xs) (range_part (a + 1) m n)
    ∙ ap (λ (b : ℕ). a ∷ (range_with_len (a + 1) m ++ range_with_len b n)) here

-- a row of zeros is 0 at each index, and past its end
pub zeros_are_zero : (n j : ℕ) → get_or {A = ℕ} (replicate n 0) j 0 ≡ 0
zeros_are_zero zero j = refl
zeros_are_zero (suc n) zero = refl
zeros_are_zero (suc n) (suc j) = zeros_are_zero n j

-- an array of 1,024 bytes is a sector
pub sector_from : (s : List ℕ) → length s ≡ 1024 → ((i : ℕ) → get_or s i 0 < 256) → IsSector s
sector_from s size fits = record { size = size; each = All-from_get_or (λ b. b < 256) s 0 (λ i h. fits i) }

-- and so are 1,024 zero bytes
pub zero_sector-is_sector : IsSector zero_sector
unfolding zero_sector
zero_sector-is_sector = record { size = length-replicate {A = ℕ} 1024 0; each = All-replicate (λ b. b < 256) 1024 0 (omega arith) }

-- a workspace whose 32 sectors were lent ends with those that were left
pub lent : (left old : List (List ℕ)) → length left ≡ 32 → take 32 (left ++ drop (length left) old) ≡ left
lent left old size = take_at left (drop (length left) old) 32 size

-- a front, and the next n bytes
pub take-more : (text : List ℕ) (at n : ℕ) → take at text ++ take n (drop at text) ≡ take (at + n) text
take-more text at n = rw (← drop-take at n text, ← take-take at (at + n) text (omega arith)) (take-append-drop at (take (at + n) text))

-- a front, and n bytes of what is left
pub front_more : (text : List ℕ) (at n : ℕ) → n ≤ length (take (length text - at) (drop at text)) →
    take at text ++ take n (take (length text - at) (drop at text)) ≡ take (at + n) text
front_more text at n within =
    rw (take-take n (length text - at) (drop at text) (omega (arith, length-take (length text - at) (drop at text)))) (take-more text at n)

-- .. and it ends within the text
pub front_within : (text : List ℕ) (at n : ℕ) → at ≤ length text → n ≤ length (take (length text - at) (drop at text)) →
    at + n ≤ length text
front_within text at n here within = omega (arith, length-take (length text - at) (drop at text))

-- what is left behind a place within is some
pub some_left : (text : List ℕ) (at : ℕ) → at < length text → drop at text ≢ []
some_left text at within none = let long = ap length none in absurd (omega (arith, length-drop at text))

-- what fills a sector has no zero bytes behind it
pub full_sector : (front : List ℕ) → length front ≡ 1024 → front ++ replicate (1024 - length front) 0 ≡ front
full_sector front long =
    let none : 1024 - length front ≡ 0 = omega arith in
    ap (λ (n : ℕ). front ++ replicate n 0) none ∙ append-nil front
