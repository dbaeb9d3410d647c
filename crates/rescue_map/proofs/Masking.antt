-- Masks of sectors.
use Rattle.std.proofs.Common.{◌≡◌, ◌≢◌, ◌⊎◌, ◌↔◌, inl, inr, ⊎_elim, ℕ, ◌+◌, ◌-◌, ◌*◌, ◌/◌, ◌%◌, ◌^◌, ◌<◌, ◌≤◌, List, length, get_or, set}
use Rattle.std.proofs.Common.{min, max}
use Rattle.std.proofs.Common.{bit_or, sym, ap, ◌∙◌, arith}
use Rattle.std.specs.Int.{bit_at, w32}
use Rattle.std.proofs.lemmas.Bool.{cases_eq, cases_lt}
use Rattle.std.proofs.lemmas.List.{get_or_past, get_or-set_same, get_or-set_other}
use Rattle.std.proofs.lemmas.Nat.Bits.{bit_at-zero, bit_at_ones, bit_at_set_same, bit_at_set_other}
use Rattle.rescue_map.specs.Mask.{IsMarked}

-- a mask of zero words has no sector
pub none_marked : (mask : List ℕ) → ((k : ℕ) → k < length mask → get_or mask k 0 ≡ 0) → (sector : ℕ) → IsMarked mask sector → ⊥
none_marked mask zero sector marked =
    let word : get_or mask (sector / 32) 0 ≡ 0 = ⊎_elim (λ here. zero (sector / 32) here) (λ past. get_or_past mask (sector / 32) 0 past)
    (cases_lt (sector / 32) (length mask)) in
    let bit : bit_at (get_or mask (sector / 32) 0) (sector % 32) ≡ 0 = ap (λ (n : ℕ). bit_at n (sector % 32)) word
    ∙ bit_at-zero (sector % 32) in
    let one : bit_at (get_or mask (sector / 32) 0) (sector % 32) ≡ 1 = marked in
    omega arith

-- ---- one word more

-- no bit of a word was marked, and then one after the other
pub bit_next : (old word from bit b : ℕ) → bit < 32 → from ≤ bit → b < 32 →
    ((bit_at word b ≡ 1) ↔ ((bit_at old b ≡ 1) ⊎ ((from ≤ b) × (b < bit)))) →
    ((bit_at (bit_or word (1 * 2 ^ bit % 2 ^ 32)) b ≡ 1) ↔ ((bit_at old b ≡ 1) ⊎ ((from ≤ b) × (b < bit + 1))))
bit_next old word from bit b within low small far = ⊎_elim is_it is_other (cases_eq b bit) where
  is_it : b ≡ bit → ((bit_at (bit_or word (1 * 2 ^ bit % 2 ^ 32)) b ≡ 1) ↔ ((bit_at old b ≡ 1) ⊎ ((from ≤ b) × (b < bit + 1))))
  is_it e = (
    (λ m. inr (omega arith, omega arith)),
    (λ m. ap (λ (n : ℕ). bit_at (bit_or word (1 * 2 ^ bit % 2 ^ 32)) n) e ∙ bit_at_set_same w32 word bit within),
  )

  is_other : b ≢ bit → ((bit_at (bit_or word (1 * 2 ^ bit % 2 ^ 32)) b ≡ 1) ↔ ((bit_at old b ≡ 1) ⊎ ((from ≤ b) × (b < bit + 1))))
  is_other e =
      let same = bit_at_set_other w32 word bit within b e in (
        (λ m. ⊎_elim (λ o. inl o) (λ r. let x = r.0 in let y = r.1 in inr (omega arith, omega arith)) (far.0 (sym same ∙ m))),
        (λ m. same ∙ far.1 (⊎_elim (λ o. inl o) (λ r. let x = r.0 in let y = r.1 in inr (omega arith, omega (arith, e))) m)),
      )

-- up to the end
pub bits_over : (old word from to bit b : ℕ) → bit ≤ max from to → to ≤ bit →
    ((bit_at word b ≡ 1) ↔ ((bit_at old b ≡ 1) ⊎ ((from ≤ b) × (b < bit)))) →
    ((bit_at word b ≡ 1) ↔ ((bit_at old b ≡ 1) ⊎ ((from ≤ b) × (b < to))))
bits_over old word from to bit b within past far = (
  (λ m. ⊎_elim (λ o. inl o) (λ r. let x = r.0 in let y = r.1 in inr (omega arith, omega arith)) (far.0 m)),
  (λ m. far.1 (⊎_elim (λ o. inl o) (λ r. let x = r.0 in let y = r.1 in inr (omega arith, omega arith)) m)),
)

-- a full word has them all
pub full_word : (word from to b : ℕ) → word ≡ 4294967295 → b < 32 →
    ((bit_at word b ≡ 1) ↔ ((bit_at word b ≡ 1) ⊎ ((from ≤ b) × (b < to))))
full_word word from to b full small =
    ((λ m. inl m), (λ m. ap (λ (n : ℕ). bit_at n b) full ∙ bit_at_ones 32 b small))

-- the bits of a word from one up to another, of those below 32, were marked, too
abbrev pub MarksWord : (old word from to : ℕ) → Type 0
MarksWord old word from to = (bit : ℕ) → bit < 32 → ((bit_at word bit ≡ 1) ↔ ((bit_at old bit ≡ 1) ⊎ ((from ≤ bit) × (bit < to))))

-- a sector was marked before, or it lies in a range and in front of a word
abbrev pub IsMarkedTo : (old : List ℕ) (first end index q : ℕ) → Type 0
IsMarkedTo old first end index q = IsMarked old q ⊎ ((first ≤ q) × (q < end) × (q < 32 * index))

-- the words in front of one are marked, and then that one, too
pub word_next : (old mask : List ℕ) (first end index word : ℕ) → index < length mask →
    MarksWord (get_or mask index 0) word (min (first - 32 * index) 32) (min (end - 32 * index) 32) → (q : ℕ) →
    (IsMarked mask q ↔ IsMarkedTo old first end index q) → (IsMarked (set mask index word) q ↔ IsMarkedTo old first end (index + 1) q)
word_next old mask first end index word here bits q far = ⊎_elim is_it is_other (cases_eq (q / 32) index) where
  is_it : q / 32 ≡ index → (IsMarked (set mask index word) q ↔ IsMarkedTo old first end (index + 1) q)
  is_it e =
      let new : bit_at (get_or (set mask index word) (q / 32) 0) (q % 32) ≡ bit_at word (q % 32) =
      ap (λ (k : ℕ). bit_at (get_or (set mask index word) k 0) (q % 32)) e
      ∙ ap (λ (n : ℕ). bit_at n (q % 32)) (get_or-set_same mask index word 0 here) in
      let before : bit_at (get_or mask (q / 32) 0) (q % 32) ≡ bit_at (get_or mask index 0) (q % 32) =
      ap (λ (k : ℕ). bit_at (get_or mask k 0) (q % 32)) e in
      let bit = bits (q % 32) (omega arith) in (
        (λ m. ⊎_elim
            (λ o. ⊎_elim (λ f. inl f) (λ r. let x = r.2 in absurd (omega arith)) (far.0 (before ∙ o)))
            (λ r. let x = r.0 in let y = r.1 in inr (omega arith, omega arith, omega arith))
            (bit.0 (sym new ∙ m))),
        (λ m. new ∙ bit.1 (⊎_elim
            (λ o. inl (sym before ∙ far.1 (inl o)))
            (λ r. let x = r.0 in let y = r.1 in inr (omega arith, omega arith)) m)),
      )

  is_other : q / 32 ≢ index → (IsMarked (set mask index word) q ↔ IsMarkedTo old first end (index + 1) q)
  is_other e =
      let same : bit_at (get_or (set mask index word) (q / 32) 0) (q % 32) ≡ bit_at (get_or mask (q / 32) 0) (q % 32) =
      ap (λ (n : ℕ). bit_at n (q % 32)) (get_or-set_other mask index (q / 32) word 0 e) in (
        (λ m. ⊎_elim (λ o. inl o) (λ r. let x = r.0 in let y = r.1 in let z = r.2 in inr (x, y, omega arith)) (far.0 (sym same ∙ m))),
        (λ m. same ∙ far.1 (⊎_elim (λ o. inl o)
            (λ r. let x = r.0 in let y = r.1 in let z = r.2 in inr (x, y, omega (arith, e))) m)),
      )

-- the range ends in front of the word, or the mask does
pub words_over : (old mask : List ℕ) (first end index q : ℕ) → end ≤ 32 * index ⊎ q < 32 * index →
    (IsMarked mask q ↔ IsMarkedTo old first end index q) → (IsMarked mask q ↔ (IsMarked old q ⊎ ((first ≤ q) × (q < end))))
words_over old mask first end index q over far = (
  (λ m. ⊎_elim (λ o. inl o) (λ r. inr (r.0, r.1)) (far.0 m)),
  (λ m. far.1 (⊎_elim (λ o. inl o) (λ r. let x = r.0 in let y = r.1 in
      inr (x, y, ⊎_elim (λ (h : end ≤ 32 * index). omega arith) (λ (h : q < 32 * index). h) over)) m)),
)
