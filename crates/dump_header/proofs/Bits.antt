-- The bits of words, and the masks of segments.
use Rattle.std.proofs.Common.{◌≡◌, ◌≢◌, ◌⊎◌, ◌↔◌, inl, inr, ⊎_elim, ℕ, zero, suc, ◌+◌, ◌-◌, ◌*◌, ◌^◌, ◌<◌, ◌≤◌, ◌==◌, Bool, true}
use Rattle.std.proofs.Common.{false, not, List, length}
use Rattle.std.proofs.Common.{Option, Some, get_or, nat_lt, max, bit_or, if◌then◌else◌, refl, sym, ap, ◌∙◌, arith}
use Rattle.std.specs.Int.{bit_at, w32}
use Rattle.std.proofs.Math.Nat.{pow-succ'}
use Rattle.std.proofs.lemmas.Bool.Decides.{nat_tests}
use Rattle.std.proofs.lemmas.Bool.{or_cases, or_left, or_right, cases_lt, cases_eq, eq-eqb, eqb-true}
use Rattle.std.proofs.lemmas.Nat.Bits.{bit_at-lt, bit_at_not, bit_at_or, bit_at_cat_low, bit_at_cat_high, same_from_bits_below}
use Rattle.cartridge_spec.specs.Shape.{mask_of}
use Rattle.cartridge_spec.specs.Header.{word_in}
use Rattle.dump_spec.specs.Header.{is_bad_by, is_mapped_bad}
use Rattle.dump_spec.specs.Lists.{BadSectors, is_listed_bad}
use Rattle.dump_spec.specs.Masks.{set_where, is_bad}
use Rattle.dump_lists.specs.Masks.{IsBadSet}
use Rattle.dump_header.specs.Marking.{AreMasks, HasBit, MarksToo}

-- ---- the set of the places that pass a test

abbrev bit_of : Bool → ℕ
bit_of t = if t then 1 else 0

set_where_more : (test : ℕ → Bool) (n : ℕ) → set_where test (suc n) ≡ bit_of (test n) * 2 ^ n + set_where test n
unfolding set_where
set_where_more test n = by_test (test n) where
  by_test : (t : Bool) → set_where test n + (if t then 2 ^ n else 0) ≡ bit_of t * 2 ^ n + set_where test n
  by_test true = omega arith
  by_test false = omega arith

set_where-small : (test : ℕ → Bool) (n : ℕ) → set_where test n < 2 ^ n
unfolding set_where
set_where-small test zero = omega arith
set_where-small test (suc n) = by_test (test n) (set_where-small test n) where
  double : 2 ^ suc n ≡ 2 * 2 ^ n
  double = pow-succ' 2 n

  by_test : (t : Bool) → set_where test n < 2 ^ n → set_where test n + (if t then 2 ^ n else 0) < 2 ^ suc n
  by_test true h = let d = double in omega arith
  by_test false h = let d = double in omega arith

bit_of-small : (t : Bool) → bit_at (bit_of t) 0 ≡ bit_of t
bit_of-small true = refl
bit_of-small false = refl

bit_at-set_where : (test : ℕ → Bool) (n i : ℕ) → i < n → bit_at (set_where test n) i ≡ bit_of (test i)
bit_at-set_where test zero i h = absurd (omega arith)
bit_at-set_where test (suc n) i h = ap (λ (m : ℕ). bit_at m i) (set_where_more test n)
    ∙ ⊎_elim (below (bit_at-set_where test n i)) here (cases_lt i n) where
      below : (i < n → bit_at (set_where test n) i ≡ bit_of (test i)) → i < n →
          bit_at (bit_of (test n) * 2 ^ n + set_where test n) i ≡ bit_of (test i)
      below before l = bit_at_cat_low (bit_of (test n)) n (set_where test n) i l ∙ before l

      here : n ≤ i → bit_at (bit_of (test n) * 2 ^ n + set_where test n) i ≡ bit_of (test i)
      here l =
          let same : i ≡ n = omega arith in
          let none : i - n ≡ 0 = omega arith in
          bit_at_cat_high (bit_of (test n)) n (set_where test n) i (set_where-small test n) l
          ∙ ap (λ (m : ℕ). bit_at (bit_of (test n)) m) none ∙ bit_of-small (test n) ∙ ap (λ (m : ℕ). bit_of (test m)) (sym same)

-- ---- masks

-- the mask by a word of bad sectors
mask_is : (word : ℕ) (bad : ℕ → Bool) → word < 2 ^ 32 → ((i : ℕ) → i < 32 → ((bit_at word i ≡ 1) ↔ (bad i ≡ true))) →
    mask_of word ≡ set_where (λ i. not (bad i)) 32
mask_is word bad small is = same_from_bits_below 32 (mask_of word) (set_where (λ i. not (bad i)) 32) (omega arith)
    (set_where-small (λ i. not (bad i)) 32) each where
      by_test : (bit : ℕ) (t : Bool) → bit < 2 → ((bit ≡ 1) ↔ (t ≡ true)) → 1 - bit ≡ bit_of (not t)
      by_test bit true low h = let e : bit ≡ 1 = h.1 refl in omega arith
      by_test bit false low h = ⊎_elim (λ (e : bit ≡ 1). absurd (let f = h.0 e in cc)) (λ (e : bit ≢ 1). omega (arith, e)) (cases_eq bit 1)

      each : (i : ℕ) → i < 32 → bit_at (mask_of word) i ≡ bit_at (set_where (λ i. not (bad i)) 32) i
      each i h = bit_at_not w32 word i small h ∙ by_test (bit_at word i) (bad i) (bit_at-lt word i) (is i h)
          ∙ sym (bit_at-set_where (λ i. not (bad i)) 32 i h)

pub are_masks : (header : Option (List (List ℕ))) (bad : List BadSectors) (words masks : List ℕ) → length masks ≡ length words →
    ((segment : ℕ) → segment < length words → get_or masks segment 0 + get_or words segment 0 ≡ 2 ^ 32 - 1) →
    ((segment index : ℕ) → segment < length words → index < 32 → (HasBit words segment index ↔ (is_bad header bad segment index ≡ true))) →
    AreMasks header bad masks
are_masks header bad words masks long complement is segment within =
    let here : segment < length words = omega arith in
    let both = complement segment here in
    let mask : get_or masks segment 0 ≡ mask_of (get_or words segment 0) = omega arith in
    mask ∙ mask_is (get_or words segment 0) (is_bad header bad segment) (omega arith) (λ index low. is segment index here low)

-- what the list names and what the header says
pub is_bad_too : (area : List (List ℕ)) (bad : List BadSectors) (old new : List ℕ) → length new ≡ length old → IsBadSet bad old →
    MarksToo old new (is_bad_by area) → (segment index : ℕ) → segment < length new → index < 32 →
    (HasBit new segment index ↔ (is_bad (Some area) bad segment index ≡ true))
is_bad_too area bad old new long is marks segment index within low =
    let here : segment < length old = omega arith in
    let listed = is segment index here low in
    let marked = marks segment index here low in (
      (λ h. ⊎_elim (λ o. or_right (is_bad_by area segment index) (is_listed_bad bad segment index) (listed.0 o))
          (λ t. or_left (is_bad_by area segment index) (is_listed_bad bad segment index) t) (marked.0 h)),
      (λ h. marked.1 (⊎_elim (λ t. inr t) (λ l. inl (listed.1 l))
          (or_cases (is_bad_by area segment index) (is_listed_bad bad segment index) h))),
    )

-- ---- the words of a map

-- a bit of a word with the bits of another
pub or_bit : (a b i : ℕ) → ((bit_at (bit_or a b) i ≡ 1) ↔ ((bit_at a i ≡ 1) ⊎ (bit_at b i ≡ 1)))
or_bit a b i =
    let both : bit_at (bit_or a b) i ≡ max (bit_at a i) (bit_at b i) = bit_at_or a b i in
    let low : bit_at a i < 2 = bit_at-lt a i in
    let high : bit_at b i < 2 = bit_at-lt b i in (
      (λ h. ⊎_elim (λ e. inl e) (λ n. inr (omega (arith, n))) (cases_eq (bit_at a i) 1)),
      (λ h. ⊎_elim (λ e. omega arith) (λ e. omega arith) h),
    )

pub mapped : (area : List (List ℕ)) (old new : List ℕ) (end : ℕ) → end ≤ length old → (length old ≤ end ⊎ 6912 ≤ end) → end ≤ 6912 →
    ((s : ℕ) → s < end → get_or new s 0 ≡ bit_or (get_or old s 0) (word_in area s)) →
    ((s : ℕ) → end ≤ s → get_or new s 0 ≡ get_or old s 0) → MarksToo old new (is_mapped_bad area)
mapped area old new end within reaches few done kept segment index here low = ⊎_elim below past (cases_lt segment end) where
  bit : ((bit_at (word_in area segment) index == 1) ≡ true) ↔ (bit_at (word_in area segment) index ≡ 1)
  bit = ((λ h. eqb-true (bit_at (word_in area segment) index) 1 h), (λ h. eq-eqb (bit_at (word_in area segment) index) 1 h))

  below : segment < end → (HasBit new segment index ↔ (HasBit old segment index ⊎ (is_mapped_bad area segment index ≡ true)))
  below h =
      let few : nat_lt segment 6912 ≡ true = grind (arith, nat_tests) in
      let or = or_bit (get_or old segment 0) (word_in area segment) index in
      rw (done segment h, few) (
        (λ m. ⊎_elim (λ o. inl o) (λ b. inr (bit.1 b)) (or.0 m)),
        (λ m. or.1 (⊎_elim (λ o. inl o) (λ b. inr (bit.0 b)) m)),
      )

  past : end ≤ segment → (HasBit new segment index ↔ (HasBit old segment index ⊎ (is_mapped_bad area segment index ≡ true)))
  past h =
      let many : nat_lt segment 6912 ≡ false = ⊎_elim (λ l. absurd (omega arith)) (λ m. grind (arith, nat_tests)) reaches in
      rw (kept segment h, many) ((λ m. inl m), (λ m. ⊎_elim (λ o. o) (λ f. absurd (cc)) m))
