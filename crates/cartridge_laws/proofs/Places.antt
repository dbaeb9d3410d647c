-- The places of a set, ascending, and those of the usable sectors.
use Rattle.std.proofs.Common.{◌≡◌, ℕ, refl, [], ◌+◌, List, ◌++◌, zero, suc, ◌-◌, ◌/◌, ◌%◌, ◌^◌, sym, ◌∙◌, ap, arith, inl, inr, ◌∷◌}
use Rattle.std.proofs.Common.{add-zero, append_assoc, ◌≤◌, subst, ◌<◌, length, get_or, add-one, map}
use Rattle.std.proofs.lemmas.Bool.{cases_eq, cases_lt}
use Rattle.std.proofs.lemmas.List.{append-nil, get_or_at, length_push, length-append, map-id, get_or_append_left, get_or_push}
use Rattle.std.proofs.lemmas.Nat.Bits.{bit_at_above, bit_at_ones}
use Rattle.std.specs.List.{range_with_len}
use Rattle.std.proofs.lemmas.List.FromFn.{map-range_with_len_more}
use Rattle.std.proofs.lemmas.Nat.{pow_pos}
use Rattle.cartridge_spec.specs.Shape.{usable_count, usable_places}
use Rattle.qic_base.proofs.LostSetLaws.{lost_places-lost, lost_places-kept, lost_places-above, count_more, count_same}
use Rattle.qic_base.specs.Cartridge.{lost_places}
use Rattle.qic_base.specs.CartridgeTerms.{IsLost}

-- ---- the places of a set

pub none_below : (mask : ℕ) → lost_places mask 0 ≡ []
unfolding lost_places
none_below mask = refl

-- the places below a number come first among those below a larger one
pub record Front {A : Type 0} (front whole : List A) : Type 0 where
  pub rest : List A
  pub parts : whole ≡ front ++ rest

pub front_of_places : (mask n more : ℕ) → Front (lost_places mask n) (lost_places mask (n + more))
front_of_places mask n zero = record {
  rest = [];
  parts = ap (lost_places mask) (add-zero n) ∙ sym (append-nil (lost_places mask n));
}
front_of_places mask n (suc more) =
    let front : Front (lost_places mask n) (lost_places mask (n + more)) = front_of_places mask n more in
    let next : lost_places mask (n + suc more) ≡ lost_places mask (n + more + 1) = ap (lost_places mask) (omega arith) in
    elim (cases_eq ((mask / 2 ^ (n + more)) % 2) 1) [
      | inl lost ↦ record {
        rest = front.rest ++ (n + more) ∷ [];
        parts = next ∙ lost_places-lost mask (n + more) lost
            ∙ ap (λ (l : List ℕ). l ++ (n + more) ∷ []) front.parts
            ∙ append_assoc (lost_places mask n) front.rest ((n + more) ∷ []);
      }
      | inr kept ↦ record {
        rest = front.rest;
        parts = next ∙ lost_places-kept mask (n + more) kept ∙ front.parts;
      }
    ]

pub front_of_all : (mask n : ℕ) → n ≤ 32 → Front (lost_places mask n) (lost_places mask 32)
front_of_all mask n h =
    let whole : n + (32 - n) ≡ 32 = omega arith in
    subst (λ (k : ℕ). Front (lost_places mask n) (lost_places mask k)) whole (front_of_places mask n (32 - n))

-- what stands at the place of a sector that is in the set
pub place_of_sector : (mask i : ℕ) → IsLost mask i → i < 32 → get_or (lost_places mask 32) (length (lost_places mask i)) 0 ≡ i
place_of_sector mask i lost h =
    let front : Front (lost_places mask (i + 1)) (lost_places mask 32) = front_of_all mask (i + 1) (omega arith) in
    let parts : lost_places mask 32 ≡ lost_places mask i ++ (i ∷ front.rest) =
    front.parts ∙ ap (λ (l : List ℕ). l ++ front.rest) (lost_places-lost mask i lost)
    ∙ append_assoc (lost_places mask i) (i ∷ []) front.rest in
    ap (λ (l : List ℕ). get_or l (length (lost_places mask i)) 0) parts
    ∙ get_or_at (lost_places mask i) i front.rest 0 (length (lost_places mask i)) refl

pub count_front : (mask n : ℕ) → n ≤ 32 → length (lost_places mask n) ≤ usable_count mask
count_front mask n h =
    let front : Front (lost_places mask n) (lost_places mask 32) = front_of_all mask n h in
    let long : usable_count mask ≡ length (lost_places mask n) + length front.rest =
    ap (λ (l : List ℕ). length l) front.parts ∙ length-append (lost_places mask n) front.rest in
    omega arith

pub count_below : (mask n : ℕ) → length (lost_places mask n) ≤ n
count_below mask zero = let none : length (lost_places mask 0) ≡ 0 = ap (λ (l : List ℕ). length l) (none_below mask) in omega arith
count_below mask (suc n) =
    let rest : length (lost_places mask n) ≤ n = count_below mask n in
    let next : length (lost_places mask (suc n)) ≡ length (lost_places mask (n + 1)) =
    ap (λ (k : ℕ). length (lost_places mask k)) (sym (add-one n)) in
    elim (cases_eq ((mask / 2 ^ n) % 2) 1) [
      | inl lost ↦ omega (arith, count_more mask n lost)
      | inr kept ↦ omega (arith, count_same mask n kept)
    ]

-- the places of a set below 2^n are below n
pub places_within : (mask n : ℕ) → n ≤ 32 → mask < 2 ^ n → lost_places mask 32 ≡ lost_places mask n
places_within mask n h low =
    let whole : n + (32 - n) ≡ 32 = omega arith in
    ap (lost_places mask) (sym whole)
    ∙ lost_places-above mask n (32 - n) (λ place is. below place is)
  where
    below : (place : ℕ) → IsLost mask place → place < n
    below place is = elim (cases_eq (n - place) 0) [
      | inl past ↦ let none : mask / 2 ^ place % 2 ≡ 0 = bit_at_above mask n place low (omega arith) in absurd (omega arith)
      | inr lower ↦ omega arith
    ]

-- ---- the sets of the first places

places_of_ones : (n k : ℕ) → k ≤ n → lost_places (2 ^ n - 1) k ≡ map (λ (i : ℕ). i) (range_with_len 0 k)
places_of_ones n zero h = none_below (2 ^ n - 1)
places_of_ones n (suc k) h =
    ap (lost_places (2 ^ n - 1)) (sym (add-one k))
    ∙ lost_places-lost (2 ^ n - 1) k (bit_at_ones n k (omega arith))
    ∙ ap (λ (l : List ℕ). l ++ k ∷ []) (places_of_ones n k (omega arith))
    ∙ sym (map-range_with_len_more (λ (i : ℕ). i) 0 k k (omega arith))
    ∙ ap (λ (m : ℕ). map (λ (i : ℕ). i) (range_with_len 0 m)) (add-one k)

-- the set of the first places
pub all_places : (n : ℕ) → n ≤ 32 → lost_places (2 ^ n - 1) 32 ≡ range_with_len 0 n
all_places n h =
    let positive : 0 < 2 ^ n = pow_pos n in
    places_within (2 ^ n - 1) n h (omega arith)
    ∙ places_of_ones n n (omega arith)
    ∙ map-id (range_with_len 0 n)

-- ---- places apart

abbrev pub AreSmall : List ℕ → Type 0
AreSmall places = (k : ℕ) → k < length places → get_or places k 0 < 32

abbrev pub AreApart : List ℕ → Type 0
AreApart places = (j k : ℕ) → j < k → k < length places → get_or places j 0 ≡ get_or places k 0 → ⊥

small_places : (mask n k : ℕ) → k < length (lost_places mask n) → get_or (lost_places mask n) k 0 < n
small_places mask zero k h = let none : length (lost_places mask 0) ≡ 0 = ap (λ (l : List ℕ). length l) (none_below mask) in
    absurd (omega arith)
small_places mask (suc n) k h =
    let next : lost_places mask (n + 1) ≡ lost_places mask (suc n) = ap (lost_places mask) (add-one n) in
    elim (cases_eq ((mask / 2 ^ n) % 2) 1) [
      | inl lost ↦
          let parts : lost_places mask (suc n) ≡ lost_places mask n ++ n ∷ [] = sym next ∙ lost_places-lost mask n lost in
          let long : length (lost_places mask (suc n)) ≡ length (lost_places mask n) + 1 =
          ap (λ (l : List ℕ). length l) parts ∙ length_push (lost_places mask n) n in
          let at : get_or (lost_places mask (suc n)) k 0 ≡ get_or (lost_places mask n ++ n ∷ []) k 0 =
          ap (λ (l : List ℕ). get_or l k 0) parts in
          elim (cases_lt k (length (lost_places mask n))) [
            | inl lower ↦
                let same = get_or_append_left (lost_places mask n) (n ∷ []) 0 k lower in
                let small = small_places mask n k lower in
                omega arith
            | inr past ↦
                let last = get_or_push (lost_places mask n) n 0 k (omega arith) in
                omega arith
          ]
      | inr kept ↦
          let parts : lost_places mask (suc n) ≡ lost_places mask n = sym next ∙ lost_places-kept mask n kept in
          let long : length (lost_places mask (suc n)) ≡ length (lost_places mask n) = ap (λ (l : List ℕ). length l) parts in
          let at : get_or (lost_places mask (suc n)) k 0 ≡ get_or (lost_places mask n) k 0 = ap (λ (l : List ℕ). get_or l k 0) parts in
          let small = small_places mask n k (omega arith) in
          omega arith
    ]

ascending : (mask n j k : ℕ) → j < k → k < length (lost_places mask n) →
    get_or (lost_places mask n) j 0 < get_or (lost_places mask n) k 0
ascending mask zero j k l h = let none : length (lost_places mask 0) ≡ 0 = ap (λ (l : List ℕ). length l) (none_below mask) in
    absurd (omega arith)
ascending mask (suc n) j k l h =
    let next : lost_places mask (n + 1) ≡ lost_places mask (suc n) = ap (lost_places mask) (add-one n) in
    elim (cases_eq ((mask / 2 ^ n) % 2) 1) [
      | inl lost ↦
          let parts : lost_places mask (suc n) ≡ lost_places mask n ++ n ∷ [] = sym next ∙ lost_places-lost mask n lost in
          let long : length (lost_places mask (suc n)) ≡ length (lost_places mask n) + 1 =
          ap (λ (l : List ℕ). length l) parts ∙ length_push (lost_places mask n) n in
          let at_j : get_or (lost_places mask (suc n)) j 0 ≡ get_or (lost_places mask n ++ n ∷ []) j 0 =
          ap (λ (l : List ℕ). get_or l j 0) parts in
          let at_k : get_or (lost_places mask (suc n)) k 0 ≡ get_or (lost_places mask n ++ n ∷ []) k 0 =
          ap (λ (l : List ℕ). get_or l k 0) parts in
          let first = get_or_append_left (lost_places mask n) (n ∷ []) 0 j (omega arith) in
          elim (cases_lt k (length (lost_places mask n))) [
            | inl lower ↦
                let same = get_or_append_left (lost_places mask n) (n ∷ []) 0 k lower in
                let before = ascending mask n j k l lower in
                omega arith
            | inr past ↦
                let last = get_or_push (lost_places mask n) n 0 k (omega arith) in
                let small = small_places mask n j (omega arith) in
                omega arith
          ]
      | inr kept ↦
          let parts : lost_places mask (suc n) ≡ lost_places mask n = sym next ∙ lost_places-kept mask n kept in
          let long : length (lost_places mask (suc n)) ≡ length (lost_places mask n) = ap (λ (l : List ℕ). length l) parts in
          let at_j : get_or (lost_places mask (suc n)) j 0 ≡ get_or (lost_places mask n) j 0 = ap (λ (l : List ℕ). get_or l j 0) parts in
          let at_k : get_or (lost_places mask (suc n)) k 0 ≡ get_or (lost_places mask n) k 0 = ap (λ (l : List ℕ). get_or l k 0) parts in
          let before = ascending mask n j k l (omega arith) in
          omega arith
    ]

pub usable_small : (mask : ℕ) → AreSmall (usable_places mask)
usable_small mask k h = small_places mask 32 k h

pub usable_apart : (mask : ℕ) → AreApart (usable_places mask)
usable_apart mask j k l h e = let less = ascending mask 32 j k l h in omega arith
