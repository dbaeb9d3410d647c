-- The sets that are tried, by the places that are lost.
use Rattle.std.proofs.Common.{◌≡◌, ◌≢◌, ℕ, zero, suc, ◌+◌, ◌^◌, ◌<◌, ◌≤◌, ◌++◌, inl, inr, refl, sym, ◌∙◌, ap, subst, arith, Bool, true}
use Rattle.std.proofs.Common.{false, List, [], ◌∷◌, length, Option, Some, None, max, bit_or, nat_lt, add-one}
use Rattle.std.specs.Prelude.{◌==◌, if◌then◌else◌}
use Rattle.std.specs.Int.{bit_at}
use Rattle.std.proofs.lemmas.Bool.{cases_eq, cases_lt, eq-eqb, ne_eqb}
use Rattle.std.proofs.lemmas.Bool.Decides.{nat_tests}
use Rattle.std.proofs.lemmas.List.{length-append}
use Rattle.std.proofs.lemmas.Nat.{or_comm}
use Rattle.std.proofs.lemmas.Nat.Bits.{bit_at-zero, bit_at-lt, bit_at_or, bit_at-pow_same, bit_at-pow_other, bit_at_above, same_from_bits}
use Rattle.qic_base.specs.CartridgeTerms.{IsLost, with_place}
use Rattle.qic_base.specs.Cartridge.{lost_places}
use Rattle.qic_base.proofs.LostSetLaws.{lost_places-lost, lost_places-kept}
use Rattle.cartridge_laws.specs.Says.{LosesData}
use Rattle.cartridge_spec.specs.Says.{set_of, with_used, sets_by}
use Rattle.cartridge_laws.specs.TableCells.{sets_by_one}
use Rattle.volume_table.specs.Trials.{with_last_used, tried}
use Rattle.cartridge_laws.proofs.MountSeen.{sets_of_two}

-- ---- sets of places

or_assoc : (a b c : ℕ) → bit_or (bit_or a b) c ≡ bit_or a (bit_or b c)
or_assoc a b c = same_from_bits (bit_or (bit_or a b) c) (bit_or a (bit_or b c)) (λ i.
    bit_at_or (bit_or a b) c i
    ∙ ap (λ (n : ℕ). max n (bit_at c i)) (bit_at_or a b i)
    ∙ omega arith
    ∙ sym (ap (λ (n : ℕ). max (bit_at a i) n) (bit_at_or b c i))
    ∙ sym (bit_at_or a (bit_or b c) i))

-- one place more, at the end
set_of_more : (ps : List ℕ) (p : ℕ) → with_place (set_of ps) p ≡ set_of (ps ++ p ∷ [])
unfolding set_of
set_of_more [] p = or_comm 0 (2 ^ p)
set_of_more (q ∷ ps) p = or_assoc (2 ^ q) (set_of ps) (2 ^ p) ∙ ap (bit_or (2 ^ q)) (set_of_more ps p)

-- or at the front
set_of_first : (ps : List ℕ) (p : ℕ) → with_place (set_of ps) p ≡ set_of (p ∷ ps)
unfolding set_of
set_of_first ps p = or_comm (set_of ps) (2 ^ p)

-- the bits of the set of the lost places below a number are those of the mask
bits_of_places : (lost n i : ℕ) → ((i < n) → bit_at (set_of (lost_places lost n)) i ≡ bit_at lost i)
    × ((n ≤ i) → bit_at (set_of (lost_places lost n)) i ≡ 0)
unfolding lost_places set_of
bits_of_places lost zero i = (λ below. absurd (omega arith), λ above. bit_at-zero i)
bits_of_places lost (suc n) i =
    let rest = bits_of_places lost n i in
    elim (cases_eq (bit_at lost n) 1) [
      | inl is_lost ↦
          let places : lost_places lost (suc n) ≡ lost_places lost n ++ n ∷ [] = ap (lost_places lost) (sym (add-one n))
          ∙ lost_places-lost lost n is_lost in
          let bits : bit_at (set_of (lost_places lost (suc n))) i ≡ max (bit_at (set_of (lost_places lost n)) i) (bit_at (2 ^ n) i) =
          ap (λ (ps : List ℕ). bit_at (set_of ps) i) places
          ∙ ap (λ (s : ℕ). bit_at s i) (sym (set_of_more (lost_places lost n) n))
          ∙ bit_at_or (set_of (lost_places lost n)) (2 ^ n) i in (
            λ below.
                elim (cases_eq i n) [
                  | inl here ↦
                      let old : bit_at (set_of (lost_places lost n)) i ≡ 0 = rest.1 (omega arith) in
                      let new : bit_at (2 ^ n) i ≡ 1 = ap (bit_at (2 ^ n)) here ∙ bit_at-pow_same n in
                      let same : bit_at lost i ≡ 1 = ap (bit_at lost) here ∙ is_lost in
                      bits ∙ omega arith
                  | inr other ↦
                      let old : bit_at (set_of (lost_places lost n)) i ≡ bit_at lost i = rest.0 (omega arith) in
                      let new : bit_at (2 ^ n) i ≡ 0 = bit_at-pow_other n i other in
                      bits ∙ omega arith
                ],
            λ above.
                let old : bit_at (set_of (lost_places lost n)) i ≡ 0 = rest.1 (omega arith) in
                let new : bit_at (2 ^ n) i ≡ 0 = bit_at-pow_other n i (λ same. omega arith) in
                bits ∙ omega arith,
          )
      | inr kept ↦
          let places : lost_places lost (suc n) ≡ lost_places lost n = ap (lost_places lost) (sym (add-one n))
          ∙ lost_places-kept lost n kept in
          let bits : bit_at (set_of (lost_places lost (suc n))) i ≡ bit_at (set_of (lost_places lost n)) i =
          ap (λ (ps : List ℕ). bit_at (set_of ps) i) places in (
            λ below.
                elim (cases_eq i n) [
                  | inl here ↦
                      let old : bit_at (set_of (lost_places lost n)) i ≡ 0 = rest.1 (omega arith) in
                      let same : bit_at lost i ≡ bit_at lost n = ap (bit_at lost) here in
                      let few : bit_at lost n < 2 = bit_at-lt lost n in
                      bits ∙ omega arith
                  | inr other ↦ bits ∙ rest.0 (omega arith)
                ],
            λ above. bits ∙ rest.1 (omega arith),
          )
    ]

-- a mask is the set of its places
pub set_of_places : (lost : ℕ) → lost < 2 ^ 32 → lost ≡ set_of (lost_places lost 32)
set_of_places lost within = same_from_bits lost (set_of (lost_places lost 32)) (λ i.
    elim (cases_lt i 32) [
      | inl below ↦ sym ((bits_of_places lost 32 i).0 below)
      | inr above ↦ bit_at_above lost 32 i within above ∙ sym ((bits_of_places lost 32 i).1 above)
    ])

-- ---- which places are lost

-- all of these lie below a number
abbrev AllBelow : ℕ → List ℕ → Type 0
AllBelow n [] = Unit {0}
AllBelow n (p ∷ ps) = (p < n) × AllBelow n ps

below_more : (n : ℕ) (ps : List ℕ) → AllBelow n ps → AllBelow (suc n) ps
below_more n [] all = tt
below_more n (p ∷ ps) all = (omega (arith, all.0), below_more n ps all.1)

below_end : (n : ℕ) (ps : List ℕ) → AllBelow n ps → AllBelow (suc n) (ps ++ n ∷ [])
below_end n [] all = (omega arith, tt)
below_end n (p ∷ ps) all = (omega (arith, all.0), below_end n ps all.1)

places_below : (lost n : ℕ) → AllBelow n (lost_places lost n)
unfolding lost_places
places_below lost zero = tt
places_below lost (suc n) =
    elim (cases_eq (bit_at lost n) 1) [
      | inl is_lost ↦ subst (AllBelow (suc n)) (sym (ap (lost_places lost) (sym (add-one n)) ∙ lost_places-lost lost n is_lost))
          (below_end n (lost_places lost n) (places_below lost n))
      | inr kept ↦ subst (AllBelow (suc n)) (sym (ap (lost_places lost) (sym (add-one n)) ∙ lost_places-kept lost n kept))
          (below_more n (lost_places lost n) (places_below lost n))
    ]

-- what the lost places are behind those of data: one for each place of parity that is lost
abbrev last_places : (place : ℕ) → (b : Bool) → List ℕ
last_places place b = if b then place ∷ [] else []

some_below : (lost n place : ℕ) → place < n → IsLost lost place → 1 ≤ length (lost_places lost n)
unfolding lost_places
some_below lost zero place within is_lost = absurd (omega arith)
some_below lost (suc n) place within is_lost =
    let more : length (lost_places lost (suc n)) ≡ length (lost_places lost n) + length (last_places n (bit_at lost n == 1)) =
    length-append (lost_places lost n) (last_places n (bit_at lost n == 1)) in
    elim (cases_eq place n) [
      | inl here ↦
          let bit : (bit_at lost n == 1) ≡ true = eq-eqb (bit_at lost n) 1 (ap (bit_at lost) (sym here) ∙ is_lost) in
          let one : length (last_places n (bit_at lost n == 1)) ≡ 1 = ap (λ (b : Bool). length (last_places n b)) bit in
          omega arith
      | inr other ↦
          let rest : 1 ≤ length (lost_places lost n) = some_below lost n place (omega arith) is_lost in
          omega arith
    ]

split_places : (lost : ℕ) →
    lost_places lost 32
    ≡ ((lost_places lost 29 ++ last_places 29 (bit_at lost 29 == 1)) ++ last_places 30 (bit_at lost 30 == 1)) ++ last_places 31
    (bit_at lost 31 == 1)
unfolding lost_places
split_places lost = refl

-- the places of data ps, and behind them those of parity that are lost
abbrev places_of : (ps : List ℕ) (a b c : Bool) → List ℕ
places_of ps a b c = ((ps ++ last_places 29 a) ++ last_places 30 b) ++ last_places 31 c

-- one place alone is one of data
abbrev IsOne : List ℕ → Type 0
IsOne places = (m : ℕ) × (places ≡ m ∷ []) × (m < 29)

one_of : (ps : List ℕ) (a b c : Bool) → AllBelow 29 ps → 1 ≤ length ps → length (places_of ps a b c) ≡ 1 → IsOne (places_of ps a b c)
one_of [] a b c below some one = absurd (omega arith)
one_of (m ∷ []) false false false below some one = (m, refl, below.0)
one_of (m ∷ []) true b c below some one =
    absurd (omega (
      arith,
      length-append ((m ∷ 29 ∷ []) ++ last_places 30 b) (last_places 31 c),
      length-append (m ∷ 29 ∷ []) (last_places 30 b),
    ))
one_of (m ∷ []) false true c below some one = absurd (omega (arith, length-append (m ∷ 30 ∷ []) (last_places 31 c)))
one_of (m ∷ []) false false true below some one = absurd (omega arith)
one_of (m ∷ q ∷ rest) a b c below some one = absurd (omega arith)

-- of two places the second is the parity's, where one of that is lost, and else one that no set is for
abbrev IsTwo : (a b : Bool) → List ℕ → Type 0
IsTwo a b places = (m : ℕ) × (other : ℕ) × (places ≡ m ∷ other ∷ []) × (m < 29)
    × (a ≡ true → other ≡ 29) × (a ≡ false → b ≡ true → other ≡ 30) × (a ≡ false → other ≢ 29) × (b ≡ false → other ≢ 30)

two_of : (ps : List ℕ) (a b c : Bool) → AllBelow 29 ps → 1 ≤ length ps → length (places_of ps a b c) ≡ 2 → IsTwo a b (places_of ps a b c)
two_of [] a b c below some two = absurd (omega arith)
two_of (m ∷ []) true false false below some two =
    (m, 29, refl, below.0, λ h. refl, λ h k. absurd (cc), λ h. absurd (cc), λ h e. absurd (omega arith))
two_of (m ∷ []) true true c below some two = absurd (omega (arith, length-append (m ∷ 29 ∷ 30 ∷ []) (last_places 31 c)))
two_of (m ∷ []) true false true below some two = absurd (omega arith)
two_of (m ∷ []) false true false below some two =
    (m, 30, refl, below.0, λ h. absurd (cc), λ h k. refl, λ h e. absurd (omega arith), λ h. absurd (cc))
two_of (m ∷ []) false true true below some two = absurd (omega arith)
two_of (m ∷ []) false false true below some two =
    (m, 31, refl, below.0, λ h. absurd (cc), λ h k. absurd (cc), λ h e. absurd (omega arith), λ h e. absurd (omega arith))
two_of (m ∷ []) false false false below some two = absurd (omega arith)
two_of (m ∷ q ∷ []) false false false below some two = (
  m,
  q,
  refl,
  below.0,
  λ h. absurd (cc),
  λ h k. absurd (cc),
  λ h e. absurd (omega (arith, below.1.0)),
  λ h e. absurd (omega (arith, below.1.0)),
)
two_of (m ∷ q ∷ []) true b c below some two =
    absurd (omega (
      arith,
      length-append ((m ∷ q ∷ 29 ∷ []) ++ last_places 30 b) (last_places 31 c),
      length-append (m ∷ q ∷ 29 ∷ []) (last_places 30 b),
    ))
two_of (m ∷ q ∷ []) false true c below some two = absurd (omega (arith, length-append (m ∷ q ∷ 30 ∷ []) (last_places 31 c)))
two_of (m ∷ q ∷ []) false false true below some two = absurd (omega arith)
two_of (m ∷ q ∷ r ∷ rest) a b c below some two = absurd (omega arith)

some_data : (lost : ℕ) → LosesData lost → 1 ≤ length (lost_places lost 29)
some_data lost loses = some_below lost 29 loses.place loses.data_sector loses.is_lost

one_place : (lost : ℕ) → LosesData lost → length (lost_places lost 32) ≡ 1 → IsOne (lost_places lost 32)
one_place lost loses one =
    let split : lost_places lost 32 ≡ places_of (lost_places lost 29) (bit_at lost 29 == 1) (bit_at lost 30 == 1) (bit_at lost 31 == 1) =
    split_places lost in
    subst IsOne (sym split)
    (one_of (lost_places lost 29) (bit_at lost 29 == 1) (bit_at lost 30 == 1) (bit_at lost 31 == 1) (places_below lost 29)
    (some_data lost loses)
    (ap (λ (ps : List ℕ). length ps) (sym split) ∙ one))

two_places : (lost : ℕ) → LosesData lost → length (lost_places lost 32) ≡ 2 → IsTwo (bit_at lost 29 == 1) (bit_at lost 30 == 1)
    (lost_places lost 32)
two_places lost loses two =
    let split : lost_places lost 32 ≡ places_of (lost_places lost 29) (bit_at lost 29 == 1) (bit_at lost 30 == 1) (bit_at lost 31 == 1) =
    split_places lost in
    subst (IsTwo (bit_at lost 29 == 1) (bit_at lost 30 == 1)) (sym split)
    (two_of (lost_places lost 29) (bit_at lost 29 == 1) (bit_at lost 30 == 1) (bit_at lost 31 == 1) (places_below lost 29)
    (some_data lost loses)
    (ap (λ (ps : List ℕ). length ps) (sym split) ∙ two))

-- ---- the sets

used_with : (used : Option ℕ) (ps : List ℕ) → with_used used ps ≡ with_last_used (set_of ps) used
used_with None ps = refl
used_with (Some k) ps = ap (λ (set : ℕ). set ∷ []) (sym (set_of_first ps k))

by_place : (used : Option ℕ) (m : ℕ) → m < 29 →
    sets_by used (m ∷ [])
    ≡ with_place (set_of (m ∷ [])) 31 ∷ with_place (set_of (m ∷ [])) 29 ∷ with_last_used (set_of (m ∷ [])) used
    ++ with_place (with_place (set_of (m ∷ [])) 30) 31 ∷ []
by_place used m within =
    let is : nat_lt m 29 ≡ true = grind (arith, nat_tests) in
    let first : set_of (m ∷ 31 ∷ []) ≡ with_place (set_of (m ∷ [])) 31 = sym (set_of_more (m ∷ []) 31) in
    let second : set_of (m ∷ 29 ∷ []) ≡ with_place (set_of (m ∷ [])) 29 = sym (set_of_more (m ∷ []) 29) in
    let last : set_of (m ∷ 30 ∷ 31 ∷ []) ≡ with_place (with_place (set_of (m ∷ [])) 30) 31 =
    sym (set_of_more (m ∷ 30 ∷ []) 31) ∙ ap (λ (set : ℕ). with_place set 31) (sym (set_of_more (m ∷ []) 30)) in
    ap (λ (b : Bool). if b then sets_by_one used m else []) is
    ∙ ap (λ (set : ℕ). set ∷ set_of (m ∷ 29 ∷ []) ∷ with_used used (m ∷ []) ++ set_of (m ∷ 30 ∷ 31 ∷ []) ∷ []) first
    ∙ ap (λ (set : ℕ). with_place (set_of (m ∷ [])) 31 ∷ set ∷ with_used used (m ∷ []) ++ set_of (m ∷ 30 ∷ 31 ∷ []) ∷ []) second
    ∙ ap (λ (sets : List ℕ). with_place (set_of (m ∷ [])) 31 ∷ with_place (set_of (m ∷ [])) 29 ∷ sets ++ set_of (m ∷ 30 ∷ 31 ∷ []) ∷ [])
    (used_with used (m ∷ []))
    ∙ ap (λ (set : ℕ). with_place (set_of (m ∷ [])) 31 ∷ with_place (set_of (m ∷ [])) 29 ∷ with_last_used
    (set_of (m ∷ [])) used ++ set ∷ []) last

pub tried_one : (lost : ℕ) (used : Option ℕ) → lost < 2 ^ 32 → LosesData lost → length (lost_places lost 32) ≡ 1 →
    tried lost used
    ≡ lost ∷ with_place lost 31 ∷ with_place lost 29 ∷ with_last_used lost used ++ with_place (with_place lost 30) 31 ∷ []
tried_one lost used within loses one =
    let place : IsOne (lost_places lost 32) = one_place lost loses one in
    let is : lost ≡ set_of (place.0 ∷ []) = set_of_places lost within ∙ ap set_of place.1 in
    ap (λ (sets : List ℕ). lost ∷ sets)
    (ap (sets_by used) place.1 ∙ by_place used place.0 place.2
    ∙ sym (ap (λ (set : ℕ). with_place set 31 ∷ with_place set 29 ∷ with_last_used set used ++ with_place (with_place set 30) 31 ∷ []) is))

pub tried_with_29 : (lost : ℕ) (used : Option ℕ) → lost < 2 ^ 32 → LosesData lost → length (lost_places lost 32) ≡ 2 → IsLost lost 29 →
    tried lost used ≡ lost ∷ with_last_used lost used
tried_with_29 lost used within loses two has =
    let pair = two_places lost loses two in
    let m : ℕ = pair.0 in
    let other : pair.1 ≡ 29 = pair.4 (eq-eqb (bit_at lost 29) 1 has) in
    let places : lost_places lost 32 ≡ m ∷ 29 ∷ [] = pair.2 ∙ ap (λ (p : ℕ). m ∷ p ∷ []) other in
    let is : lost ≡ set_of (m ∷ 29 ∷ []) = set_of_places lost within ∙ ap set_of places in
    ap (λ (sets : List ℕ). lost ∷ sets)
    (ap (sets_by used) places ∙ sets_of_two used m 29 pair.3 ∙ used_with used (m ∷ 29 ∷ [])
    ∙ sym (ap (λ (set : ℕ). with_last_used set used) is))

pub tried_with_30 : (lost : ℕ) (used : Option ℕ) → lost < 2 ^ 32 → LosesData lost → length (lost_places lost 32) ≡ 2 → ¬ (IsLost lost 29) →
    IsLost lost 30 →
    tried lost used ≡ lost ∷ with_place lost 31 ∷ []
tried_with_30 lost used within loses two not has =
    let pair = two_places lost loses two in
    let m : ℕ = pair.0 in
    let other : pair.1 ≡ 30 = pair.5 (ne_eqb (bit_at lost 29) 1 not) (eq-eqb (bit_at lost 30) 1 has) in
    let places : lost_places lost 32 ≡ m ∷ 30 ∷ [] = pair.2 ∙ ap (λ (p : ℕ). m ∷ p ∷ []) other in
    let is : lost ≡ set_of (m ∷ 30 ∷ []) = set_of_places lost within ∙ ap set_of places in
    ap (λ (sets : List ℕ). lost ∷ sets)
    (ap (sets_by used) places ∙ sets_of_two used m 30 pair.3
    ∙ ap (λ (set : ℕ). set ∷ []) (sym (set_of_more (m ∷ 30 ∷ []) 31))
    ∙ sym (ap (λ (set : ℕ). with_place set 31 ∷ []) is))

pub tried_no_more : (lost : ℕ) (used : Option ℕ) → LosesData lost → length (lost_places lost 32) ≡ 2 → ¬ (IsLost lost 29) →
    ¬ (IsLost lost 30) →
    tried lost used ≡ lost ∷ []
tried_no_more lost used loses two not_29 not_30 =
    let pair = two_places lost loses two in
    let m : ℕ = pair.0 in
    let not_first : (pair.1 == 29) ≡ false = ne_eqb pair.1 29 (pair.6 (ne_eqb (bit_at lost 29) 1 not_29)) in
    let not_second : (pair.1 == 30) ≡ false = ne_eqb pair.1 30 (pair.7 (ne_eqb (bit_at lost 30) 1 not_30)) in
    ap (λ (sets : List ℕ). lost ∷ sets)
    (ap (sets_by used) pair.2 ∙ sets_of_two used m pair.1 pair.3
    ∙ ap (λ (b : Bool). if b then with_used used (m ∷ 29 ∷ []) else if pair.1 == 30 then set_of (m ∷ 30 ∷ 31 ∷ []) ∷ [] else []) not_first
    ∙ ap (λ (b : Bool). if b then set_of (m ∷ 30 ∷ 31 ∷ []) ∷ [] else []) not_second)
