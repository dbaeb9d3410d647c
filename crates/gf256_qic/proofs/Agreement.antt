-- Codewords that agree at all but at most three places are equal, and so are code blocks.
use Rattle.std.proofs.Common.{◌≡◌, ◌≢◌, ℕ, zero, suc, ◌+◌, ◌<◌, ◌≤◌, refl, sym, ◌∙◌, ap, subst, arith, inl, inr, bit_xor, Bool, false, cond}
use Rattle.std.proofs.Common.{nat_eq, List, [], ◌∷◌, length, All, get_or, slice_get, slice_index, Some}
use Rattle.std.specs.Option.{option_map}
use Rattle.std.specs.Int.Bits.{xor_self}
use Rattle.std.proofs.Math.Nat.{suc_inj}
use Rattle.std.proofs.lemmas.Bool.{cases_eq, cases_lt, cases_Bool, eq-eqb, ne_eqb}
use Rattle.std.proofs.lemmas.List.{same_lists, get_or-map, length-map}
use Rattle.std.proofs.lemmas.List.Elements.{All-get_or}
use Rattle.std.proofs.lemmas.Option.{slice_get-map, slice_get-get_or}
use Rattle.cartridge_spec.specs.Code.{value_at, added, column, IsCodeword, IsCodeBlock}
use Rattle.qic_base.specs.Cartridge.{IsSector}
use Rattle.gf256_qic.specs.Code.{distance, AgreesOutside, lost_below}
use Rattle.gf256_qic.proofs.Sums.{equal_from_sum}
use Rattle.gf256_qic.proofs.Values.{value_at-added, length-added, bytes_of_added}
use Rattle.gf256_qic.proofs.Distance.{AtRoots, weight, none_of_three}
use Rattle.qic_base.specs.Disk.{AreBytes}

abbrev one_unless : Bool → ℕ
one_unless t = cond t 0 1

abbrev pub one_if : Bool → ℕ
one_if t = cond t 1 0

unequal : (a b : ℕ) → a ≢ b → one_unless (nat_eq a b) ≡ 1
unequal a b h = ap one_unless (ne_eqb a b h)

equal : (a b : ℕ) → a ≡ b → one_unless (nat_eq a b) ≡ 0
equal a b h = ap one_unless (eq-eqb a b h)

weight-first : (e : ℕ) (es : List ℕ) → weight (e ∷ es) ≡ one_unless (nat_eq e 0) + weight es
unfolding weight
weight-first zero es = omega arith
weight-first (suc e) es =
    let one : one_unless (nat_eq (suc e) 0) ≡ 1 = unequal (suc e) 0 (λ q. cc) in
    omega arith

-- the sum of two columns has as many bytes other than 0 as there are places at which the two differ
weight-added : (xs ys : List ℕ) → length xs ≡ length ys → weight (added xs ys) ≡ distance xs ys
unfolding added distance weight
weight-added [] [] h = refl
weight-added [] (y ∷ ys) h = absurd (cc)
weight-added (x ∷ xs) [] h = absurd (cc)
weight-added (x ∷ xs) (y ∷ ys) h =
    let rest : weight (added xs ys) ≡ distance xs ys = weight-added xs ys (suc_inj h) in
    let first : one_unless (nat_eq (bit_xor x y) 0) ≡ one_unless (nat_eq x y) =
    elim (cases_eq x y) [
      | inl e ↦ equal (bit_xor x y) 0 (ap (λ v. bit_xor v y) e ∙ xor_self y) ∙ sym (equal x y e)
      | inr n ↦ unequal (bit_xor x y) 0 (λ e. n (equal_from_sum x y e)) ∙ sym (unequal x y n)
    ] in
    weight-first (bit_xor x y) (added xs ys)
    ∙ ap (λ v. v + weight (added xs ys)) first
    ∙ ap (λ v. one_unless (nat_eq x y) + v) rest

-- columns that differ nowhere are equal
same_from_distance : (xs ys : List ℕ) → length xs ≡ length ys → distance xs ys ≡ 0 → xs ≡ ys
unfolding distance
same_from_distance [] [] h none = refl
same_from_distance [] (y ∷ ys) h none = absurd (cc)
same_from_distance (x ∷ xs) [] h none = absurd (cc)
same_from_distance (x ∷ xs) (y ∷ ys) h none =
    elim (cases_eq x y) [
      | inl e ↦
          ap (λ v. v ∷ xs) e
          ∙ ap (λ zs. y ∷ zs) (same_from_distance xs ys (suc_inj h) (omega arith))
      | inr n ↦ let one : one_unless (nat_eq x y) ≡ 1 = unequal x y n in absurd (omega arith)
    ]

-- columns with the same values at the roots that differ at no more than three places are equal
pub near_columns : (xs ys : List ℕ) → AreBytes xs → AreBytes ys → length xs ≡ length ys → length xs ≤ 32 →
    distance xs ys ≤ 3 → AtRoots (λ p. value_at p xs ≡ value_at p ys) → xs ≡ ys
near_columns xs ys hx hy h most near same =
    let few : weight (added xs ys) ≡ distance xs ys = weight-added xs ys h in
    let long : length (added xs ys) ≡ length xs = length-added xs ys h in
    let sum_at : (p : ℕ) → value_at p xs ≡ value_at p ys → value_at p (added xs ys) ≡ 0 =
    λ p e. value_at-added p xs ys h ∙ ap (λ v. bit_xor v (value_at p ys)) e ∙ xor_self (value_at p ys) in
    let none : weight (added xs ys) ≡ 0 =
    none_of_three (added xs ys) (bytes_of_added xs ys hx hy) (omega arith) (omega arith)
    (record {
      at_inverse = sum_at 0xC3 same.at_inverse;
      at_one = sum_at 1 same.at_one;
      at_generator = sum_at 2 same.at_generator;
    }) in
    same_from_distance xs ys h (sym few ∙ none)

pub distance-le : (xs ys : List ℕ) → distance xs ys ≤ length xs
unfolding distance
distance-le [] ys = omega arith
distance-le (x ∷ xs) [] = omega arith
distance-le (x ∷ xs) (y ∷ ys) =
    let rest : distance xs ys ≤ length xs = distance-le xs ys in
    elim (cases_eq x y) [
      | inl e ↦ let none : one_unless (nat_eq x y) ≡ 0 = equal x y e in omega arith
      | inr n ↦ let one : one_unless (nat_eq x y) ≡ 1 = unequal x y n in omega arith
    ]

-- codewords that differ at no more than three places are equal
near_codewords : (cs ds : List ℕ) → IsCodeword cs → IsCodeword ds → length cs ≡ length ds →
    distance cs ds ≤ 3 → cs ≡ ds
near_codewords cs ds hc hd h near =
    near_columns cs ds hc.bytes hd.bytes h hc.most near
    (record {
      at_inverse = hc.at_inverse ∙ sym hd.at_inverse;
      at_one = hc.at_one ∙ sym hd.at_one;
      at_generator = hc.at_generator ∙ sym hd.at_generator;
    })

pub four_apart : (cs ds : List ℕ) → IsCodeword cs → IsCodeword ds → length cs ≡ length ds →
    cs ≢ ds → 4 ≤ distance cs ds
four_apart cs ds hc hd h other =
    elim (cases_lt (distance cs ds) 4) [
      | inl near ↦ absurd (other (near_codewords cs ds hc hd h (omega arith)))
      | inr far ↦ far
    ]

-- ---- agreement outside lost places

pub lost_below-first : (lost : ℕ → Bool) (n : ℕ) →
    lost_below lost (suc n) ≡ one_if (lost 0) + lost_below (λ i. lost (suc i)) n
unfolding lost_below
lost_below-first lost zero = refl
lost_below-first lost (suc n) =
    let before : lost_below lost (suc n) ≡ one_if (lost 0) + lost_below (λ i. lost (suc i)) n =
    lost_below-first lost n in
    omega arith

-- columns that agree outside the lost places differ at no more places than are lost
distance_outside :
    (lost : ℕ → Bool) (xs ys : List ℕ) → length xs ≡ length ys →
    ((i : ℕ) → i < length xs → lost i ≡ false → slice_get xs i ≡ slice_get ys i) →
    distance xs ys ≤ lost_below lost (length xs)
unfolding distance
distance_outside lost [] [] h same = omega arith
distance_outside lost [] (y ∷ ys) h same = absurd (cc)
distance_outside lost (x ∷ xs) [] h same = absurd (cc)
distance_outside lost (x ∷ xs) (y ∷ ys) h same =
    let rest : distance xs ys ≤ lost_below (λ i. lost (suc i)) (length xs) =
    distance_outside (λ i. lost (suc i)) xs ys (suc_inj h) (λ i lt kept. same (suc i) (omega arith) kept) in
    let count : lost_below lost (suc (length xs)) ≡ one_if (lost 0) + lost_below (λ i. lost (suc i)) (length xs) =
    lost_below-first lost (length xs) in
    let first : one_unless (nat_eq x y) ≤ one_if (lost 0) =
    elim (cases_Bool (lost 0)) [
      | inl gone ↦
          let one : one_if (lost 0) ≡ 1 = ap one_if gone in
          elim (cases_Bool (nat_eq x y)) [
            | inl e ↦ let none : one_unless (nat_eq x y) ≡ 0 = ap one_unless e in omega arith
            | inr e ↦ let some : one_unless (nat_eq x y) ≡ 1 = ap one_unless e in omega arith
          ]
      | inr kept ↦
          let heads : Some x ≡ Some y = same 0 (omega arith) kept in
          let e : x ≡ y = cc in
          let none : one_unless (nat_eq x y) ≡ 0 = equal x y e in
          omega arith
    ] in
    omega arith

pub one_codeword : (lost : ℕ → Bool) (cs ds : List ℕ) → IsCodeword cs → IsCodeword ds →
    AgreesOutside lost cs ds → lost_below lost (length cs) ≤ 3 → cs ≡ ds
one_codeword lost cs ds hc hd agree few =
    let near : distance cs ds ≤ lost_below lost (length cs) =
    distance_outside lost cs ds agree.size agree.others in
    near_codewords cs ds hc hd agree.size (omega arith)

-- ---- columns

pub length-column : (j : ℕ) (ss : List (List ℕ)) → length (column j ss) ≡ length ss
unfolding column
length-column j ss = length-map ss (λ s. slice_index s j)

pub slice_get-column : (j : ℕ) (ss : List (List ℕ)) (i : ℕ) →
    slice_get (column j ss) i ≡ option_map (λ s. slice_index s j) (slice_get ss i)
unfolding column
slice_get-column j ss i = slice_get-map (λ s. slice_index s j) ss i

pub get_or-column : (j : ℕ) (ss : List (List ℕ)) (i : ℕ) (d : List ℕ) (e : ℕ) → i < length ss →
    get_or (column j ss) i e ≡ get_or (get_or ss i d) j 0
unfolding column
get_or-column j ss i d e h = get_or-map (λ s. slice_index s j) ss i d e h

-- columns of sectors that agree outside the lost places do so too
pub columns_agree : (lost : ℕ → Bool) (j : ℕ) (ss ts : List (List ℕ)) → AgreesOutside lost ss ts →
    AgreesOutside lost (column j ss) (column j ts)
columns_agree lost j ss ts agree = record {
  size = length-column j ss ∙ agree.size ∙ sym (length-column j ts);
  others = λ i h kept.
      let count : length (column j ss) ≡ length ss = length-column j ss in
      slice_get-column j ss i
      ∙ ap (option_map (λ s. slice_index s j)) (agree.others i (omega arith) kept)
      ∙ sym (slice_get-column j ts i);
}

-- inside a list no default shows
pub any_default : (xs : List ℕ) (j e : ℕ) → j < length xs → get_or xs j e ≡ get_or xs j 0
any_default xs j e h =
    let here : Some (get_or xs j e) ≡ Some (get_or xs j 0) = sym (slice_get-get_or xs j e h) ∙ slice_get-get_or xs j 0 h in
    cc

-- equally many sectors with the same columns are the same
pub same_from_columns : (ss ts : List (List ℕ)) → All IsSector ss → All IsSector ts → length ss ≡ length ts →
    ((j : ℕ) → j < 1024 → column j ss ≡ column j ts) → ss ≡ ts
same_from_columns ss ts ha hb h same =
    same_lists ss ts h (λ i d lt.
    let sa : IsSector (get_or ss i d) = All-get_or IsSector ss i d lt ha in
    let ltb : i < length ts = omega arith in
    let sb : IsSector (get_or ts i d) = All-get_or IsSector ts i d ltb hb in
    let na : length (get_or ss i d) ≡ 1024 = sa.size in
    same_lists (get_or ss i d) (get_or ts i d) (sa.size ∙ sym sb.size) (λ j e ltj.
    let within : j < 1024 = omega arith in
    let ltt : j < length (get_or ts i d) = omega arith in
    let columns : get_or (column j ss) i 0 ≡ get_or (column j ts) i 0 = ap (λ (c : List ℕ). get_or c i 0) (same j within) in
    any_default (get_or ss i d) j e ltj
    ∙ sym (get_or-column j ss i d 0 lt) ∙ columns ∙ get_or-column j ts i d 0 ltb
    ∙ sym (any_default (get_or ts i d) j e ltt)))

pub one_block : (lost : ℕ → Bool) (ss ts : List (List ℕ)) → IsCodeBlock ss → IsCodeBlock ts →
    AgreesOutside lost ss ts → lost_below lost (length ss) ≤ 3 → ss ≡ ts
one_block lost ss ts ha hb agree few =
    same_from_columns ss ts ha.sectors hb.sectors agree.size (λ j h.
    let count : length (column j ss) ≡ length ss = length-column j ss in
    let few_in_column : lost_below lost (length (column j ss)) ≤ 3 =
    subst (λ (n : ℕ). lost_below lost n ≤ 3) (sym count) few in
    one_codeword lost (column j ss) (column j ts) (ha.columns j h) (hb.columns j h)
    (columns_agree lost j ss ts agree) few_in_column)

-- sets that agree below a number have as many places below it
pub lost_below-same : (p q : ℕ → Bool) (n : ℕ) → ((i : ℕ) → i < n → p i ≡ q i) → lost_below p n ≡ lost_below q n
unfolding lost_below
lost_below-same p q zero same = refl
lost_below-same p q (suc n) same =
    let rest : lost_below p n ≡ lost_below q n = lost_below-same p q n (λ i h. same i (omega arith)) in
    let here : p n ≡ q n = same n (omega arith) in
    let one : one_if (p n) ≡ one_if (q n) = ap one_if here in
    omega arith

-- a column of one sector is that sector's byte
pub column-one : (j : ℕ) (s : List ℕ) → column j (s ∷ []) ≡ get_or s j 0 ∷ []
unfolding column
column-one j s = refl
