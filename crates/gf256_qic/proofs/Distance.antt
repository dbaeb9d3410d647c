-- Two codewords of equal length differ at none or at least four places: their sum has the value 0 at the
-- three roots, and three terms at different powers have it at no three roots together.
use Rattle.std.proofs.Common.{◌≡◌, ◌≢◌, ℕ, zero, suc, ◌<◌, ◌≤◌, refl, sym, ◌∙◌, ap, arith, bit_xor, true, false, nat_eq, not, ◌||◌, List}
use Rattle.std.proofs.Common.{[], ◌∷◌, length}
use Rattle.std.specs.Int.Bits.{xor_self, xor_zero_l, xor_zero_r}
use Rattle.std.proofs.lemmas.Nat.{xor_comm}
use Rattle.std.proofs.lemmas.Bool.{eqb-true, ne_eqb, eq-eqb, false≢true}
use Rattle.cartridge_spec.specs.Code.{shifted_copies, remainder, product, power, value_at}
use Rattle.gf256_qic.specs.Code.{inverse}
use Rattle.gf256_qic.specs.Laws.{TwoHasOrder255, PlacesDiffer}
use Rattle.gf256_qic.proofs.Tables.{all_below, all_below_at}
use Rattle.gf256_qic.proofs.Sums.{swap4, equal_from_sum, sum_byte}
use Rattle.gf256_qic.proofs.Products.{product_byte, product_comm, product_assoc, product_sum_left, product_sum_right, product_zero_left}
use Rattle.gf256_qic.proofs.Products.{product_zero_right, product_one_left, product_one_right}
use Rattle.gf256_qic.proofs.Powers.{power_none, power_more, power_byte, product_inverse, inverse_byte}
use Rattle.gf256_qic.proofs.Values.{first_byte, other_bytes, value_at-none, value_at-first}
use Rattle.qic_base.specs.Disk.{AreBytes}

-- ---- the field has no divisors of 0

zero_factor : (a b : ℕ) → a < 256 → b < 256 → b ≢ 0 → product a b ≡ 0 → a ≡ 0
zero_factor a b ha hb other none =
    sym (product_one_right a ha)
    ∙ ap (product a) (sym (product_inverse b hb other))
    ∙ sym (product_assoc a b (inverse b) ha hb (inverse_byte b hb))
    ∙ ap (λ v. product v (inverse b)) none
    ∙ product_zero_left (inverse b)

-- ---- the powers of the roots

pub power_of_one : (n : ℕ) → power 1 n ≡ 1
power_of_one zero = power_none 1
power_of_one (suc n) =
    power_more 1 n ∙ ap (product 1) (power_of_one n) ∙ product_one_left 1 (omega arith)

different_powers : all_below 35 (λ i. all_below 35 (λ j. nat_eq i j || not (nat_eq (power 2 i) (power 2 j)))) ≡ true
unfolding product shifted_copies remainder power all_below
different_powers = refl

-- places below 35 have different powers of 2
pub power_apart : (i j : ℕ) → i < 35 → j < 35 → i ≢ j → power 2 i ≢ power 2 j
power_apart i j hi hj apart same =
    let test : (nat_eq i j || not (nat_eq (power 2 i) (power 2 j))) ≡ true =
    all_below_at 35 (λ y. nat_eq i y || not (nat_eq (power 2 i) (power 2 y)))
    (all_below_at 35 (λ x. all_below 35 (λ y. nat_eq x y || not (nat_eq (power 2 x) (power 2 y))))
    different_powers i hi)
    j hj in
    let left : nat_eq i j ≡ false = ne_eqb i j apart in
    let right : not (nat_eq (power 2 i) (power 2 j)) ≡ false =
    ap not (eq-eqb (power 2 i) (power 2 j) same) in
    false≢true (sym (ap (λ b. b || not (nat_eq (power 2 i) (power 2 j))) left ∙ right) ∙ test)

inverse_powers : all_below 35 (λ i. nat_eq (product (power 2 i) (power 0xC3 i)) 1) ≡ true
unfolding product shifted_copies remainder power all_below
inverse_powers = refl

pub power_inverse : (i : ℕ) → i < 35 → product (power 2 i) (power 0xC3 i) ≡ 1
power_inverse i h =
    eqb-true (product (power 2 i) (power 0xC3 i)) 1
    (all_below_at 35 (λ x. nat_eq (product (power 2 x) (power 0xC3 x)) 1) inverse_powers i h)

-- the same as a law of places
pub places_of_two : PlacesDiffer 2
places_of_two i j hi hj apart = power_apart i j (omega arith) (omega arith) apart

-- powers of the inverse are equal only where those of 2 are
pub places_of_inverse : PlacesDiffer 0xC3
places_of_inverse i j hi hj apart same =
    let low : 0xC3 < 256 = omega arith in
    let two : 2 < 256 = omega arith in
    let inside_i : i < 35 = omega arith in
    let inside_j : j < 35 = omega arith in
    power_apart i j inside_i inside_j apart (
    sym (product_one_right (power 2 i) (power_byte 2 i two))
    ∙ ap (product (power 2 i)) (sym (power_inverse j inside_j)
    ∙ product_comm (power 2 j) (power 0xC3 j) (power_byte 2 j two) (power_byte 0xC3 j low)
    ∙ ap (λ v. product v (power 2 j)) (sym same))
    ∙ sym (product_assoc (power 2 i) (power 0xC3 i) (power 2 j)
    (power_byte 2 i two) (power_byte 0xC3 i low) (power_byte 2 j two))
    ∙ ap (λ v. product v (power 2 j)) (power_inverse i inside_i)
    ∙ product_one_left (power 2 j) (power_byte 2 j two))

powers_before_the_order : all_below 254 (λ n. not (nat_eq (power 2 (suc n)) 1)) ≡ true
unfolding product shifted_copies remainder power all_below
powers_before_the_order = refl

pub order_of_two : TwoHasOrder255
unfolding product shifted_copies remainder power
order_of_two = record { full = refl; least = below }
  where
    below : (n : ℕ) → 0 < n → n < 255 → power 2 n ≢ 1
    below zero some small same = absurd (omega arith)
    below (suc n) some small same =
        let test : not (nat_eq (power 2 (suc n)) 1) ≡ true =
        all_below_at 254 (λ m. not (nat_eq (power 2 (suc m)) 1)) powers_before_the_order n (omega arith) in
        let other : not (nat_eq (power 2 (suc n)) 1) ≡ false = ap not (eq-eqb (power 2 (suc n)) 1 same) in
        false≢true (sym other ∙ test)

-- ---- three terms

-- the sum of a column's three equations, the first times u and the third times w, is the coefficients' sum
swap9 : (p1 p2 p3 q1 q2 q3 r1 r2 r3 : ℕ) →
    bit_xor (bit_xor p1 (bit_xor p2 p3)) (bit_xor (bit_xor q1 (bit_xor q2 q3)) (bit_xor r1 (bit_xor r2 r3)))
    ≡ bit_xor (bit_xor p1 (bit_xor q1 r1)) (bit_xor (bit_xor p2 (bit_xor q2 r2)) (bit_xor p3 (bit_xor q3 r3)))
swap9 p1 p2 p3 q1 q2 q3 r1 r2 r3 =
    ap (bit_xor (bit_xor p1 (bit_xor p2 p3)))
    (swap4 q1 (bit_xor q2 q3) r1 (bit_xor r2 r3) ∙ ap (bit_xor (bit_xor q1 r1)) (swap4 q2 q3 r2 r3))
    ∙ swap4 p1 (bit_xor p2 p3) (bit_xor q1 r1) (bit_xor (bit_xor q2 r2) (bit_xor q3 r3))
    ∙ ap (bit_xor (bit_xor p1 (bit_xor q1 r1))) (swap4 p2 p3 (bit_xor q2 r2) (bit_xor q3 r3))

-- a's part of that sum
part : (a u w x x' : ℕ) → a < 256 → u < 256 → w < 256 → x' < 256 →
    bit_xor (product u a) (bit_xor (product a x) (product w (product a x')))
    ≡ product a (bit_xor u (bit_xor x (product w x')))
part a u w x x' ha hu hw hx' =
    let last : product w (product a x') ≡ product a (product w x') =
    sym (product_assoc w a x' hw ha hx')
    ∙ ap (λ v. product v x') (product_comm w a hw ha)
    ∙ product_assoc a w x' ha hw hx' in
    ap (λ v. bit_xor v (bit_xor (product a x) (product w (product a x')))) (product_comm u a hu ha)
    ∙ ap (λ v. bit_xor (product a u) (bit_xor (product a x) v)) last
    ∙ ap (bit_xor (product a u)) (sym (product_sum_right a x (product w x')))
    ∙ sym (product_sum_right a u (bit_xor x (product w x')))

-- the part is 0 where the coefficient is
part_none : (b u w y y' : ℕ) → b < 256 → u < 256 → w < 256 → y' < 256 →
    bit_xor u (bit_xor y (product w y')) ≡ 0 →
    bit_xor (product u b) (bit_xor (product b y) (product w (product b y'))) ≡ 0
part_none b u w y y' hb hu hw hy' none =
    part b u w y y' hb hu hw hy' ∙ ap (product b) none ∙ product_zero_right b

-- three terms at places of different powers x, y and z, with the inverse powers x', y' and z',
-- whose three sums are 0: the first is 0
first_of_three :
    (a b c x y z x' y' z' : ℕ) →
    a < 256 → b < 256 → c < 256 → x < 256 → y < 256 → z < 256 → x' < 256 → y' < 256 → z' < 256 →
    x ≢ y → x ≢ z → product x x' ≡ 1 → product y y' ≡ 1 → product z z' ≡ 1 →
    bit_xor a (bit_xor b c) ≡ 0 →
    bit_xor (product a x) (bit_xor (product b y) (product c z)) ≡ 0 →
    bit_xor (product a x') (bit_xor (product b y') (product c z')) ≡ 0 →
    a ≡ 0
first_of_three a b c x y z x' y' z' ha hb hc hx hy hz hx' hy' hz' xy xz ix iy iz e1 e2 e3 =
    let u : ℕ = bit_xor y z in
    let w : ℕ = product y z in
    let hu : u < 256 = sum_byte y z hy hz in
    let hw : w < 256 = product_byte y z hy hz in
    let at_y : bit_xor u (bit_xor y (product w y')) ≡ 0 =
    ap (λ v. bit_xor u (bit_xor y v))
    (ap (λ v. product v y') (product_comm y z hy hz)
    ∙ product_assoc z y y' hz hy hy' ∙ ap (product z) iy ∙ product_one_right z hz)
    ∙ xor_self u in
    let at_z : bit_xor u (bit_xor z (product w z')) ≡ 0 =
    ap (λ v. bit_xor u (bit_xor z v))
    (product_assoc y z z' hy hz hz' ∙ ap (product y) iz ∙ product_one_right y hy)
    ∙ ap (bit_xor u) (xor_comm z y) ∙ xor_self u in
    let f : ℕ = bit_xor u (bit_xor x (product w x')) in
    let hf : f < 256 = sum_byte u (bit_xor x (product w x')) hu (sum_byte x (product w x') hx (product_byte w x' hw hx')) in
    let whole :
    bit_xor (product u (bit_xor a (bit_xor b c)))
    (bit_xor (bit_xor (product a x) (bit_xor (product b y) (product c z)))
    (product w (bit_xor (product a x') (bit_xor (product b y') (product c z'))))) ≡ 0 =
    ap (λ v. bit_xor (product u v)
    (bit_xor (bit_xor (product a x) (bit_xor (product b y) (product c z)))
    (product w (bit_xor (product a x') (bit_xor (product b y') (product c z')))))) e1
    ∙ ap (λ v. bit_xor v
    (bit_xor (bit_xor (product a x) (bit_xor (product b y) (product c z)))
    (product w (bit_xor (product a x') (bit_xor (product b y') (product c z')))))) (product_zero_right u)
    ∙ ap (λ v. bit_xor v (product w (bit_xor (product a x') (bit_xor (product b y') (product c z'))))) e2
    ∙ ap (product w) e3 ∙ product_zero_right w in
    let spread_u : product u (bit_xor a (bit_xor b c)) ≡ bit_xor (product u a) (bit_xor (product u b) (product u c)) =
    product_sum_right u a (bit_xor b c) ∙ ap (bit_xor (product u a)) (product_sum_right u b c) in
    let spread_w :
    product w (bit_xor (product a x') (bit_xor (product b y') (product c z')))
    ≡ bit_xor (product w (product a x')) (bit_xor (product w (product b y')) (product w (product c z'))) =
    product_sum_right w (product a x') (bit_xor (product b y') (product c z'))
    ∙ ap (bit_xor (product w (product a x'))) (product_sum_right w (product b y') (product c z')) in
    let sorted : product a f ≡ 0 =
    sym (
    ap (λ v. bit_xor v
    (bit_xor (bit_xor (product a x) (bit_xor (product b y) (product c z)))
    (product w (bit_xor (product a x') (bit_xor (product b y') (product c z')))))) spread_u
    ∙ ap (λ v. bit_xor (bit_xor (product u a) (bit_xor (product u b) (product u c)))
    (bit_xor (bit_xor (product a x) (bit_xor (product b y) (product c z))) v)) spread_w
    ∙ swap9 (product u a) (product u b) (product u c) (product a x) (product b y) (product c z)
    (product w (product a x')) (product w (product b y')) (product w (product c z'))
    ∙ ap (bit_xor (bit_xor (product u a) (bit_xor (product a x) (product w (product a x')))))
    (ap (λ v. bit_xor v (bit_xor (product u c) (bit_xor (product c z) (product w (product c z')))))
    (part_none b u w y y' hb hu hw hy' at_y)
    ∙ part_none c u w z z' hc hu hw hz' at_z)
    ∙ xor_zero_r (bit_xor (product u a) (bit_xor (product a x) (product w (product a x'))))
    ∙ part a u w x x' ha hu hw hx')
    ∙ whole in
    let fx : product f x ≡ product (bit_xor x y) (bit_xor x z) =
    product_sum_left u (bit_xor x (product w x')) x
    ∙ ap (λ v. bit_xor (product u x) v)
    (product_sum_left x (product w x') x
    ∙ ap (bit_xor (product x x))
    (product_assoc w x' x hw hx' hx ∙ ap (product w) (product_comm x' x hx' hx ∙ ix) ∙ product_one_right w hw))
    ∙ ap (λ v. bit_xor v (bit_xor (product x x) w)) (product_sum_left y z x ∙ xor_comm (product y x) (product z x))
    ∙ swap4 (product z x) (product y x) (product x x) w
    ∙ ap (λ v. bit_xor v (bit_xor (product y x) w))
    (xor_comm (product z x) (product x x) ∙ ap (bit_xor (product x x)) (product_comm z x hz hx))
    ∙ sym (
    product_sum_left x y (bit_xor x z)
    ∙ ap (λ v. bit_xor v (product y (bit_xor x z))) (product_sum_right x x z)
    ∙ ap (bit_xor (bit_xor (product x x) (product x z))) (product_sum_right y x z)) in
    let apart_y : bit_xor x y ≢ 0 = λ e. xy (equal_from_sum x y e) in
    let apart_z : bit_xor x z ≢ 0 = λ e. xz (equal_from_sum x z e) in
    let hxy : bit_xor x y < 256 = sum_byte x y hx hy in
    let hxz : bit_xor x z < 256 = sum_byte x z hx hz in
    let gone : product (product a (bit_xor x y)) (bit_xor x z) ≡ 0 =
    product_assoc a (bit_xor x y) (bit_xor x z) ha hxy hxz
    ∙ ap (product a) (sym fx)
    ∙ sym (product_assoc a f x ha hf hx)
    ∙ ap (λ v. product v x) sorted
    ∙ product_zero_left x in
    zero_factor a (bit_xor x y) ha hxy apart_y
    (zero_factor (product a (bit_xor x y)) (bit_xor x z) (product_byte a (bit_xor x y) ha hxy) hxz apart_z gone)

-- ---- sums of few terms

-- what holds at each of the three roots
pub record AtRoots (P : ℕ → Type 0) : Type 0 where
  pub at_inverse : P 0xC3
  pub at_one : P 1
  pub at_generator : P 2

-- a term of power n, at p
abbrev term : ℕ → ℕ → ℕ → ℕ
term a n p = product a (power p n)

-- three terms of different powers whose sum is 0 at each root: the first is 0
three_terms :
    (a b c m l k : ℕ) → a < 256 → b < 256 → c < 256 → m < 35 → l < 35 → k < 35 → m ≢ l → m ≢ k →
    AtRoots (λ p. bit_xor (term a m p) (bit_xor (term b l p) (term c k p)) ≡ 0) → a ≡ 0
three_terms a b c m l k ha hb hc hm hl hk ml mk sums =
    let two : 2 < 256 = omega arith in
    let low : 0xC3 < 256 = omega arith in
    let unit : (v n : ℕ) → v < 256 → term v n 1 ≡ v =
    λ v n h. ap (product v) (power_of_one n) ∙ product_one_right v h in
    let at_one : bit_xor a (bit_xor b c) ≡ 0 =
    sym (ap (λ v. bit_xor v (bit_xor (term b l 1) (term c k 1))) (unit a m ha)
    ∙ ap (λ v. bit_xor a (bit_xor v (term c k 1))) (unit b l hb)
    ∙ ap (λ v. bit_xor a (bit_xor b v)) (unit c k hc))
    ∙ sums.at_one in
    first_of_three a b c (power 2 m) (power 2 l) (power 2 k) (power 0xC3 m) (power 0xC3 l) (power 0xC3 k)
    ha hb hc (power_byte 2 m two) (power_byte 2 l two) (power_byte 2 k two)
    (power_byte 0xC3 m low) (power_byte 0xC3 l low) (power_byte 0xC3 k low)
    (power_apart m l hm hl ml) (power_apart m k hm hk mk)
    (power_inverse m hm) (power_inverse l hl) (power_inverse k hk)
    at_one sums.at_generator sums.at_inverse

-- how many elements are not 0
unfoldable pub weight : List ℕ → ℕ
weight [] = 0
weight (zero ∷ es) = weight es
weight (suc e ∷ es) = suc (weight es)

-- a column's first byte 0 adds nothing
value_after_zero : (p : ℕ) (es : List ℕ) → value_at p (0 ∷ es) ≡ value_at p es
value_after_zero p es =
    value_at-first p 0 es ∙ ap (λ v. bit_xor v (value_at p es)) (product_zero_left (power p (length es)))
    ∙ xor_zero_l (value_at p es)

-- with no term a value is 0
value_of_none : (p : ℕ) (es : List ℕ) → weight es ≡ 0 → value_at p es ≡ 0
unfolding weight
value_of_none p [] none = value_at-none p
value_of_none p (zero ∷ es) none = value_after_zero p es ∙ value_of_none p es none
value_of_none p (suc e ∷ es) none = absurd (cc)

-- one more term than two is not enough
not_one_more :
    (a b m l : ℕ) (es : List ℕ) → a < 256 → b < 256 → AreBytes es → a ≢ 0 →
    length es ≤ l → l < m → m < 32 → weight es ≤ 1 →
    AtRoots (λ p. bit_xor (term a m p) (bit_xor (term b l p) (value_at p es)) ≡ 0) → ⊥
unfolding weight
not_one_more a b m l [] ha hb he other short lm hm few sums =
    let none : (p : ℕ) → term 0 32 p ≡ value_at p [] =
    λ p. product_zero_left (power p 32) ∙ sym (value_at-none p) in
    let at : (p : ℕ) → bit_xor (term a m p) (bit_xor (term b l p) (value_at p [])) ≡ 0 →
    bit_xor (term a m p) (bit_xor (term b l p) (term 0 32 p)) ≡ 0 =
    λ p h. ap (λ v. bit_xor (term a m p) (bit_xor (term b l p) v)) (none p) ∙ h in
    other (three_terms a b 0 m l 32 ha hb (omega arith) (omega arith) (omega arith) (omega arith) (omega arith) (omega arith)
    (record {
      at_inverse = at 0xC3 sums.at_inverse;
      at_one = at 1 sums.at_one;
      at_generator = at 2 sums.at_generator;
    }))
not_one_more a b m l (zero ∷ es) ha hb he other short lm hm few sums =
    let at : (p : ℕ) → bit_xor (term a m p) (bit_xor (term b l p) (value_at p (zero ∷ es))) ≡ 0 →
    bit_xor (term a m p) (bit_xor (term b l p) (value_at p es)) ≡ 0 =
    λ p h. ap (λ v. bit_xor (term a m p) (bit_xor (term b l p) v)) (sym (value_after_zero p es)) ∙ h in
    not_one_more a b m l es ha hb (other_bytes 0 es he) other (omega arith) lm hm few
    (record {
      at_inverse = at 0xC3 sums.at_inverse;
      at_one = at 1 sums.at_one;
      at_generator = at 2 sums.at_generator;
    })
not_one_more a b m l (suc e ∷ es) ha hb he other short lm hm few sums =
    let k : ℕ = length es in
    let rest : (p : ℕ) → value_at p es ≡ 0 = λ p. value_of_none p es (omega arith) in
    let whole : (p : ℕ) → term (suc e) k p ≡ value_at p (suc e ∷ es) =
    λ p. sym (xor_zero_r (term (suc e) k p)) ∙ ap (bit_xor (term (suc e) k p)) (sym (rest p))
    ∙ sym (value_at-first p (suc e) es) in
    let at : (p : ℕ) → bit_xor (term a m p) (bit_xor (term b l p) (value_at p (suc e ∷ es))) ≡ 0 →
    bit_xor (term a m p) (bit_xor (term b l p) (term (suc e) k p)) ≡ 0 =
    λ p h. ap (λ v. bit_xor (term a m p) (bit_xor (term b l p) v)) (whole p) ∙ h in
    other (three_terms a b (suc e) m l k ha hb (first_byte (suc e) es he)
    (omega arith) (omega arith) (omega arith) (omega arith) (omega arith)
    (record {
      at_inverse = at 0xC3 sums.at_inverse;
      at_one = at 1 sums.at_one;
      at_generator = at 2 sums.at_generator;
    }))

not_two_more :
    (a m : ℕ) (es : List ℕ) → a < 256 → AreBytes es → a ≢ 0 →
    length es ≤ m → m < 32 → weight es ≤ 2 →
    AtRoots (λ p. bit_xor (term a m p) (value_at p es) ≡ 0) → ⊥
unfolding weight
not_two_more a m [] ha he other short hm few sums =
    let none : (p : ℕ) → bit_xor (term 0 33 p) (term 0 34 p) ≡ value_at p [] =
    λ p. ap (λ v. bit_xor v (term 0 34 p)) (product_zero_left (power p 33))
    ∙ xor_zero_l (term 0 34 p) ∙ product_zero_left (power p 34) ∙ sym (value_at-none p) in
    let at : (p : ℕ) → bit_xor (term a m p) (value_at p []) ≡ 0 →
    bit_xor (term a m p) (bit_xor (term 0 33 p) (term 0 34 p)) ≡ 0 =
    λ p h. ap (bit_xor (term a m p)) (none p) ∙ h in
    other (three_terms a 0 0 m 33 34 ha (omega arith) (omega arith) (omega arith) (omega arith) (omega arith) (omega arith) (omega arith)
    (record {
      at_inverse = at 0xC3 sums.at_inverse;
      at_one = at 1 sums.at_one;
      at_generator = at 2 sums.at_generator;
    }))
not_two_more a m (zero ∷ es) ha he other short hm few sums =
    let at : (p : ℕ) → bit_xor (term a m p) (value_at p (zero ∷ es)) ≡ 0 →
    bit_xor (term a m p) (value_at p es) ≡ 0 =
    λ p h. ap (bit_xor (term a m p)) (sym (value_after_zero p es)) ∙ h in
    not_two_more a m es ha (other_bytes 0 es he) other (omega arith) hm few
    (record {
      at_inverse = at 0xC3 sums.at_inverse;
      at_one = at 1 sums.at_one;
      at_generator = at 2 sums.at_generator;
    })
not_two_more a m (suc e ∷ es) ha he other short hm few sums =
    let at : (p : ℕ) → bit_xor (term a m p) (value_at p (suc e ∷ es)) ≡ 0 →
    bit_xor (term a m p) (bit_xor (term (suc e) (length es) p) (value_at p es)) ≡ 0 =
    λ p h. ap (bit_xor (term a m p)) (sym (value_at-first p (suc e) es)) ∙ h in
    not_one_more a (suc e) m (length es) es ha (first_byte (suc e) es he) (other_bytes (suc e) es he) other
    (omega arith) (omega arith) hm (omega arith)
    (record {
      at_inverse = at 0xC3 sums.at_inverse;
      at_one = at 1 sums.at_one;
      at_generator = at 2 sums.at_generator;
    })

-- a column of at most three bytes other than 0 whose value is 0 at each root has none
pub none_of_three :
    (es : List ℕ) → AreBytes es → length es ≤ 32 → weight es ≤ 3 →
    AtRoots (λ p. value_at p es ≡ 0) → weight es ≡ 0
unfolding weight
none_of_three [] he short few sums = refl
none_of_three (zero ∷ es) he short few sums =
    let at : (p : ℕ) → value_at p (zero ∷ es) ≡ 0 → value_at p es ≡ 0 =
    λ p h. sym (value_after_zero p es) ∙ h in
    none_of_three es (other_bytes 0 es he) (omega arith) few
    (record {
      at_inverse = at 0xC3 sums.at_inverse;
      at_one = at 1 sums.at_one;
      at_generator = at 2 sums.at_generator;
    })
none_of_three (suc e ∷ es) he short few sums =
    let at : (p : ℕ) → value_at p (suc e ∷ es) ≡ 0 →
    bit_xor (term (suc e) (length es) p) (value_at p es) ≡ 0 =
    λ p h. sym (value_at-first p (suc e) es) ∙ h in
    let some : suc e ≢ 0 = λ (q : suc e ≡ 0). cc in
    absurd (not_two_more (suc e) (length es) es (first_byte (suc e) es he) (other_bytes (suc e) es he) some
    (omega arith) (omega arith) (omega arith)
    (record {
      at_inverse = at 0xC3 sums.at_inverse;
      at_one = at 1 sums.at_one;
      at_generator = at 2 sums.at_generator;
    }))
