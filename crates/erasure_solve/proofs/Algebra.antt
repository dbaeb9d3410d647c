-- Three terms of a column at different places: each is found from the three values, and no other bytes fit.
use Rattle.std.proofs.Common.{◌≡◌, ◌≢◌, ℕ, ◌<◌, refl, sym, ◌∙◌, ap, arith, bit_xor, [], ◌∷◌}
use Rattle.std.proofs.lemmas.Nat.{xor_comm}
use Rattle.cartridge_spec.specs.Code.{product}
use Rattle.gf256_qic.specs.Code.{inverse}
use Rattle.gf256_qic.proofs.Sums.{equal_from_sum, sum_byte}
use Rattle.gf256_qic.proofs.Products.{product_byte, product_comm, product_assoc, product_one_right}
use Rattle.gf256_qic.proofs.Powers.{product_inverse, inverse_byte, inverse_unique}
use Rattle.gf256_qic.proofs.Values.{no_bytes, more_bytes}
use Rattle.erasure_solve.specs.Correction.{scale, correction}
use Rattle.erasure_solve.proofs.Ring.{Poly, var, sum, times, same_value}
use Rattle.qic_base.specs.Disk.{AreBytes}

-- the powers of three places, and their inverses
pub record Powers (x y z x' y' z' : ℕ) : Type 0 where
  pub bx : x < 256
  pub by : y < 256
  pub bz : z < 256
  pub bx' : x' < 256
  pub by' : y' < 256
  pub bz' : z' < 256
  pub xy : x ≢ y
  pub xz : x ≢ z
  pub yz : y ≢ z
  pub ix : product x x' ≡ 1
  pub iy : product y y' ≡ 1
  pub iz : product z z' ≡ 1

-- the terms of three bytes add up to the values s at r^-1, t at 1 and u at r
pub record AddUp (x y z x' y' z' a b c s t u : ℕ) : Type 0 where
  pub at_inverse : bit_xor (product a x') (bit_xor (product b y') (product c z')) ≡ s
  pub at_one : bit_xor a (bit_xor b c) ≡ t
  pub at_generator : bit_xor (product a x) (bit_xor (product b y) (product c z)) ≡ u

six_bytes : (a b c d e f : ℕ) → a < 256 → b < 256 → c < 256 → d < 256 → e < 256 → f < 256 →
    AreBytes (a ∷ b ∷ c ∷ d ∷ e ∷ f ∷ [])
six_bytes a b c d e f ha hb hc hd he hf =
    more_bytes a (b ∷ c ∷ d ∷ e ∷ f ∷ []) ha (more_bytes b (c ∷ d ∷ e ∷ f ∷ []) hb
    (more_bytes c (d ∷ e ∷ f ∷ []) hc (more_bytes d (e ∷ f ∷ []) hd
    (more_bytes e (f ∷ []) he (more_bytes f [] hf no_bytes)))))

-- y * z * s + (y + z) * t + u
abbrev mixed : ℕ → ℕ → ℕ → ℕ → ℕ → ℕ
mixed y z s t u = bit_xor (product (product y z) s) (bit_xor (product (bit_xor y z) t) u)

abbrev v0 : Poly
v0 = var 0

abbrev v1 : Poly
v1 = var 1

abbrev v2 : Poly
v2 = var 2

abbrev v3 : Poly
v3 = var 3

abbrev v4 : Poly
v4 = var 4

abbrev v5 : Poly
v5 = var 5

abbrev sum3 : Poly → Poly → Poly → Poly
sum3 p q r = sum p (sum q r)

-- the terms d, e, f of the values at r^-1, mixed so that the second and the third fall out
mixed_terms : (d e f x y z : ℕ) → d < 256 → e < 256 → f < 256 → x < 256 → y < 256 → z < 256 →
    mixed y z
    (bit_xor d (bit_xor e f))
    (bit_xor (product d x) (bit_xor (product e y) (product f z)))
    (bit_xor (product (product d x) x) (bit_xor (product (product e y) y) (product (product f z) z)))
    ≡ product d (product (bit_xor x y) (bit_xor x z))
mixed_terms d e f x y z hd he hf hx hy hz =
    same_value (d ∷ e ∷ f ∷ x ∷ y ∷ z ∷ [])
    (sum3 (times (times v4 v5) (sum3 v0 v1 v2))
    (times (sum v4 v5) (sum3 (times v0 v3) (times v1 v4) (times v2 v5)))
    (sum3 (times (times v0 v3) v3) (times (times v1 v4) v4) (times (times v2 v5) v5)))
    (times v0 (times (sum v3 v4) (sum v3 v5)))
    (six_bytes d e f x y z hd he hf hx hy hz) refl

-- p and q cancel their inverses
scaled_back : (x d p q p' q' : ℕ) → x < 256 → d < 256 → p < 256 → q < 256 → p' < 256 → q' < 256 →
    product p p' ≡ 1 → product q q' ≡ 1 →
    product (product x (product p' q')) (product d (product p q)) ≡ product d x
scaled_back x d p q p' q' hx hd hp hq hp' hq' ip iq =
    let dx : product d x < 256 = product_byte d x hd hx in
    same_value (x ∷ d ∷ p ∷ q ∷ p' ∷ q' ∷ [])
    (times (times v0 (times v4 v5)) (times v1 (times v2 v3)))
    (times (times v1 v0) (times (times v2 v4) (times v3 v5)))
    (six_bytes x d p q p' q' hx hd hp hq hp' hq') refl
    ∙ ap (λ v. product (product d x) (product v (product q q'))) ip
    ∙ ap (λ v. product (product d x) (product 1 v)) iq
    ∙ ap (product (product d x)) (product_one_right 1 (omega arith))
    ∙ product_one_right (product d x) dx

-- a byte times an inverse power, times the power
back : (a x x' : ℕ) → a < 256 → x < 256 → x' < 256 → product x x' ≡ 1 → product (product a x') x ≡ a
back a x x' ha hx hx' ix =
    product_assoc a x' x ha hx' hx ∙ ap (product a) (product_comm x' x hx' hx ∙ ix) ∙ product_one_right a ha

apart : (x y : ℕ) → x ≢ y → bit_xor x y ≢ 0
apart x y h e = h (equal_from_sum x y e)

-- no other byte than the correction fits
pub only_correction : (x y z x' y' z' a b c s t u : ℕ) → Powers x y z x' y' z' →
    a < 256 → b < 256 → c < 256 → AddUp x y z x' y' z' a b c s t u → a ≡ correction x y z s t u
unfolding scale correction
only_correction x y z x' y' z' a b c s t u p ha hb hc adds =
    let d : ℕ = product a x' in
    let e : ℕ = product b y' in
    let f : ℕ = product c z' in
    let hd : d < 256 = product_byte a x' ha p.bx' in
    let he : e < 256 = product_byte b y' hb p.by' in
    let hf : f < 256 = product_byte c z' hc p.bz' in
    let ad : product d x ≡ a = back a x x' ha p.bx p.bx' p.ix in
    let be : product e y ≡ b = back b y y' hb p.by p.by' p.iy in
    let cf : product f z ≡ c = back c z z' hc p.bz p.bz' p.iz in
    let xy : ℕ = bit_xor x y in
    let xz : ℕ = bit_xor x z in
    let hxy : xy < 256 = sum_byte x y p.bx p.by in
    let hxz : xz < 256 = sum_byte x z p.bx p.bz in
    let one : bit_xor (product d x) (bit_xor (product e y) (product f z)) ≡ t =
    ap (λ v. bit_xor v (bit_xor (product e y) (product f z))) ad
    ∙ ap (λ v. bit_xor a (bit_xor v (product f z))) be
    ∙ ap (λ v. bit_xor a (bit_xor b v)) cf
    ∙ adds.at_one in
    let generator :
    bit_xor (product (product d x) x) (bit_xor (product (product e y) y) (product (product f z) z)) ≡ u =
    ap (λ v. bit_xor (product v x) (bit_xor (product (product e y) y) (product (product f z) z))) ad
    ∙ ap (λ v. bit_xor (product a x) (bit_xor (product v y) (product (product f z) z))) be
    ∙ ap (λ v. bit_xor (product a x) (bit_xor (product b y) (product v z))) cf
    ∙ adds.at_generator in
    let mix : mixed y z s t u ≡ product d (product xy xz) =
    sym (
    ap (λ v. mixed y z v (bit_xor (product d x) (bit_xor (product e y) (product f z)))
    (bit_xor (product (product d x) x) (bit_xor (product (product e y) y) (product (product f z) z)))) adds.at_inverse
    ∙ ap (λ v. mixed y z s v
    (bit_xor (product (product d x) x) (bit_xor (product (product e y) y) (product (product f z) z)))) one
    ∙ ap (mixed y z s t) generator)
    ∙ mixed_terms d e f x y z hd he hf p.bx p.by p.bz in
    sym (
    ap (product (product x (product (inverse xy) (inverse xz)))) mix
    ∙ scaled_back x d xy xz (inverse xy) (inverse xz) p.bx hd hxy hxz (inverse_byte xy hxy) (inverse_byte xz hxz)
    (product_inverse xy hxy (apart x y p.xy)) (product_inverse xz hxz (apart x z p.xz))
    ∙ ad)

-- ---- the corrections fit

nine_bytes : (a b c d e f g h i : ℕ) → a < 256 → b < 256 → c < 256 → d < 256 → e < 256 → f < 256 →
    g < 256 → h < 256 → i < 256 → AreBytes (a ∷ b ∷ c ∷ d ∷ e ∷ f ∷ g ∷ h ∷ i ∷ [])
nine_bytes a b c d e f g h i ha hb hc hd he hf hg hh hi =
    more_bytes a (b ∷ c ∷ d ∷ e ∷ f ∷ g ∷ h ∷ i ∷ []) ha (more_bytes b (c ∷ d ∷ e ∷ f ∷ g ∷ h ∷ i ∷ []) hb
    (more_bytes c (d ∷ e ∷ f ∷ g ∷ h ∷ i ∷ []) hc (six_bytes d e f g h i hd he hf hg hh hi)))

abbrev v6 : Poly
v6 = var 6

abbrev v7 : Poly
v7 = var 7

abbrev v8 : Poly
v8 = var 8

-- three different powers' sums, and the inverses of the sums
record Sums (p q r p' q' r' : ℕ) : Type 0 where
  hp : p < 256
  hq : q < 256
  hr : r < 256
  hp' : p' < 256
  hq' : q' < 256
  hr' : r' < 256
  ip : product p p' ≡ 1
  iq : product q q' ≡ 1
  ir : product r r' ≡ 1

-- both sides divided by p * q * r
divided : (p q r p' q' r' k l m s : ℕ) → Sums p q r p' q' r' → k < 256 → l < 256 → m < 256 → s < 256 →
    bit_xor (product r k) (bit_xor (product q l) (product p m)) ≡ product s (product p (product q r)) →
    bit_xor (product (product p' q') k) (bit_xor (product (product p' r') l) (product (product q' r') m)) ≡ s
divided p q r p' q' r' k l m s h hk hl hm hs same =
    let unit : (v : ℕ) → v < 256 → product v (product 1 (product 1 1)) ≡ v =
    λ v hv. ap (λ w. product v (product 1 w)) (product_one_right 1 (omega arith))
    ∙ ap (product v) (product_one_right 1 (omega arith)) ∙ product_one_right v hv in
    let left : ℕ = product (product p' q') k in
    let middle : ℕ = product (product p' r') l in
    let right : ℕ = product (product q' r') m in
    let hleft : left < 256 = product_byte (product p' q') k (product_byte p' q' h.hp' h.hq') hk in
    let hmiddle : middle < 256 = product_byte (product p' r') l (product_byte p' r' h.hp' h.hr') hl in
    let hright : right < 256 = product_byte (product q' r') m (product_byte q' r' h.hq' h.hr') hm in
    let spread :
    product (bit_xor (product r k) (bit_xor (product q l) (product p m))) (product p' (product q' r'))
    ≡ bit_xor (product left (product r r')) (bit_xor (product middle (product q q')) (product right (product p p'))) =
    same_value (k ∷ l ∷ m ∷ p ∷ q ∷ r ∷ p' ∷ q' ∷ r' ∷ [])
    (times (sum3 (times v5 v0) (times v4 v1) (times v3 v2)) (times v6 (times v7 v8)))
    (sum3 (times (times (times v6 v7) v0) (times v5 v8)) (times (times (times v6 v8) v1) (times v4 v7))
    (times (times (times v7 v8) v2) (times v3 v6)))
    (nine_bytes k l m p q r p' q' r' hk hl hm h.hp h.hq h.hr h.hp' h.hq' h.hr') refl in
    let whole : product (product s (product p (product q r))) (product p' (product q' r'))
    ≡ product s (product (product p p') (product (product q q') (product r r'))) =
    same_value (0 ∷ 0 ∷ s ∷ p ∷ q ∷ r ∷ p' ∷ q' ∷ r' ∷ [])
    (times (times v2 (times v3 (times v4 v5))) (times v6 (times v7 v8)))
    (times v2 (times (times v3 v6) (times (times v4 v7) (times v5 v8))))
    (nine_bytes 0 0 s p q r p' q' r' (omega arith) (omega arith) hs h.hp h.hq h.hr h.hp' h.hq' h.hr') refl in
    sym (
    spread
    ∙ ap (λ v. bit_xor (product left v) (bit_xor (product middle (product q q')) (product right (product p p')))) h.ir
    ∙ ap (λ v. bit_xor (product left 1) (bit_xor (product middle v) (product right (product p p')))) h.iq
    ∙ ap (λ v. bit_xor (product left 1) (bit_xor (product middle 1) (product right v))) h.ip
    ∙ ap (λ v. bit_xor v (bit_xor (product middle 1) (product right 1))) (product_one_right left hleft)
    ∙ ap (λ v. bit_xor left (bit_xor v (product right 1))) (product_one_right middle hmiddle)
    ∙ ap (λ v. bit_xor left (bit_xor middle v)) (product_one_right right hright))
    ∙ ap (λ v. product v (product p' (product q' r'))) same
    ∙ whole
    ∙ ap (λ v. product s (product v (product (product q q') (product r r')))) h.ip
    ∙ ap (λ v. product s (product 1 (product v (product r r')))) h.iq
    ∙ ap (λ v. product s (product 1 (product 1 v))) h.ir
    ∙ unit s hs

-- the three corrections' parts of each equation, over the variables x, y, z, s, t and u
abbrev mix : Poly → Poly → Poly
mix y z = sum3 (times (times y z) v3) (times (sum y z) v4) v5

abbrev cleared : Poly → Poly → Poly → Poly
cleared k l m = sum3 (times (sum v1 v2) k) (times (sum v0 v2) l) (times (sum v0 v1) m)

abbrev times_sums : Poly → Poly
times_sums p = times p (times (sum v0 v1) (times (sum v0 v2) (sum v1 v2)))

-- the three mixed values, multiplied out, at each root
record Cleared (x y z s t u : ℕ) : Type 0 where
  at_inverse :
      bit_xor (product (bit_xor y z) (mixed y z s t u))
      (bit_xor (product (bit_xor x z) (mixed x z s t u)) (product (bit_xor x y) (mixed x y s t u)))
      ≡ product s (product (bit_xor x y) (product (bit_xor x z) (bit_xor y z)))
  at_one :
      bit_xor (product (bit_xor y z) (product x (mixed y z s t u)))
      (bit_xor (product (bit_xor x z) (product y (mixed x z s t u))) (product (bit_xor x y) (product z (mixed x y s t u))))
      ≡ product t (product (bit_xor x y) (product (bit_xor x z) (bit_xor y z)))
  at_generator :
      bit_xor (product (bit_xor y z) (product (product x x) (mixed y z s t u)))
      (bit_xor (product (bit_xor x z) (product (product y y) (mixed x z s t u)))
      (product (bit_xor x y) (product (product z z) (mixed x y s t u))))
      ≡ product u (product (bit_xor x y) (product (bit_xor x z) (bit_xor y z)))

cleared_sums : (x y z s t u : ℕ) → AreBytes (x ∷ y ∷ z ∷ s ∷ t ∷ u ∷ []) → Cleared x y z s t u
cleared_sums x y z s t u all = record {
  at_inverse = same_value (x ∷ y ∷ z ∷ s ∷ t ∷ u ∷ [])
      (cleared (mix v1 v2) (mix v0 v2) (mix v0 v1)) (times_sums v3) all refl;
  at_one = same_value (x ∷ y ∷ z ∷ s ∷ t ∷ u ∷ [])
      (cleared (times v0 (mix v1 v2)) (times v1 (mix v0 v2)) (times v2 (mix v0 v1))) (times_sums v4) all refl;
  at_generator = same_value (x ∷ y ∷ z ∷ s ∷ t ∷ u ∷ [])
      (cleared (times (times v0 v0) (mix v1 v2)) (times (times v1 v1) (mix v0 v2)) (times (times v2 v2) (mix v0 v1)))
      (times_sums v5) all refl;
}

-- a correction's parts of the three equations
record Parts (a x x' g m : ℕ) : Type 0 where
  at_inverse : product a x' ≡ product g m
  at_one : a ≡ product g (product x m)
  at_generator : product a x ≡ product g (product (product x x) m)

parts_of : (a x x' g m : ℕ) → x < 256 → x' < 256 → g < 256 → m < 256 → product x x' ≡ 1 →
    a ≡ product (product x g) m → Parts a x x' g m
parts_of a x x' g m hx hx' hg hm ix e =
    let gm : product g m < 256 = product_byte g m hg hm in
    let all : AreBytes (x ∷ x' ∷ g ∷ m ∷ 0 ∷ 0 ∷ []) =
    six_bytes x x' g m 0 0 hx hx' hg hm (omega arith) (omega arith) in
    record {
      at_inverse =
          ap (λ v. product v x') e
          ∙ same_value (x ∷ x' ∷ g ∷ m ∷ 0 ∷ 0 ∷ []) (times (times (times v0 v2) v3) v1)
          (times (times v2 v3) (times v0 v1)) all refl
          ∙ ap (product (product g m)) ix ∙ product_one_right (product g m) gm;
      at_one =
          e ∙ same_value (x ∷ x' ∷ g ∷ m ∷ 0 ∷ 0 ∷ []) (times (times v0 v2) v3) (times v2 (times v0 v3)) all refl;
      at_generator =
          ap (λ v. product v x) e
          ∙ same_value (x ∷ x' ∷ g ∷ m ∷ 0 ∷ 0 ∷ []) (times (times (times v0 v2) v3) v0)
          (times v2 (times (times v0 v0) v3)) all refl;
    }

mixed_byte : (y z s t u : ℕ) → y < 256 → z < 256 → s < 256 → t < 256 → u < 256 → mixed y z s t u < 256
mixed_byte y z s t u hy hz hs ht hu =
    sum_byte (product (product y z) s) (bit_xor (product (bit_xor y z) t) u)
    (product_byte (product y z) s (product_byte y z hy hz) hs)
    (sum_byte (product (bit_xor y z) t) u (product_byte (bit_xor y z) t (sum_byte y z hy hz) ht) hu)

-- the three corrections add up to the three values
pub corrections_fit : (x y z x' y' z' s t u : ℕ) → Powers x y z x' y' z' → s < 256 → t < 256 → u < 256 →
    AddUp x y z x' y' z' (correction x y z s t u) (correction y x z s t u) (correction z x y s t u) s t u
unfolding scale correction
corrections_fit x y z x' y' z' s t u w hs ht hu =
    let p : ℕ = bit_xor x y in
    let q : ℕ = bit_xor x z in
    let r : ℕ = bit_xor y z in
    let p' : ℕ = inverse p in
    let q' : ℕ = inverse q in
    let r' : ℕ = inverse r in
    let hp : p < 256 = sum_byte x y w.bx w.by in
    let hq : q < 256 = sum_byte x z w.bx w.bz in
    let hr : r < 256 = sum_byte y z w.by w.bz in
    let hp' : p' < 256 = inverse_byte p hp in
    let hq' : q' < 256 = inverse_byte q hq in
    let hr' : r' < 256 = inverse_byte r hr in
    let k : ℕ = mixed y z s t u in
    let l : ℕ = mixed x z s t u in
    let m : ℕ = mixed x y s t u in
    let hk : k < 256 = mixed_byte y z s t u w.by w.bz hs ht hu in
    let hl : l < 256 = mixed_byte x z s t u w.bx w.bz hs ht hu in
    let hm : m < 256 = mixed_byte x y s t u w.bx w.by hs ht hu in
    let sums : Sums p q r p' q' r' = record {
      hp = hp;
      hq = hq;
      hr = hr;
      hp' = hp';
      hq' = hq';
      hr' = hr';
      ip = product_inverse p hp (apart x y w.xy);
      iq = product_inverse q hq (apart x z w.xz);
      ir = product_inverse r hr (apart y z w.yz);
    } in
    let eqs : Cleared x y z s t u = cleared_sums x y z s t u (six_bytes x y z s t u w.bx w.by w.bz hs ht hu) in
    let a : ℕ = correction x y z s t u in
    let b : ℕ = correction y x z s t u in
    let c : ℕ = correction z x y s t u in
    let first : Parts a x x' (product p' q') k =
    parts_of a x x' (product p' q') k w.bx w.bx' (product_byte p' q' hp' hq') hk w.ix refl in
    let second : Parts b y y' (product p' r') l =
    parts_of b y y' (product p' r') l w.by w.by' (product_byte p' r' hp' hr') hl w.iy
    (ap (λ v. product (product y (product (inverse v) r')) l) (xor_comm y x)) in
    let third : Parts c z z' (product q' r') m =
    parts_of c z z' (product q' r') m w.bz w.bz' (product_byte q' r' hq' hr') hm w.iz
    (ap (λ v. product (product z (product (inverse v) (inverse (bit_xor z y)))) m) (xor_comm z x)
    ∙ ap (λ v. product (product z (product q' (inverse v))) m) (xor_comm z y)) in
    record {
      at_inverse =
          ap (λ v. bit_xor v (bit_xor (product b y') (product c z'))) first.at_inverse
          ∙ ap (λ v. bit_xor (product (product p' q') k) (bit_xor v (product c z'))) second.at_inverse
          ∙ ap (λ v. bit_xor (product (product p' q') k) (bit_xor (product (product p' r') l) v)) third.at_inverse
          ∙ divided p q r p' q' r' k l m s sums hk hl hm hs eqs.at_inverse;
      at_one =
          ap (λ v. bit_xor v (bit_xor b c)) first.at_one
          ∙ ap (λ v. bit_xor (product (product p' q') (product x k)) (bit_xor v c)) second.at_one
          ∙ ap (λ v. bit_xor (product (product p' q') (product x k)) (bit_xor (product (product p' r') (product y l)) v)) third.at_one
          ∙ divided p q r p' q' r' (product x k) (product y l) (product z m) t sums
          (product_byte x k w.bx hk) (product_byte y l w.by hl) (product_byte z m w.bz hm) ht eqs.at_one;
      at_generator =
          ap (λ v. bit_xor v (bit_xor (product b y) (product c z))) first.at_generator
          ∙ ap (λ v. bit_xor (product (product p' q') (product (product x x) k)) (bit_xor v (product c z))) second.at_generator
          ∙ ap (λ v. bit_xor (product (product p' q') (product (product x x) k))
          (bit_xor (product (product p' r') (product (product y y) l)) v)) third.at_generator
          ∙ divided p q r p' q' r' (product (product x x) k) (product (product y y) l) (product (product z z) m) u sums
          (product_byte (product x x) k (product_byte x x w.bx w.bx) hk)
          (product_byte (product y y) l (product_byte y y w.by w.by) hl)
          (product_byte (product z z) m (product_byte z z w.bz w.bz) hm) hu eqs.at_generator;
    }

-- the scale, where i and j are the two inverses
pub scale_from : (x y z i j : ℕ) → x < 256 → y < 256 → z < 256 → i < 256 → j < 256 → x ≢ y → x ≢ z →
    product (bit_xor x y) i ≡ 1 → product (bit_xor x z) j ≡ 1 → product x (product i j) ≡ scale x y z
unfolding scale
scale_from x y z i j hx hy hz hi hj xy xz ei ej =
    let first : i ≡ inverse (bit_xor x y) =
    inverse_unique (bit_xor x y) i (sum_byte x y hx hy) hi (apart x y xy) ei in
    let second : j ≡ inverse (bit_xor x z) =
    inverse_unique (bit_xor x z) j (sum_byte x z hx hz) hj (apart x z xz) ej in
    ap (λ v. product x (product v j)) first ∙ ap (λ v. product x (product (inverse (bit_xor x y)) v)) second

pub scale_byte : (x y z : ℕ) → x < 256 → y < 256 → z < 256 → scale x y z < 256
unfolding scale
scale_byte x y z hx hy hz =
    product_byte x (product (inverse (bit_xor x y)) (inverse (bit_xor x z))) hx
    (product_byte (inverse (bit_xor x y)) (inverse (bit_xor x z))
    (inverse_byte (bit_xor x y) (sum_byte x y hx hy)) (inverse_byte (bit_xor x z) (sum_byte x z hx hz)))

-- the values times their factors
pub correction_from : (x y z s t u k l m : ℕ) → x < 256 → y < 256 → z < 256 → s < 256 → t < 256 → u < 256 →
    k ≡ product (scale x y z) (product y z) → l ≡ product (scale x y z) (bit_xor y z) → m ≡ scale x y z →
    bit_xor (bit_xor (product k s) (product l t)) (product m u) ≡ correction x y z s t u
unfolding correction
correction_from x y z s t u k l m hx hy hz hs ht hu ek el em =
    let f : ℕ = scale x y z in
    ap (λ v. bit_xor (bit_xor (product v s) (product l t)) (product m u)) ek
    ∙ ap (λ v. bit_xor (bit_xor (product (product f (product y z)) s) (product v t)) (product m u)) el
    ∙ ap (λ v. bit_xor (bit_xor (product (product f (product y z)) s) (product (product f (bit_xor y z)) t)) (product v u)) em
    ∙ same_value (f ∷ y ∷ z ∷ s ∷ t ∷ u ∷ [])
    (sum (sum (times (times v0 (times v1 v2)) v3) (times (times v0 (sum v1 v2)) v4)) (times v0 v5))
    (times v0 (mix v1 v2))
    (six_bytes f y z s t u (scale_byte x y z hx hy hz) hy hz hs ht hu) refl

pub correction_byte : (x y z s t u : ℕ) → x < 256 → y < 256 → z < 256 → s < 256 → t < 256 → u < 256 → correction x y z s t u < 256
unfolding correction
correction_byte x y z s t u hx hy hz hs ht hu =
    product_byte (scale x y z) (mixed y z s t u) (scale_byte x y z hx hy hz) (mixed_byte y z s t u hy hz hs ht hu)
