-- Changed sectors are a code block, and a code block that agrees asks for the corrections that were found.
use Rattle.std.proofs.Common.{◌≡◌, ◌≢◌, ℕ, zero, suc, ◌+◌, ◌-◌, ◌<◌, ◌≤◌, refl, sym, ◌∙◌, ap, subst, arith, inl, inr, bit_xor, List, []}
use Rattle.std.proofs.Common.{◌∷◌, length, All, get_or, set, slice_get, slice_index, get_or-set_same, get_or-set_other, Some, false}
use Rattle.std.proofs.Common.{zero-add, ◌/◌, ◌%◌, ◌^◌}
use Rattle.std.specs.Int.Bits.{xor_assoc, xor_self, xor_zero_l}
use Rattle.std.proofs.Math.ListN.{length-set}
use Rattle.std.proofs.Math.Nat.{zero-div}
use Rattle.std.proofs.lemmas.Nat.{xor_comm}
use Rattle.std.proofs.lemmas.Bool.{cases_eq, cases_lt, cases_Bool, false≢true, ne_eqb}
use Rattle.std.proofs.lemmas.List.{same_lists, map-set}
use Rattle.std.proofs.lemmas.List.Elements.{All-get_or, All-from_get_or, All-set}
use Rattle.std.proofs.lemmas.List.FromFn.{get_or-map-range_with_len}
use Rattle.std.proofs.lemmas.Option.{slice_get-get_or}
use Rattle.cartridge_spec.specs.Code.{product, power, value_at, column, IsCodeword, IsCodeBlock}
use Rattle.qic_base.specs.Cartridge.{IsSector}
use Rattle.gf256_qic.specs.Code.{AgreesOutside, IsSolvable, lost_below}
use Rattle.gf256_qic.proofs.Sums.{sum_byte, sum_cancel, equal_from_sum}
use Rattle.gf256_qic.proofs.Products.{product_byte, product_assoc, product_zero_left, product_one_right}
use Rattle.gf256_qic.proofs.Powers.{power_byte}
use Rattle.gf256_qic.proofs.Values.{value_at-byte, value_at-set}
use Rattle.gf256_qic.proofs.Distance.{power_apart, power_inverse, power_of_one}
use Rattle.gf256_qic.proofs.Agreement.{length-column, get_or-column, any_default, columns_agree, one_block}
use Rattle.gf256_qic.proofs.Parities.{bytes_of_column, block_count}
use Rattle.erasure_solve.specs.Lost.{lost_count}
use Rattle.erasure_solve.specs.Rows.{AreValues, AddsRow, weighed_sum, weighed_byte, weighed_row}
use Rattle.erasure_solve.specs.Correction.{scale, correction, correction_factors, Corrections, IsCorrection, AreDegrees, Found, FitsDegree}
use Rattle.erasure_solve.specs.Correction.{Agree, Applied, AllApplied}
use Rattle.erasure_solve.specs.declared.values.Values.{Values}
use Rattle.erasure_solve.proofs.Algebra.{Powers, AddUp, scale_byte, only_correction, corrections_fit, correction_byte, correction_from}
use Rattle.erasure_solve.proofs.Places.{lost_below-count}
use Rattle.qic_base.specs.Disk.{AreBytes}
use Rattle.qic_base.specs.CartridgeTerms.{is_lost}
use Rattle.qic_base.proofs.Arrays.{slice_get-set_other}

-- ---- the corrections from the values

pub get_or-weighed_row : (values : Values) (factors : List ℕ) (j : ℕ) → j < 1024 →
    get_or (weighed_row values factors) j 0 ≡ weighed_byte values factors j
unfolding weighed_row
get_or-weighed_row values factors j h = get_or-map-range_with_len (weighed_byte values factors) 0 1024 j j 0 h (zero-add j)

pub is_correction :
    (values : Values) (ss : List (List ℕ)) (d e f : ℕ) (factors : List ℕ) → All IsSector ss → AreValues values ss →
    factors ≡ correction_factors (power 2 d) (power 2 e) (power 2 f) → IsCorrection ss d e f (weighed_row values factors)
unfolding weighed_sum
is_correction values ss d e f factors all are same = record {
  each = λ j h.
      let two : 2 < 256 = omega arith in
      let x : ℕ = power 2 d in
      let y : ℕ = power 2 e in
      let z : ℕ = power 2 f in
      let cs : List ℕ = column j ss in
      let bytes : AreBytes cs = bytes_of_column j ss h all in
      let s : ℕ = value_at 0xC3 cs in
      let t : ℕ = value_at 1 cs in
      let u : ℕ = value_at 2 cs in
      let k : ℕ = get_or (correction_factors x y z) 0 0 in
      let l : ℕ = get_or (correction_factors x y z) 1 0 in
      let m : ℕ = get_or (correction_factors x y z) 2 0 in
      let hx : x < 256 = power_byte 2 d two in
      let hy : y < 256 = power_byte 2 e two in
      let hz : z < 256 = power_byte 2 f two in
      let hk : k < 256 = product_byte (scale x y z) (product y z) (scale_byte x y z hx hy hz) (product_byte y z hy hz) in
      let at_inverse : product (product k values.scale) (get_or values.reversed j 0) ≡ product k s =
      product_assoc k values.scale (get_or values.reversed j 0) hk are.scale (are.bytes j h) ∙ ap (product k) (are.at_inverse j h) in
      get_or-weighed_row values factors j h
      ∙ ap (λ (fs : List ℕ). weighed_byte values fs j) same
      ∙ ap (λ v. bit_xor (bit_xor v (product l (get_or values.at_one j 0))) (product m (get_or values.at_generator j 0)))
      at_inverse
      ∙ ap (λ v. bit_xor (bit_xor (product k s) (product l v)) (product m (get_or values.at_generator j 0))) (are.at_one.each j h)
      ∙ ap (λ v. bit_xor (bit_xor (product k s) (product l t)) (product m v)) (are.at_generator.each j h)
      ∙ correction_from x y z s t u k l m (power_byte 2 d two) (power_byte 2 e two) (power_byte 2 f two)
      (value_at-byte 0xC3 cs (omega arith) bytes) (value_at-byte 1 cs (omega arith) bytes) (value_at-byte 2 cs two bytes)
      refl refl refl;
}

-- ---- one correction

pub any_default_of : (xs : List (List ℕ)) (i : ℕ) (d e : List ℕ) → i < length xs → get_or xs i d ≡ get_or xs i e
any_default_of xs i d e h =
    let here : Some (get_or xs i d) ≡ Some (get_or xs i e) = sym (slice_get-get_or xs i d h) ∙ slice_get-get_or xs i e h in
    cc

pub none_lost : (i : ℕ) → is_lost 0 i ≡ false
none_lost i = ne_eqb (0 / 2 ^ i % 2) 1 (λ e. absurd (omega (arith, zero-div (2 ^ i))))

column-set : (j i : ℕ) (ss : List (List ℕ)) (s : List ℕ) → column j (set ss i s) ≡ set (column j ss) i (get_or s j 0)
unfolding column
column-set j i ss s = map-set (λ (r : List ℕ). slice_index r j) ss i s

-- what a correction that fits does to a segment
pub record Moves (degree : ℕ) (row : List ℕ) (old new : List (List ℕ)) : Type 0 where
  pub size : length new ≡ length old
  pub sectors : All IsSector new
  pub value : (p j : ℕ) → j < 1024 →
      value_at p (column j new) ≡ bit_xor (product (get_or row j 0) (power p degree)) (value_at p (column j old))
  pub others : (i : ℕ) → degree + i + 1 ≢ length old → slice_get new i ≡ slice_get old i

moves : (degree : ℕ) (row : List ℕ) (old new : List (List ℕ)) → All IsSector old →
    ((j : ℕ) → j < 1024 → get_or row j 0 < 256) → (degree < 32 → degree < length old) →
    FitsDegree degree row → Applied degree row old new → Moves degree row old new
moves degree row old new all bytes inside fits applied =
    elim (cases_lt degree 32) [
      | inl low ↦
          let place : ℕ = length old - 1 - degree in
          let done = applied.within low in
          let s : List ℕ = done.0 in
          let new_is : new ≡ set old place s = done.1 in
          let adds : AddsRow row (get_or old place s) s = done.2 in
          let real : degree < length old = inside low in
          let at : place + suc degree ≡ length old = omega arith in
          let lt : place < length old = omega arith in
          let before : IsSector (get_or old place s) = All-get_or IsSector old place s lt all in
          let size : length s ≡ 1024 = adds.size in
          let before_size : length (get_or old place s) ≡ 1024 = before.size in
          let after : IsSector s = record {
            size = size;
            each = All-from_get_or (λ b. b < 256) s 0 (λ j h.
                let within : j < 1024 = omega arith in
                let P : ℕ → Type 0 = λ v. v < 256 in
                subst P (sym (adds.each j within))
                (sum_byte (get_or (get_or old place s) j 0) (get_or row j 0)
                (All-get_or P (get_or old place s) j 0 (omega arith) before.each) (bytes j within)));
          } in
          record {
            size = ap (λ (ss : List (List ℕ)). length ss) new_is ∙ length-set old place s;
            sectors = subst (λ (ss : List (List ℕ)). All IsSector ss) (sym new_is) (All-set IsSector old place s after all);
            value = λ p j h.
                let cs : List ℕ = column j old in
                let count : length cs ≡ length old = length-column j old in
                let o : ℕ = get_or (get_or old place s) j 0 in
                let here : get_or cs place 0 ≡ o = get_or-column j old place s 0 lt in
                let sum : bit_xor (get_or cs place 0) (get_or s j 0) ≡ get_or row j 0 =
                ap (λ v. bit_xor v (get_or s j 0)) here ∙ ap (bit_xor o) (adds.each j h) ∙ sum_cancel o (get_or row j 0) in
                ap (λ (ss : List (List ℕ)). value_at p (column j ss)) new_is
                ∙ ap (value_at p) (column-set j place old s)
                ∙ value_at-set p cs place degree (get_or s j 0) (omega arith)
                ∙ ap (λ v. bit_xor (product v (power p degree)) (value_at p cs)) sum;
            others = λ i ne.
                ap (λ (ss : List (List ℕ)). slice_get ss i) new_is
                ∙ slice_get-set_other old place i s (λ e. ne (omega arith));
          }
      | inr high ↦
          let same : new ≡ old = applied.beyond high in
          record {
            size = ap (λ (ss : List (List ℕ)). length ss) same;
            sectors = subst (λ (ss : List (List ℕ)). All IsSector ss) (sym same) all;
            value = λ p j h.
                ap (λ (ss : List (List ℕ)). value_at p (column j ss)) same
                ∙ sym (
                ap (λ v. bit_xor (product v (power p degree)) (value_at p (column j old))) ((fits.nothing high).each j h)
                ∙ ap (λ v. bit_xor v (value_at p (column j old))) (product_zero_left (power p degree))
                ∙ xor_zero_l (value_at p (column j old)));
            others = λ i ne. ap (λ (ss : List (List ℕ)). slice_get ss i) same;
          }
    ]

-- ---- the three places' powers

-- degrees below 35, no two the same
pub record ThreeDegrees (d e f : ℕ) : Type 0 where
  pub hd : d < 35
  pub he : e < 35
  pub hf : f < 35
  pub de : d ≢ e
  pub df : d ≢ f
  pub ef : e ≢ f

pub three_degrees : (mask count d e f : ℕ) → AreDegrees mask count (d ∷ e ∷ f ∷ []) → ThreeDegrees d e f
three_degrees mask count d e f degrees = record {
  hd = degrees.small 0 (omega arith);
  he = degrees.small 1 (omega arith);
  hf = degrees.small 2 (omega arith);
  de = degrees.apart 0 1 (omega arith) (omega arith) (omega arith);
  df = degrees.apart 0 2 (omega arith) (omega arith) (omega arith);
  ef = degrees.apart 1 2 (omega arith) (omega arith) (omega arith);
}

-- the second of three degrees put first, or the third
second_ahead : (d e f : ℕ) → ThreeDegrees d e f → ThreeDegrees e d f
second_ahead d e f t = record { hd = t.he; he = t.hd; hf = t.hf; de = λ eq. t.de (sym eq); df = t.ef; ef = t.df }

third_ahead : (d e f : ℕ) → ThreeDegrees d e f → ThreeDegrees f d e
third_ahead d e f t = record { hd = t.hf; he = t.hd; hf = t.he; de = λ eq. t.df (sym eq); df = λ eq. t.ef (sym eq); ef = t.de }

powers_of : (d e f : ℕ) → ThreeDegrees d e f →
    Powers (power 2 d) (power 2 e) (power 2 f) (power 0xC3 d) (power 0xC3 e) (power 0xC3 f)
powers_of d e f t =
    let two : 2 < 256 = omega arith in
    let low : 0xC3 < 256 = omega arith in
    record {
      bx = power_byte 2 d two;
      by = power_byte 2 e two;
      bz = power_byte 2 f two;
      bx' = power_byte 0xC3 d low;
      by' = power_byte 0xC3 e low;
      bz' = power_byte 0xC3 f low;
      xy = power_apart d e t.hd t.he t.de;
      xz = power_apart d f t.hd t.hf t.df;
      yz = power_apart e f t.he t.hf t.ef;
      ix = power_inverse d t.hd;
      iy = power_inverse e t.he;
      iz = power_inverse f t.hf;
    }

-- a term at the root 1
term_at_one : (a n : ℕ) → a < 256 → product a (power 1 n) ≡ a
term_at_one a n h = ap (product a) (power_of_one n) ∙ product_one_right a h

-- a value and three terms that add up to it
cancelled : (a b c v : ℕ) → bit_xor a (bit_xor b c) ≡ v → bit_xor c (bit_xor b (bit_xor a v)) ≡ 0
cancelled a b c v h =
    ap (λ w. bit_xor c (bit_xor b (bit_xor a w))) (sym h)
    ∙ ap (λ w. bit_xor c (bit_xor b w)) (sum_cancel a (bit_xor b c))
    ∙ ap (bit_xor c) (sum_cancel b c)
    ∙ xor_self c

-- three terms that cancel a value add up to it
added_up : (a b c v : ℕ) → bit_xor c (bit_xor b (bit_xor a v)) ≡ 0 → bit_xor a (bit_xor b c) ≡ v
added_up a b c v h =
    let first : c ≡ bit_xor b (bit_xor a v) = equal_from_sum c (bit_xor b (bit_xor a v)) h in
    ap (λ w. bit_xor a (bit_xor b w)) first
    ∙ ap (bit_xor a) (sum_cancel b (bit_xor a v))
    ∙ sum_cancel a v

-- the third correction is what the others leave of the value at 1
pub third_from_others : (ss : List (List ℕ)) (d e f j : ℕ) → ThreeDegrees d e f → All IsSector ss → j < 1024 →
    let Made : ℕ → ℕ → ℕ → ℕ = λ own other third. correction (power 2 own) (power 2 other) (power 2 third)
    (value_at 0xC3 (column j ss)) (value_at 1 (column j ss)) (value_at 2 (column j ss)) in
    bit_xor (bit_xor (Made d e f) (Made e d f)) (value_at 1 (column j ss)) ≡ Made f d e
third_from_others ss d e f j places all h =
    let cs : List ℕ = column j ss in
    let bytes : AreBytes cs = bytes_of_column j ss h all in
    let s : ℕ = value_at 0xC3 cs in
    let t : ℕ = value_at 1 cs in
    let u : ℕ = value_at 2 cs in
    let a : ℕ = correction (power 2 d) (power 2 e) (power 2 f) s t u in
    let b : ℕ = correction (power 2 e) (power 2 d) (power 2 f) s t u in
    let c : ℕ = correction (power 2 f) (power 2 d) (power 2 e) s t u in
    let fit : AddUp (power 2 d) (power 2 e) (power 2 f) (power 0xC3 d) (power 0xC3 e) (power 0xC3 f) a b c s t u =
    corrections_fit (power 2 d) (power 2 e) (power 2 f) (power 0xC3 d) (power 0xC3 e) (power 0xC3 f) s t u
    (powers_of d e f places) (value_at-byte 0xC3 cs (omega arith) bytes) (value_at-byte 1 cs (omega arith) bytes)
    (value_at-byte 2 cs (omega arith) bytes) in
    ap (bit_xor (bit_xor a b)) (sym fit.at_one ∙ sym (xor_assoc a b c)) ∙ sum_cancel (bit_xor a b) c

-- ---- made corrections give a code block

pub made_block :
    (mask : ℕ) (old new : List (List ℕ)) (corrections : Corrections) → 4 ≤ length old → length old ≤ 32 →
    Found mask old corrections → Agree corrections → AllApplied corrections old new →
    IsCodeBlock new × AgreesOutside (is_lost mask) old new
made_block mask old new corrections least most found agree applied =
    let d : ℕ = corrections.first.degree in
    let e : ℕ = corrections.second.degree in
    let f : ℕ = corrections.third.degree in
    let degrees : AreDegrees mask (length old) (d ∷ e ∷ f ∷ []) = found.degrees in
    let places : ThreeDegrees d e f = three_degrees mask (length old) d e f degrees in
    let two : 2 < 256 = omega arith in
    let low : 0xC3 < 256 = omega arith in
    let x : ℕ = power 2 d in
    let y : ℕ = power 2 e in
    let z : ℕ = power 2 f in
    let hx : x < 256 = power_byte 2 d two in
    let hy : y < 256 = power_byte 2 e two in
    let hz : z < 256 = power_byte 2 f two in
    let s : ℕ → ℕ = λ j. value_at 0xC3 (column j old) in
    let t : ℕ → ℕ = λ j. value_at 1 (column j old) in
    let u : ℕ → ℕ = λ j. value_at 2 (column j old) in
    let bytes : (j : ℕ) → j < 1024 → AreBytes (column j old) = λ j h. bytes_of_column j old h found.sectors_fit in
    let hs : (j : ℕ) → j < 1024 → s j < 256 = λ j h. value_at-byte 0xC3 (column j old) low (bytes j h) in
    let ht : (j : ℕ) → j < 1024 → t j < 256 = λ j h. value_at-byte 1 (column j old) (omega arith) (bytes j h) in
    let hu : (j : ℕ) → j < 1024 → u j < 256 = λ j h. value_at-byte 2 (column j old) two (bytes j h) in
    let P : ℕ → Type 0 = λ v. v < 256 in
    let first_byte : (j : ℕ) → j < 1024 → get_or corrections.first.bytes j 0 < 256 =
    λ j h. subst P (sym (found.first.each j h)) (correction_byte x y z (s j) (t j) (u j) hx hy hz (hs j h) (ht j h) (hu j h)) in
    let second_byte : (j : ℕ) → j < 1024 → get_or corrections.second.bytes j 0 < 256 =
    λ j h. subst P (sym (found.second.each j h)) (correction_byte y x z (s j) (t j) (u j) hy hx hz (hs j h) (ht j h) (hu j h)) in
    let third_byte : (j : ℕ) → j < 1024 → get_or corrections.third.bytes j 0 < 256 =
    λ j h. subst P (sym (found.third.each j h)) (correction_byte z x y (s j) (t j) (u j) hz hx hy (hs j h) (ht j h) (hu j h)) in
    let one : Moves d corrections.first.bytes old applied.once =
    moves d corrections.first.bytes old applied.once found.sectors_fit first_byte
    (λ h. degrees.within 0 (omega arith) h) agree.first applied.first in
    let size1 : length applied.once ≡ length old = one.size in
    let then : Moves e corrections.second.bytes applied.once applied.twice =
    moves e corrections.second.bytes applied.once applied.twice one.sectors second_byte
    (λ h. let real : e < length old = degrees.within 1 (omega arith) h in omega arith) agree.second applied.second in
    let size2 : length applied.twice ≡ length applied.once = then.size in
    let last : Moves f corrections.third.bytes applied.twice new =
    moves f corrections.third.bytes applied.twice new then.sectors third_byte
    (λ h. let real : f < length old = degrees.within 2 (omega arith) h in omega arith) agree.third applied.third in
    let size3 : length new ≡ length applied.twice = last.size in
    let value : (p j : ℕ) → j < 1024 → value_at p (column j new) ≡
    bit_xor (product (get_or corrections.third.bytes j 0) (power p f))
    (bit_xor (product (get_or corrections.second.bytes j 0) (power p e))
    (bit_xor (product (get_or corrections.first.bytes j 0) (power p d)) (value_at p (column j old)))) =
    λ p j h.
    last.value p j h
    ∙ ap (bit_xor (product (get_or corrections.third.bytes j 0) (power p f)))
    (then.value p j h
    ∙ ap (bit_xor (product (get_or corrections.second.bytes j 0) (power p e))) (one.value p j h)) in
    let adds : (j : ℕ) → j < 1024 → AddUp x y z (power 0xC3 d) (power 0xC3 e) (power 0xC3 f)
    (get_or corrections.first.bytes j 0) (get_or corrections.second.bytes j 0) (get_or corrections.third.bytes j 0) (s j) (t j) (u j) =
    λ j h.
    let Q : ℕ → ℕ → ℕ → Type 0 =
    λ a b c. AddUp x y z (power 0xC3 d) (power 0xC3 e) (power 0xC3 f) a b c (s j) (t j) (u j) in
    let a : ℕ = correction x y z (s j) (t j) (u j) in
    let b : ℕ = correction y x z (s j) (t j) (u j) in
    let c : ℕ = correction z x y (s j) (t j) (u j) in
    let fit : Q a b c =
    corrections_fit x y z (power 0xC3 d) (power 0xC3 e) (power 0xC3 f) (s j) (t j) (u j)
    (powers_of d e f places) (hs j h) (ht j h) (hu j h) in
    subst (λ (v : ℕ). Q v (get_or corrections.second.bytes j 0) (get_or corrections.third.bytes j 0)) (sym (found.first.each j h))
    (subst (λ (v : ℕ). Q a v (get_or corrections.third.bytes j 0)) (sym (found.second.each j h))
    (subst (λ (v : ℕ). Q a b v) (sym (found.third.each j h)) fit)) in
    let block : IsCodeBlock new = record {
      sectors = last.sectors;
      columns = λ j h.
          let count : length (column j new) ≡ length new = length-column j new in
          let a : ℕ = get_or corrections.first.bytes j 0 in
          let b : ℕ = get_or corrections.second.bytes j 0 in
          let c : ℕ = get_or corrections.third.bytes j 0 in
          record {
            least = omega arith;
            most = omega arith;
            bytes = bytes_of_column j new h last.sectors;
            at_inverse =
                value 0xC3 j h
                ∙ cancelled (product a (power 0xC3 d)) (product b (power 0xC3 e)) (product c (power 0xC3 f)) (s j)
                (adds j h).at_inverse;
            at_one =
                value 1 j h
                ∙ ap (λ v. bit_xor v (bit_xor (product b (power 1 e)) (bit_xor (product a (power 1 d)) (t j))))
                (term_at_one c f (third_byte j h))
                ∙ ap (λ v. bit_xor c (bit_xor v (bit_xor (product a (power 1 d)) (t j)))) (term_at_one b e (second_byte j h))
                ∙ ap (λ v. bit_xor c (bit_xor b (bit_xor v (t j)))) (term_at_one a d (first_byte j h))
                ∙ cancelled a b c (t j) (adds j h).at_one;
            at_generator =
                value 2 j h
                ∙ cancelled (product a x) (product b y) (product c z) (u j) (adds j h).at_generator;
          };
    } in
    let outside : AgreesOutside (is_lost mask) old new = record {
      size = sym (size3 ∙ size2 ∙ size1);
      others = λ i h kept.
          let away : (k : ℕ) → k < 3 → get_or (d ∷ e ∷ f ∷ []) k 0 + i + 1 ≢ length old =
          λ k hk at. false≢true (sym kept ∙ degrees.of_lost k i hk at) in
          let away0 : d + i + 1 ≢ length old = away 0 (omega arith) in
          let away1 : e + i + 1 ≢ length old = away 1 (omega arith) in
          let away2 : f + i + 1 ≢ length old = away 2 (omega arith) in
          sym (
          last.others i (λ at. away2 (at ∙ size2 ∙ size1))
          ∙ then.others i (λ at. away1 (at ∙ size1))
          ∙ one.others i away0);
    } in
    (block, outside)

-- ---- a code block that agrees asks for the corrections that were found

-- a column's byte at the place of a degree, if there is one, made that of another column
record Step (degree : ℕ) (ds cs : List ℕ) : Type 0 where
  next : List ℕ
  byte : ℕ
  byte_fits : byte < 256
  none : length cs ≤ degree → byte ≡ 0
  size : length next ≡ length cs
  bytes : AreBytes next
  value : (p : ℕ) → value_at p next ≡ bit_xor (product byte (power p degree)) (value_at p cs)
  here : (i : ℕ) → degree + i + 1 ≡ length cs → get_or next i 0 ≡ get_or ds i 0
  kept : (i : ℕ) → get_or cs i 0 ≡ get_or ds i 0 → get_or next i 0 ≡ get_or ds i 0

step : (degree : ℕ) (ds cs : List ℕ) → length ds ≡ length cs → AreBytes ds → AreBytes cs → Step degree ds cs
step degree ds cs same hd hc =
    elim (cases_lt degree (length cs)) [
      | inl low ↦
          let place : ℕ = length cs - 1 - degree in
          let at : place + suc degree ≡ length cs = omega arith in
          let lt : place < length cs = omega arith in
          let v : ℕ = get_or ds place 0 in
          let o : ℕ = get_or cs place 0 in
          let hv : v < 256 = All-get_or (λ b. b < 256) ds place 0 (omega arith) hd in
          let ho : o < 256 = All-get_or (λ b. b < 256) cs place 0 lt hc in
          let new : List ℕ = set cs place v in
          let set_here : get_or new place 0 ≡ v = get_or-set_same cs place v 0 lt in
          record {
            next = new;
            byte = bit_xor o v;
            byte_fits = sum_byte o v ho hv;
            none = λ high. absurd (omega arith);
            size = length-set cs place v;
            bytes = All-set (λ b. b < 256) cs place v hv hc;
            value = λ p. value_at-set p cs place degree v at;
            here = λ i e.
                let is : i ≡ place = omega arith in
                ap (λ (k : ℕ). get_or new k 0) is ∙ set_here ∙ ap (λ (k : ℕ). get_or ds k 0) (sym is);
            kept = λ i before.
                elim (cases_eq i place) [
                  | inl is ↦ ap (λ (k : ℕ). get_or new k 0) is ∙ set_here ∙ ap (λ (k : ℕ). get_or ds k 0) (sym is)
                  | inr ne ↦ get_or-set_other cs place i v 0 ne ∙ before
                ];
          }
      | inr high ↦ record {
        next = cs;
        byte = 0;
        byte_fits = omega arith;
        none = λ h. refl;
        size = refl;
        bytes = hc;
        value = λ p. sym (ap (λ v. bit_xor v (value_at p cs)) (product_zero_left (power p degree)) ∙ xor_zero_l (value_at p cs));
        here = λ i e. absurd (omega arith);
        kept = λ i before. before;
      }
    ]

-- the bytes of the three steps from a column to a codeword that agrees with it
record ThreeBytes (d e f n s t u : ℕ) : Type 0 where
  a : ℕ
  b : ℕ
  c : ℕ
  ha : a < 256
  hb : b < 256
  hc : c < 256
  none_a : n ≤ d → a ≡ 0
  none_b : n ≤ e → b ≡ 0
  none_c : n ≤ f → c ≡ 0
  at_inverse : bit_xor (product a (power 0xC3 d)) (bit_xor (product b (power 0xC3 e)) (product c (power 0xC3 f))) ≡ s
  at_one : bit_xor a (bit_xor b c) ≡ t
  at_generator : bit_xor (product a (power 2 d)) (bit_xor (product b (power 2 e)) (product c (power 2 f))) ≡ u

bytes_of_steps : (mask d e f : ℕ) (cs ds : List ℕ) → IsCodeword ds →
    AreDegrees mask (length cs) (d ∷ e ∷ f ∷ []) → AgreesOutside (is_lost mask) cs ds →
    (one : Step d ds cs) (then : Step e ds one.next) (last : Step f ds then.next) →
    ThreeBytes d e f (length cs) (value_at 0xC3 cs) (value_at 1 cs) (value_at 2 cs)
bytes_of_steps mask d e f cs ds word degrees agrees one then last =
    let same : length cs ≡ length ds = agrees.size in
    let size1 : length one.next ≡ length cs = one.size in
    let size2 : length then.next ≡ length one.next = then.size in
    let size3 : length last.next ≡ length then.next = last.size in
    let a : ℕ = one.byte in
    let b : ℕ = then.byte in
    let c : ℕ = last.byte in
    let At : ℕ → ℕ → Type 0 = λ k i. get_or (d ∷ e ∷ f ∷ []) k 0 + i + 1 ≡ length cs in
    let lost_here : (i k : ℕ) → k < 3 → At k i → get_or last.next i 0 ≡ get_or ds i 0 =
    λ i k hk at. by_step i k hk at one then last size1 size2 in
    let whole : last.next ≡ ds =
    same_lists last.next ds (size3 ∙ size2 ∙ size1 ∙ same) (λ i dflt lt.
    let inside : i < length cs = omega arith in
    any_default last.next i dflt lt
    ∙ elim (cases_Bool (is_lost mask i)) [
      | inl lost ↦
          let found = degrees.all i inside lost in
          lost_here i found.0 found.1 found.2
      | inr kept ↦
          let there : slice_get cs i ≡ slice_get ds i = agrees.others i inside kept in
          let first : Some (get_or cs i 0) ≡ Some (get_or ds i 0) =
          sym (slice_get-get_or cs i 0 inside) ∙ there ∙ slice_get-get_or ds i 0 (omega arith) in
          let before : get_or cs i 0 ≡ get_or ds i 0 = cc in
          last.kept i (then.kept i (one.kept i before))
    ]
    ∙ sym (any_default ds i dflt (omega arith))) in
    let value : (p : ℕ) → value_at p ds ≡
    bit_xor (product c (power p f)) (bit_xor (product b (power p e)) (bit_xor (product a (power p d)) (value_at p cs))) =
    λ p. ap (λ (l : List ℕ). value_at p l) (sym whole)
    ∙ last.value p
    ∙ ap (bit_xor (product c (power p f))) (then.value p ∙ ap (bit_xor (product b (power p e))) (one.value p)) in
    record {
      a = a;
      b = b;
      c = c;
      ha = one.byte_fits;
      hb = then.byte_fits;
      hc = last.byte_fits;
      none_a = one.none;
      none_b = λ h. then.none (omega arith);
      none_c = λ h. last.none (omega arith);
      at_inverse = added_up (product a (power 0xC3 d)) (product b (power 0xC3 e)) (product c (power 0xC3 f)) (value_at 0xC3 cs)
          (sym (value 0xC3) ∙ word.at_inverse);
      at_one =
          added_up a b c (value_at 1 cs) (
          sym (
          value 1
          ∙ ap (λ v. bit_xor v (bit_xor (product b (power 1 e)) (bit_xor (product a (power 1 d)) (value_at 1 cs))))
          (term_at_one c f last.byte_fits)
          ∙ ap (λ v. bit_xor c (bit_xor v (bit_xor (product a (power 1 d)) (value_at 1 cs)))) (term_at_one b e then.byte_fits)
          ∙ ap (λ v. bit_xor c (bit_xor b (bit_xor v (value_at 1 cs)))) (term_at_one a d one.byte_fits))
          ∙ word.at_one);
      at_generator = added_up (product a (power 2 d)) (product b (power 2 e)) (product c (power 2 f)) (value_at 2 cs)
          (sym (value 2) ∙ word.at_generator);
    }
  where
    by_step : (i k : ℕ) → k < 3 → get_or (d ∷ e ∷ f ∷ []) k 0 + i + 1 ≡ length cs →
        (one : Step d ds cs) (then : Step e ds one.next) (last : Step f ds then.next) →
        length one.next ≡ length cs → length then.next ≡ length one.next → get_or last.next i 0 ≡ get_or ds i 0
    by_step i zero hk at one then last s1 s2 = last.kept i (then.kept i (one.here i at))
    by_step i (suc zero) hk at one then last s1 s2 = last.kept i (then.here i (at ∙ sym s1))
    by_step i (suc (suc zero)) hk at one then last s1 s2 = last.here i (at ∙ sym s1 ∙ sym s2)
    by_step i (suc (suc (suc k))) hk at one then last s1 s2 = absurd (omega arith)

three_bytes : (mask d e f : ℕ) (cs ds : List ℕ) → AreBytes cs → IsCodeword ds →
    AreDegrees mask (length cs) (d ∷ e ∷ f ∷ []) → AgreesOutside (is_lost mask) cs ds →
    ThreeBytes d e f (length cs) (value_at 0xC3 cs) (value_at 1 cs) (value_at 2 cs)
three_bytes mask d e f cs ds bytes word degrees agrees =
    let same : length cs ≡ length ds = agrees.size in
    let one : Step d ds cs = step d ds cs (sym same) word.bytes bytes in
    let then : Step e ds one.next = step e ds one.next (sym same ∙ sym one.size) word.bytes one.bytes in
    let last : Step f ds then.next =
    step f ds then.next (sym same ∙ sym one.size ∙ sym then.size) word.bytes then.bytes in
    bytes_of_steps mask d e f cs ds word degrees agrees one then last

-- the second of three terms comes first, or the third
second_first : (a b c v : ℕ) → bit_xor a (bit_xor b c) ≡ v → bit_xor b (bit_xor a c) ≡ v
second_first a b c v h =
    sym (xor_assoc b a c) ∙ ap (λ w. bit_xor w c) (xor_comm b a) ∙ xor_assoc a b c ∙ h

third_first : (a b c v : ℕ) → bit_xor a (bit_xor b c) ≡ v → bit_xor c (bit_xor a b) ≡ v
third_first a b c v h = xor_comm c (bit_xor a b) ∙ xor_assoc a b c ∙ h

pub must_agree :
    (mask : ℕ) (old : List (List ℕ)) (corrections : Corrections) → length old ≤ 32 →
    Found mask old corrections → IsSolvable (is_lost mask) old → Agree corrections
must_agree mask old corrections most found solvable =
    let d : ℕ = corrections.first.degree in
    let e : ℕ = corrections.second.degree in
    let f : ℕ = corrections.third.degree in
    let degrees : AreDegrees mask (length old) (d ∷ e ∷ f ∷ []) = found.degrees in
    let places : ThreeDegrees d e f = three_degrees mask (length old) d e f degrees in
    let three : (j : ℕ) → j < 1024 → ThreeBytes d e f (length old)
    (value_at 0xC3 (column j old)) (value_at 1 (column j old)) (value_at 2 (column j old)) =
    λ j h.
    let count : length (column j old) ≡ length old = length-column j old in
    subst (λ (n : ℕ). ThreeBytes d e f n (value_at 0xC3 (column j old)) (value_at 1 (column j old)) (value_at 2 (column j old)))
    count
    (three_bytes mask d e f (column j old) (column j solvable.block) (bytes_of_column j old h found.sectors_fit)
    (solvable.codewords.columns j h)
    (subst (λ (n : ℕ). AreDegrees mask n (d ∷ e ∷ f ∷ [])) (sym count) degrees)
    (columns_agree (is_lost mask) j old solvable.block solvable.agrees)) in
    record {
      first = record {
        nothing = λ high. record {
          each = λ j h.
              let w = three j h in
              found.first.each j h
              ∙ sym (only_correction (power 2 d) (power 2 e) (power 2 f) (power 0xC3 d) (power 0xC3 e) (power 0xC3 f) w.a w.b w.c
              (value_at 0xC3 (column j old)) (value_at 1 (column j old)) (value_at 2 (column j old))
              (powers_of d e f places) w.ha w.hb w.hc
              (record { at_inverse = w.at_inverse; at_one = w.at_one; at_generator = w.at_generator }))
              ∙ w.none_a (omega arith);
        };
      };
      second = record {
        nothing = λ high. record {
          each = λ j h.
              let w = three j h in
              found.second.each j h
              ∙ sym (only_correction (power 2 e) (power 2 d) (power 2 f) (power 0xC3 e) (power 0xC3 d) (power 0xC3 f) w.b w.a w.c
              (value_at 0xC3 (column j old)) (value_at 1 (column j old)) (value_at 2 (column j old))
              (powers_of e d f (second_ahead d e f places)) w.hb w.ha w.hc
              (record {
                at_inverse = second_first (product w.a (power 0xC3 d)) (product w.b (power 0xC3 e)) (product w.c (power 0xC3 f))
                    (value_at 0xC3 (column j old)) w.at_inverse;
                at_one = second_first w.a w.b w.c (value_at 1 (column j old)) w.at_one;
                at_generator = second_first (product w.a (power 2 d)) (product w.b (power 2 e)) (product w.c (power 2 f))
                    (value_at 2 (column j old)) w.at_generator;
              }))
              ∙ w.none_b (omega arith);
        };
      };
      third = record {
        nothing = λ high. record {
          each = λ j h.
              let w = three j h in
              found.third.each j h
              ∙ sym (only_correction (power 2 f) (power 2 d) (power 2 e) (power 0xC3 f) (power 0xC3 d) (power 0xC3 e) w.c w.a w.b
              (value_at 0xC3 (column j old)) (value_at 1 (column j old)) (value_at 2 (column j old))
              (powers_of f d e (third_ahead d e f places)) w.hc w.ha w.hb
              (record {
                at_inverse = third_first (product w.a (power 0xC3 d)) (product w.b (power 0xC3 e)) (product w.c (power 0xC3 f))
                    (value_at 0xC3 (column j old)) w.at_inverse;
                at_one = third_first w.a w.b w.c (value_at 1 (column j old)) w.at_one;
                at_generator = third_first (product w.a (power 2 d)) (product w.b (power 2 e)) (product w.c (power 2 f))
                    (value_at 2 (column j old)) w.at_generator;
              }))
              ∙ w.none_c (omega arith);
        };
      };
    }

-- ---- no other code block agrees

pub only_block : (mask : ℕ) (ss block other : List (List ℕ)) → lost_count mask ≤ 3 →
    IsCodeBlock block → AgreesOutside (is_lost mask) ss block →
    IsCodeBlock other → AgreesOutside (is_lost mask) ss other → block ≡ other
only_block mask ss block other few hb ab ho ao =
    let counts = block_count block hb in
    let most : length block ≤ 32 = counts.1 in
    let below : lost_below (is_lost mask) (length block) ≤ lost_count mask = lost_below-count mask (length block) most in
    let size : length ss ≡ length block = ab.size in
    one_block (is_lost mask) block other hb ho
    (record {
      size = sym ab.size ∙ ao.size;
      others = λ i h kept. sym (ab.others i (omega arith) kept) ∙ ao.others i (omega arith) kept;
    })
    (omega arith)
