-- The values of a segment's columns at the roots, sector by sector.
use Rattle.std.proofs.Common.{◌≡◌, ℕ, suc, ◌+◌, ◌-◌, ◌<◌, ◌≤◌, inl, inr, refl, sym, ◌∙◌, ap, arith, List, [], ◌∷◌, ◌++◌, length, get_or}
use Rattle.std.proofs.Common.{All, bit_xor, subst, take, drop}
use Rattle.std.specs.Int.Bits.{xor_zero_r}
use Rattle.std.proofs.lemmas.List.{take_more, drop_more, drop_all, length-drop}
use Rattle.std.proofs.lemmas.List.Elements.{All-get_or, All-take, All-drop}
use Rattle.std.proofs.lemmas.Nat.{xor_comm}
use Rattle.std.proofs.lemmas.Bool.{cases_lt}
use Rattle.cartridge_spec.specs.Code.{product, power, value_at, column}
use Rattle.qic_base.specs.Cartridge.{IsSector}
use Rattle.gf256_qic.proofs.Sums.{sum_byte}
use Rattle.gf256_qic.proofs.Products.{product_byte, product_assoc, product_sum_left, product_zero_left, product_one_right}
use Rattle.gf256_qic.proofs.Powers.{power_none, power_one, power_more, power_byte}
use Rattle.gf256_qic.proofs.Values.{no_bytes, more_bytes, value_at-byte, value_at-none, value_at-first, value_at-append}
use Rattle.gf256_qic.proofs.Parities.{bytes_of_column, column-append}
use Rattle.gf256_qic.proofs.Distance.{power_inverse}
use Rattle.gf256_qic.proofs.Agreement.{length-column, column-one}
use Rattle.erasure_solve.specs.Rows.{AreValues, IsStrip, AddsToStrip, PutsPart, PutsStrip}
use Rattle.erasure_solve.specs.declared.values.Strip.{Strip}
use Rattle.erasure_solve.specs.declared.values.Values.{Values}
use Rattle.erasure_solve.proofs.Ring.{var, sum, times, same_value}
use Rattle.qic_base.specs.Disk.{AreBytes}

column-none : (j : ℕ) → column j [] ≡ []
unfolding column
column-none j = refl

-- a column's value, one byte further
value_at-push : (p : ℕ) (cs : List ℕ) (c : ℕ) → p < 256 → AreBytes cs → c < 256 →
    value_at p (cs ++ c ∷ []) ≡ bit_xor (product (value_at p cs) p) c
value_at-push p cs c h all hc =
    let last : value_at p (c ∷ []) ≡ c =
    value_at-first p c [] ∙ ap (λ x. bit_xor (product c (power p 0)) x) (value_at-none p)
    ∙ xor_zero_r (product c (power p 0)) ∙ ap (product c) (power_none p) ∙ product_one_right c hc in
    value_at-append p cs (c ∷ []) h all
    ∙ ap (λ x. bit_xor (product (value_at p cs) x) (value_at p (c ∷ []))) (power_one p h)
    ∙ ap (bit_xor (product (value_at p cs) p)) last

-- the value at 1, one byte further
value_at-push-one : (cs : List ℕ) (c : ℕ) → AreBytes cs → c < 256 →
    value_at 1 (cs ++ c ∷ []) ≡ bit_xor (value_at 1 cs) c
value_at-push-one cs c all hc =
    value_at-push 1 cs c (omega arith) all hc
    ∙ ap (λ v. bit_xor v c) (product_one_right (value_at 1 cs) (value_at-byte 1 cs (omega arith) all))

column-push : (j : ℕ) (ss : List (List ℕ)) (s : List ℕ) → column j (ss ++ s ∷ []) ≡ column j ss ++ get_or s j 0 ∷ []
column-push j ss s = column-append j ss (s ∷ []) ∙ ap (λ c. column j ss ++ c) (column-one j s)

column-first : (j : ℕ) (ss : List (List ℕ)) (s : List ℕ) → column j (s ∷ ss) ≡ get_or s j 0 ∷ column j ss
unfolding column
column-first j ss s = refl

five_bytes : (a b c d e : ℕ) → a < 256 → b < 256 → c < 256 → d < 256 → e < 256 → AreBytes (a ∷ b ∷ c ∷ d ∷ e ∷ [])
five_bytes a b c d e ha hb hc hd he =
    more_bytes a (b ∷ c ∷ d ∷ e ∷ []) ha (more_bytes b (c ∷ d ∷ e ∷ []) hb
    (more_bytes c (d ∷ e ∷ []) hc (more_bytes d (e ∷ []) hd (more_bytes e [] he no_bytes))))

-- the sum b from the other end, one byte c further: v is the value at 0xC3 of n bytes
reversed_more : (b v c n : ℕ) → v < 256 → c < 256 → n < 35 → product b 2 ≡ product v (power 2 n) →
    product (bit_xor (product b 2) c) 2 ≡ product (bit_xor (product c (power 0xC3 n)) v) (power 2 (suc n))
reversed_more b v c n hv hc hn same =
    let two : 2 < 256 = omega arith in
    let p : ℕ = power 2 n in
    let q : ℕ = power 0xC3 n in
    let c2 : product c 2 < 256 = product_byte c 2 hc two in
    product_sum_left (product b 2) c 2
    ∙ ap (λ w. bit_xor (product w 2) (product c 2)) same
    ∙ xor_comm (product (product v p) 2) (product c 2)
    ∙ sym (
    ap (product (bit_xor (product c q) v)) (power_more 2 n)
    ∙ same_value (c ∷ v ∷ p ∷ q ∷ 2 ∷ [])
    (times (sum (times (var 0) (var 3)) (var 1)) (times (var 4) (var 2)))
    (sum (times (times (var 0) (var 4)) (times (var 2) (var 3))) (times (times (var 1) (var 2)) (var 4)))
    (five_bytes c v p q 2 hc hv (power_byte 2 n two) (power_byte 0xC3 n (omega arith)) two) refl
    ∙ ap (λ w. bit_xor (product (product c 2) w) (product (product v p) 2)) (power_inverse n hn)
    ∙ ap (λ w. bit_xor w (product (product v p) 2)) (product_one_right (product c 2) c2))

-- and the value from the sum
reversed_value : (b v n : ℕ) → b < 256 → v < 256 → n < 35 → product b 2 ≡ product v (power 2 n) →
    product (product 2 (power 0xC3 n)) b ≡ v
reversed_value b v n hb hv hn same =
    let two : 2 < 256 = omega arith in
    let p : ℕ = power 2 n in
    let q : ℕ = power 0xC3 n in
    let hp : p < 256 = power_byte 2 n two in
    let hq : q < 256 = power_byte 0xC3 n (omega arith) in
    same_value (b ∷ v ∷ p ∷ q ∷ 2 ∷ []) (times (times (var 4) (var 3)) (var 0)) (times (times (var 0) (var 4)) (var 3))
    (five_bytes b v p q 2 hb hv hp hq two) refl
    ∙ ap (λ w. product w q) same
    ∙ product_assoc v p q hv hp hq
    ∙ ap (product v) (power_inverse n hn)
    ∙ product_one_right v hv

-- ---- the strips

pub strip_none :
    (strip : Strip) (start : ℕ) (ss : List (List ℕ)) → ((j : ℕ) → get_or strip.reversed j 0 ≡ 0) →
    ((j : ℕ) → get_or strip.at_one j 0 ≡ 0) → ((j : ℕ) → get_or strip.at_generator j 0 ≡ 0) →
    IsStrip strip start [] (drop (length ss - 0) ss)
strip_none strip start ss reversed one generator =
    subst (λ (back : List (List ℕ)). IsStrip strip start [] back) (sym (drop_all (length ss - 0) ss (omega arith)))
    (record {
      bytes = λ j h. let none : get_or strip.reversed j 0 ≡ 0 = reversed j in omega arith;
      reversed = λ j h.
          ap (λ v. product v 2) (reversed j) ∙ product_zero_left 2
          ∙ sym (ap (λ v. product v (power 2 0)) (none 0xC3 j) ∙ product_zero_left (power 2 0));
      at_one = λ j h. one j ∙ sym (none 1 j);
      at_generator = λ j h. generator j ∙ sym (none 2 j);
    })
  where
    none : (root j : ℕ) → value_at root (column (start + j) []) ≡ 0
    none root j = ap (value_at root) (column-none (start + j)) ∙ value_at-none root

strip_more :
    (old new : Strip) (start : ℕ) (front back : List (List ℕ)) (s t : List ℕ) → start + 128 ≤ 1024 →
    All IsSector front → All IsSector back → IsSector s → IsSector t → length back < 35 →
    AddsToStrip old start s t new → IsStrip old start front back → IsStrip new start (front ++ s ∷ []) (t ∷ back)
strip_more old new start front back s t inside hf hb hs ht few adds is = record {
  bytes = λ j h.
      let sum : get_or new.reversed j 0 ≡ bit_xor (product (get_or old.reversed j 0) 2) (get_or t (start + j) 0) = adds.reversed j h in
      let two : product (get_or old.reversed j 0) 2 < 256 = product_byte (get_or old.reversed j 0) 2 (is.bytes j h) (omega arith) in
      subst (λ (v : ℕ). v < 256) (sym sum)
      (sum_byte (product (get_or old.reversed j 0) 2) (get_or t (start + j) 0) two (byte t (start + j) (omega arith) ht));
  reversed = λ j h.
      let k : ℕ = start + j in
      let within : k < 1024 = omega arith in
      let cs : List ℕ = column k back in
      let size : length cs ≡ length back = length-column k back in
      let v : ℕ = value_at 0xC3 cs in
      let hv : v < 256 = value_at-byte 0xC3 cs (omega arith) (bytes_of_column k back within hb) in
      ap (λ w. product w 2) (adds.reversed j h)
      ∙ reversed_more (get_or old.reversed j 0) v (get_or t k 0) (length back) hv (byte t k within ht) few (is.reversed j h)
      ∙ ap (λ w. product w (power 2 (suc (length back)))) (
      sym (ap (value_at 0xC3) (column-first k back t) ∙ value_at-first 0xC3 (get_or t k 0) cs
      ∙ ap (λ n. bit_xor (product (get_or t k 0) (power 0xC3 n)) v) size));
  at_one = λ j h.
      let k : ℕ = start + j in
      let within : k < 1024 = omega arith in
      adds.at_one j h
      ∙ ap (λ v. bit_xor v (get_or s k 0)) (is.at_one j h)
      ∙ sym (ap (value_at 1) (column-push k front s)
      ∙ value_at-push-one (column k front) (get_or s k 0) (bytes_of_column k front within hf) (byte s k within hs));
  at_generator = λ j h.
      let k : ℕ = start + j in
      let within : k < 1024 = omega arith in
      adds.at_generator j h
      ∙ ap (λ v. bit_xor (product v 2) (get_or s k 0)) (is.at_generator j h)
      ∙ sym (ap (value_at 2) (column-push k front s)
      ∙ value_at-push 2 (column k front) (get_or s k 0) (omega arith) (bytes_of_column k front within hf) (byte s k within hs));
}
  where
    byte : (r : List ℕ) (k : ℕ) → k < 1024 → IsSector r → get_or r k 0 < 256
    byte r k h one = let size : length r ≡ 1024 = one.size in All-get_or (λ b. b < 256) r k 0 (omega arith) one.each

-- the next sector from both ends
pub strip_next :
    (old new : Strip) (start i : ℕ) (ss : List (List ℕ)) → start + 128 ≤ 1024 → All IsSector ss → i < length ss → length ss ≤ 32 →
    AddsToStrip old start (get_or ss i []) (get_or ss (length ss - 1 - i) []) new →
    IsStrip old start (take i ss) (drop (length ss - i) ss) →
    IsStrip new start (take (i + 1) ss) (drop (length ss - (i + 1)) ss)
strip_next old new start i ss inside all lt few adds is =
    let k : ℕ = length ss - 1 - i in
    let s : List ℕ = get_or ss i [] in
    let t : List ℕ = get_or ss k [] in
    let hk : k < length ss = omega arith in
    let rest : List (List ℕ) = drop (k + 1) ss in
    let next : k + 1 ≡ length ss - i = omega arith in
    let here : k ≡ length ss - (i + 1) = omega arith in
    let front : take (i + 1) ss ≡ take i ss ++ s ∷ [] = take_more ss i [] lt in
    let back : drop (length ss - (i + 1)) ss ≡ t ∷ rest =
    ap (λ (m : ℕ). drop m ss) (sym here) ∙ drop_more ss k [] hk in
    let few_rest : length rest ≡ length ss - (k + 1) = length-drop (k + 1) ss in
    subst (λ (b : List (List ℕ)). IsStrip new start (take (i + 1) ss) b) (sym back)
    (subst (λ (f : List (List ℕ)). IsStrip new start f (t ∷ rest)) (sym front)
    (strip_more old new start (take i ss) rest s t inside (All-take IsSector i ss all) (All-drop IsSector (k + 1) ss all)
    (All-get_or IsSector ss i [] lt all) (All-get_or IsSector ss k [] hk all) (omega arith) adds
    (subst (λ (m : ℕ). IsStrip old start (take i ss) (drop m ss)) (sym next) is)))

-- the first bytes of a row are those of the first columns
pub record HasFirst (count : ℕ) (Is : ℕ → ℕ → Type 0) (row : List ℕ) : Type 0 where
  pub each : (j : ℕ) → j < count → Is j (get_or row j 0)

part_more :
    (start : ℕ) (Is : ℕ → ℕ → Type 0) (byte : ℕ → ℕ) (old new : List ℕ) → PutsPart byte start old new →
    ((j : ℕ) → j < 128 → Is (start + j) (byte j)) → HasFirst start Is old → HasFirst (start + 128) Is new
part_more start Is byte old new puts bytes first = record {
  each = λ k h.
      elim (cases_lt k start) [
        | inl low ↦ subst (λ (v : ℕ). Is k v) (sym (puts.before k low)) (first.each k low)
        | inr high ↦
            let j : ℕ = k - start in
            let at : start + j ≡ k = omega arith in
            let small : j < 128 = omega arith in
            subst (λ (i : ℕ). Is i (get_or new i 0)) at
            (subst (λ (v : ℕ). Is (start + j) v) (sym (puts.part j small)) (bytes j small))
      ];
}

abbrev pub IsReversed : ℕ → List (List ℕ) → ℕ → ℕ → Type 0
IsReversed scale ss j v = (v < 256) × (product scale v ≡ value_at 0xC3 (column j ss))

abbrev pub IsValue : ℕ → List (List ℕ) → ℕ → ℕ → Type 0
IsValue root ss j v = v ≡ value_at root (column j ss)

pub record AreFirst (count : ℕ) (values : Values) (sectors : List (List ℕ)) : Type 0 where
  pub scale : values.scale ≡ product 2 (power 0xC3 (length sectors))
  pub reversed : HasFirst count (IsReversed (product 2 (power 0xC3 (length sectors))) sectors) values.reversed
  pub at_one : HasFirst count (IsValue 0x01 sectors) values.at_one
  pub at_generator : HasFirst count (IsValue 0x02 sectors) values.at_generator

pub values_more :
    (old new : Values) (strip : Strip) (start : ℕ) (ss : List (List ℕ)) → start + 128 ≤ 1024 → length ss ≤ 32 →
    All IsSector ss → PutsStrip old strip start new → IsStrip strip start ss ss →
    AreFirst start old ss → AreFirst (start + 128) new ss
values_more old new strip start ss inside few all puts is first =
    let scale : ℕ = product 2 (power 0xC3 (length ss)) in
    record {
      scale = puts.scale ∙ first.scale;
      reversed = part_more start (IsReversed scale ss) (λ j. get_or strip.reversed j 0) old.reversed new.reversed puts.reversed
          (λ j h.
          let k : ℕ = start + j in
          let hv : value_at 0xC3 (column k ss) < 256 =
          value_at-byte 0xC3 (column k ss) (omega arith) (bytes_of_column k ss (omega arith) all) in (
            is.bytes j h,
            reversed_value (get_or strip.reversed j 0) (value_at 0xC3 (column k ss)) (length ss) (is.bytes j h) hv (omega arith)
                (is.reversed j h),
          ))
          first.reversed;
      at_one = part_more start (IsValue 1 ss) (λ j. get_or strip.at_one j 0) old.at_one new.at_one puts.at_one is.at_one first.at_one;
      at_generator =
          part_more start (IsValue 2 ss) (λ j. get_or strip.at_generator j 0) old.at_generator new.at_generator puts.at_generator
          is.at_generator first.at_generator;
    }

pub none_first : (values : Values) (ss : List (List ℕ)) → values.scale ≡ product 2 (power 0xC3 (length ss)) → AreFirst 0 values ss
none_first values ss scale = record {
  scale = scale;
  reversed = record { each = λ j h. absurd (omega arith) };
  at_one = record { each = λ j h. absurd (omega arith) };
  at_generator = record { each = λ j h. absurd (omega arith) };
}

pub all_first : (count : ℕ) (values : Values) (ss : List (List ℕ)) → 1024 ≤ count → AreFirst count values ss → AreValues values ss
all_first count values ss most first =
    let byte : product 2 (power 0xC3 (length ss)) < 256 =
    product_byte 2 (power 0xC3 (length ss)) (omega arith) (power_byte 0xC3 (length ss) (omega arith)) in
    record {
      bytes = λ j h. (first.reversed.each j (omega arith)).0;
      scale = subst (λ (v : ℕ). v < 256) (sym first.scale) byte;
      at_inverse = λ j h.
          ap (λ v. product v (get_or values.reversed j 0)) first.scale ∙ (first.reversed.each j (omega arith)).1;
      at_one = record { each = λ j h. first.at_one.each j (omega arith) };
      at_generator = record { each = λ j h. first.at_generator.each j (omega arith) };
    }
