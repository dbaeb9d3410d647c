-- A column's value at a byte, as the column grows, is added to another or scaled.
use Rattle.std.proofs.Common.{◌≡◌, ℕ, zero, suc, ◌+◌, ◌<◌, refl, sym, ◌∙◌, ap, subst, arith, bit_xor, List, [], ◌∷◌, ◌++◌, length, get_or}
use Rattle.std.proofs.Common.{set}
use Rattle.std.specs.Int.Bits.{xor_assoc, xor_zero_l, xor_zero_r}
use Rattle.std.proofs.Math.ListN.{length-append, length-set}
use Rattle.std.proofs.lemmas.Nat.{xor_comm}
use Rattle.std.proofs.Math.Nat.{suc_inj}
use Rattle.std.proofs.lemmas.List.Elements.{All-nil, All-cons, All-head, All-tail, All-push}
use Rattle.cartridge_spec.specs.Code.{product, power, value_at, added}
use Rattle.gf256_qic.specs.Code.{data_sum, scaled}
use Rattle.gf256_qic.proofs.Sums.{swap4, sum_byte, sum_cancel}
use Rattle.gf256_qic.proofs.Products.{product_comm, product_byte, product_assoc, product_sum_left, product_sum_right, product_zero_left}
use Rattle.gf256_qic.proofs.Products.{product_zero_right, product_one_right}
use Rattle.gf256_qic.proofs.Powers.{power_none, power_one, power_byte, power_sum}
use Rattle.qic_base.specs.Disk.{AreBytes}

pub no_bytes : AreBytes []
no_bytes = All-nil (λ c. c < 256)

pub more_bytes : (c : ℕ) (cs : List ℕ) → c < 256 → AreBytes cs → AreBytes (c ∷ cs)
more_bytes c cs h all = All-cons (λ b. b < 256) c cs h all

pub first_byte : (c : ℕ) (cs : List ℕ) → AreBytes (c ∷ cs) → c < 256
first_byte c cs all = All-head (λ b. b < 256) c cs all

pub other_bytes : (c : ℕ) (cs : List ℕ) → AreBytes (c ∷ cs) → AreBytes cs
other_bytes c cs all = All-tail (λ b. b < 256) c cs all

pub value_at-none : (p : ℕ) → value_at p [] ≡ 0
unfolding value_at
value_at-none p = refl

pub value_at-first : (p c : ℕ) (cs : List ℕ) →
    value_at p (c ∷ cs) ≡ bit_xor (product c (power p (length cs))) (value_at p cs)
unfolding value_at
value_at-first p c cs = refl

pub value_at-byte : (p : ℕ) (cs : List ℕ) → p < 256 → AreBytes cs → value_at p cs < 256
unfolding value_at
value_at-byte p [] h all = omega arith
value_at-byte p (c ∷ cs) h all =
    sum_byte (product c (power p (length cs))) (value_at p cs)
    (product_byte c (power p (length cs)) (first_byte c cs all) (power_byte p (length cs) h))
    (value_at-byte p cs h (other_bytes c cs all))

pub value_at-append : (p : ℕ) (xs ys : List ℕ) → p < 256 → AreBytes xs →
    value_at p (xs ++ ys) ≡ bit_xor (product (value_at p xs) (power p (length ys))) (value_at p ys)
unfolding value_at
value_at-append p [] ys h all =
    sym (ap (λ v. bit_xor v (value_at p ys)) (product_zero_left (power p (length ys))) ∙ xor_zero_l (value_at p ys))
value_at-append p (x ∷ xs) ys h all =
    let m : ℕ = length xs in
    let n : ℕ = length ys in
    ap (λ k. bit_xor (product x (power p k)) (value_at p (xs ++ ys))) (length-append xs ys)
    ∙ ap (λ v. bit_xor (product x v) (value_at p (xs ++ ys))) (power_sum p m n h)
    ∙ ap (λ v. bit_xor v (value_at p (xs ++ ys)))
    (sym (product_assoc x (power p m) (power p n) (first_byte x xs all) (power_byte p m h) (power_byte p n h)))
    ∙ ap (bit_xor (product (product x (power p m)) (power p n))) (value_at-append p xs ys h (other_bytes x xs all))
    ∙ sym (xor_assoc (product (product x (power p m)) (power p n)) (product (value_at p xs) (power p n)) (value_at p ys))
    ∙ ap (λ v. bit_xor v (value_at p ys)) (sym (product_sum_left (product x (power p m)) (value_at p xs) (power p n)))

-- the sum of two columns
pub length-added : (xs ys : List ℕ) → length xs ≡ length ys → length (added xs ys) ≡ length xs
unfolding added
length-added [] ys h = refl
length-added (x ∷ xs) [] h = absurd (cc)
length-added (x ∷ xs) (y ∷ ys) h = ap suc (length-added xs ys (suc_inj h))

pub value_at-added : (p : ℕ) (xs ys : List ℕ) → length xs ≡ length ys →
    value_at p (added xs ys) ≡ bit_xor (value_at p xs) (value_at p ys)
unfolding value_at added
value_at-added p [] [] h = refl
value_at-added p [] (y ∷ ys) h = absurd (cc)
value_at-added p (x ∷ xs) [] h = absurd (cc)
value_at-added p (x ∷ xs) (y ∷ ys) h =
    let same : length xs ≡ length ys = suc_inj h in
    let px : ℕ = power p (length xs) in
    ap (λ k. bit_xor (product (bit_xor x y) (power p k)) (value_at p (added xs ys))) (length-added xs ys same)
    ∙ ap (bit_xor (product (bit_xor x y) px)) (value_at-added p xs ys same)
    ∙ ap (λ v. bit_xor v (bit_xor (value_at p xs) (value_at p ys))) (product_sum_left x y px)
    ∙ swap4 (product x px) (product y px) (value_at p xs) (value_at p ys)
    ∙ ap (λ k. bit_xor (bit_xor (product x px) (value_at p xs)) (bit_xor (product y (power p k)) (value_at p ys))) same

pub bytes_of_added : (xs ys : List ℕ) → AreBytes xs → AreBytes ys → AreBytes (added xs ys)
unfolding added
bytes_of_added [] ys bx by = no_bytes
bytes_of_added (x ∷ xs) [] bx by = no_bytes
bytes_of_added (x ∷ xs) (y ∷ ys) bx by =
    more_bytes (bit_xor x y) (added xs ys)
    (sum_byte x y (first_byte x xs bx) (first_byte y ys by))
    (bytes_of_added xs ys (other_bytes x xs bx) (other_bytes y ys by))

-- a column times a byte
pub value_at-scaled : (p a : ℕ) (xs : List ℕ) → p < 256 → a < 256 → AreBytes xs →
    value_at p (scaled a xs) ≡ product a (value_at p xs)
unfolding value_at
value_at-scaled p a [] hp ha all = sym (product_zero_right a)
value_at-scaled p a (x ∷ xs) hp ha all =
    ap (λ k. bit_xor (product (product a x) (power p k)) (value_at p (scaled a xs))) (length-scaled a xs)
    ∙ ap (λ v. bit_xor v (value_at p (scaled a xs)))
    (product_assoc a x (power p (length xs)) ha (first_byte x xs all) (power_byte p (length xs) hp))
    ∙ ap (bit_xor (product a (product x (power p (length xs))))) (value_at-scaled p a xs hp ha (other_bytes x xs all))
    ∙ sym (product_sum_right a (product x (power p (length xs))) (value_at p xs))
  where
    length-scaled : (b : ℕ) (zs : List ℕ) → length (scaled b zs) ≡ length zs
    length-scaled b [] = refl
    length-scaled b (z ∷ zs) = ap suc (length-scaled b zs)

pub bytes_of_scaled : (a : ℕ) (xs : List ℕ) → a < 256 → AreBytes xs → AreBytes (scaled a xs)
bytes_of_scaled a [] ha all = no_bytes
bytes_of_scaled a (x ∷ xs) ha all =
    more_bytes (product a x) (scaled a xs)
    (product_byte a x ha (first_byte x xs all)) (bytes_of_scaled a xs ha (other_bytes x xs all))

-- the sum S(p) of the data is the value of the data with three zero bytes behind them
pub value_at-zeros : (p : ℕ) (ds : List ℕ) → value_at p (ds ++ 0 ∷ 0 ∷ 0 ∷ []) ≡ data_sum p ds
unfolding data_sum value_at
value_at-zeros p [] =
    ap (λ v. bit_xor v (bit_xor (product 0 (power p 1)) (bit_xor (product 0 (power p 0)) 0))) (product_zero_left (power p 2))
    ∙ ap (λ v. bit_xor 0 (bit_xor v (bit_xor (product 0 (power p 0)) 0))) (product_zero_left (power p 1))
    ∙ ap (λ v. bit_xor 0 (bit_xor 0 (bit_xor v 0))) (product_zero_left (power p 0))
value_at-zeros p (d ∷ ds) =
    ap (λ n. bit_xor (product d (power p n)) (value_at p (ds ++ 0 ∷ 0 ∷ 0 ∷ []))) (length-append ds (0 ∷ 0 ∷ 0 ∷ []))
    ∙ ap (bit_xor (product d (power p (length ds + 3)))) (value_at-zeros p ds)

-- the sum S(p) of the data is the value of the data, three places higher
pub data_sum-value : (p : ℕ) (ds : List ℕ) → p < 256 → AreBytes ds →
    data_sum p ds ≡ product (value_at p ds) (power p 3)
unfolding data_sum value_at
data_sum-value p [] h all = sym (product_zero_left (power p 3))
data_sum-value p (d ∷ ds) h all =
    let n : ℕ = length ds in
    ap (λ v. bit_xor (product d v) (data_sum p ds)) (power_sum p n 3 h)
    ∙ ap (λ v. bit_xor v (data_sum p ds))
    (sym (product_assoc d (power p n) (power p 3) (first_byte d ds all) (power_byte p n h) (power_byte p 3 h)))
    ∙ ap (bit_xor (product (product d (power p n)) (power p 3))) (data_sum-value p ds h (other_bytes d ds all))
    ∙ sym (product_sum_left (product d (power p n)) (value_at p ds) (power p 3))

pub data_sum-byte : (p : ℕ) (ds : List ℕ) → p < 256 → AreBytes ds → data_sum p ds < 256
data_sum-byte p ds h all =
    let P : ℕ → Type 0 = λ v. v < 256 in
    subst P (sym (data_sum-value p ds h all))
    (product_byte (value_at p ds) (power p 3) (value_at-byte p ds h all) (power_byte p 3 h))

-- a column's value once its byte i, with k bytes after it, is v
pub value_at-set : (p : ℕ) (xs : List ℕ) (i k v : ℕ) → i + suc k ≡ length xs →
    value_at p (set xs i v) ≡ bit_xor (product (bit_xor (get_or xs i 0) v) (power p k)) (value_at p xs)
unfolding value_at
value_at-set p [] zero k v h = absurd (omega arith)
value_at-set p [] (suc i) k v h = absurd (omega arith)
value_at-set p (x ∷ xs) zero k v h =
    let after : length xs ≡ k = omega arith in
    let old : ℕ = product x (power p k) in
    let new : ℕ = product v (power p k) in
    ap (λ n. bit_xor (product v (power p n)) (value_at p xs)) after
    ∙ sym (
    ap (λ n. bit_xor (product (bit_xor x v) (power p k)) (bit_xor (product x (power p n)) (value_at p xs))) after
    ∙ ap (λ s. bit_xor s (bit_xor old (value_at p xs))) (product_sum_left x v (power p k) ∙ xor_comm old new)
    ∙ xor_assoc new old (bit_xor old (value_at p xs))
    ∙ ap (bit_xor new) (sum_cancel old (value_at p xs)))
value_at-set p (x ∷ xs) (suc i) k v h =
    let here : ℕ = product x (power p (length xs)) in
    let change : ℕ = product (bit_xor (get_or xs i 0) v) (power p k) in
    ap (λ n. bit_xor (product x (power p n)) (value_at p (set xs i v))) (length-set xs i v)
    ∙ ap (bit_xor here) (value_at-set p xs i k v (omega arith))
    ∙ sym (xor_assoc here change (value_at p xs))
    ∙ ap (λ s. bit_xor s (value_at p xs)) (xor_comm here change)
    ∙ xor_assoc change here (value_at p xs)

-- the data's sum, one byte further
pub data_sum-push : (p : ℕ) (ds : List ℕ) (d : ℕ) → p < 256 → AreBytes ds → d < 256 →
    data_sum p (ds ++ d ∷ []) ≡ bit_xor (product (data_sum p ds) p) (product d (power p 3))
data_sum-push p ds d h all hd =
    let v : ℕ = value_at p ds in
    let hv : v < 256 = value_at-byte p ds h all in
    let w : ℕ = power p 3 in
    let hw : w < 256 = power_byte p 3 h in
    let last : value_at p (d ∷ []) ≡ d =
    value_at-first p d [] ∙ ap (λ x. bit_xor (product d (power p 0)) x) (value_at-none p)
    ∙ xor_zero_r (product d (power p 0)) ∙ ap (product d) (power_none p) ∙ product_one_right d hd in
    let shifted : product (product v p) w ≡ product (product v w) p =
    product_assoc v p w hv h hw ∙ ap (product v) (product_comm p w h hw) ∙ sym (product_assoc v w p hv hw h) in
    data_sum-value p (ds ++ d ∷ []) h (All-push (λ c. c < 256) ds d all hd)
    ∙ ap (λ x. product x w)
    (value_at-append p ds (d ∷ []) h all
    ∙ ap (λ x. bit_xor (product v x) (value_at p (d ∷ []))) (power_one p h)
    ∙ ap (bit_xor (product v p)) last)
    ∙ product_sum_left (product v p) d w
    ∙ ap (λ x. bit_xor x (product d w)) (shifted ∙ ap (λ x. product x p) (sym (data_sum-value p ds h all)))
