-- Equations between polynomials over the field, decided by expanding both sides. A polynomial expands to the
-- list of its terms, a term to the list of its variables, and a term that stands twice falls out.
use Rattle.std.proofs.Common.{◌≡◌, ℕ, zero, suc, ◌<◌, refl, sym, ◌∙◌, ap, arith, inl, inr, bit_xor, Bool, true, false, ◌&&◌, cond, nat_eq}
use Rattle.std.proofs.Common.{nat_lt, List, [], ◌∷◌, get_or}
use Rattle.std.specs.Int.Bits.{xor_assoc, xor_zero_l, xor_zero_r}
use Rattle.std.proofs.lemmas.Nat.{xor_comm}
use Rattle.std.proofs.lemmas.Bool.{cases_Bool, eqb-true, and_parts, false≢true}
use Rattle.cartridge_spec.specs.Code.{product}
use Rattle.gf256_qic.proofs.Sums.{equal_from_sum, sum_cancel}
use Rattle.gf256_qic.proofs.Products.{product_byte, product_comm, product_assoc, product_sum_left, product_sum_right, product_zero_left}
use Rattle.gf256_qic.proofs.Products.{product_zero_right, product_one_left, product_one_right}
use Rattle.gf256_qic.proofs.Values.{first_byte, other_bytes}
use Rattle.qic_base.specs.Disk.{AreBytes}

-- a polynomial in numbered variables
pub data Poly : Type 0 where
  var : ℕ → Poly
  sum : Poly → Poly → Poly
  times : Poly → Poly → Poly

-- its value where the variables are those of a list
abbrev pub value : List ℕ → Poly → ℕ
value env (var i) = get_or env i 0
value env (sum p q) = bit_xor (value env p) (value env q)
value env (times p q) = product (value env p) (value env q)

-- a term's value, and that of a list of terms
unfoldable term : List ℕ → List ℕ → ℕ
term env [] = 1
term env (i ∷ m) = product (get_or env i 0) (term env m)

unfoldable total : List ℕ → List (List ℕ) → ℕ
total env [] = 0
total env (m ∷ ms) = bit_xor (term env m) (total env ms)

-- ---- expanding

abbrev pub insert : ℕ → List ℕ → List ℕ
insert i [] = i ∷ []
insert i (j ∷ m) = cond (nat_lt i j) (i ∷ j ∷ m) (j ∷ insert i m)

abbrev pub joined : List ℕ → List ℕ → List ℕ
joined [] m = m
joined (i ∷ l) m = insert i (joined l m)

abbrev pub same_term : List ℕ → List ℕ → Bool
same_term [] [] = true
same_term [] (j ∷ m) = false
same_term (i ∷ l) [] = false
same_term (i ∷ l) (j ∷ m) = nat_eq i j && same_term l m

abbrev pub toggled : List ℕ → List (List ℕ) → List (List ℕ)
toggled m [] = m ∷ []
toggled m (l ∷ ls) = cond (same_term m l) ls (l ∷ toggled m ls)

abbrev pub plus : List (List ℕ) → List (List ℕ) → List (List ℕ)
plus [] ls = ls
plus (m ∷ ms) ls = toggled m (plus ms ls)

abbrev pub term_times : List ℕ → List (List ℕ) → List (List ℕ)
term_times m [] = []
term_times m (l ∷ ls) = toggled (joined m l) (term_times m ls)

abbrev pub all_times : List (List ℕ) → List (List ℕ) → List (List ℕ)
all_times [] ls = []
all_times (m ∷ ms) ls = plus (term_times m ls) (all_times ms ls)

abbrev pub expanded : Poly → List (List ℕ)
expanded (var i) = (i ∷ []) ∷ []
expanded (sum p q) = plus (expanded p) (expanded q)
expanded (times p q) = all_times (expanded p) (expanded q)

-- ---- expanding keeps the value

var_byte : (env : List ℕ) (i : ℕ) → AreBytes env → get_or env i 0 < 256
var_byte [] i all = omega arith
var_byte (x ∷ env) zero all = first_byte x env all
var_byte (x ∷ env) (suc i) all = var_byte env i (other_bytes x env all)

term_byte : (env m : List ℕ) → AreBytes env → term env m < 256
unfolding term
term_byte env [] all = omega arith
term_byte env (i ∷ m) all = product_byte (get_or env i 0) (term env m) (var_byte env i all) (term_byte env m all)

-- two factors change places
swapped : (a b t : ℕ) → a < 256 → b < 256 → t < 256 → product a (product b t) ≡ product b (product a t)
swapped a b t ha hb ht =
    sym (product_assoc a b t ha hb ht) ∙ ap (λ v. product v t) (product_comm a b ha hb) ∙ product_assoc b a t hb ha ht

term-insert : (env : List ℕ) (i : ℕ) (m : List ℕ) → AreBytes env →
    term env (insert i m) ≡ product (get_or env i 0) (term env m)
unfolding term
term-insert env i [] all = refl
term-insert env i (j ∷ m) all =
    elim (cases_Bool (nat_lt i j)) [
      | inl e ↦ ap (λ (b : Bool). term env (cond b (i ∷ j ∷ m) (j ∷ insert i m))) e
      | inr e ↦
          ap (λ (b : Bool). term env (cond b (i ∷ j ∷ m) (j ∷ insert i m))) e
          ∙ ap (product (get_or env j 0)) (term-insert env i m all)
          ∙ swapped (get_or env j 0) (get_or env i 0) (term env m) (var_byte env j all) (var_byte env i all) (term_byte env m all)
    ]

term-joined : (env l m : List ℕ) → AreBytes env → term env (joined l m) ≡ product (term env l) (term env m)
unfolding term
term-joined env [] m all = sym (product_one_left (term env m) (term_byte env m all))
term-joined env (i ∷ l) m all =
    term-insert env i (joined l m) all
    ∙ ap (product (get_or env i 0)) (term-joined env l m all)
    ∙ sym (product_assoc (get_or env i 0) (term env l) (term env m) (var_byte env i all) (term_byte env l all) (term_byte env m all))

terms_same : (l m : List ℕ) → same_term l m ≡ true → l ≡ m
terms_same [] [] e = refl
terms_same [] (j ∷ m) e = absurd (false≢true e)
terms_same (i ∷ l) [] e = absurd (false≢true e)
terms_same (i ∷ l) (j ∷ m) e =
    let parts : (nat_eq i j ≡ true) × (same_term l m ≡ true) = and_parts (nat_eq i j) (same_term l m) e in
    let heads : i ≡ j = eqb-true i j parts.0 in
    let tails : l ≡ m = terms_same l m parts.1 in
    ap (λ (x : ℕ). x ∷ l) heads ∙ ap (λ (xs : List ℕ). j ∷ xs) tails

total-toggled : (env m : List ℕ) (ls : List (List ℕ)) →
    total env (toggled m ls) ≡ bit_xor (term env m) (total env ls)
unfolding total
total-toggled env m [] = refl
total-toggled env m (l ∷ ls) =
    elim (cases_Bool (same_term m l)) [
      | inl e ↦
          ap (λ (b : Bool). total env (cond b ls (l ∷ toggled m ls))) e
          ∙ sym (sum_cancel (term env m) (total env ls))
          ∙ ap (λ (x : List ℕ). bit_xor (term env m) (bit_xor (term env x) (total env ls))) (terms_same m l e)
      | inr e ↦
          ap (λ (b : Bool). total env (cond b ls (l ∷ toggled m ls))) e
          ∙ ap (bit_xor (term env l)) (total-toggled env m ls)
          ∙ sym (xor_assoc (term env l) (term env m) (total env ls))
          ∙ ap (λ x. bit_xor x (total env ls)) (xor_comm (term env l) (term env m))
          ∙ xor_assoc (term env m) (term env l) (total env ls)
    ]

total-plus : (env : List ℕ) (ms ls : List (List ℕ)) →
    total env (plus ms ls) ≡ bit_xor (total env ms) (total env ls)
unfolding total
total-plus env [] ls = sym (xor_zero_l (total env ls))
total-plus env (m ∷ ms) ls =
    total-toggled env m (plus ms ls)
    ∙ ap (bit_xor (term env m)) (total-plus env ms ls)
    ∙ sym (xor_assoc (term env m) (total env ms) (total env ls))

total-term_times : (env m : List ℕ) (ls : List (List ℕ)) → AreBytes env →
    total env (term_times m ls) ≡ product (term env m) (total env ls)
unfolding total
total-term_times env m [] all = sym (product_zero_right (term env m))
total-term_times env m (l ∷ ls) all =
    total-toggled env (joined m l) (term_times m ls)
    ∙ ap (λ x. bit_xor x (total env (term_times m ls))) (term-joined env m l all)
    ∙ ap (bit_xor (product (term env m) (term env l))) (total-term_times env m ls all)
    ∙ sym (product_sum_right (term env m) (term env l) (total env ls))

total-all_times : (env : List ℕ) (ms ls : List (List ℕ)) → AreBytes env →
    total env (all_times ms ls) ≡ product (total env ms) (total env ls)
unfolding total
total-all_times env [] ls all = sym (product_zero_left (total env ls))
total-all_times env (m ∷ ms) ls all =
    total-plus env (term_times m ls) (all_times ms ls)
    ∙ ap (λ x. bit_xor x (total env (all_times ms ls))) (total-term_times env m ls all)
    ∙ ap (bit_xor (product (term env m) (total env ls))) (total-all_times env ms ls all)
    ∙ sym (product_sum_left (term env m) (total env ms) (total env ls))

total-expanded : (env : List ℕ) (p : Poly) → AreBytes env → total env (expanded p) ≡ value env p
unfolding total term
total-expanded env (var i) all =
    xor_zero_r (product (get_or env i 0) 1) ∙ product_one_right (get_or env i 0) (var_byte env i all)
total-expanded env (sum p q) all =
    total-plus env (expanded p) (expanded q)
    ∙ ap (λ x. bit_xor x (total env (expanded q))) (total-expanded env p all)
    ∙ ap (bit_xor (value env p)) (total-expanded env q all)
total-expanded env (times p q) all =
    total-all_times env (expanded p) (expanded q) all
    ∙ ap (λ x. product x (total env (expanded q))) (total-expanded env p all)
    ∙ ap (product (value env p)) (total-expanded env q all)

-- polynomials have the same value where the terms of their sum fall out
pub same_value : (env : List ℕ) (p q : Poly) → AreBytes env → plus (expanded p) (expanded q) ≡ [] → value env p ≡ value env q
unfolding total
same_value env p q all gone =
    equal_from_sum (value env p) (value env q) (
    sym (
    total-plus env (expanded p) (expanded q)
    ∙ ap (λ x. bit_xor x (total env (expanded q))) (total-expanded env p all)
    ∙ ap (bit_xor (value env p)) (total-expanded env q all))
    ∙ ap (λ (ls : List (List ℕ)). total env ls) gone)
