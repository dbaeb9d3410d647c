-- Exclusive or as the sum of the field, and functions that keep it.
use Rattle.std.proofs.Common.{◌≡◌, ℕ, zero, suc, ◌+◌, ◌-◌, ◌*◌, ◌^◌, ◌<◌, ◌≤◌, sym, ◌∙◌, ap, subst, arith, inl, inr, bit_xor}
use Rattle.std.proofs.Math.Nat.{pow-suc}
use Rattle.std.specs.Int.Bits.{xor_assoc, xor_self, xor_zero_l, xor_zero_r, xor_shifted}
use Rattle.std.proofs.lemmas.Nat.{xor_comm, xor_of_8}
use Rattle.std.proofs.lemmas.Bool.{cases_lt}

pub swap4 : (a b c d : ℕ) → bit_xor (bit_xor a b) (bit_xor c d) ≡ bit_xor (bit_xor a c) (bit_xor b d)
swap4 a b c d =
    xor_assoc a b (bit_xor c d)
    ∙ ap (bit_xor a) (sym (xor_assoc b c d) ∙ ap (λ x. bit_xor x d) (xor_comm b c) ∙ xor_assoc c b d)
    ∙ sym (xor_assoc a c (bit_xor b d))

-- a sum of 0 has equal terms
pub equal_from_sum : (a b : ℕ) → bit_xor a b ≡ 0 → a ≡ b
equal_from_sum a b h =
    sym (xor_zero_r a) ∙ ap (bit_xor a) (sym (xor_self b)) ∙ sym (xor_assoc a b b)
    ∙ ap (λ x. bit_xor x b) h ∙ xor_zero_l b

-- a term that stands twice falls out
pub sum_cancel : (a b : ℕ) → bit_xor a (bit_xor a b) ≡ b
sum_cancel a b = sym (xor_assoc a a b) ∙ ap (λ x. bit_xor x b) (xor_self a) ∙ xor_zero_l b

pub sum_byte : (a b : ℕ) → a < 256 → b < 256 → bit_xor a b < 256
sum_byte a b ha hb = xor_of_8 a b ha hb

-- a function that keeps sums
pub record IsAdditive (f : ℕ → ℕ) : Type 0 where
  pub adds : (a b : ℕ) → f (bit_xor a b) ≡ bit_xor (f a) (f b)

pub additive_zero : (f : ℕ → ℕ) → IsAdditive f → f 0 ≡ 0
additive_zero f af = af.adds 0 0 ∙ xor_self (f 0)

-- a number with bit k as its highest is the sum of 2 ^ k and its lower part
top_and_rest : (k a : ℕ) → 2 ^ k ≤ a → a < 2 ^ suc k → a ≡ bit_xor (2 ^ k) (a - 2 ^ k)
top_and_rest k a low high =
    let rest : a - 2 ^ k < 2 ^ k = omega (arith, pow-suc 2 k) in
    let joined : bit_xor (1 * 2 ^ k) (a - 2 ^ k) ≡ 1 * 2 ^ k + (a - 2 ^ k) = xor_shifted 1 k (a - 2 ^ k) rest in
    let one : 1 * 2 ^ k ≡ 2 ^ k = omega arith in
    let back : 1 * 2 ^ k + (a - 2 ^ k) ≡ a = omega arith in
    sym back ∙ sym joined ∙ ap (λ x. bit_xor x (a - 2 ^ k)) one

-- two functions that keep sums are alike where they are so at the powers of 2
pub alike :
    (f g : ℕ → ℕ) → IsAdditive f → IsAdditive g →
    (k : ℕ) → ((i : ℕ) → i < k → f (2 ^ i) ≡ g (2 ^ i)) → (a : ℕ) → a < 2 ^ k → f a ≡ g a
alike f g af ag zero same a h =
    let none : a ≡ 0 = omega arith in
    ap f none ∙ additive_zero f af ∙ sym (additive_zero g ag) ∙ sym (ap g none)
alike f g af ag (suc k) same a h =
    elim (cases_lt a (2 ^ k)) [
      | inl below ↦ alike f g af ag k (λ i lt. same i (omega arith)) a below
      | inr above ↦
          let rest : a - 2 ^ k < 2 ^ k = omega (arith, pow-suc 2 k) in
          let parts : a ≡ bit_xor (2 ^ k) (a - 2 ^ k) = top_and_rest k a above h in
          let tails : f (a - 2 ^ k) ≡ g (a - 2 ^ k) =
          alike f g af ag k (λ i lt. same i (omega arith)) (a - 2 ^ k) rest in
          ap f parts ∙ af.adds (2 ^ k) (a - 2 ^ k)
          ∙ ap (λ x. bit_xor x (f (a - 2 ^ k))) (same k (omega arith))
          ∙ ap (bit_xor (g (2 ^ k))) tails
          ∙ sym (ag.adds (2 ^ k) (a - 2 ^ k)) ∙ sym (ap g parts)
    ]

-- a function that keeps sums gives bytes where it does so at the powers of 2
pub bytes_from_powers :
    (f : ℕ → ℕ) → IsAdditive f →
    (k : ℕ) → ((i : ℕ) → i < k → f (2 ^ i) < 256) → (a : ℕ) → a < 2 ^ k → f a < 256
bytes_from_powers f af zero byte a h =
    let none : a ≡ 0 = omega arith in
    let is_zero : f a ≡ 0 = ap f none ∙ additive_zero f af in omega arith
bytes_from_powers f af (suc k) byte a h =
    elim (cases_lt a (2 ^ k)) [
      | inl below ↦ bytes_from_powers f af k (λ i lt. byte i (omega arith)) a below
      | inr above ↦
          let rest : a - 2 ^ k < 2 ^ k = omega (arith, pow-suc 2 k) in
          let parts : f a ≡ bit_xor (f (2 ^ k)) (f (a - 2 ^ k)) =
          ap f (top_and_rest k a above h) ∙ af.adds (2 ^ k) (a - 2 ^ k) in
          let P : ℕ → Type 0 = λ x. x < 256 in
          subst P (sym parts)
          (sum_byte (f (2 ^ k)) (f (a - 2 ^ k)) (byte k (omega arith))
          (bytes_from_powers f af k (λ i lt. byte i (omega arith)) (a - 2 ^ k) rest))
    ]
