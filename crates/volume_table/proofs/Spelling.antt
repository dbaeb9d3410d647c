-- The bytes of a slot are spelled field by field over zeros.
use Rattle.std.proofs.Common.{◌≡◌, ℕ, suc, ◌+◌, List, [], ◌∷◌, ◌++◌, length, drop, set, replicate, sym, ap, ◌∙◌, arith, length-append}
use Rattle.std.proofs.Math.Seq.{set-append_seam}
use Rattle.std.proofs.lemmas.List.{append_assoc, take_at, drop_at, length-replicate, replicate-append-replicate}
use Rattle.qic_base.specs.Field.{overwritten}

-- the bytes begin with a front that ends at a place, and all others are zero
pub record IsSpelled (bytes front : List ℕ) (at left : ℕ) : Type 0 where
  pub is : bytes ≡ front ++ replicate left 0
  pub long : length front ≡ at

more_zeros : (front : List ℕ) (n left : ℕ) → front ++ replicate (n + left) 0 ≡ front ++ replicate n 0 ++ replicate left 0
more_zeros front n left =
    ap (λ (zeros : List ℕ). front ++ zeros) (sym (replicate-append-replicate n left 0))
    ∙ sym (append_assoc front (replicate n 0) (replicate left 0))

over_zeros : (front part : List ℕ) (at n left : ℕ) → length front ≡ at → length part ≡ n →
    overwritten (front ++ replicate (n + left) 0) at part ≡ front ++ part ++ replicate left 0
unfolding overwritten
over_zeros front part at n left here long =
    let zeros : length (replicate n 0) ≡ n = length-replicate {A = ℕ} n 0 in
    ap (λ (xs : List ℕ). xs ++ part ++ drop (at + length part) (front ++ replicate (n + left) 0))
    (take_at front (replicate (n + left) 0) at here)
    ∙ ap (λ (xs : List ℕ). front ++ part ++ drop (at + length part) xs) (more_zeros front n left)
    ∙ ap (λ (xs : List ℕ). front ++ part ++ xs)
    (drop_at (front ++ replicate n 0) (replicate left 0) (at + length part) (omega (arith, length-append front (replicate n 0), zeros)))

-- a part was written behind the front
pub next_part : {bytes new front : List ℕ} {at : ℕ} (part : List ℕ) (n left : ℕ) → IsSpelled bytes front at (n + left) → length part ≡ n →
    new ≡ overwritten bytes at part → IsSpelled new (front ++ part) (at + n) left
next_part {bytes = bytes} {new = new} {front = front} {at = at} part n left before long written = record {
  is = written ∙ ap (λ (xs : List ℕ). overwritten xs at part) before.is ∙ over_zeros front part at n left before.long long;
  long = omega (arith, length-append front part, before.long);
}

-- or a byte
next_byte : (bytes front : List ℕ) (at byte left : ℕ) → IsSpelled bytes front at (suc left) →
    IsSpelled (set bytes at byte) (front ++ byte ∷ []) (at + 1) left
next_byte bytes front at byte left before = record {
  is =
      ap (λ (xs : List ℕ). set xs at byte) before.is
      ∙ ap (λ (k : ℕ). set (front ++ replicate (suc left) 0) k byte) (sym before.long)
      ∙ set-append_seam front 0 (replicate left 0) byte
      ∙ sym (append_assoc front (byte ∷ []) (replicate left 0));
  long = omega (arith, length-append front (byte ∷ []), before.long);
}

-- or two
pub next_bytes : {bytes front : List ℕ} {at : ℕ} (one other left : ℕ) → IsSpelled bytes front at (suc (suc left)) →
    IsSpelled (set (set bytes at one) (at + 1) other) (front ++ (one ∷ other ∷ [])) (at + 2) left
next_bytes {bytes = bytes} {front = front} {at = at} one other left before =
    let both = next_byte (set bytes at one) (front ++ one ∷ []) (at + 1) other left (next_byte bytes front at one (suc left) before) in
    record {
      is = both.is ∙ ap (λ (xs : List ℕ). xs ++ replicate left 0) (append_assoc front (one ∷ []) (other ∷ []));
      long = omega (arith, length-append front (one ∷ other ∷ []), before.long);
    }

-- zeros are left as they are
pub skip_zeros : {bytes front : List ℕ} {at : ℕ} (n left : ℕ) → IsSpelled bytes front at (n + left) →
    IsSpelled bytes (front ++ replicate n 0) (at + n) left
skip_zeros {front = front} n left before = record {
  is = before.is ∙ more_zeros front n left;
  long = omega (arith, length-append front (replicate n 0), length-replicate {A = ℕ} n 0, before.long);
}
