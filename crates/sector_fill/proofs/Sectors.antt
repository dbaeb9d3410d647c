-- Sectors filled as one slice of bytes.
use Rattle.std.proofs.Common.{◌≡◌, ℕ, zero, suc, ◌+◌, ◌-◌, ◌*◌, ◌≤◌, ◌<◌, min, inl, inr, List, [], ◌∷◌, ◌++◌, length, take, drop, replicate}
use Rattle.std.proofs.Common.{Option, Some, None, IfSome, refl, sym, append_assoc, ap, ◌∙◌, subst, arith}
use Rattle.std.specs.Prelude.{Result, Ok, Err, IfOk}
use Rattle.std.specs.Option.{option_map}
use Rattle.std.proofs.lemmas.Bool.{cases_lt}
use Rattle.std.proofs.lemmas.List.{take_all, drop_all, take_at, take-append-le, take-append-drop, length-take-le, length-drop}
use Rattle.std.proofs.lemmas.List.{length-replicate, replicate-append-replicate}
use Rattle.std.specs.Simd.{first_chunks}
use Rattle.std.proofs.lemmas.List as lists
use Rattle.std.proofs.Math.Seq.{take-append-add}
use borrow.Rule.Slice.PartMut.{put_mid}
use Rattle.core.proofs.slice.Relends.{length-first_chunks}
use Rattle.qic_base.specs.Source.{Meaning}
use Rattle.cartridge_spec.specs.Appending.{filled_up, in_sectors}
use Rattle.sector_fill.specs.Filling.{GaveUpTo, GaveWithin, IsFilled, FillsBytes, AreFilled, FillsSectors, IsFrontOf}
use Rattle.qic_base.proofs.Arrays.{full_sector}

-- ---- a slice whose rear was written

pub length-put_rear : (a k : ℕ) (xs ys : List ℕ) → a + length ys ≡ length xs →
    length (put_mid a k xs ys) ≡ a + length ys + (length xs - a - k)
length-put_rear a k xs ys long =
    let front = length-take-le a xs (omega arith) in
    let rear : length (drop k (drop a xs)) ≡ length xs - a - k = omega (arith, length-drop a xs, length-drop k (drop a xs)) in
    omega (arith, lists.length-append (take a xs) (ys ++ drop k (drop a xs)), lists.length-append ys (drop k (drop a xs)), front, rear)

pub take-put_rear : (a k n : ℕ) (xs ys : List ℕ) → a ≤ length xs → n ≤ length ys →
    take (a + n) (put_mid a k xs ys) ≡ take a xs ++ take n ys
take-put_rear a k n xs ys here few =
    let rest : List ℕ = ys ++ drop k (drop a xs) in
    ap (λ (j : ℕ). take (j + n) (take a xs ++ rest)) (sym (length-take-le a xs here))
    ∙ take-append-add (take a xs) rest n
    ∙ ap (λ (zs : List ℕ). take a xs ++ zs) (take-append-le n ys (drop k (drop a xs)) few)

-- ---- bytes with zero bytes behind them, cut into sectors

-- the first of the sectors
cut_next : (count : ℕ) (sector rest : List ℕ) → length sector ≡ 1024 →
    first_chunks 1024 (suc count) (sector ++ rest) ≡ sector ∷ first_chunks 1024 count rest
cut_next count sector rest long =
    ap (λ (front : List ℕ). front ∷ first_chunks 1024 count (drop 1024 (sector ++ rest))) (take_at sector rest 1024 long)
    ∙ ap (λ (bytes : List ℕ). sector ∷ first_chunks 1024 count bytes) (lists.drop_at sector rest 1024 long)

pub length-filled_up : (bytes : List ℕ) → length bytes ≤ 1024 → length (filled_up bytes) ≡ 1024
length-filled_up bytes few =
    let room : ℕ = 1024 - length bytes in
    omega (arith, lists.length-append bytes (replicate room 0), length-replicate {A = ℕ} room 0)

padding_apart : (count : ℕ) (bytes : List ℕ) (padding : ℕ) → length bytes ≤ 1024 → length bytes + padding ≡ 1024 * suc count →
    bytes ++ replicate padding 0 ≡ filled_up bytes ++ replicate (1024 * count) 0
padding_apart count bytes padding few all =
    let room : ℕ = 1024 - length bytes in
    let apart : padding ≡ room + 1024 * count = omega arith in
    ap (λ (k : ℕ). bytes ++ replicate k 0) apart
    ∙ ap (λ (rest : List ℕ). bytes ++ rest) (sym (replicate-append-replicate room (1024 * count) 0))
    ∙ sym (append_assoc bytes (replicate room 0) (replicate (1024 * count) 0))

pub cut_filled : (count : ℕ) (bytes : List ℕ) (padding : ℕ) → length bytes + padding ≡ 1024 * count →
    first_chunks 1024 count (bytes ++ replicate padding 0) ≡ in_sectors count bytes
cut_filled zero bytes padding all = refl
cut_filled (suc count) bytes padding all =
    elim (cases_lt 1024 (length bytes)) [
      | inl many ↦
          let front = length-take-le 1024 bytes (omega arith) in
          let behind : length (drop 1024 bytes) + padding ≡ 1024 * count = omega (arith, length-drop 1024 bytes) in
          ap (λ (xs : List ℕ). first_chunks 1024 (suc count) (xs ++ replicate padding 0)) (sym (take-append-drop 1024 bytes))
          ∙ ap (first_chunks 1024 (suc count)) (append_assoc (take 1024 bytes) (drop 1024 bytes) (replicate padding 0))
          ∙ cut_next count (take 1024 bytes) (drop 1024 bytes ++ replicate padding 0) front
          ∙ ap (λ (sectors : List (List ℕ)). take 1024 bytes ∷ sectors) (cut_filled count (drop 1024 bytes) padding behind)
          ∙ ap (λ (sector : List ℕ). sector ∷ in_sectors count (drop 1024 bytes)) (sym (full_sector (take 1024 bytes) front))
      | inr few ↦
          ap (first_chunks 1024 (suc count)) (padding_apart count bytes padding few all)
          ∙ cut_next count (filled_up bytes) (replicate (1024 * count) 0) (length-filled_up bytes few)
          ∙ ap (λ (sectors : List (List ℕ)). filled_up bytes ∷ sectors) (cut_filled count [] (1024 * count) (omega arith))
          ∙ ap (λ (xs : List ℕ). filled_up bytes ∷ in_sectors count xs) (sym (drop_all 1024 bytes few))
          ∙ ap (λ (xs : List ℕ). filled_up xs ∷ in_sectors count (drop 1024 bytes)) (sym (take_all 1024 bytes few))
    ]

are_filled : {S : Type 0} (m : Meaning S) (old new : S) (count most n : ℕ) (into : List ℕ) → length into ≡ 1024 * count →
    IsFilled m old new most into n → AreFilled m old new count most (first_chunks 1024 count into) n
are_filled m old new count most n into size filled = (
  filled.0,
  filled.1,
  subst (λ (room : ℕ). GaveUpTo m old new room most filled.0) size filled.2,
  ap (first_chunks 1024 count) filled.3
      ∙ cut_filled count filled.0 (length into - n) (omega (arith, filled.1, filled.2.fits)),
)

-- the first sectors, cut from the slice that was filled
pub fills_sectors : {S E : Type 0} (m : Meaning S) (old new : S) (count most : ℕ) (into : List ℕ) (behind : List (List ℕ))
    (result : Result ℕ E) →
    length into ≡ 1024 * count → FillsBytes m old new most into result →
    FillsSectors m old new count most (take count (first_chunks 1024 count into ++ behind)) result
fills_sectors m old new count most into behind (Ok n) size filled =
    let front = take_at (first_chunks 1024 count into) behind count (length-first_chunks 1024 count into) in
    rw front (are_filled m old new count most n into size filled)
fills_sectors m old new count most into behind (Err e) size gave =
    subst (λ (room : ℕ). GaveWithin m old new room most) size gave

-- ---- a source that tells its bytes

few_rest : (bytes rest : List ℕ) (n room most : ℕ) → length bytes ≡ n → n ≤ room → n ≤ most →
    (length bytes < room → length bytes < most → rest ≡ []) → n ≡ min (length (bytes ++ rest)) (min room most)
few_rest bytes rest n room most is fits within ended =
    let both = lists.length-append bytes rest in
    elim (cases_lt n room) [
      | inl small ↦ elim (cases_lt n most) [
        | inl less ↦
            let none : length rest ≡ 0 = ap (λ (xs : List ℕ). length xs) (ended (omega arith) (omega arith)) in
            omega (arith, both, none)
        | inr all ↦ omega (arith, both)
      ]
      | inr all ↦ omega (arith, both)
    ]

front_option : (o p : Option (List ℕ)) (bytes : List ℕ) (sectors : List (List ℕ)) (n count most : ℕ) → length bytes ≡ n →
    o ≡ option_map (λ rest. bytes ++ rest) p → length bytes ≤ 1024 * count → length bytes ≤ most →
    (length bytes < 1024 * count → length bytes < most → IfSome p (λ rest. rest ≡ [])) → sectors ≡ in_sectors count bytes →
    IfSome o (λ left. (n ≡ min (length left) (min (1024 * count) most))
    × (sectors ≡ in_sectors count (take n left)) × (p ≡ Some (drop n left)))
front_option None p bytes sectors n count most is gave fits within ended filled = tt
front_option (Some left) None bytes sectors n count most is gave fits within ended filled = absurd (cc)
front_option (Some left) (Some rest) bytes sectors n count most is gave fits within ended filled =
    let whole : left ≡ bytes ++ rest = cc in
    rw whole (
      few_rest bytes rest n (1024 * count) most is (omega arith) (omega arith) ended,
      filled ∙ ap (in_sectors count) (sym (take_at bytes rest n is)),
      ap (λ (xs : List ℕ). Some xs) (sym (lists.drop_at bytes rest n is)),
    )

front_of : {S : Type 0} (m : Meaning S) (old new : S) (count most n : ℕ) (sectors : List (List ℕ)) →
    AreFilled m old new count most sectors n → IsFrontOf m old new count most sectors n
front_of m old new count most n sectors are =
    front_option (m.left old) (m.left new) are.0 sectors n count most are.1 are.2.gave are.2.fits are.2.within are.2.ended are.3

pub fills_front : {S E : Type 0} (m : Meaning S) (old new : S) (count most : ℕ) (sectors : List (List ℕ)) (result : Result ℕ E) →
    FillsSectors m old new count most sectors result → IfOk result (λ n. IsFrontOf m old new count most sectors n)
fills_front m old new count most sectors (Ok n) are = front_of m old new count most n sectors are
fills_front m old new count most sectors (Err e) gave = tt
