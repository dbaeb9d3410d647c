-- The places of a set of sectors, by a test, and sectors put behind the data.
use Rattle.std.proofs.Common.{◌≡◌, ℕ, zero, suc, ◌+◌, ◌-◌, ◌<◌, ◌++◌, refl, sym, ◌∙◌, ap, arith, Bool, List, [], ◌∷◌, length, take}
use Rattle.std.proofs.Common.{filter, zero-add, add-zero}
use Rattle.std.specs.Prelude.{if◌then◌else◌}
use Rattle.std.specs.List.{range_with_len}
use Rattle.std.proofs.lemmas.List.{append-nil, length-drop, nil_from_length}
use Rattle.std.proofs.lemmas.List.Elements.{filter-append}
use Rattle.qic_base.proofs.Arrays.{range_part}
use Rattle.qic_base.specs.Cartridge.{lost_places}
use Rattle.qic_base.specs.CartridgeTerms.{is_lost}
use Rattle.cartridge_laws.specs.Segment.{places_where}
use borrow.Rule.Slice.PartMut.{put_mid, post_of}

places_filter : (mask n : ℕ) (test : ℕ → Bool) → ((i : ℕ) → i < n → is_lost mask i ≡ test i) →
    lost_places mask n ≡ filter test (range_with_len 0 n)
unfolding lost_places
places_filter mask zero test same = refl
places_filter mask (suc n) test same =
    let one : suc n ≡ n + 1 = omega arith in
    ap (λ (l : List ℕ). l ++ (if is_lost mask n then n ∷ [] else [])) (places_filter mask n test (λ i within. same i (omega arith)))
    ∙ ap (λ (b : Bool). filter test (range_with_len 0 n) ++ (if b then n ∷ [] else [])) (same n (omega arith))
    ∙ sym (ap (λ (k : ℕ). filter test (range_with_len 0 k)) one
    ∙ ap (filter test) (range_part 0 n 1 ∙ ap (λ (k : ℕ). range_with_len 0 n ++ k ∷ []) (zero-add n))
    ∙ filter-append test (range_with_len 0 n) (n ∷ []))

pub places_of_set : (mask : ℕ) (test : ℕ → Bool) → ((i : ℕ) → i < 32 → is_lost mask i ≡ test i) → lost_places mask 32 ≡ places_where test
places_of_set mask test same = places_filter mask 32 test same

-- the parity is put behind the data
pub put_end : (old parity : List (List ℕ)) → length old ≡ 32 → put_mid 29 (length old - 29) old parity ≡ take 29 old ++ parity
put_end old parity room =
    let none : post_of 29 (length old - 29) old ≡ [] = nil_from_length (post_of 29 (length old - 29) old)
    (simp length-drop (omega arith)) in
    ap (λ (l : List (List ℕ)). take 29 old ++ (parity ++ l)) none
    ∙ ap (λ (l : List (List ℕ)). take 29 old ++ l) (append-nil parity)
