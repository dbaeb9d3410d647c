-- The slots of a table, one by one.
use Rattle.std.proofs.Common.{◌≡◌, ℕ, ◌+◌, ◌*◌, ◌<◌, ◌≤◌, true, false, List, [], ◌∷◌, drop, length, refl, ap, ◌∙◌, arith}
use Rattle.std.proofs.lemmas.List.{drop_more, drop_all}
use Rattle.std.proofs.lemmas.List.FromFn.{length-map-range_with_len, get_or-map-range_with_len}
use Rattle.cartridge_spec.specs.Table.{slot, is_used}
use Rattle.dump_spec.specs.Volumes.{is_passed, slots, volume_slots}

-- the slots from one on
abbrev pub slots_at : (area : List (List ℕ)) → ℕ → List (List ℕ)
slots_at area at = drop at (slots area)

slot_here : (area : List (List ℕ)) (at : ℕ) → at < 8 * length area → slots_at area at ≡ slot area at ∷ slots_at area (at + 1)
slot_here area at within =
    let long = length-map-range_with_len (slot area) 0 (8 * length area) in
    drop_more (slots area) at [] (omega arith)
    ∙ ap (λ (s : List ℕ). s ∷ slots_at area (at + 1))
    (get_or-map-range_with_len (slot area) 0 (8 * length area) at at [] within (omega arith))

pub used_here : (area : List (List ℕ)) (at : ℕ) → at < 8 * length area → is_used (slot area at) ≡ true →
    volume_slots (slots_at area at) ≡ slot area at ∷ volume_slots (slots_at area (at + 1))
used_here area at within used = ap volume_slots (slot_here area at within) ∙ rw used refl

pub passed_here : (area : List (List ℕ)) (at : ℕ) → at < 8 * length area → is_used (slot area at) ≡ false →
    is_passed (slot area at) ≡ true → volume_slots (slots_at area at) ≡ volume_slots (slots_at area (at + 1))
passed_here area at within other passed = ap volume_slots (slot_here area at within) ∙ rw (other, passed) refl

pub ended_here : (area : List (List ℕ)) (at : ℕ) → at < 8 * length area → is_used (slot area at) ≡ false →
    is_passed (slot area at) ≡ false → volume_slots (slots_at area at) ≡ []
ended_here area at within other ends = ap volume_slots (slot_here area at within) ∙ rw (other, ends) refl

pub slots_end : (area : List (List ℕ)) (at : ℕ) → 8 * length area ≤ at → volume_slots (slots_at area at) ≡ []
slots_end area at behind =
    let long = length-map-range_with_len (slot area) 0 (8 * length area) in
    ap volume_slots (drop_all at (slots area) (omega arith))
