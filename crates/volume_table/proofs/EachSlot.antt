-- Data show a list where each of the 232 slots is as it is for the list.
use Rattle.std.proofs.Common.{◌≡◌, ℕ, ◌<◌, ◌≤◌, true, List, length, get_or, Some, ap, ◌∙◌, subst, arith}
use Rattle.std.specs.List.{slice_get}
use Rattle.std.proofs.lemmas.Option.{slice_get-get_or, slice_get_past}
use Rattle.cartridge_spec.specs.Table.{Entry, Shows, slot, entry_in, is_used}
use Rattle.volume_table.specs.Reading.{IsSlotOf}

-- each slot below n is as it is for the list
abbrev pub EachIsSlotOf : List (List ℕ) → List Entry → ℕ → Type 0
EachIsSlotOf area entries n = (i : ℕ) → i < n → IsSlotOf area i (slice_get entries i)

-- a slot below the length is used, with the entry of the list
has_entry : (area : List (List ℕ)) (entries : List Entry) (i : ℕ) → i < length entries → IsSlotOf area i (slice_get entries i) →
    (is_used (slot area i) ≡ true) × (slice_get entries i ≡ Some (entry_in (slot area i)))
has_entry area entries i within is =
    let entry : Entry = get_or entries i (entry_in (slot area i)) in
    let here : slice_get entries i ≡ Some entry = slice_get-get_or entries i (entry_in (slot area i)) within in
    let of : IsSlotOf area i (Some entry) = subst (IsSlotOf area i) here is in
    (of.0, here ∙ ap Some of.1)

pub shown_by_each : (area : List (List ℕ)) (entries : List Entry) → length entries ≤ 232 → EachIsSlotOf area entries 232 →
    Shows area entries
shown_by_each area entries few each = record {
  room = few;
  used = λ i within. (has_entry area entries i within (each i (omega arith))).0;
  shown = λ i within. (has_entry area entries i within (each i (omega arith))).1;
  free = λ i behind within. let is = each i within in rw (slice_get_past entries i behind) at is;
}
