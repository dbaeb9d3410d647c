-- The lists that a table's data show.
use Rattle.std.proofs.Common.{◌≡◌, ℕ, ◌<◌, true, false, List, length, arith, sym, ◌∙◌}
use Rattle.std.proofs.lemmas.List.{same_lists}
use Rattle.std.proofs.lemmas.Option.{get_or_from_slice_get}
use Rattle.cartridge_laws.proofs.TableSlotLaws.{used_not_free}
use Rattle.cartridge_laws.specs.TableLaws.{VolumesAreDetermined}
use Rattle.cartridge_spec.specs.Table.{Entry, Shows, slot, is_free, entry_in}

-- a list that ends earlier would have a free slot where the other has a used one
none_longer : (area : List (List ℕ)) (one other : List Entry) → Shows area one → Shows area other → length one < length other → ⊥
none_longer area one other s t more =
    let free : is_free (slot area (length one)) ≡ true = s.free (length one) (omega arith) (omega (arith, t.room)) in
    let used : is_free (slot area (length one)) ≡ false = used_not_free _ (t.used (length one) more) in
    cc

pub volumes_are_determined : VolumesAreDetermined
volumes_are_determined area one other s t =
    let count : length one ≡ length other = omega (arith, none_longer area one other s t, none_longer area other one t s) in
    same_lists one other count
    (λ k d h.
    get_or_from_slice_get one k (entry_in (slot area k)) d (s.shown k h)
    ∙ sym (get_or_from_slice_get other k (entry_in (slot area k)) d (t.shown k (omega arith))))
