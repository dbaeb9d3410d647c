-- The slot that a fault of the volume table names is one of the table's.
use Rattle.std.proofs.Common.{◌≡◌, ℕ, ◌<◌, Bool, true, false, cond, not, ◌||◌, List, Some, None, sym, ap, subst}
use Rattle.std.proofs.lemmas.Option.{same_Some}
use Rattle.cartridge_laws.specs.Slots.{TableFault, ForeignSlot, BadRange}
use Rattle.cartridge_spec.specs.Table.{IsFirstFault, slot_fault, slot, is_free, is_used, some_free_below, has_bad_range}

abbrev pub fault_number : TableFault → ℕ
fault_number fault = fault.value

pick_number : (free foreign bad : Bool) (i : ℕ) (f : TableFault) →
    cond free None (cond foreign (Some (ForeignSlot i)) (cond bad (Some (BadRange i)) None)) ≡ Some f → fault_number f ≡ i
pick_number true foreign bad i f is = absurd (cc)
pick_number false true bad i f is = sym (ap fault_number (same_Some (ForeignSlot i) f is))
pick_number false false true i f is = sym (ap fault_number (same_Some (BadRange i) f is))
pick_number false false false i f is = absurd (cc)

number_of_fault : (area : List (List ℕ)) (last i : ℕ) (f : TableFault) → slot_fault area last i ≡ Some f → fault_number f ≡ i
unfolding slot_fault
number_of_fault area last i f is =
    pick_number (is_free (slot area i)) (not (is_used (slot area i)) || some_free_below area i) (has_bad_range area last i) i f is

pub slot_within : (area : List (List ℕ)) (last : ℕ) (f : TableFault) → IsFirstFault area last f → fault_number f < 232
slot_within area last f first =
    subst (λ (i : ℕ). i < 232) (sym (number_of_fault area last first.place f first.here)) first.within
