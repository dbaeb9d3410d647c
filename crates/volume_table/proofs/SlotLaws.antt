-- What one slot tells, and what the slots before it have told.
use Rattle.std.proofs.Common.{◌≡◌, ℕ, ◌*◌, ◌/◌, ◌%◌, List, [], take, drop, get_or, refl, true, sym, ap, ◌∙◌, eq-eqb, false, codes, Some}
use Rattle.std.proofs.Common.{◌||◌, Bool, nat_lt, nat_le}
use Rattle.std.proofs.lemmas.Option.{unwrap_or-slice_get}
use Rattle.std.proofs.lemmas.Bool.{ne_eqb}
use Rattle.cartridge_laws.proofs.TableSlotLaws.{used_not_free, has_bad_range-taken}
use Rattle.cartridge_laws.specs.TableReading.{IsTakenBefore}
use Rattle.cartridge_spec.specs.Table.{slot, is_free, is_used, slot_fault, some_free_below, has_bad_range, entry_in}
use Rattle.cartridge_laws.specs.Slots.{ForeignSlot, BadRange}
use Rattle.qic_base.specs.Field.{number_at, little_endian}
use Rattle.volume_table.specs.Entry.{entry_of}
use Rattle.volume_table.specs.declared.entry.Entry.{Entry}
use Rattle.cartridge_spec.specs.Table as table

-- a slot as a range of its sector
pub slot-range : (area : List (List ℕ)) (i n place : ℕ) → place ≡ 128 * (i % 8) → n ≡ 128 →
    take n (drop place (get_or area (i / 8) [])) ≡ slot area i
unfolding slot
slot-range area i n place here size = rw (here, size, unwrap_or-slice_get area (i / 8) []) refl

-- the signature that was read tells whether the slot is free or used
pub is_free-signature : (area : List (List ℕ)) (i signature : ℕ) (bytes : List ℕ) → bytes ≡ slot area i → signature ≡ number_at bytes 0 4 →
    signature ≡ 0 → is_free (slot area i) ≡ true
is_free-signature area i signature bytes here is none =
    eq-eqb _ 0 (ap (λ (b : List ℕ). number_at b 0 4) (sym here) ∙ sym is ∙ none)

pub not_free-signature : (area : List (List ℕ)) (i signature : ℕ) (bytes : List ℕ) → bytes ≡ slot area i → signature ≡ number_at bytes 0 4 →
    (signature ≡ 0 → ⊥) → is_free (slot area i) ≡ false
not_free-signature area i signature bytes here is other =
    ne_eqb _ 0 (λ e. other (is ∙ ap (λ (b : List ℕ). number_at b 0 4) here ∙ e))

pub is_used-signature : (area : List (List ℕ)) (i signature : ℕ) (bytes : List ℕ) → bytes ≡ slot area i → signature ≡ number_at bytes 0 4 →
    signature ≡ little_endian (codes "VTBL") → is_used (slot area i) ≡ true
is_used-signature area i signature bytes here is used =
    eq-eqb _ _ (ap (λ (b : List ℕ). number_at b 0 4) (sym here) ∙ sym is ∙ used)

pub not_used-signature : (area : List (List ℕ)) (i signature : ℕ) (bytes : List ℕ) → bytes ≡ slot area i → signature ≡ number_at bytes 0 4 →
    (signature ≡ little_endian (codes "VTBL") → ⊥) → is_used (slot area i) ≡ false
not_used-signature area i signature bytes here is other =
    ne_eqb _ _ (λ e. other (is ∙ ap (λ (b : List ℕ). number_at b 0 4) here ∙ e))

pub slot_fault-not_used : (area : List (List ℕ)) (last i : ℕ) → is_free (slot area i) ≡ false → is_used (slot area i) ≡ false →
    slot_fault area last i ≡ Some (ForeignSlot i)
unfolding slot_fault
slot_fault-not_used area last i free used = rw (free, used) refl

pub slot_fault-behind_free : (area : List (List ℕ)) (last i : ℕ) → is_free (slot area i) ≡ false → is_used (slot area i) ≡ true →
    some_free_below area i ≡ true → slot_fault area last i ≡ Some (ForeignSlot i)
unfolding slot_fault
slot_fault-behind_free area last i free used below = rw (free, used, below) refl

pub slot_fault-bad_range : (area : List (List ℕ)) (last i : ℕ) → is_used (slot area i) ≡ true → some_free_below area i ≡ false →
    has_bad_range area last i ≡ true → slot_fault area last i ≡ Some (BadRange i)
unfolding slot_fault
slot_fault-bad_range area last i used below bad = rw (used_not_free (slot area i) used, used, below, bad) refl

-- so the test of an entry's fields is the test of its slot
pub has_bad_range-entry : (area : List (List ℕ)) (last i taken : ℕ) (entry : Entry) (bytes : List ℕ) (answer : Bool) → bytes ≡ slot area i →
    entry_of entry ≡ entry_in bytes → IsTakenBefore area i taken →
    answer ≡ (nat_le entry.start taken || nat_lt entry.end entry.start || nat_lt last entry.end) → has_bad_range area last i ≡ answer
has_bad_range-entry area last i taken entry bytes answer here is before says =
    let all : entry_of entry ≡ entry_in (slot area i) = is ∙ ap entry_in here in
    let starts : entry.start ≡ (entry_in (slot area i)).start = ap (λ (v : table.Entry). v.start) all in
    let ends : entry.end ≡ (entry_in (slot area i)).end = ap (λ (v : table.Entry). v.end) all in
    has_bad_range-taken area last i taken before ∙ rw (← starts, ← ends) (sym says)
