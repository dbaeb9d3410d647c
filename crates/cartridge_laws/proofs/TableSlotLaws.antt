-- What one slot tells, and what the slots before it have told.
use Rattle.std.proofs.Common.{◌≡◌, ℕ, ◌-◌, true, false, List, codes, arith, None, refl, ◌||◌, nat_lt, nat_le, ◌≤◌, suc, ◌&&◌, Bool, ap, ◌∙◌}
use Rattle.std.proofs.Common.{zero, sym}
use Rattle.std.proofs.lemmas.Bool.{eqb-true, ne_eqb}
use Rattle.std.proofs.lemmas.Bool.Decides.{nat_tests}
use Rattle.cartridge_laws.specs.TableReading.{IsTakenBefore}
use Rattle.cartridge_spec.specs.Table.{is_free, is_used, slot, slot_fault, some_free_below, has_bad_range, entry_in}
use Rattle.cartridge_laws.specs.Slots.{overlaps_before}
use Rattle.qic_base.specs.Field.{number_at, little_endian}

-- a used slot is not free
pub used_not_free : (bytes : List ℕ) → is_used bytes ≡ true → is_free bytes ≡ false
used_not_free bytes used =
    let is : number_at bytes 0 4 ≡ little_endian (codes "VTBL") = eqb-true _ _ used in
    ne_eqb _ 0 (λ e. omega (arith, is, e))

-- the fault of a slot, case by case
pub slot_fault-free : (area : List (List ℕ)) (last i : ℕ) → is_free (slot area i) ≡ true → slot_fault area last i ≡ None
unfolding slot_fault
slot_fault-free area last i free = rw free refl

pub slot_fault-sound : (area : List (List ℕ)) (last i : ℕ) → is_used (slot area i) ≡ true → some_free_below area i ≡ false →
    has_bad_range area last i ≡ false → slot_fault area last i ≡ None
unfolding slot_fault
slot_fault-sound area last i used below good = rw (used_not_free (slot area i) used, used, below, good) refl

-- the range test, by the last segment that is taken
bad_range-first : (start end last : ℕ) →
    (nat_lt start 3 || nat_lt end start || nat_lt last end || false) ≡ (nat_le start 2 || nat_lt end start || nat_lt last end)
bad_range-first start end last = grind (arith, nat_tests)

bad_range-more : (start end last before : ℕ) → 2 ≤ before →
    (nat_lt start 3 || nat_lt end start || nat_lt last end || nat_le start before) ≡
    (nat_le start before || nat_lt end start || nat_lt last end)
bad_range-more start end last before least = grind (arith, nat_tests)

positive : (i : ℕ) → nat_lt 0 (suc i) ≡ true
positive i = grind (arith, nat_tests)

overlaps_before-more : (area : List (List ℕ)) (i : ℕ) → overlaps_before area (suc i) ≡ nat_le (entry_in (slot area (suc i))).start
    (entry_in (slot area i)).end
overlaps_before-more area i =
    ap (λ (b : Bool). b && nat_le (entry_in (slot area (suc i))).start (entry_in (slot area (suc i - 1))).end) (positive i)
    ∙ ap (λ (j : ℕ). nat_le (entry_in (slot area (suc i))).start (entry_in (slot area j)).end) prev
  where
    prev : suc i - 1 ≡ i
    prev = omega arith

pub has_bad_range-taken : (area : List (List ℕ)) (last i taken : ℕ) → IsTakenBefore area i taken →
    has_bad_range area last i ≡ (nat_le (entry_in (slot area i)).start taken || nat_lt (entry_in (slot area i)).end
    (entry_in (slot area i)).start || nat_lt last (entry_in (slot area i)).end)
has_bad_range-taken area last zero taken t =
    rw t.is (bad_range-first (entry_in (slot area 0)).start (entry_in (slot area 0)).end last)
has_bad_range-taken area last (suc i) taken t =
    let start : ℕ = (entry_in (slot area (suc i))).start in
    let end : ℕ = (entry_in (slot area (suc i))).end in
    ap (λ (b : Bool). nat_lt start 3 || nat_lt end start || nat_lt last end || b)
    (overlaps_before-more area i ∙ ap (nat_le start) (sym t.is))
    ∙ bad_range-more start end last taken t.least
