-- A table's data with one slot written: that slot has its bytes, and all others are as they were; so the data show one
-- entry more.
use Rattle.std.proofs.Common.{◌≡◌, ℕ, ◌-◌, ◌<◌, List, [], length, set, ap, ◌≢◌, sym, arith, ◌+◌, ◌++◌, take, drop, All, ◌*◌, ◌%◌, ◌∙◌, ◌/◌}
use Rattle.std.proofs.Common.{inl, inr, ◌∷◌, slice_get, Some, true}
use Rattle.std.proofs.lemmas.List.Elements.{All-append, All-take, All-drop, All-set}
use Rattle.std.proofs.lemmas.Option.{slice_get-get_or, slice_get_within, get_or_from_slice_get}
use Rattle.std.proofs.lemmas.List.{length-set, length_push, get_or_append_left}
use Rattle.std.specs.List.{slice_range}
use Rattle.std.proofs.lemmas.Bool.{cases_lt, cases_eq}
use Rattle.cartridge_spec.specs.Shape.{IsArea, sector_at}
use Rattle.cartridge_laws.specs.Slots.{slot_sector, with_slot}
use Rattle.cartridge_spec.specs.Table.{slot, Entry, Shows, entry_in, is_used, is_free}
use Rattle.qic_base.proofs.FieldLaws.{length-overwritten, slice_range-overwritten, slice_range-overwritten_below}
use Rattle.qic_base.proofs.FieldLaws.{slice_range-overwritten_above}
use Rattle.qic_base.specs.Cartridge.{IsSector}
use Rattle.qic_base.specs.Field.{overwritten}
use Rattle.cartridge_laws.proofs.FreshSpelled.{sector_is}
use Rattle.cartridge_laws.proofs.MapAreaLaws.{sector_at-set_same, sector_at-set_other}
use Rattle.cartridge_laws.proofs.TableTotals.{slice_get-last}

-- ---- the sectors

-- 29 sectors of 1,024 numbers, which may be no bytes
pub record IsLong (area : List (List ℕ)) : Type 0 where
  pub size : length area ≡ 29
  pub sectors : (i : ℕ) → i < 29 → length (sector_at area i) ≡ 1024

pub area_is_long : (area : List (List ℕ)) → IsArea area → IsLong area
area_is_long area is = record { size = is.size; sectors = λ i h. (sector_is area i is h).size }

bytes_of_overwritten : (bytes part : List ℕ) (at : ℕ) → All (λ b. b < 256) bytes → All (λ b. b < 256) part →
    All (λ b. b < 256) (overwritten bytes at part)
unfolding overwritten
bytes_of_overwritten bytes part at are part_are =
    All-append (λ (b : ℕ). b < 256) (take at bytes ++ part) (drop (at + length part) bytes)
    (All-append (λ (b : ℕ). b < 256) (take at bytes) part (All-take (λ (b : ℕ). b < 256) at bytes are) part_are)
    (All-drop (λ (b : ℕ). b < 256) (at + length part) bytes are)

pub slot_area : (area : List (List ℕ)) (i : ℕ) (bytes : List ℕ) → IsArea area → i < 232 → length bytes ≡ 128 → All (λ b. b < 256) bytes →
    IsArea (with_slot area i bytes)
slot_area area i bytes is within long are =
    let k : ℕ = slot_sector i in
    let old = sector_is area k is (omega arith) in
    let size : length (sector_at area k) ≡ 1024 = old.size in
    record {
      size = length-set area k (overwritten (sector_at area k) (128 * (i % 8)) bytes) ∙ is.size;
      sectors = All-set IsSector area k (overwritten (sector_at area k) (128 * (i % 8)) bytes) (record {
        size = length-overwritten (sector_at area k) bytes (128 * (i % 8)) (omega arith) ∙ size;
        each = bytes_of_overwritten (sector_at area k) bytes (128 * (i % 8)) old.each are;
      }) is.sectors;
    }

-- ---- the slots

-- the slot's bytes, as a range of its sector
slot_range : (area : List (List ℕ)) (i : ℕ) → slot area i ≡ slice_range (sector_at area (i / 8)) (128 * (i % 8)) (128 * (i % 8) + 128)
unfolding slot
slot_range area i =
    let long : 128 ≡ 128 * (i % 8) + 128 - 128 * (i % 8) = omega arith in
    ap (λ (n : ℕ). take n (drop (128 * (i % 8)) (sector_at area (i / 8)))) long

slot_written : (area : List (List ℕ)) (i : ℕ) (bytes : List ℕ) → IsLong area → i < 232 → length bytes ≡ 128 →
    slot (with_slot area i bytes) i ≡ bytes
slot_written area i bytes is within long =
    let k : ℕ = i / 8 in
    let at : ℕ = 128 * (i % 8) in
    let count : length area ≡ 29 = is.size in
    let size : length (sector_at area k) ≡ 1024 = is.sectors k (omega arith) in
    slot_range (with_slot area i bytes) i
    ∙ ap (λ (sector : List ℕ). slice_range sector at (at + 128))
    (sector_at-set_same area k (overwritten (sector_at area k) at bytes) (omega arith))
    ∙ slice_range-overwritten (sector_at area k) bytes at (at + 128) (omega arith) (omega arith)

same_sector : (area : List (List ℕ)) (i j : ℕ) (bytes : List ℕ) → IsLong area → i < 232 → length bytes ≡ 128 → j ≢ i → j / 8 ≡ i / 8 →
    slice_range (overwritten (sector_at area (i / 8)) (128 * (i % 8)) bytes) (128 * (j % 8)) (128 * (j % 8) + 128)
    ≡ slice_range (sector_at area (i / 8)) (128 * (j % 8)) (128 * (j % 8) + 128)
same_sector area i j bytes is within long apart same =
    let size : length (sector_at area (i / 8)) ≡ 1024 = is.sectors (i / 8) (omega arith) in
    elim (cases_lt (j % 8) (i % 8)) [
      | inl below ↦
          slice_range-overwritten_below (sector_at area (i / 8)) bytes (128 * (i % 8)) (128 * (j % 8)) (128 * (j % 8) + 128)
          (omega arith) (omega arith) (omega arith)
      | inr above ↦
          slice_range-overwritten_above (sector_at area (i / 8)) bytes (128 * (i % 8)) (128 * (j % 8)) (128 * (j % 8) + 128)
          (omega arith) (omega arith) (omega arith)
    ]

other_slot : (area : List (List ℕ)) (i j : ℕ) (bytes : List ℕ) → IsLong area → i < 232 → length bytes ≡ 128 → j ≢ i →
    slot (with_slot area i bytes) j ≡ slot area j
other_slot area i j bytes is within long apart =
    let k : ℕ = i / 8 in
    let new : List ℕ = overwritten (sector_at area k) (128 * (i % 8)) bytes in
    let from : ℕ = 128 * (j % 8) in
    let count : length area ≡ 29 = is.size in
    slot_range (with_slot area i bytes) j
    ∙ elim (cases_eq (j / 8) k) [
      | inl same ↦
          ap (λ (n : ℕ). slice_range (sector_at (set area k new) n) from (from + 128)) same
          ∙ ap (λ (sector : List ℕ). slice_range sector from (from + 128)) (sector_at-set_same area k new (omega arith))
          ∙ same_sector area i j bytes is within long apart same
          ∙ ap (λ (n : ℕ). slice_range (sector_at area n) from (from + 128)) (sym same)
      | inr other ↦ ap (λ (sector : List ℕ). slice_range sector from (from + 128)) (sector_at-set_other area k (j / 8) new other)
    ]
    ∙ sym (slot_range area j)

-- ---- one slot more

entry_before : (es : List Entry) (e x : Entry) (i : ℕ) → slice_get es i ≡ Some x → slice_get (es ++ e ∷ []) i ≡ Some x
entry_before es e x i at =
    let within : i < length es = slice_get_within es i x at in
    slice_get-get_or (es ++ e ∷ []) i x (omega (arith, length_push es e))
    ∙ ap Some (get_or_append_left es (e ∷ []) x i within ∙ get_or_from_slice_get es i x x at)

pub shows_more : (area : List (List ℕ)) (es : List Entry) (e : Entry) (bytes : List ℕ) (n : ℕ) → IsLong area → Shows area es →
    length es ≡ n → n < 232 →
    length bytes ≡ 128 → is_used bytes ≡ true → entry_in bytes ≡ e → Shows (with_slot area n bytes) (es ++ e ∷ [])
shows_more area es e bytes n is shows count within long used shown =
    let new : List (List ℕ) = with_slot area n bytes in
    let here : slot new n ≡ bytes = slot_written area n bytes is within long in
    record {
      room = omega (arith, length_push es e);
      used = λ i h.
          elim (cases_eq i n) [
            | inl same ↦ ap (λ (k : ℕ). is_used (slot new k)) same ∙ ap is_used here ∙ used
            | inr apart ↦ ap is_used (other_slot area n i bytes is within long apart)
                ∙ shows.used i (omega (arith, length_push es e, apart))
          ];
      shown = λ i h.
          elim (cases_eq i n) [
            | inl same ↦
                slice_get-last es e i (omega arith)
                ∙ sym (ap (λ (k : ℕ). Some (entry_in (slot new k))) same ∙ ap (λ (b : List ℕ). Some (entry_in b)) here ∙ ap Some shown)
            | inr apart ↦
                entry_before es e (entry_in (slot new i)) i
                (shows.shown i (omega (arith, length_push es e, apart))
                ∙ sym (ap (λ (b : List ℕ). Some (entry_in b)) (other_slot area n i bytes is within long apart)))
          ];
      free = λ i past h.
          let apart : i ≢ n = λ e'. omega (arith, length_push es e) in
          ap is_free (other_slot area n i bytes is within long apart) ∙ shows.free i (omega (arith, length_push es e)) h;
    }
