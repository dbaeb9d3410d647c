-- The flag of compressed data in the slots of a table.
use Rattle.std.proofs.Common.{◌≡◌, ℕ, ◌+◌, ◌*◌, ◌/◌, ◌%◌, ◌<◌, List, [], ◌∷◌, ◌++◌, codes, length, map, get_or, drop, replicate}
use Rattle.std.proofs.Common.{sym, ap, ◌∙◌, inl, inr, arith}
use Rattle.std.proofs.lemmas.Bool.{cases_eq, cases_lt}
use Rattle.std.proofs.lemmas.List.{get_or-append_right, get_or-drop, get_or-replicate, get_or-take, length-append, length-map}
use Rattle.std.proofs.lemmas.List.{length-replicate}
use Rattle.std.specs.Int.{bit_at}
use Rattle.std.specs.Prelude.{slice_index}
use Rattle.cartridge_laws.proofs.FreshSpelled.{sector_is}
use Rattle.cartridge_laws.proofs.MapAreaLaws.{sector_at-set_other, sector_at-set_same}
use Rattle.cartridge_laws.proofs.SlotBytes.{length-slot_bytes}
use Rattle.cartridge_spec.specs.Shape.{IsArea, sector_at}
use Rattle.cartridge_spec.specs.Table.{Entry, slot, slot_bytes, table_with}
use Rattle.cartridge_spec.specs.Volumes.{Volume, entries_of}
use Rattle.qic_base.proofs.FieldLaws.{get_or-overwritten, get_or-overwritten_below}
use Rattle.qic_base.specs.Field.{little_endian_bytes, overwritten}
use Rattle.salvage_laws.specs.UncompressedLaws.{AppendAddsNone, EmptyHasNone}
use Rattle.cartridge_laws.specs.AppendLaws.{new_volume, with_content}

-- ---- the flag's byte

-- in the table's data
flag_in : (area : List (List ℕ)) (i : ℕ) → slice_index (slot area i) 124 ≡ get_or (sector_at area (i / 8)) (128 * (i % 8) + 124) 0
unfolding slot
flag_in area i =
    get_or-take 128 (drop (128 * (i % 8)) (sector_at area (i / 8))) 124 0 (omega arith)
    ∙ get_or-drop (128 * (i % 8)) (sector_at area (i / 8)) 124 0

-- the bytes of a slot in front of the last 24
abbrev in_front : Entry → List ℕ
in_front e =
    codes "VTBL" ++ little_endian_bytes 2 e.start ++ little_endian_bytes 2 e.end ++ e.name ++ little_endian_bytes 4 e.date
    ++ (e.flags ∷ e.sequence ∷ []) ++ replicate 34 0 ++ little_endian_bytes 4 e.directory ++ little_endian_bytes 8 e.size

flag_of_entry : (e : Entry) → length e.name ≡ 44 → get_or (slot_bytes e) 124 0 ≡ 0
flag_of_entry e name =
    let rear : List ℕ = replicate 24 0 in
    let long : length (in_front e) ≡ 104 = front_is (length (in_front e)) (length rear) (length (slot_bytes e))
    (length-slot_bytes e name) (length-append (in_front e) rear) (length-replicate {A = ℕ} 24 0) in
    get_or-append_right (in_front e) rear 104 124 0 long (omega arith)
    ∙ get_or-replicate {A = ℕ} 24 20 0 0 (omega arith)
  where
    front_is : (front rear all : ℕ) → all ≡ 128 → all ≡ front + rear → rear ≡ 24 → front ≡ 104
    front_is front rear all whole parts last = omega arith

-- ---- a table with one entry more

new_flag : (area : List (List ℕ)) (n : ℕ) (e : Entry) → IsArea area → n < 232 → length e.name ≡ 44 →
    slice_index (slot (table_with area n e) n) 124 ≡ 0
new_flag area n e is within name =
    let size = is.size in
    let long : length (sector_at area (n / 8)) ≡ 1024 = (sector_is area (n / 8) is (omega arith)).size in
    let all : length (slot_bytes e) ≡ 128 = length-slot_bytes e name in
    let new : List ℕ = overwritten (sector_at area (n / 8)) (128 * (n % 8)) (slot_bytes e) in
    flag_in (table_with area n e) n
    ∙ ap (λ (bytes : List ℕ). get_or bytes (128 * (n % 8) + 124) 0) (sector_at-set_same area (n / 8) new (omega arith))
    ∙ get_or-overwritten (sector_at area (n / 8)) (slot_bytes e) (128 * (n % 8)) 124 0 (omega arith) (omega arith)
    ∙ flag_of_entry e name

old_flag : (area : List (List ℕ)) (n i : ℕ) (e : Entry) → IsArea area → n < 232 → i < n →
    slice_index (slot (table_with area n e) i) 124 ≡ slice_index (slot area i) 124
old_flag area n i e is within before =
    let size = is.size in
    let long : length (sector_at area (n / 8)) ≡ 1024 = (sector_is area (n / 8) is (omega arith)).size in
    let new : List ℕ = overwritten (sector_at area (n / 8)) (128 * (n % 8)) (slot_bytes e) in
    flag_in (table_with area n e) i
    ∙ elim (cases_eq (i / 8) (n / 8)) [
      | inl same ↦
          ap (λ (k : ℕ). get_or (sector_at (table_with area n e) k) (128 * (i % 8) + 124) 0) same
          ∙ ap (λ (bytes : List ℕ). get_or bytes (128 * (i % 8) + 124) 0) (sector_at-set_same area (n / 8) new (omega arith))
          ∙ get_or-overwritten_below (sector_at area (n / 8)) (slot_bytes e) (128 * (n % 8)) (128 * (i % 8) + 124) 0 (omega arith)
          (omega arith)
          ∙ ap (λ (k : ℕ). get_or (sector_at area k) (128 * (i % 8) + 124) 0) (sym same)
      | inr other ↦
          ap (λ (bytes : List ℕ). get_or bytes (128 * (i % 8) + 124) 0) (sector_at-set_other area (n / 8) (i / 8) new other)
    ]
    ∙ sym (flag_in area i)

-- ---- the laws

pub empty_has_none : EmptyHasNone
empty_has_none plain none i within =
    absurd
    (let long : length (entries_of plain) ≡ 0 = ap (λ (vs : List Volume). length (map (λ (v : Volume). v.entry) vs)) none in
    omega arith)

pub append_adds_none : AppendAddsNone
append_adds_none plain content is few size none i within =
    let n : ℕ = length plain.volumes in
    let volume : Volume = new_volume plain content in
    let all : length (entries_of (with_content plain content)) ≡ length (plain.volumes ++ volume ∷ []) =
    length-map (plain.volumes ++ volume ∷ []) (λ (v : Volume). v.entry) in
    let more : length (plain.volumes ++ volume ∷ []) ≡ n + 1 = length-append plain.volumes (volume ∷ []) in
    let old : length (entries_of plain) ≡ n = length-map plain.volumes (λ (v : Volume). v.entry) in
    elim (cases_lt i n) [
      | inl before ↦
          ap (λ (b : ℕ). bit_at b 7) (old_flag plain.table_area n i volume.entry is.table_area few before)
          ∙ none i (omega arith)
      | inr last ↦
          let at : i ≡ n = omega arith in
          ap (λ (k : ℕ). bit_at (slice_index (slot (table_with plain.table_area n volume.entry) k) 124) 7) at
          ∙ ap (λ (b : ℕ). bit_at b 7) (new_flag plain.table_area n volume.entry is.table_area few size)
    ]
