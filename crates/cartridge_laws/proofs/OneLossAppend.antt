-- An append changes one sector of the table's data, the last one with a used slot.
use Rattle.std.proofs.Common.{◌≡◌, ℕ, ◌+◌, ◌*◌, ◌/◌, ◌%◌, ◌<◌, ◌∙◌, ap, arith, List, [], ◌∷◌, take, drop, ◌||◌, refl, Bool, true, false}
use Rattle.std.proofs.Common.{zero, suc, inl, inr, sym, length, ◌++◌}
use Rattle.std.proofs.lemmas.Bool.{cases_eq, cases_Bool}
use Rattle.std.proofs.lemmas.List.{length-map, length_push}
use Rattle.cartridge_laws.proofs.AppendDone.{stopped_list}
use Rattle.cartridge_laws.proofs.AppendTable.{ready_count, done_table_shows}
use Rattle.cartridge_laws.proofs.FormatWriting.{some_weaker}
use Rattle.cartridge_laws.proofs.OneLossRead.{one_loss_reads_either}
use Rattle.cartridge_laws.proofs.TableSlotLaws.{used_not_free}
use Rattle.cartridge_laws.specs.AppendLaws.{new_table, new_volume, with_content}
use Rattle.cartridge_laws.specs.OneLossLaws.{AppendChangesOneSector, StoppedAppendReadsEither}
use Rattle.cartridge_laws.specs.OneLossTables.{IsLastInUse}
use Rattle.cartridge_spec.specs.Shape.{sector_at}
use Rattle.cartridge_spec.specs.Table.{slot, is_used, is_free, Entry, Shows, slot_bytes}
use Rattle.cartridge_laws.specs.Slots.{slot_sector}
use Rattle.cartridge_spec.specs.Says.{some_used_below}
use Rattle.cartridge_spec.specs.Volumes.{Volume, entries_of}
use Rattle.qic_base.specs.Field.{overwritten}
use Rattle.cartridge_laws.proofs.MapAreaLaws.{sector_at-set_other}

-- ---- the slots of one sector

-- slot j of a sector is that of the table
pub slot_of_sector : (area : List (List ℕ)) (i j : ℕ) → j < 8 → slot (sector_at area i ∷ []) j ≡ slot area (8 * i + j)
unfolding slot
slot_of_sector area i j small =
    let first : j / 8 ≡ 0 = omega arith in
    let there : i ≡ (8 * i + j) / 8 = omega arith in
    let at : j % 8 ≡ (8 * i + j) % 8 = omega arith in
    ap (λ (n : ℕ). take 128 (drop (128 * (j % 8)) (sector_at (sector_at area i ∷ []) n))) first
    ∙ ap (λ (n : ℕ). take 128 (drop (128 * (j % 8)) (sector_at area n))) there
    ∙ ap (λ (n : ℕ). take 128 (drop (128 * n) (sector_at area ((8 * i + j) / 8)))) at

slot_by_sector : (old new : List (List ℕ)) (n : ℕ) → sector_at old (n / 8) ≡ sector_at new (n / 8) → slot old n ≡ slot new n
unfolding slot
slot_by_sector old new n same = ap (λ (sector : List ℕ). take 128 (drop (128 * (n % 8)) sector)) same

pub or_second : (a b : Bool) → b ≡ true → (a || b) ≡ true
or_second true b is = refl
or_second false b is = is

pub some_used : (bytes : List ℕ) (m j : ℕ) → j < m → is_used (slot (bytes ∷ []) j) ≡ true → some_used_below bytes m ≡ true
unfolding some_used_below
some_used bytes zero j h used = absurd (omega arith)
some_used bytes (suc m) j h used =
    elim (cases_eq m j) [
      | inl same ↦
          ap (λ (b : Bool). b || some_used_below bytes m) (ap (λ (k : ℕ). is_used (slot (bytes ∷ []) k)) same ∙ used)
      | inr apart ↦ or_second (is_used (slot (bytes ∷ []) m)) (some_used_below bytes m) (some_used bytes m j (omega arith) used)
    ]

none_used : (bytes : List ℕ) (m : ℕ) → ((j : ℕ) → j < m → is_used (slot (bytes ∷ []) j) ≡ false) → some_used_below bytes m ≡ false
unfolding some_used_below
none_used bytes zero none = cc
none_used bytes (suc m) none =
    ap (λ (b : Bool). b || some_used_below bytes m) (none m (omega arith)) ∙ none_used bytes m (λ j h. none j (omega arith))

free_not_used : (bytes : List ℕ) → is_free bytes ≡ true → is_used bytes ≡ false
free_not_used bytes free =
    elim (cases_Bool (is_used bytes)) [
      | inl used ↦ let kept : is_free bytes ≡ false = used_not_free bytes used in absurd (cc)
      | inr unused ↦ unused
    ]

-- ---- the last sector with a used slot

-- that of the last volume
last_used_shown : (area : List (List ℕ)) (entries : List Entry) (n : ℕ) → Shows area entries → length entries ≡ n + 1 → n < 232 →
    IsLastInUse area (slot_sector n)
last_used_shown area entries n shows count within =
    let same : n ≡ 8 * (n / 8) + n % 8 = omega arith in
    record {
      used = some_used (sector_at area (n / 8)) 8 (n % 8) (omega arith)
          (ap is_used (slot_of_sector area (n / 8) (n % 8) (omega arith))
          ∙ ap (λ (k : ℕ). is_used (slot area k)) (sym same) ∙ shows.used n (omega arith));
      behind = λ i past h.
          none_used (sector_at area i) 8 (λ j small.
          ap is_used (slot_of_sector area i j small)
          ∙ free_not_used (slot area (8 * i + j)) (shows.free (8 * i + j) (omega arith) (omega arith)));
    }

-- ---- an append

pub append_changes_one_sector : AppendChangesOneSector
append_changes_one_sector c plain content ready =
    let volume : Volume = new_volume plain content in
    let old : List (List ℕ) = plain.table_area in
    let new : List (List ℕ) = new_table plain content in
    let n : ℕ = length plain.volumes in
    let k : ℕ = slot_sector n in
    let within : n < 232 = ready_count c plain content ready in
    let done = done_table_shows c plain content ready in
    let shows : Shows new (entries_of (with_content plain content)) = done.1 in
    let count : length (entries_of plain) ≡ n = length-map plain.volumes (λ (v : Volume). v.entry) in
    let more : length (entries_of (with_content plain content)) ≡ n + 1 =
    length-map (plain.volumes ++ volume ∷ []) (λ (v : Volume). v.entry) ∙ omega (arith, length_push plain.volumes volume) in
    let used : is_used (slot new n) ≡ true = shows.used n (omega arith) in
    let free : is_free (slot old n) ≡ true = ready.stands.shown.free n (omega arith) within in (
      record {
        old_area = ready.stands.whole.table_area;
        new_area = done.0;
        data_sector = omega arith;
        others = λ i h apart.
            sym (sector_at-set_other old k i (overwritten (sector_at old k) (128 * (n % 8)) (slot_bytes volume.entry)) apart);
        differs = λ same.
            let alike : slot old n ≡ slot new n = slot_by_sector old new n same in
            let kept : is_used (slot old n) ≡ false = free_not_used (slot old n) free in
            absurd (cc);
      },
      last_used_shown new (entries_of (with_content plain content)) n shows more within,
    )

pub stopped_append_reads_either : StoppedAppendReadsEither
stopped_append_reads_either c d plain content left ready is torn =
    let changes = append_changes_one_sector c plain content ready.may in
    some_weaker left (λ e between f lost loses.
    one_loss_reads_either e f plain.table_area (new_table plain content) (slot_sector (length plain.volumes)) lost
    changes.0 changes.1 between loses)
    (stopped_list c d plain content left ready is torn)
