-- A cartridge that was kept but for its header copies stands for what it stood for, where a copy still reads, and else has bare
-- copies.
use Rattle.std.proofs.Common.{ℕ, suc, ◌-◌, ◌<◌, Bool, true, false, [], ◌∷◌, cond, arith, All, zero, ◌/◌, ◌%◌, ◌^◌, ◌==◌, ◌≡◌, List, map}
use Rattle.std.proofs.Common.{refl, ap, ◌∙◌, ◌||◌, Some, ◌≤◌, nat_lt, length, slice_get, sym, subst, ◌+◌, take, drop, nat_le, inl, inr, ◌⊎◌}
use Rattle.std.proofs.Common.{◌*◌}
use Rattle.std.proofs.lemmas.List.Elements.{All-nil, All-cons, All-append, All-weaker, All-head, All-tail, All-filter}
use Rattle.std.proofs.lemmas.Bool.{ltb-false, or_parts, cases_lt}
use Rattle.std.proofs.lemmas.Option.{slice_get_within}
use Rattle.std.specs.List.{range_with_len}
use Rattle.cartridge_laws.proofs.FormatCopies.{zero_from_views, zero_shrank, written_shrank, written_reads, lost_does_not_read}
use Rattle.cartridge_laws.proofs.FormatHalfway.{IsKeptCopy, IsKept}
use Rattle.cartridge_laws.proofs.Segments.{zero_does_not_read}
use Rattle.cartridge_spec.specs.Formatting.{HasNoHeader, StandsCleanly}
use Rattle.cartridge_laws.specs.VolumeParts.{PartStands}
use Rattle.cartridge_laws.specs.Slots.{overlaps_before}
use Rattle.cartridge_laws.specs.HeaderTerms.{IsBareCopy, IsInForce, CopiesAre, IsCleanCopy, NeitherReads}
use Rattle.cartridge_spec.specs.Header.{has_signature, header_fault}
use Rattle.cartridge_spec.specs.HeaderCopies.{CopyDoesNotRead, CopyReads, copy_cells, last_segment}
use Rattle.cartridge_spec.specs.Shape.{IsArea, usable_places, mask_at, data_count, usable_count}
use Rattle.cartridge_spec.specs.Says.{cells_of, Written, unreadable_count, ReadsAll, whole_mask}
use Rattle.cartridge_spec.specs.Table.{slot, slot_fault, has_bad_range, entry_in, Entry, HasNoFault}
use Rattle.cartridge_spec.specs.Volumes.{Volume, Part, parts_of, VolumeStands, carrying, Plain, Stands, entries_of}
use Rattle.qic_base.specs.Cartridge.{Cartridge, view_at, lost_places}
use Rattle.qic_base.specs.declared.tape.SectorView.{SectorView}
use Rattle.cartridge_laws.proofs.TableOrders.{good_range}
use Rattle.cartridge_spec.specs.Table as tables

-- ---- the cells of a segment that is as it was

last_small : (n : ℕ) (b : Bool) → All (λ place. place < suc n) (cond b (n ∷ []) [])
last_small n true = All-cons (λ (place : ℕ). place < suc n) n [] (omega arith) (All-nil (λ (place : ℕ). place < suc n))
last_small n false = All-nil (λ (place : ℕ). place < suc n)

small_places : (mask n : ℕ) → All (λ place. place < n) (lost_places mask n)
unfolding lost_places
small_places mask zero = All-nil (λ (place : ℕ). place < 0)
small_places mask (suc n) =
    All-append (λ (place : ℕ). place < suc n) (lost_places mask n) _
    (All-weaker (λ (place : ℕ). place < n) (λ (place : ℕ). place < suc n) (λ place h. omega arith) (lost_places mask n)
    (small_places mask n))
    (last_small n (mask / 2 ^ n % 2 == 1))

map_same : (f g : ℕ → SectorView) (xs : List ℕ) → All (λ x. f x ≡ g x) xs → map f xs ≡ map g xs
map_same f g [] same = refl
map_same f g (x ∷ xs) same =
    ap (λ (y : SectorView). y ∷ map f xs) (All-head (λ (z : ℕ). f z ≡ g z) x xs same)
    ∙ ap (λ (ys : List SectorView). g x ∷ ys) (map_same f g xs (All-tail (λ (z : ℕ). f z ≡ g z) x xs same))

pub same_cells : (c d : Cartridge) (segment mask : ℕ) → ((i : ℕ) → i < 32 → view_at d segment i ≡ view_at c segment i) →
    cells_of d segment mask ≡ cells_of c segment mask
same_cells c d segment mask same =
    map_same (view_at d segment) (view_at c segment) (usable_places mask)
    (All-weaker (λ (i : ℕ). i < 32) (λ (i : ℕ). view_at d segment i ≡ view_at c segment i) same (usable_places mask) (small_places mask 32))

-- ---- the volumes

start_behind_table : (area : List (List ℕ)) (last i : ℕ) → has_bad_range area last i ≡ false → 3 ≤ (entry_in (slot area i)).start
start_behind_table area last i good =
    let start : ℕ = (entry_in (slot area i)).start in
    let end : ℕ = (entry_in (slot area i)).end in
    ltb-false start 3
    (or_parts (nat_lt start 3) (nat_lt end start)
    (or_parts (nat_lt start 3 || nat_lt end start) (nat_lt last end)
    (or_parts (nat_lt start 3 || nat_lt end start || nat_lt last end) (overlaps_before area i) good).0).0).0

pub entry_starts : (area : List (List ℕ)) (last : ℕ) (entries : List Entry) → HasNoFault area last → tables.Shows area entries →
    (i : ℕ) (e : Entry) → slice_get entries i ≡ Some e → 3 ≤ e.start
entry_starts area last entries sound shown i e at =
    let room : length entries ≤ 232 = shown.room in
    let within : i < length entries = slice_get_within entries i e at in
    let same : Some e ≡ Some (entry_in (slot area i)) = sym at ∙ shown.shown i within in
    let is : e ≡ entry_in (slot area i) = cc in
    subst (λ (f : Entry). 3 ≤ f.start) (sym is)
    (start_behind_table area last i (good_range area last i (shown.used i within) (sound i (omega arith))))

-- the volumes begin behind the table
abbrev pub BeginsBehind : Volume → Type 0
BeginsBehind volume = 3 ≤ volume.entry.start

pub volumes_behind : (volumes : List Volume) →
    ((i : ℕ) (e : Entry) → slice_get (map (λ volume. volume.entry) volumes) i ≡ Some e → 3 ≤ e.start) →
    All BeginsBehind volumes
volumes_behind [] starts = All-nil BeginsBehind
volumes_behind (volume ∷ volumes) starts =
    All-cons BeginsBehind volume volumes (starts 0 volume.entry refl) (volumes_behind volumes (λ i. starts (suc i)))

range_behind : (n from : ℕ) → 3 ≤ from → All (λ s. 3 ≤ s) (range_with_len from n)
range_behind zero from h = All-nil (λ (s : ℕ). 3 ≤ s)
range_behind (suc n) from h = All-cons (λ (s : ℕ). 3 ≤ s) from (range_with_len (from + 1) n) h (range_behind n (from + 1) (omega arith))

-- the segments behind the table are as they were
abbrev pub AreKept : (c d : Cartridge) → Type 0
AreKept c d = (s i : ℕ) → 3 ≤ s → i < 32 → view_at d s i ≡ view_at c s i

parts_kept : (c d : Cartridge) (words segments : List ℕ) (area : List (List ℕ)) → AreKept c d → All (λ s. 3 ≤ s) segments →
    All (PartStands c words) (parts_of words segments area) → All (PartStands d words) (parts_of words segments area)
parts_kept c d words [] area kept behind stand = All-nil (PartStands d words)
parts_kept c d words (s ∷ ss) area kept behind stand =
    let mask : ℕ = mask_at words s in
    let here : 3 ≤ s = All-head (λ (t : ℕ). 3 ≤ t) s ss behind in
    let part : Part = record { segment = s; sectors = take (data_count mask) area } in
    let rest : List Part = parts_of words ss (drop (data_count mask) area) in
    All-cons (PartStands d words) part rest
    (subst (λ (cells : List SectorView). Written cells (take (data_count mask) area)) (sym (same_cells c d s mask (λ i h. kept s i here h)))
    (All-head (PartStands c words) part rest stand))
    (parts_kept c d words ss (drop (data_count mask) area) kept (All-tail (λ (t : ℕ). 3 ≤ t) s ss behind)
    (All-tail (PartStands c words) part rest stand))

pub volumes_kept : (c d : Cartridge) (words : List ℕ) (volumes : List Volume) → AreKept c d → All BeginsBehind volumes →
    All (VolumeStands c words) volumes → All (VolumeStands d words) volumes
volumes_kept c d words [] kept behind written = All-nil (VolumeStands d words)
volumes_kept c d words (volume ∷ volumes) kept behind written =
    let start : ℕ = volume.entry.start in
    let end : ℕ = volume.entry.end in
    let from : 3 ≤ start = All-head BeginsBehind volume volumes behind in
    let segments : All (λ s. 3 ≤ s) (carrying words start end) =
    All-filter (λ s. nat_le 4 (usable_count (mask_at words s))) (λ (s : ℕ). 3 ≤ s) (range_with_len start (end + 1 - start))
    (range_behind (end + 1 - start) start from) in
    let stood : VolumeStands c words volume = All-head (VolumeStands c words) volume volumes written in
    All-cons (VolumeStands d words) volume volumes
    (record { parts = parts_kept c d words (carrying words start end) volume.area kept segments stood.parts; size = stood.size })
    (volumes_kept c d words volumes kept (All-tail BeginsBehind volume volumes behind)
    (All-tail (VolumeStands c words) volume volumes written))

-- ---- the header

clean_kept : {c d : Cartridge} (copy : ℕ) (area : List (List ℕ)) → IsCleanCopy c copy area → IsKeptCopy copy c d → IsCleanCopy d copy area
clean_kept copy area (inl written) (inl shrank) = inl (written_shrank area shrank written)
clean_kept copy area (inr zeros) (inl shrank) = inr (zero_shrank shrank zeros)
clean_kept copy area clean (inr zeros) = inr (zero_from_views zeros)

-- the header in force is this one, and the copies are those of a cartridge that stands
record HeaderStands (d : Cartridge) (area : List (List ℕ)) : Type 0 where
  in_force : IsInForce d area
  copies : CopiesAre d area

copy_decided : (d : Cartridge) (copy : ℕ) (area : List (List ℕ)) → IsArea area → has_signature area ≡ true →
    Written (copy_cells d copy) area →
    CopyReads d copy area ⊎ CopyDoesNotRead d copy
copy_decided d copy area is_area signature written =
    elim (cases_lt 3 (unreadable_count (copy_cells d copy))) [
      | inl many ↦ inr (lost_does_not_read d copy many)
      | inr few ↦ inl (written_reads d copy area is_area signature written few)
    ]

second_decided : (d : Cartridge) (area : List (List ℕ)) → IsArea area → has_signature area ≡ true → CopyDoesNotRead d 0 →
    IsCleanCopy d 1 area → (Written (copy_cells d 1) area → CopiesAre d area) → HeaderStands d area ⊎ NeitherReads d
second_decided d area is_area signature none (inr zeros) copies = inr (none, zero_does_not_read d 1 zeros)
second_decided d area is_area signature none (inl written) copies =
    elim (copy_decided d 1 area is_area signature written) [
      | inl reads ↦ inl (record { in_force = inr (none, reads); copies = copies written })
      | inr neither ↦ inr (none, neither)
    ]

header_decided : (d : Cartridge) (area : List (List ℕ)) → IsArea area → has_signature area ≡ true →
    IsCleanCopy d 0 area → IsCleanCopy d 1 area → HeaderStands d area ⊎ NeitherReads d
header_decided d area is_area signature (inr zeros) second =
    second_decided d area is_area signature (zero_does_not_read d 0 zeros) second (λ written. inr (zeros, written))
header_decided d area is_area signature (inl written) second =
    elim (copy_decided d 0 area is_area signature written) [
      | inl reads ↦ inl (record { in_force = inl reads; copies = inl written })
      | inr none ↦ second_decided d area is_area signature none second (λ other. inl written)
    ]

pub signature_in_force : (c : Cartridge) (area : List (List ℕ)) → IsInForce c area → has_signature area ≡ true
signature_in_force c area (inl first) = first.signature
signature_in_force c area (inr second) = second.1.signature

-- ---- the cartridge

abbrev TableStands : List SectorView → List (List ℕ) → Type 0
TableStands cells area = Written cells area ⊎ ReadsAll cells area

still_stands : (c d : Cartridge) (plain : Plain) → Stands c plain → IsKept c d → HeaderStands d plain.header_area → Stands d plain
still_stands c d plain stood kept header =
    let last : last_segment d ≡ last_segment c = ap (λ (n : ℕ). 28 * n - 1) kept.segments in
    record {
      whole = stood.whole;
      header = record { referenced = kept.referenced stood.header.referenced; in_force = header.in_force };
      sound_header = ap (header_fault plain.header_area) kept.segments ∙ stood.sound_header;
      copies = header.copies;
      sound_table = λ i h. ap (λ (l : ℕ). slot_fault plain.table_area l i) last ∙ stood.sound_table i h;
      shown = stood.shown;
      volumes = volumes_kept c d plain.words plain.volumes (λ s i from h. kept.others s i (omega arith) h)
          (volumes_behind plain.volumes (entry_starts plain.table_area (last_segment c) (entries_of plain) stood.sound_table stood.shown))
          stood.volumes;
      table = subst (λ (cells : List SectorView). TableStands cells plain.table_area)
          (sym (same_cells c d 2 whole_mask (λ i h. kept.others 2 i (omega arith) h))) stood.table;
    }

-- a clean copy that does not read is bare
clean_is_bare : (d : Cartridge) (copy : ℕ) (area : List (List ℕ)) → IsArea area → has_signature area ≡ true → IsCleanCopy d copy area →
    CopyDoesNotRead d copy → IsBareCopy d copy
clean_is_bare d copy area is_area signature (inr zeros) none = inl zeros
clean_is_bare d copy area is_area signature (inl written) none =
    elim (cases_lt 3 (unreadable_count (copy_cells d copy))) [
      | inl many ↦ inr many
      | inr few ↦ absurd (none area (written_reads d copy area is_area signature written few))
    ]

pub kept_stands : (c d : Cartridge) (plain : Plain) → StandsCleanly c plain → IsKept c d → StandsCleanly d plain ⊎ HasNoHeader d
kept_stands c d plain stood kept =
    let area : List (List ℕ) = plain.header_area in
    let is_area : IsArea area = stood.stands.whole.header_area in
    let signature : has_signature area ≡ true = signature_in_force c area stood.stands.header.in_force in
    let first : IsCleanCopy d 0 area = clean_kept 0 area stood.copies.first kept.first in
    let second : IsCleanCopy d 1 area = clean_kept 1 area stood.copies.second kept.second in
    elim (header_decided d area is_area signature first second) [
      | inl header ↦ inl (record {
        stands = still_stands c d plain stood.stands kept header;
        copies = record { first = first; second = second };
      })
      | inr none ↦ inr (record {
        first = clean_is_bare d 0 area is_area signature first none.0;
        second = clean_is_bare d 1 area is_area signature second none.1;
      })
    ]
