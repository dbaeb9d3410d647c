-- What stands, and wrong sectors: a segment that was written has none, and a cartridge that reads no more than one that stands
-- stands where the first header copy is read, whatever the second one holds.
use Rattle.std.proofs.Common.{◌≡◌, ◌⊎◌, ℕ, inl, inr, List, [], ◌∷◌, ◌+◌, ◌-◌, ◌*◌, ◌<◌, ◌≤◌, arith, sym, ◌∙◌, subst, ap, length, get_or}
use Rattle.std.proofs.Common.{slice_get, Some, All, take, drop, map, replicate}
use Rattle.std.proofs.lemmas.List.{length-append}
use Rattle.std.proofs.lemmas.List.Elements.{All-nil, All-cons, All-head, All-tail, All-append, All-take, All-drop, All-weaker, All-contains}
use Rattle.std.proofs.lemmas.List.Elements.{All-replicate}
use Rattle.std.proofs.lemmas.Option.{slice_get_within}
use Rattle.cartridge_laws.proofs.AppendOrders.{LiesWithin}
use Rattle.cartridge_laws.proofs.AppendSegments.{carrying_from, carrying_carry}
use Rattle.cartridge_laws.proofs.AppendVolume.{old_volumes}
use Rattle.cartridge_laws.proofs.FormatStanding.{same_cells}
use Rattle.cartridge_laws.proofs.Places.{count_below, usable_small}
use Rattle.cartridge_laws.proofs.Sayings.{says_is_function, written_is_said}
use Rattle.cartridge_laws.proofs.Segments.{count_of_cells, length-whole_cells, zero_does_not_read}
use Rattle.cartridge_laws.proofs.Zeros.{zero_is_written}
use Rattle.cartridge_laws.specs.Shape.{Carries}
use Rattle.cartridge_laws.specs.VolumeParts.{PartStands}
use Rattle.cartridge_laws.specs.Table.{last_end}
use Rattle.cartridge_laws.specs.HeaderTerms.{CopiesAre}
use Rattle.cartridge_spec.specs.Code.{parity_sectors}
use Rattle.cartridge_spec.specs.Header.{header_fault}
use Rattle.cartridge_spec.specs.HeaderCopies.{CopyReads, copy_cells}
use Rattle.cartridge_spec.specs.TableSegment.{table_cells}
use Rattle.cartridge_spec.specs.Shape.{IsArea, usable_places, usable_count, mask_at, data_count}
use Rattle.cartridge_spec.specs.Says.{cells_of, Says, Data, Mismatch, Written, Zero, ReadsAll, with_parity}
use Rattle.cartridge_spec.specs.Table.{slot_fault}
use Rattle.cartridge_spec.specs.Volumes.{Part, parts_of, Volume, VolumeStands, carrying_segments, Plain, Stands, entries_of, worn}
use Rattle.command_laws.proofs.ScrubApart.{contains_cases}
use Rattle.command_laws.proofs.ScrubSeen.{IsFoundWrong}
use Rattle.cartridge_laws.proofs.Writing.{cell_at}
use Rattle.command_spec.specs.Scrub.{Looked, cells_at, looked_at, looked_volumes, whole_segment, IsSearched, IsWrong}
use Rattle.command_laws.specs.ScrubTerms.{looked_segments}
use Rattle.command_spec.specs.declared.depth.Depth.{Depth}
use Rattle.command_spec.specs.declared.depth.Depth.TheVariants.{Shallow, Deep}
use Rattle.gf256_qic.proofs.Parities.{block_count, length-parity_sectors}
use Rattle.qic_base.specs.Cartridge.{Cartridge, IsSector, view_at, zero_sector}
use Rattle.qic_base.specs.declared.tape.SectorView.{SectorView}
use Rattle.qic_base.specs.declared.tape.SectorView.TheVariants.{Holds}
use Rattle.qic_base.specs.declared.tape.TapeInfo.{TapeInfo}
use Rattle.command_laws.specs.SilentSectors.{IsSameIn}
use Rattle.qic_base.proofs.Arrays.{zero_sector-is_sector}

-- ---- a segment that was written

-- has no wrong sector
pub written_not_wrong : (c : Cartridge) (l : Looked) (xs : List (List ℕ)) (sector : ℕ) (ds : List (List ℕ)) → All IsSector xs →
    Written (cells_at c l) xs → IsWrong c l sector ds → ⊥
written_not_wrong c l xs sector ds are written wrong =
    let d : Cartridge = worn l.segment sector c in
    let has = wrong.says.1 in
    let least : 4 ≤ length has.block = (block_count has.block has.code).0 in
    let size : length has.block ≡ length (cells_at d l) = has.agrees.size in
    let worn_cells : length (cells_at d l) ≡ usable_count l.mask = count_of_cells d l.segment l.mask in
    let cells : length (cells_at c l) ≡ usable_count l.mask = count_of_cells c l.segment l.mask in
    let most : usable_count l.mask ≤ 32 = count_below l.mask 32 in
    let whole : length (with_parity xs) ≡ length (cells_at c l) = written.size in
    let parts : length (with_parity xs) ≡ length xs + length (parity_sectors xs) = length-append xs (parity_sectors xs) in
    let three : length (parity_sectors xs) ≡ 3 = length-parity_sectors xs in
    let said : Says (cells_at c l) (Data xs) =
    written_is_said (cells_at c l) xs (omega arith) (omega arith) are written wrong.mismatch.0 in
    let both : Data xs ≡ Mismatch = says_is_function (cells_at c l) (Data xs) Mismatch said wrong.mismatch in
    absurd (cc)

-- nor has one of zero bytes
pub zero_not_wrong : (c : Cartridge) (copy sector : ℕ) (ds : List (List ℕ)) → Zero (copy_cells c copy) →
    IsWrong c (whole_segment copy) sector ds → ⊥
zero_not_wrong c copy sector ds zeros wrong =
    written_not_wrong c (whole_segment copy) (replicate 29 zero_sector) sector ds
    (All-replicate IsSector 29 zero_sector zero_sector-is_sector)
    (zero_is_written (copy_cells c copy) 29 zeros (length-whole_cells c copy) (omega arith) (omega arith)) wrong

-- ---- wrong sectors of a cartridge that stands

pub record HasWritten (c : Cartridge) (l : Looked) : Type 0 where
  pub xs : List (List ℕ)
  pub are : All IsSector xs
  pub written : Written (cells_at c l) xs
  pub carries : Carries l.mask

segments_written : (c : Cartridge) (words ss : List ℕ) (area : List (List ℕ)) → All IsSector area →
    All (λ s. Carries (mask_at words s)) ss →
    All (PartStands c words) (parts_of words ss area) → All (HasWritten c) (looked_segments words ss)
segments_written c words [] area are carry stand = All-nil (HasWritten c)
segments_written c words (s ∷ ss) area are carry stand =
    let n : ℕ = data_count (mask_at words s) in
    let part : Part = record { segment = s; sectors = take n area } in
    let rest : List Part = parts_of words ss (drop n area) in
    All-cons (HasWritten c) (record { segment = s; mask = mask_at words s }) (looked_segments words ss)
    (record {
      xs = take n area;
      are = All-take IsSector n area are;
      written = All-head (PartStands c words) part rest stand;
      carries = All-head (λ (t : ℕ). Carries (mask_at words t)) s ss carry;
    })
    (segments_written c words ss (drop n area) (All-drop IsSector n area are) (All-tail (λ (t : ℕ). Carries (mask_at words t)) s ss carry)
    (All-tail (PartStands c words) part rest stand))

pub volumes_written : (c : Cartridge) (words : List ℕ) (volumes : List Volume) → All (λ volume. All IsSector volume.area) volumes →
    All (VolumeStands c words) volumes → All (HasWritten c) (looked_volumes words (map (λ volume. volume.entry) volumes))
volumes_written c words [] are stand = All-nil (HasWritten c)
volumes_written c words (volume ∷ volumes) are stand =
    let segments : List ℕ = carrying_segments words volume.entry in
    let stood : VolumeStands c words volume = All-head (VolumeStands c words) volume volumes stand in
    All-append (HasWritten c) (looked_segments words segments) (looked_volumes words (map (λ volume. volume.entry) volumes))
    (segments_written c words segments volume.area (All-head (λ (v : Volume). All IsSector v.area) volume volumes are)
    (carrying_carry words volume.entry.start volume.entry.end) stood.parts)
    (volumes_written c words volumes (All-tail (λ (v : Volume). All IsSector v.area) volume volumes are)
    (All-tail (VolumeStands c words) volume volumes stand))

pub not_the_table : (depth : Depth) (l : Looked) → IsSearched depth l → l.segment ≡ 2 → ⊥
not_the_table Shallow l searched is = searched
not_the_table Deep l searched is = searched is

pub first_not_wrong : (c : Cartridge) (plain : Plain) (sector : ℕ) (ds : List (List ℕ)) → IsArea plain.header_area →
    CopiesAre c plain.header_area →
    IsWrong c (whole_segment 0) sector ds → ⊥
first_not_wrong c plain sector ds is_area (inl written) wrong =
    written_not_wrong c (whole_segment 0) plain.header_area sector ds is_area.sectors written wrong
first_not_wrong c plain sector ds is_area (inr other) wrong = zero_not_wrong c 0 sector ds other.0 wrong

-- one is found in the second header copy alone
pub standing_wrong : (depth : Depth) (c : Cartridge) (plain : Plain) (s i : ℕ) → Stands c plain →
    (found : IsFoundWrong depth c (looked_at plain.words (entries_of plain)) s i) → found.at ≡ whole_segment 1
standing_wrong depth c plain s i stood found =
    let rest : List Looked = looked_volumes plain.words (entries_of plain) in
    elim (contains_cases (whole_segment 0) found.at (whole_segment 1 ∷ whole_segment 2 ∷ rest) found.among) [
      | inl first ↦ absurd (first_not_wrong c plain i found.sectors stood.whole.header_area stood.copies
          (subst (λ (l : Looked). IsWrong c l i found.sectors) (sym first) found.wrong))
      | inr behind ↦ elim (contains_cases (whole_segment 1) found.at (whole_segment 2 ∷ rest) behind) [
        | inl second ↦ sym second
        | inr later ↦ elim (contains_cases (whole_segment 2) found.at rest later) [
          | inl table ↦ absurd (not_the_table depth found.at found.searched (sym (ap (λ (l : Looked). l.segment) table)))
          | inr volume ↦
              let has = All-contains (HasWritten c) rest found.at
              (volumes_written c plain.words plain.volumes stood.whole.areas stood.volumes) volume in
              absurd (written_not_wrong c found.at has.xs i found.sectors has.are has.written found.wrong)
        ]
      ]
    ]

-- ---- a cartridge that reads no more

-- each sector that can be read could be read, and held the same, but for the second header copy; the table's segment is as it
-- was, and the first header copy is read
pub record IsBeside (k e : Cartridge) (plain : Plain) : Type 0 where
  pub info : e.info ≡ k.info
  pub no_more : (s i : ℕ) (bytes : List ℕ) → i < 32 → (s ≡ 1 → ⊥) → view_at e s i ≡ Holds bytes → view_at k s i ≡ Holds bytes
  pub table : IsSameIn k e 2
  pub first : CopyReads e 0 plain.header_area

cell_before : (k e : Cartridge) (s mask i : ℕ) (bytes : List ℕ) →
    ((j : ℕ) (held : List ℕ) → j < 32 → view_at e s j ≡ Holds held → view_at k s j ≡ Holds held) →
    slice_get (cells_of e s mask) i ≡ Some (Holds bytes) → slice_get (cells_of k s mask) i ≡ Some (Holds bytes)
cell_before k e s mask i bytes less at =
    let place : ℕ = get_or (usable_places mask) i 0 in
    let here : i < length (cells_of e s mask) = slice_get_within (cells_of e s mask) i (Holds bytes) at in
    let h : i < usable_count mask = omega (arith, count_of_cells e s mask) in
    let both : Some (Holds bytes) ≡ Some (view_at e s place) = sym at ∙ cell_at e s mask i h in
    let view : view_at e s place ≡ Holds bytes = cc in
    cell_at k s mask i h ∙ ap (λ (v : SectorView). Some v) (less place bytes (usable_small mask i h) view)

pub written_before : (k e : Cartridge) (s mask : ℕ) (xs : List (List ℕ)) →
    ((j : ℕ) (held : List ℕ) → j < 32 → view_at e s j ≡ Holds held → view_at k s j ≡ Holds held) → Written (cells_of k s mask) xs →
    Written (cells_of e s mask) xs
written_before k e s mask xs less written = record {
  size = written.size ∙ count_of_cells k s mask ∙ sym (count_of_cells e s mask);
  each = λ i bytes at. written.each i bytes (cell_before k e s mask i bytes less at);
}

parts_beside : (k e : Cartridge) (plain : Plain) (segments : List ℕ) (area : List (List ℕ)) → IsBeside k e plain →
    All (λ s. 3 ≤ s) segments →
    All (PartStands k plain.words) (parts_of plain.words segments area) →
    All (PartStands e plain.words) (parts_of plain.words segments area)
parts_beside k e plain [] area beside behind stand = All-nil (PartStands e plain.words)
parts_beside k e plain (s ∷ ss) area beside behind stand =
    let words : List ℕ = plain.words in
    let n : ℕ = data_count (mask_at words s) in
    let here : 3 ≤ s = All-head (λ (t : ℕ). 3 ≤ t) s ss behind in
    let part : Part = record { segment = s; sectors = take n area } in
    let rest : List Part = parts_of words ss (drop n area) in
    All-cons (PartStands e words) part rest
    (written_before k e s (mask_at words s) (take n area) (λ j held h view. beside.no_more s j held h (λ (is : s ≡ 1). omega arith) view)
    (All-head (PartStands k words) part rest stand))
    (parts_beside k e plain ss (drop n area) beside (All-tail (λ (t : ℕ). 3 ≤ t) s ss behind)
    (All-tail (PartStands k words) part rest stand))

volumes_beside : (k e : Cartridge) (plain : Plain) (to : ℕ) (volumes : List Volume) → IsBeside k e plain → All (LiesWithin 2 to) volumes →
    All (VolumeStands k plain.words) volumes → All (VolumeStands e plain.words) volumes
volumes_beside k e plain to [] beside within stand = All-nil (VolumeStands e plain.words)
volumes_beside k e plain to (volume ∷ volumes) beside within stand =
    let start : ℕ = volume.entry.start in
    let end : ℕ = volume.entry.end in
    let lies : LiesWithin 2 to volume = All-head (LiesWithin 2 to) volume volumes within in
    let behind : 2 < start = lies.behind in
    let stood : VolumeStands k plain.words volume = All-head (VolumeStands k plain.words) volume volumes stand in
    All-cons (VolumeStands e plain.words) volume volumes
    (record {
      parts = parts_beside k e plain (carrying_segments plain.words volume.entry) volume.area beside
          (All-weaker (λ (s : ℕ). start ≤ s) (λ (s : ℕ). 3 ≤ s) (λ s (h : start ≤ s). omega arith)
          (carrying_segments plain.words volume.entry)
          (carrying_from plain.words start end)) stood.parts;
      size = stood.size;
    })
    (volumes_beside k e plain to volumes beside (All-tail (LiesWithin 2 to) volume volumes within)
    (All-tail (VolumeStands k plain.words) volume volumes stand))

-- the first header copy was written
first_copy : (k e : Cartridge) (plain : Plain) → IsBeside k e plain → CopiesAre k plain.header_area → CopiesAre e plain.header_area
first_copy k e plain beside (inl written) =
    inl (written_before k e 0 (whole_segment 0).mask plain.header_area (λ j held h view. beside.no_more 0 j held h (λ is. omega arith) view)
    written)
first_copy k e plain beside (inr other) =
    absurd (zero_does_not_read e 0
    (λ i bytes at. other.0 i bytes (cell_before k e 0 (whole_segment 0).mask i bytes
    (λ j held h view. beside.no_more 0 j held h (λ is. omega arith) view) at))
    plain.header_area beside.first)

table_beside : (k e : Cartridge) (area : List (List ℕ)) → IsSameIn k e 2 → Written (table_cells k) area ⊎ ReadsAll (table_cells k) area →
    Written (table_cells e) area ⊎ ReadsAll (table_cells e) area
table_beside k e area same stand =
    subst (λ (cells : List SectorView). Written cells area ⊎ ReadsAll cells area) (sym (same_cells k e 2 (whole_segment 2).mask same)) stand

pub beside_stands : (k e : Cartridge) (plain : Plain) → Stands k plain → IsBeside k e plain → Stands e plain
beside_stands k e plain stood beside = record {
  whole = stood.whole;
  header = record {
    referenced = ap (λ (i : TapeInfo). i.referenced) beside.info ∙ stood.header.referenced;
    in_force = inl beside.first;
  };
  sound_header = ap (λ (i : TapeInfo). header_fault plain.header_area i.segments_per_track) beside.info ∙ stood.sound_header;
  copies = first_copy k e plain beside stood.copies;
  sound_table = λ i h. ap (λ (info : TapeInfo). slot_fault plain.table_area (28 * info.segments_per_track - 1) i) beside.info
      ∙ stood.sound_table i h;
  shown = stood.shown;
  volumes = volumes_beside k e plain (last_end (entries_of plain)) plain.volumes beside (old_volumes k plain stood) stood.volumes;
  table = table_beside k e plain.table_area beside.table stood.table;
}
