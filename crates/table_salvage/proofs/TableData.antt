-- The data of the table's segment, by what the segment gives and by what a cartridge's table is read as.
use Rattle.std.proofs.Common.{◌≡◌, ℕ, ◌-◌, ◌<◌, ◌≤◌, Bool, true, false, if◌then◌else◌, ◌+◌, List, [], length, map, take, slice_get, Some}
use Rattle.std.proofs.Common.{refl, sym, ap, subst, ◌∙◌, inl, inr, arith}
use Rattle.std.specs.Option.{option_map}
use Rattle.std.specs.List.{range_with_len}
use Rattle.std.proofs.lemmas.List.{length-map}
use Rattle.std.proofs.lemmas.List.FromFn.{length-range_with_len, get_or-range_with_len}
use Rattle.std.proofs.lemmas.Option.{slice_get_within, slice_get-get_or, slice_get-map, unwrap_or-slice_get}
use Rattle.cartridge_laws.proofs.Sets.{length-hidden, held_outside}
use Rattle.cartridge_laws.specs.Segment.{hidden}
use Rattle.cartridge_spec.specs.Says.{whole_mask}
use Rattle.cartridge_spec.specs.Shape.{sector_at, usable_count, usable_places, data_count}
use Rattle.dump_spec.specs.Given.{Gives, all_sure}
use Rattle.dump_spec.specs.Table.{HasTableData, IsWholeSegment, IsTapeTable}
use Rattle.dump_spec.specs.declared.form.Form.{Form}
use Rattle.dump_spec.specs.declared.form.Form.TheVariants as forms
use Rattle.qic_base.specs.CartridgeTerms.{is_lost}
use Rattle.qic_base.specs.declared.tape.SectorView.{SectorView}
use Rattle.qic_base.specs.declared.tape.SectorView.TheVariants.{Holds}
use Rattle.segment_solve.specs.Gathered.{Gathered}
use Rattle.segment_salvage.proofs.ReadingWhole.{bytes_as, whole_count, whole_places}
use Rattle.segment_salvage.specs.Buffer.{buffer_view, buffer_cells}
use Rattle.segment_salvage.specs.Counted.{CountsWithout}
use Rattle.segment_salvage.specs.Reading.{given_as}
use Rattle.segment_salvage.specs.declared.reading.SegmentReading.{SegmentReading}
use Rattle.silent_locate.specs.Deep.{cell_of}
use Rattle.table_salvage.specs.TapeTable.{FindsTapeTable}

-- ---- the cells that count, of which the sectors were gathered

whole_cells_length : (unread : ℕ) (sectors : List (List ℕ)) → length (buffer_cells forms.Sectors whole_mask unread sectors) ≡ 32
whole_cells_length unread sectors = length-map (usable_places whole_mask) (buffer_view unread sectors) ∙ whole_count

pub length-counted : (lost unread : ℕ) (sectors : List (List ℕ)) →
    length (hidden lost (buffer_cells forms.Sectors whole_mask unread sectors)) ≡ 32
length-counted lost unread sectors =
    length-hidden lost 0 (buffer_cells forms.Sectors whole_mask unread sectors) ∙ whole_cells_length unread sectors

held_by : (test : Bool) (sector bytes : List ℕ) → cell_of test sector ≡ Holds bytes → sector ≡ bytes
held_by true sector bytes e = absurd (cc (e))
held_by false sector bytes e = cc

whole_holds : (unread : ℕ) (sectors : List (List ℕ)) (i : ℕ) (bytes : List ℕ) → length sectors ≡ 32 →
    slice_get (buffer_cells forms.Sectors whole_mask unread sectors) i ≡ Some (Holds bytes) → slice_get sectors i ≡ Some bytes
whole_holds unread sectors i bytes room at =
    let view : ℕ → SectorView = buffer_view unread sectors in
    let within : i < 32 =
    subst (λ (n : ℕ). i < n) (whole_cells_length unread sectors)
    (slice_get_within (buffer_cells forms.Sectors whole_mask unread sectors) i (Holds bytes) at) in
    let long : length (range_with_len 0 32) ≡ 32 = length-range_with_len 0 32 in
    let index : slice_get (range_with_len 0 32) i ≡ Some i =
    slice_get-get_or (range_with_len 0 32) i 0 (omega arith)
    ∙ ap Some (get_or-range_with_len 0 32 i 0 within ∙ none_more i) in
    let there : slice_get (buffer_cells forms.Sectors whole_mask unread sectors) i ≡ Some (view i) =
    ap (λ (places : List ℕ). slice_get (map view places) i) whole_places
    ∙ slice_get-map view (range_with_len 0 32) i
    ∙ ap (option_map view) index in
    let both : Some (view i) ≡ Some (Holds bytes) = sym there ∙ at in
    let same : view i ≡ Holds bytes = cc in
    let held : sector_at sectors i ≡ bytes = held_by (is_lost unread i) (sector_at sectors i) bytes same in
    slice_get-get_or sectors i [] (omega arith) ∙ ap Some (sym (unwrap_or-slice_get sectors i []) ∙ held)
  where
    none_more : (k : ℕ) → 0 + k ≡ k
    none_more k = omega arith

pub gathered_counted : (zero_lost : Bool) (lost unread : ℕ) (sectors : List (List ℕ)) → length sectors ≡ 32 →
    CountsWithout zero_lost (buffer_cells forms.Sectors whole_mask unread sectors) lost →
    Gathered (hidden lost (buffer_cells forms.Sectors whole_mask unread sectors)) lost sectors
gathered_counted zero_lost lost unread sectors room without = record {
  unreadable = without.each;
  readable = λ i bytes at.
      whole_holds unread sectors i bytes room
      (held_outside lost (buffer_cells forms.Sectors whole_mask unread sectors) i bytes at).1;
}

-- ---- the table's data

pub part_data : (form : Form) (zero_lost : Bool) (usable : ℕ) (cells : List SectorView) (reading : SegmentReading)
    (data_sectors : List (List ℕ)) (sure : Bool) →
    (IsWholeSegment form usable → ⊥) → Gives form zero_lost cells (given_as reading 0 data_sectors) →
    sure ≡ all_sure (given_as reading 0 data_sectors) → HasTableData form zero_lost usable cells data_sectors sure
part_data form zero_lost usable cells reading data_sectors sure part gives marks = record {
  counted = gives.counted;
  counts = gives.counts;
  given = given_as reading 0 data_sectors;
  gives = gives;
  data_are = inr (λ whole area tape. part whole, sym (bytes_as reading 0 data_sectors));
  marks = marks;
}

whole_segment : IsWholeSegment forms.Sectors whole_mask
whole_segment = record { sectors = refl; usable = refl }

pub whole_data : (zero_lost found : Bool) (cells : List SectorView) (reading : SegmentReading) (left work area : List (List ℕ))
    (sure : Bool) →
    CountsWithout zero_lost cells reading.lost → Gives forms.Sectors zero_lost cells (given_as reading 0 (take 29 left)) →
    FindsTapeTable found (hidden reading.lost cells) work → area ≡ take 29 (if found then work else left) →
    sure ≡ all_sure (given_as reading 0 (take 29 left)) → HasTableData forms.Sectors zero_lost whole_mask cells area sure
whole_data zero_lost true cells reading left work area sure without gives finds area_is marks = record {
  counted = hidden reading.lost cells;
  counts = without.counts;
  given = given_as reading 0 (take 29 left);
  gives = gives;
  data_are = inl (whole_segment, subst (λ (a : List (List ℕ)). IsTapeTable (hidden reading.lost cells) a) (sym area_is) finds);
  marks = marks;
}
whole_data zero_lost false cells reading left work area sure without gives finds area_is marks = record {
  counted = hidden reading.lost cells;
  counts = without.counts;
  given = given_as reading 0 (take 29 left);
  gives = gives;
  data_are = inr (λ whole. finds, area_is ∙ sym (bytes_as reading 0 (take 29 left)));
  marks = marks;
}

-- ---- a segment of 32 usable sectors

pub four_usable : 4 ≤ usable_count whole_mask
four_usable = omega (arith, whole_count)

pub gives_29 : (zero_lost : Bool) (cells : List SectorView) (reading : SegmentReading) (left : List (List ℕ)) →
    Gives forms.Sectors zero_lost cells (given_as reading 0 (take (data_count whole_mask) left)) →
    Gives forms.Sectors zero_lost cells (given_as reading 0 (take 29 left))
gives_29 zero_lost cells reading left gives =
    let data_is : data_count whole_mask ≡ 29 = ap (λ (n : ℕ). n - 3) whole_count in
    subst (λ (d : ℕ). Gives forms.Sectors zero_lost cells (given_as reading 0 (take d left))) data_is gives

pub whole_as : (form : Form) (zero_lost : Bool) (usable unread : ℕ) (old new : List (List ℕ)) (sure : Bool) → form ≡ forms.Sectors →
    usable ≡ whole_mask →
    HasTableData forms.Sectors zero_lost whole_mask (buffer_cells forms.Sectors whole_mask unread old) (take 29 new) sure →
    HasTableData form zero_lost usable (buffer_cells form usable unread old) (take (data_count usable) new) sure
whole_as form zero_lost usable unread old new sure form_is usable_is has =
    let data_is : data_count whole_mask ≡ 29 = ap (λ (n : ℕ). n - 3) whole_count in
    subst (λ (f : Form). HasTableData f zero_lost usable (buffer_cells f usable unread old) (take (data_count usable) new) sure)
    (sym form_is)
    (subst (λ (m : ℕ). HasTableData forms.Sectors zero_lost m (buffer_cells forms.Sectors m unread old) (take (data_count m) new) sure)
    (sym usable_is)
    (subst (λ (d : ℕ). HasTableData forms.Sectors zero_lost whole_mask (buffer_cells forms.Sectors whole_mask unread old) (take d new) sure)
    (sym data_is) has))
