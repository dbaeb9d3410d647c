-- A cartridge that is being mended stands for what it stood for, is mounted as it was, and its table reads the same.
use Rattle.std.proofs.Common.{◌≡◌, ℕ, ◌-◌, ◌<◌, get_or, slice_get, Some, ap, ◌∙◌, inl, inr, sym, arith, ◌+◌, ◌≤◌, List, length, All, true}
use Rattle.std.proofs.Common.{[], Contains, subst, ◌∷◌, ◌⊎◌, take, drop, map, ◌*◌}
use Rattle.std.proofs.lemmas.Option.{slice_get-get_or, unwrap_or-slice_get, slice_get_within}
use Rattle.std.proofs.lemmas.Bool.{cases_eq, cases_lt}
use Rattle.std.proofs.lemmas.List.{length-append}
use Rattle.std.proofs.lemmas.List.Elements.{All-nil, All-cons, All-head, All-tail, All-take, All-drop, Contains-append_left}
use Rattle.std.proofs.lemmas.List.Elements.{Contains-append_right}
use Rattle.cartridge_laws.proofs.FormatCopies.{no_fewer_unreadable, written_reads, held_view, view_held}
use Rattle.cartridge_laws.proofs.FormatStanding.{same_cells}
use Rattle.cartridge_laws.proofs.Hiding.{nothing_is_hidden}
use Rattle.cartridge_laws.proofs.MountStanding.{written_table}
use Rattle.cartridge_laws.proofs.Places.{usable_apart, count_below, usable_small}
use Rattle.cartridge_laws.proofs.Sayings.{says_is_function, written_is_said, said_is_written, said_are_sectors}
use Rattle.cartridge_laws.proofs.Segments.{count_of_cells, length-whole_cells, zero_does_not_read}
use Rattle.cartridge_spec.specs.Code.{parity_sectors}
use Rattle.cartridge_spec.specs.Header.{header_fault}
use Rattle.cartridge_spec.specs.Shape.{IsArea, usable_places, usable_count, mask_at, data_count}
use Rattle.cartridge_spec.specs.HeaderCopies.{CopyReads, copy_cells, CopyDoesNotRead}
use Rattle.cartridge_spec.specs.TableSegment.{table_cells, TableIs}
use Rattle.cartridge_laws.specs.VolumeParts.{PartStands}
use Rattle.cartridge_laws.specs.HeaderTerms.{IsInForce, CopiesAre}
use Rattle.cartridge_spec.specs.Says.{cells_of, Data, Says, Written, with_parity, unreadable_count, whole_mask, Zero, ReadsAll, HasBlock}
use Rattle.cartridge_spec.specs.Says.{HasNoBlock, TableSays, AsRead, ByCode}
use Rattle.cartridge_spec.specs.Table.{Entry, slot_fault}
use Rattle.cartridge_spec.specs.Volumes.{Part, parts_of, Volume, VolumeStands, carrying_segments, Plain, Stands, entries_of}
use Rattle.command_laws.proofs.ScrubApart.{by_map, one_looked, contains_first, contains_more}
use Rattle.command_laws.proofs.ScrubMending.{readable_stays}
use Rattle.command_laws.proofs.ScrubTurns.{copy_is_looked_at}
use Rattle.command_laws.specs.ScrubMended.{IsMended, IsBeingMended}
use Rattle.command_laws.specs.ScrubSayings.{Rise}
use Rattle.command_spec.specs.Scrub.{Looked, cells_at, reads, whole_segment, looked_volumes, looked_at}
use Rattle.command_laws.specs.ScrubTerms.{looked_segments}
use Rattle.gf256_qic.proofs.Parities.{block_count, length-parity_sectors}
use Rattle.qic_base.specs.Cartridge.{Cartridge, view_at, IsSector}
use Rattle.qic_base.specs.declared.tape.SectorView.{SectorView}
use Rattle.qic_base.specs.declared.tape.SectorView.TheVariants.{Holds}
use Rattle.qic_base.specs.declared.tape.TapeInfo.{TapeInfo}
use Rattle.cartridge_laws.proofs.Writing.{cell_at}

-- ---- one segment

pub same_place : (mask j k : ℕ) → j < usable_count mask → k < usable_count mask →
    get_or (usable_places mask) j 0 ≡ get_or (usable_places mask) k 0 → j ≡ k
same_place mask j k below within same =
    elim (cases_eq j k) [
      | inl is ↦ is
      | inr apart ↦ elim (cases_lt j k) [
        | inl lower ↦ absurd (usable_apart mask j k lower within same)
        | inr higher ↦ absurd (usable_apart mask k j (omega arith) below (sym same))
      ]
    ]

-- the data that cells say are those that were written
same_data : (cells : List SectorView) (xs ds : List (List ℕ)) → length cells ≤ 32 → All IsSector xs → Written cells xs →
    Says cells (Data ds) → ds ≡ xs
same_data cells xs ds few are written says =
    let has = says.1 in
    let least : 4 ≤ length has.block = (block_count has.block has.code).0 in
    let size : length has.block ≡ length cells = has.agrees.size in
    let whole : length (with_parity xs) ≡ length cells = written.size in
    let parts : length (with_parity xs) ≡ length xs + length (parity_sectors xs) = length-append xs (parity_sectors xs) in
    let three : length (parity_sectors xs) ≡ 3 = length-parity_sectors xs in
    let said : Says cells (Data xs) = written_is_said cells xs (omega arith) (omega arith) are written says.0 in
    let both : Data ds ≡ Data xs = says_is_function cells (Data ds) (Data xs) says said in
    cc

-- a sector that is to be mended in this segment
pub record MendedIn (c : Cartridge) (l : Looked) (sector : ℕ) (bytes : List ℕ) : Type 0 where
  sectors : List (List ℕ)
  says : Says (cells_at c l) (Data sectors)
  can_be_read : reads l (Data sectors) ≡ true
  place : ℕ
  within : place < usable_count l.mask
  index : get_or (usable_places l.mask) place 0 ≡ sector
  block : get_or (with_parity sectors) place [] ≡ bytes

pub mended_in : (looked : List Looked) (c : Cartridge) (l : Looked) (sector : ℕ) (bytes : List ℕ) → Rise looked → Contains looked l →
    IsMended c looked l.segment sector bytes → MendedIn c l sector bytes
mended_in looked c l sector bytes rise among mended =
    subst (λ (m : Looked). MendedIn c m sector bytes) (one_looked looked mended.at l rise mended.among among mended.here) (record {
      sectors = mended.sectors;
      says = mended.says;
      can_be_read = mended.can_be_read;
      place = mended.place;
      within = mended.within;
      index = mended.index;
      block = sym (unwrap_or-slice_get (with_parity mended.sectors) mended.place []) ∙ mended.block;
    })

few_cells : (c : Cartridge) (l : Looked) → length (cells_at c l) ≤ 32
few_cells c l = omega (arith, count_of_cells c l.segment l.mask, count_below l.mask 32)

-- one that was mended holds its sector of what was written
pub mended_right : (c : Cartridge) (l : Looked) (xs : List (List ℕ)) (k : ℕ) (bytes : List ℕ) → All IsSector xs →
    Written (cells_at c l) xs →
    k < usable_count l.mask →
    MendedIn c l (get_or (usable_places l.mask) k 0) bytes → slice_get (with_parity xs) k ≡ Some bytes
mended_right c l xs k bytes are written h mended =
    let ds : List (List ℕ) = mended.sectors in
    let same : ds ≡ xs = same_data (cells_at c l) xs ds (few_cells c l) are written mended.says in
    let place : mended.place ≡ k = same_place l.mask mended.place k mended.within h mended.index in
    let long : length (with_parity xs) ≡ length (cells_at c l) = written.size in
    slice_get-get_or (with_parity xs) k [] (omega (arith, count_of_cells c l.segment l.mask))
    ∙ ap (λ (b : List ℕ). Some b) (ap (λ (ss : List (List ℕ)). get_or (with_parity ss) k []) (sym same)
    ∙ ap (λ (j : ℕ). get_or (with_parity ds) j []) (sym place) ∙ mended.block)

-- a segment that was written is still so
pub written_kept : (looked : List Looked) (c d : Cartridge) (l : Looked) (xs : List (List ℕ)) → Rise looked → Contains looked l →
    All IsSector xs →
    IsBeingMended looked c d → Written (cells_at c l) xs → Written (cells_at d l) xs
written_kept looked c d l xs rise among are way written = record {
  size = written.size ∙ count_of_cells c l.segment l.mask ∙ sym (count_of_cells d l.segment l.mask);
  each = λ k held at.
      let within : k < length (cells_at d l) = slice_get_within (cells_at d l) k (Holds held) at in
      let below : k < usable_count l.mask = omega (arith, count_of_cells d l.segment l.mask) in
      let place : ℕ = get_or (usable_places l.mask) k 0 in
      let here : Some (Holds held) ≡ Some (view_at d l.segment place) = sym at ∙ cell_at d l.segment l.mask k below in
      let view : view_at d l.segment place ≡ Holds held = cc in
      elim (way.each l.segment place (usable_small l.mask k below)) [
        | inl same ↦ written.each k held (cell_at c l.segment l.mask k below ∙ ap (λ (v : SectorView). Some v) (sym same ∙ view))
        | inr has ↦
            let both : Holds held ≡ Holds has.0 = sym view ∙ has.3 in
            let bytes : held ≡ has.0 = cc in
            mended_right c l xs k has.0 are written below (mended_in looked c l place has.0 rise among has.1)
            ∙ ap (λ (b : List ℕ). Some b) (sym bytes)
      ];
}

-- one that does not read is as it was
pub unread_kept : (looked : List Looked) (c d : Cartridge) (l : Looked) → Rise looked → Contains looked l → IsBeingMended looked c d →
    ((ds : List (List ℕ)) → Says (cells_at c l) (Data ds) → reads l (Data ds) ≡ true → ⊥) →
    (i : ℕ) → i < 32 → view_at d l.segment i ≡ view_at c l.segment i
unread_kept looked c d l rise among way none i h =
    elim (way.each l.segment i h) [
      | inl same ↦ same
      | inr has ↦
          let mended = mended_in looked c l i has.0 rise among has.1 in
          absurd (none mended.sectors mended.says mended.can_be_read)
    ]

-- no more sectors are unreadable than before
pub fewer_unreadable : (looked : List Looked) (c d : Cartridge) (l : Looked) → IsBeingMended looked c d →
    unreadable_count (cells_at d l) ≤ unreadable_count (cells_at c l)
fewer_unreadable looked c d l way =
    no_fewer_unreadable (cells_at d l) (cells_at c l) (count_of_cells d l.segment l.mask ∙ sym (count_of_cells c l.segment l.mask))
    (λ k held at.
    let within : k < length (cells_at c l) = slice_get_within (cells_at c l) k (Holds held) at in
    let below : k < usable_count l.mask = omega (arith, count_of_cells c l.segment l.mask) in
    let place : ℕ = get_or (usable_places l.mask) k 0 in
    let here : Some (Holds held) ≡ Some (view_at c l.segment place) = sym at ∙ cell_at c l.segment l.mask k below in
    let view : view_at c l.segment place ≡ Holds held = cc in
    cell_at d l.segment l.mask k below
    ∙ ap (λ (v : SectorView). Some v) (readable_stays looked c d l.segment place held (usable_small l.mask k below) way view))

-- what a segment says is said still
pub said_kept : (looked : List Looked) (c d : Cartridge) (l : Looked) (ds : List (List ℕ)) → Rise looked → Contains looked l →
    IsBeingMended looked c d →
    Says (cells_at c l) (Data ds) → Written (cells_at d l) ds
said_kept looked c d l ds rise among way says =
    written_kept looked c d l ds rise among ((said_are_sectors (cells_at c l) ds says).each) way
    (said_is_written (cells_at c l) ds says)

-- ---- the header copies

said_area : (c : Cartridge) (segment : ℕ) (area : List (List ℕ)) → Says (cells_of c segment whole_mask) (Data area) → IsArea area
said_area c segment area says =
    let are = said_are_sectors (cells_of c segment whole_mask) area says in
    let size : length area + 3 ≡ length (cells_of c segment whole_mask) = are.size in
    let cells : length (cells_of c segment whole_mask) ≡ 32 = length-whole_cells c segment in
    record { size = omega arith; sectors = are.each }

pub copy_reads : (looked : List Looked) (c d : Cartridge) (copy : ℕ) (area : List (List ℕ)) → Rise looked →
    Contains looked (whole_segment copy) →
    IsBeingMended looked c d → CopyReads c copy area → CopyReads d copy area
copy_reads looked c d copy area rise among way copy_is =
    let few : unreadable_count (copy_cells c copy) ≤ 3 = copy_is.says.0 in
    let fewer = fewer_unreadable looked c d (whole_segment copy) way in
    written_reads d copy area (said_area c copy area copy_is.says) copy_is.signature
    (said_kept looked c d (whole_segment copy) area rise among way copy_is.says) (omega arith)

copy_same : (looked : List Looked) (c d : Cartridge) (copy : ℕ) → copy < 2 → Rise looked → Contains looked (whole_segment copy) →
    IsBeingMended looked c d →
    CopyDoesNotRead c copy → copy_cells d copy ≡ copy_cells c copy
copy_same looked c d copy small rise among way none =
    same_cells c d copy whole_mask (unread_kept looked c d (whole_segment copy) rise among way
    (λ ds says can. let is = (copy_is_looked_at c copy (Data ds) small says).0 can in none is.0 is.1))

copy_none : (looked : List Looked) (c d : Cartridge) (copy : ℕ) → copy < 2 → Rise looked → Contains looked (whole_segment copy) →
    IsBeingMended looked c d →
    CopyDoesNotRead c copy → CopyDoesNotRead d copy
copy_none looked c d copy small rise among way none area copy_is =
    none area (record {
      says = subst (λ (cells : List SectorView). Says cells (Data area)) (copy_same looked c d copy small rise among way none) copy_is.says;
      signature = copy_is.signature;
    })

-- both header copies and the table are among those that are looked at
pub record LooksInFront (looked : List Looked) : Type 0 where
  pub rise : Rise looked
  pub first : Contains looked (whole_segment 0)
  pub second : Contains looked (whole_segment 1)
  pub table : Contains looked (whole_segment 2)

pub looks_in_front : (words : List ℕ) (entries : List Entry) → Rise (looked_at words entries) → LooksInFront (looked_at words entries)
looks_in_front words entries rise =
    let rest : List Looked = looked_volumes words entries in
    record {
      rise = rise;
      first = contains_first (whole_segment 0) (whole_segment 1 ∷ whole_segment 2 ∷ rest);
      second = contains_more (whole_segment 0) (whole_segment 1) (whole_segment 1 ∷ whole_segment 2 ∷ rest)
          (contains_first (whole_segment 1) (whole_segment 2 ∷ rest));
      table = contains_more (whole_segment 0) (whole_segment 2) (whole_segment 1 ∷ whole_segment 2 ∷ rest)
          (contains_more (whole_segment 1) (whole_segment 2) (whole_segment 2 ∷ rest) (contains_first (whole_segment 2) rest));
    }

pub in_force : (looked : List Looked) (c d : Cartridge) (area : List (List ℕ)) → LooksInFront looked → IsBeingMended looked c d →
    IsInForce c area → IsInForce d area
in_force looked c d area front way (inl first) = inl (copy_reads looked c d 0 area front.rise front.first way first)
in_force looked c d area front way (inr second) = inr (
  copy_none looked c d 0 (omega arith) front.rise front.first way second.0,
  copy_reads looked c d 1 area front.rise front.second way second.1,
)

pub zero_kept : (looked : List Looked) (c d : Cartridge) (copy : ℕ) → copy < 2 → Rise looked → Contains looked (whole_segment copy) →
    IsBeingMended looked c d →
    Zero (copy_cells c copy) → Zero (copy_cells d copy)
zero_kept looked c d copy small rise among way zeros =
    subst (λ (cells : List SectorView). Zero cells) (sym (copy_same looked c d copy small rise among way (zero_does_not_read c copy zeros)))
    zeros

copies_are : (looked : List Looked) (c d : Cartridge) (area : List (List ℕ)) → LooksInFront looked → IsBeingMended looked c d →
    IsArea area → CopiesAre c area → CopiesAre d area
copies_are looked c d area front way is_area (inl written) =
    inl (written_kept looked c d (whole_segment 0) area front.rise front.first is_area.sectors way written)
copies_are looked c d area front way is_area (inr other) = inr (
  zero_kept looked c d 0 (omega arith) front.rise front.first way other.0,
  written_kept looked c d (whole_segment 1) area front.rise front.second is_area.sectors way other.1,
)

-- ---- the table

reads_kept : (looked : List Looked) (c d : Cartridge) (area : List (List ℕ)) → IsBeingMended looked c d → ReadsAll (table_cells c) area →
    ReadsAll (table_cells d) area
reads_kept looked c d area way all = record {
  size = all.size;
  each = λ i h.
      let here = all.each i h in
      let held = held_view c 2 i here.0 here.1 in
      (here.0, view_held d 2 i here.0 held.within (readable_stays looked c d 2 i here.0 held.within way held.view), here.2);
}

pub table_kept : (looked : List Looked) (c d : Cartridge) (area : List (List ℕ)) → LooksInFront looked → IsBeingMended looked c d →
    TableIs c area → TableIs d area
table_kept looked c d area front way (inl all) = inl (reads_kept looked c d area way all)
table_kept looked c d area front way (inr (some, (few, inl has))) =
    let says : Says (table_cells c) (Data area) =
    (few, subst (λ (cells : List SectorView). HasBlock cells area) (nothing_is_hidden (table_cells c)) has) in
    let fewer = fewer_unreadable looked c d (whole_segment 2) way in
    written_table d area (said_area c 2 area says) (said_kept looked c d (whole_segment 2) area front.rise front.table way says)
    (inr (omega arith))
-- where readable sectors were left out of account, nothing is written to the table's segment
table_kept looked c d area front way (inr (some, (few, inr (none, rest)))) =
    let same : table_cells d ≡ table_cells c =
    same_cells c d 2 whole_mask (unread_kept looked c d (whole_segment 2) front.rise front.table way (λ ds says can.
    no_block (subst (λ (cells : List SectorView). HasNoBlock cells) (nothing_is_hidden (table_cells c)) none) says.1)) in
    subst (λ (cells : List SectorView). TableSays cells (AsRead area) ⊎ TableSays cells (ByCode (Data area))) (sym same)
    (inr (some, (few, inr (none, rest))))
  where
    no_block : {ds : List (List ℕ)} → HasNoBlock (table_cells c) → HasBlock (table_cells c) ds → ⊥
    no_block none has = none has.block has.code has.agrees

table_stands : (looked : List Looked) (c d : Cartridge) (area : List (List ℕ)) → LooksInFront looked → IsBeingMended looked c d →
    IsArea area →
    Written (table_cells c) area ⊎ ReadsAll (table_cells c) area → Written (table_cells d) area ⊎ ReadsAll (table_cells d) area
table_stands looked c d area front way is_area (inl written) =
    inl (written_kept looked c d (whole_segment 2) area front.rise front.table is_area.sectors way written)
table_stands looked c d area front way is_area (inr all) = inr (reads_kept looked c d area way all)

-- ---- the volumes

segments_among : (P : Looked → Type 0) (words ss : List ℕ) → ((l : Looked) → Contains (looked_segments words ss) l → P l) →
    All (λ s. P (by_map words s)) ss
segments_among P words [] within = All-nil (λ (s : ℕ). P (by_map words s))
segments_among P words (s ∷ ss) within =
    All-cons (λ (t : ℕ). P (by_map words t)) s ss (within (by_map words s) (contains_first (by_map words s) (looked_segments words ss)))
    (segments_among P words ss (λ l among. within l (contains_more (by_map words s) l (looked_segments words ss) among)))

parts_kept : (looked : List Looked) (c d : Cartridge) (words segments : List ℕ) (area : List (List ℕ)) → Rise looked →
    IsBeingMended looked c d →
    All IsSector area → All (λ s. Contains looked (by_map words s)) segments →
    All (PartStands c words) (parts_of words segments area) → All (PartStands d words) (parts_of words segments area)
parts_kept looked c d words [] area rise way are among stand = All-nil (PartStands d words)
parts_kept looked c d words (s ∷ ss) area rise way are among stand =
    let n : ℕ = data_count (mask_at words s) in
    let part : Part = record { segment = s; sectors = take n area } in
    let rest : List Part = parts_of words ss (drop n area) in
    All-cons (PartStands d words) part rest
    (written_kept looked c d (by_map words s) (take n area) rise (All-head (λ (t : ℕ). Contains looked (by_map words t)) s ss among)
    (All-take IsSector n area are) way (All-head (PartStands c words) part rest stand))
    (parts_kept looked c d words ss (drop n area) rise way (All-drop IsSector n area are)
    (All-tail (λ (t : ℕ). Contains looked (by_map words t)) s ss among) (All-tail (PartStands c words) part rest stand))

volumes_kept : (looked : List Looked) (c d : Cartridge) (words : List ℕ) (volumes : List Volume) → Rise looked → IsBeingMended looked c d →
    ((l : Looked) → Contains (looked_volumes words (map (λ volume. volume.entry) volumes)) l → Contains looked l) →
    All (λ volume. All IsSector volume.area) volumes → All (VolumeStands c words) volumes → All (VolumeStands d words) volumes
volumes_kept looked c d words [] rise way among are stand = All-nil (VolumeStands d words)
volumes_kept looked c d words (volume ∷ volumes) rise way among are stand =
    let segments : List ℕ = carrying_segments words volume.entry in
    let front : List Looked = looked_segments words segments in
    let rear : List Looked = looked_volumes words (map (λ volume. volume.entry) volumes) in
    let stood : VolumeStands c words volume = All-head (VolumeStands c words) volume volumes stand in
    All-cons (VolumeStands d words) volume volumes
    (record {
      parts = parts_kept looked c d words segments volume.area rise way (All-head (λ (v : Volume). All IsSector v.area) volume volumes are)
          (segments_among (Contains looked) words segments (λ l here. among l (Contains-append_left front rear l here))) stood.parts;
      size = stood.size;
    })
    (volumes_kept looked c d words volumes rise way (λ l here. among l (Contains-append_right front rear l here))
    (All-tail (λ (v : Volume). All IsSector v.area) volume volumes are) (All-tail (VolumeStands c words) volume volumes stand))

-- ---- the plain cartridge

pub mending_stands : (c d : Cartridge) (plain : Plain) → Rise (looked_at plain.words (entries_of plain)) → Stands c plain →
    IsBeingMended (looked_at plain.words (entries_of plain)) c d → Stands d plain
mending_stands c d plain rise stood way =
    let looked : List Looked = looked_at plain.words (entries_of plain) in
    let rest : List Looked = looked_volumes plain.words (entries_of plain) in
    let front = looks_in_front plain.words (entries_of plain) rise in
    record {
      whole = stood.whole;
      header = record {
        referenced = ap (λ (i : TapeInfo). i.referenced) way.info ∙ stood.header.referenced;
        in_force = in_force looked c d plain.header_area front way stood.header.in_force;
      };
      sound_header = ap (λ (i : TapeInfo). header_fault plain.header_area i.segments_per_track) way.info ∙ stood.sound_header;
      copies = copies_are looked c d plain.header_area front way stood.whole.header_area stood.copies;
      sound_table = λ i h. ap (λ (info : TapeInfo). slot_fault plain.table_area (28 * info.segments_per_track - 1) i) way.info
          ∙ stood.sound_table i h;
      shown = stood.shown;
      volumes = volumes_kept looked c d plain.words plain.volumes rise way (λ l among.
          contains_more (whole_segment 0) l (whole_segment 1 ∷ whole_segment 2 ∷ rest)
          (contains_more (whole_segment 1) l (whole_segment 2 ∷ rest) (contains_more (whole_segment 2) l rest among)))
          stood.whole.areas stood.volumes;
      table = table_stands looked c d plain.table_area front way stood.whole.table_area stood.table;
    }
