-- The volume table that is found in the dump of a cartridge, and its volumes.
use Rattle.std.proofs.Common.{◌≡◌, ◌⊎◌, inl, inr, ℕ, zero, suc, ◌+◌, ◌*◌, ◌<◌, ◌≤◌, ◌==◌, ◌||◌, Bool, true, false}
use Rattle.std.proofs.Common.{List, [], ◌∷◌, codes, length, map, slice_get, Option, Some, None, refl, sym, ap, ap₂, subst, ◌∙◌}
use Rattle.std.proofs.Common.{arith}
use Rattle.std.proofs.lemmas.Bool.{eqb-true}
use Rattle.std.proofs.lemmas.Option.{same_Some}
use Rattle.std.specs.Int.{bit_at}
use Rattle.std.specs.List.{range_with_len}
use Rattle.std.specs.Prelude.{slice_index}
use Rattle.cartridge_laws.proofs.ChangeStanding.{written_less}
use Rattle.cartridge_laws.proofs.ChangeTable.{table_alike}
use Rattle.cartridge_laws.proofs.MountOnce.{one_table}
use Rattle.cartridge_spec.specs.Says.{whole_mask, cells_of, unreadable_count, with_parity, Written}
use Rattle.cartridge_spec.specs.Shape.{IsArea}
use Rattle.cartridge_spec.specs.Table.{Entry, entry_in, is_free, is_used, slot}
use Rattle.cartridge_spec.specs.TableSegment.{table_cells, TableIs}
use Rattle.cartridge_spec.specs.Table as tables
use Rattle.flat_dump.proofs.Standing.{reads_alike, cells_alike}
use Rattle.flat_dump.specs.Imported.{brought_back}
use Rattle.qic_base.specs.Cartridge.{Cartridge}
use Rattle.qic_base.specs.Field.{number_at, little_endian}
use Rattle.qic_base.specs.declared.tape.SectorView.{SectorView}
use Rattle.gf256_qic.proofs.Parities.{parity_block}
use Rattle.dump_laws.proofs.Blocks.{sure_is_the_block}
use Rattle.dump_spec.specs.Cells.{cells_in}
use Rattle.dump_spec.specs.Dump.{Dump}
use Rattle.dump_spec.specs.Given.{given_area}
use Rattle.dump_spec.specs.Header.{first_data}
use Rattle.dump_spec.specs.Table.{FoundTable, HasTableData, HasNoTapeTable, IsTable, IsTapeTable, IsWholeSegment}
use Rattle.dump_spec.specs.Volumes.{Volume, is_passed, slots, volume_in, volume_slots}
use Rattle.dump_spec.specs.declared.form.Form.TheVariants as forms
use Rattle.salvage_laws.proofs.Headers.{IsOf}
use Rattle.salvage_laws.proofs.Views.{plain_layout, cells_as}
use Rattle.salvage_laws.specs.Exported.{IsUncompressed}

-- ---- its data

back_table : (c : Cartridge) (table : List (List ℕ)) → TableIs c table → TableIs (brought_back c) table
back_table c table is =
    table_alike c (brought_back c) table (reads_alike c) (cells_alike c (brought_back c) 2 (reads_alike c)) is

-- the data of a table that can be read are those that are found
data_are : (d : Cartridge) (table area : List (List ℕ)) (sure : Bool) → TableIs d table →
    HasTableData forms.Sectors false whole_mask (table_cells d) area sure → area ≡ table
data_are d table area sure is has = by_reading has.data_are where
  same : has.counted ≡ table_cells d
  same = has.counts

  by_reading : (IsWholeSegment forms.Sectors whole_mask × IsTapeTable has.counted area)
      ⊎ (HasNoTapeTable forms.Sectors whole_mask has.counted × (area ≡ given_area has.given)) → area ≡ table
  by_reading (inl (whole, reads)) =
      one_table d area table (subst (λ (cells : List SectorView). IsTapeTable cells area) same reads) is
  by_reading (inr (none, given)) =
      absurd (none (record { sectors = refl; usable = refl }) table
      (subst (λ (cells : List SectorView). IsTapeTable cells table) (sym same) is))

-- the table that is found
pub record IsFound (c : Cartridge) (table : List (List ℕ)) (found : Option FoundTable) : Type 0 where
  pub table_there : FoundTable
  pub is : found ≡ Some table_there
  pub segment : table_there.segment ≡ 2
  pub area : table_there.area ≡ table
  pub gives : HasTableData forms.Sectors false whole_mask (table_cells (brought_back c)) table_there.area table_there.sure

pub table_found : (c : Cartridge) (dump : Dump) (masks : ℕ → ℕ) (head table : List (List ℕ)) (found : Option FoundTable) →
    IsOf c dump → first_data head ≡ 2 → masks 2 ≡ whole_mask → TableIs c table →
    IsTable (Some head) dump (plain_layout masks) false found → IsFound c table found
table_found c dump masks head table None of first mask is not = absurd not
table_found c dump masks head table (Some t) of first mask is here =
    let short = of.whole.long.shortest in
    let P : ℕ → Type 0 = λ s. HasTableData forms.Sectors false (masks s) (cells_in dump (plain_layout masks) s) t.area t.sure in
    let Q : List SectorView → Type 0 = λ cells. HasTableData forms.Sectors false (masks 2) cells t.area t.sure in
    let R : ℕ → Type 0 = λ m. HasTableData forms.Sectors false m (cells_of (brought_back c) 2 m) t.area t.sure in
    let there = subst R mask (subst Q (cells_as c dump masks 2 of.whole of.bytes of.views (omega arith)) (subst P first here.1)) in
    record {
      table_there = t;
      is = refl;
      segment = here.0 ∙ first;
      area = data_are (brought_back c) table t.area t.sure (back_table c table is) there;
      gives = there;
    }

-- it is sure where its segment was written and has lost at most two sectors
pub sure_if_written : (c : Cartridge) (table area : List (List ℕ)) (sure : Bool) →
    HasTableData forms.Sectors false whole_mask (table_cells (brought_back c)) area sure → IsArea table →
    Written (table_cells c) table → unreadable_count (table_cells c) ≤ 2 → sure ≡ true
sure_if_written c table area sure has whole written few =
    let size = whole.size in
    let alike = reads_alike c in
    let count = (cells_alike c (brought_back c) 2 alike).count in
    has.marks
    ∙ (sure_is_the_block false (table_cells (brought_back c)) has.given (with_parity table) (omega arith)
    (parity_block table (omega arith) (omega arith) whole.sectors)
    (written_less c (brought_back c) 2 whole_mask table alike.no_more written) has.gives).1

-- ---- its slots

-- a free slot ends the volumes: it is none of a volume, and is not passed over
free_ends : (bytes : List ℕ) → is_free bytes ≡ true → (is_used bytes ≡ false) × (is_passed bytes ≡ false)
free_ends bytes free =
    let none : number_at bytes 0 4 ≡ 0 = eqb-true (number_at bytes 0 4) 0 free in
    let is : (letters : List ℕ) → ℕ → Bool = λ letters n. n == little_endian letters in (
      ap (is (codes "VTBL")) none,
      ap (λ (n : ℕ). is (codes "XTBL") n || is (codes "UTID") n || is (codes "EXVT") n) none,
    )

-- a volume that is not compressed
abbrev pub plain_volume : Entry → Volume
plain_volume e = record { entry = e; compressed = false }

-- the slots from one on show these entries, and none behind them
record ShowOnly (table : List (List ℕ)) (k room : ℕ) (es : List Entry) : Type 0 where
  few : length es ≤ room
  used : (i : ℕ) → i < length es → is_used (slot table (k + i)) ≡ true
  shown : (i : ℕ) → i < length es → slice_get es i ≡ Some (entry_in (slot table (k + i)))
  plain : (i : ℕ) → i < length es → bit_at (slice_index (slot table (k + i)) 124) 7 ≡ 0
  free : length es < room → is_free (slot table (k + length es)) ≡ true

show_rest : (table : List (List ℕ)) (k room : ℕ) (e : Entry) (es : List Entry) → ShowOnly table k (suc room) (e ∷ es) →
    ShowOnly table (k + 1) room es
show_rest table k room e es show = record {
  few = (let few = show.few in omega arith);
  used = λ i h. let next : k + suc i ≡ k + 1 + i = omega arith in
      subst (λ (n : ℕ). is_used (slot table n) ≡ true) next (show.used (suc i) (omega arith));
  shown = λ i h. let next : k + suc i ≡ k + 1 + i = omega arith in
      subst (λ (n : ℕ). slice_get es i ≡ Some (entry_in (slot table n))) next (show.shown (suc i) (omega arith));
  plain = λ i h. let next : k + suc i ≡ k + 1 + i = omega arith in
      subst (λ (n : ℕ). bit_at (slice_index (slot table n) 124) 7 ≡ 0) next (show.plain (suc i) (omega arith));
  free = λ h. let next : k + suc (length es) ≡ k + 1 + length es = omega arith in
      subst (λ (n : ℕ). is_free (slot table n) ≡ true) next (show.free (omega arith));
}

first_volume : (table : List (List ℕ)) (k room : ℕ) (e : Entry) (es : List Entry) → ShowOnly table k room (e ∷ es) →
    volume_in (slot table k) ≡ plain_volume e
first_volume table k room e es show =
    let at : k + 0 ≡ k = omega arith in
    let entry : e ≡ entry_in (slot table k) =
    same_Some e (entry_in (slot table (k + 0))) (show.shown 0 (omega arith)) ∙ ap (λ (n : ℕ). entry_in (slot table n)) at in
    let bit : bit_at (slice_index (slot table k) 124) 7 ≡ 0 =
    subst (λ (n : ℕ). bit_at (slice_index (slot table n) 124) 7 ≡ 0) at (show.plain 0 (omega arith)) in
    ap₂ (λ (x : Entry) (n : ℕ). record { entry = x; compressed = n == 1 }) (sym entry) bit

volumes_from : (table : List (List ℕ)) (k room : ℕ) (es : List Entry) → ShowOnly table k room es →
    map volume_in (volume_slots (map (slot table) (range_with_len k room))) ≡ map plain_volume es
volumes_from table k zero [] show = refl
volumes_from table k (suc room) [] show =
    let at : k + 0 ≡ k = omega arith in
    let free : is_free (slot table k) ≡ true = subst (λ (n : ℕ). is_free (slot table n) ≡ true) at (show.free (omega arith)) in
    let ends = free_ends (slot table k) free in
    rw (ends.0, ends.1) refl
volumes_from table k zero (e ∷ es) show = absurd (let few = show.few in omega arith)
volumes_from table k (suc room) (e ∷ es) show =
    let at : k + 0 ≡ k = omega arith in
    let used : is_used (slot table k) ≡ true = subst (λ (n : ℕ). is_used (slot table n) ≡ true) at (show.used 0 (omega arith)) in
    rw used
    (ap₂ (λ (v : Volume) (vs : List Volume). v ∷ vs) (first_volume table k (suc room) e es show)
    (volumes_from table (k + 1) room es (show_rest table k room e es show)))

pub volumes_are : (table : List (List ℕ)) (entries : List Entry) → length table ≡ 29 → tables.Shows table entries →
    IsUncompressed table entries → map volume_in (volume_slots (slots table)) ≡ map plain_volume entries
volumes_are table entries long shows plain =
    let room : length entries ≤ 232 = shows.room in
    volumes_from table 0 (8 * length table) entries (record {
      few = omega arith;
      used = λ i h. subst (λ (n : ℕ). is_used (slot table n) ≡ true) (from i) (shows.used i h);
      shown = λ i h. subst (λ (n : ℕ). slice_get entries i ≡ Some (entry_in (slot table n))) (from i) (shows.shown i h);
      plain = λ i h. subst (λ (n : ℕ). bit_at (slice_index (slot table n) 124) 7 ≡ 0) (from i) (plain i h);
      free = λ h. subst (λ (n : ℕ). is_free (slot table n) ≡ true) (from (length entries))
          (shows.free (length entries) (omega arith) (omega arith));
    })
  where
    from : (i : ℕ) → i ≡ 0 + i
    from i = omega arith
