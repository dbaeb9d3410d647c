-- A cartridge whose header copies are as they were stands for the same plain one, or for one with another table.
use Rattle.std.proofs.Common.{◌≡◌, ℕ, ◌<◌, ◌≤◌, zero, suc, ◌+◌, ◌-◌, All, arith, List, [], ◌∷◌, take, drop, sym, subst, nat_le, ◌⊎◌, map}
use Rattle.std.proofs.Common.{◌*◌, ap, ◌∙◌}
use Rattle.std.specs.List.{range_with_len}
use Rattle.std.proofs.lemmas.List.Elements.{All-nil, All-cons, All-head, All-tail, All-filter}
use Rattle.cartridge_laws.proofs.AppendOrders.{LiesWithin}
use Rattle.cartridge_laws.proofs.FormatStanding.{same_cells}
use Rattle.cartridge_laws.proofs.MountKeeping.{in_force, copies_are}
use Rattle.cartridge_spec.specs.Header.{header_fault}
use Rattle.cartridge_spec.specs.Shape.{IsArea, mask_at, data_count, usable_count}
use Rattle.cartridge_spec.specs.TableSegment.{table_cells}
use Rattle.cartridge_spec.specs.HeaderCopies.{copy_cells, last_segment}
use Rattle.cartridge_spec.specs.Says.{Written, ReadsAll, whole_mask}
use Rattle.cartridge_spec.specs.Table.{Shows, HasNoFault, slot_fault}
use Rattle.cartridge_spec.specs.Volumes.{Part, parts_of, Volume, VolumeStands, carrying, Plain, Stands}
use Rattle.cartridge_laws.specs.VolumeParts.{PartStands}
use Rattle.qic_base.specs.Cartridge.{Cartridge, view_at, IsSector}
use Rattle.qic_base.specs.declared.tape.SectorView.{SectorView}
use Rattle.qic_base.specs.declared.tape.TapeInfo.{TapeInfo}

-- ---- volumes that lie in segments that are as they were

-- the segments up to one are as they were
abbrev pub AreKeptTo : (to : ℕ) (c d : Cartridge) → Type 0
AreKeptTo to c d = (s i : ℕ) → s ≤ to → i < 32 → view_at d s i ≡ view_at c s i

pub range_within : (n from to : ℕ) → (1 ≤ n → from + n ≤ to + 1) → All (λ s. s ≤ to) (range_with_len from n)
range_within zero from to h = All-nil (λ (s : ℕ). s ≤ to)
range_within (suc n) from to h =
    let room : from + suc n ≤ to + 1 = h (omega arith) in
    All-cons (λ (s : ℕ). s ≤ to) from (range_with_len (from + 1) n) (omega arith) (range_within n (from + 1) to (λ some. omega arith))

parts_kept : (c d : Cartridge) (words segments : List ℕ) (area : List (List ℕ)) (to : ℕ) → AreKeptTo to c d → All (λ s. s ≤ to) segments →
    All (PartStands c words) (parts_of words segments area) → All (PartStands d words) (parts_of words segments area)
parts_kept c d words [] area to kept within stand = All-nil (PartStands d words)
parts_kept c d words (s ∷ ss) area to kept within stand =
    let mask : ℕ = mask_at words s in
    let here : s ≤ to = All-head (λ (t : ℕ). t ≤ to) s ss within in
    let part : Part = record { segment = s; sectors = take (data_count mask) area } in
    let rest : List Part = parts_of words ss (drop (data_count mask) area) in
    All-cons (PartStands d words) part rest
    (subst (λ (cells : List SectorView). Written cells (take (data_count mask) area)) (sym (same_cells c d s mask (λ i h. kept s i here h)))
    (All-head (PartStands c words) part rest stand))
    (parts_kept c d words ss (drop (data_count mask) area) to kept (All-tail (λ (t : ℕ). t ≤ to) s ss within)
    (All-tail (PartStands c words) part rest stand))

pub volumes_kept_to : (c d : Cartridge) (words : List ℕ) (from to : ℕ) (volumes : List Volume) → AreKeptTo to c d →
    All (LiesWithin from to) volumes → All (VolumeStands c words) volumes → All (VolumeStands d words) volumes
volumes_kept_to c d words from to [] kept within stand = All-nil (VolumeStands d words)
volumes_kept_to c d words from to (volume ∷ volumes) kept within stand =
    let start : ℕ = volume.entry.start in
    let end : ℕ = volume.entry.end in
    let lies : LiesWithin from to volume = All-head (LiesWithin from to) volume volumes within in
    let before : end ≤ to = lies.before in
    let segments : All (λ s. s ≤ to) (carrying words start end) =
    All-filter (λ s. nat_le 4 (usable_count (mask_at words s))) (λ (s : ℕ). s ≤ to) (range_with_len start (end + 1 - start))
    (range_within (end + 1 - start) start to (λ some. omega arith)) in
    let stood : VolumeStands c words volume = All-head (VolumeStands c words) volume volumes stand in
    All-cons (VolumeStands d words) volume volumes
    (record { parts = parts_kept c d words (carrying words start end) volume.area to kept segments stood.parts; size = stood.size })
    (volumes_kept_to c d words from to volumes kept (All-tail (LiesWithin from to) volume volumes within)
    (All-tail (VolumeStands c words) volume volumes stand))

-- ---- the plain cartridge

-- what a cartridge stands for, with another table and other volumes
abbrev pub with_table : Plain → (table : List (List ℕ)) → List Volume → Plain
with_table plain table volumes = record plain { table_area = table; volumes = volumes }

pub record HasTable (d : Cartridge) (words : List ℕ) (last : ℕ) (table : List (List ℕ)) (volumes : List Volume) : Type 0 where
  pub area : IsArea table
  pub areas : All (λ volume. All IsSector volume.area) volumes
  pub sound : HasNoFault table last
  pub shown : Shows table (map (λ volume. volume.entry) volumes)
  pub stand : All (VolumeStands d words) volumes
  pub reads : Written (table_cells d) table ⊎ ReadsAll (table_cells d) table

pub stands_with : (c d : Cartridge) (plain : Plain) (table : List (List ℕ)) (volumes : List Volume) → Stands c plain → d.info ≡ c.info →
    AreKeptTo 1 c d → HasTable d plain.words (last_segment c) table volumes → Stands d (with_table plain table volumes)
stands_with c d plain table volumes stood info kept has =
    let first : copy_cells d 0 ≡ copy_cells c 0 = same_cells c d 0 whole_mask (λ i h. kept 0 i (omega arith) h) in
    let second : copy_cells d 1 ≡ copy_cells c 1 = same_cells c d 1 whole_mask (λ i h. kept 1 i (omega arith) h) in
    record {
      whole = record {
        header_area = stood.whole.header_area;
        shown = stood.whole.shown;
        table_area = has.area;
        areas = has.areas;
      };
      header = record {
        referenced = ap (λ (i : TapeInfo). i.referenced) info ∙ stood.header.referenced;
        in_force = in_force c d plain.header_area first second stood.header.in_force;
      };
      sound_header = ap (λ (i : TapeInfo). header_fault plain.header_area i.segments_per_track) info ∙ stood.sound_header;
      copies = copies_are c d plain.header_area first second stood.copies;
      sound_table = λ i h. ap (λ (i' : TapeInfo). slot_fault table (28 * i'.segments_per_track - 1) i) info ∙ has.sound i h;
      shown = has.shown;
      volumes = has.stand;
      table = has.reads;
    }
