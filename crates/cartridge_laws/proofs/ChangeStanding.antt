-- A cartridge of which one sector, or a mark, changed stands for what it stood for.
use Rattle.std.proofs.Common.{ℕ, List, sym, ◌∙◌, inl, inr, All, ◌≡◌, length, slice_get, Some, ap, ◌≤◌, subst, ◌<◌, arith, ◌⊎◌, true, map}
use Rattle.std.proofs.Common.{refl}
use Rattle.std.proofs.lemmas.List.Elements.{All-weaker}
use Rattle.std.proofs.lemmas.Bool.{cases_lt}
use Rattle.std.specs.Prelude.{unwrap_or}
use Rattle.cartridge_laws.proofs.ChangeViews.{ReadsNoMore, held_before, view_of_other, worn_reads_no_more, ReadsAlike, spoiled_alike}
use Rattle.cartridge_laws.proofs.ChangeViews.{same_count}
use Rattle.cartridge_laws.proofs.FormatCopies.{written_reads, no_fewer_unreadable, lost_does_not_read}
use Rattle.cartridge_laws.proofs.FormatStanding.{same_cells}
use Rattle.cartridge_laws.proofs.Sayings.{said_is_written}
use Rattle.cartridge_laws.proofs.Segments.{count_of_cells, zero_does_not_read}
use Rattle.cartridge_laws.specs.ChangeLaws.{WornStands, FewLostIsInForce, SpoiledStands, ProtectedStands, ReferencedStands}
use Rattle.cartridge_laws.specs.ChangeWear.{FewLost}
use Rattle.cartridge_spec.specs.Header.{has_signature}
use Rattle.cartridge_spec.specs.HeaderCopies.{CopyReads, copy_cells, HasHeader, CopyDoesNotRead}
use Rattle.cartridge_spec.specs.TableSegment.{table_cells}
use Rattle.cartridge_spec.specs.Shape.{IsArea, mask_at, usable_places}
use Rattle.cartridge_laws.specs.VolumeParts.{PartStands}
use Rattle.cartridge_laws.specs.HeaderTerms.{IsInForce, CopiesAre}
use Rattle.cartridge_spec.specs.Says.{cells_of, Written, Zero, whole_mask, unreadable_count, Says, Data, ReadsAll}
use Rattle.cartridge_spec.specs.Volumes.{Volume, VolumeStands, parts_of, carrying_segments, Plain, Stands, worn, WearSpares}
use Rattle.qic_base.specs.Cartridge.{Cartridge, view_at}
use Rattle.qic_base.specs.CartridgeTerms.{place_of}
use Rattle.qic_base.specs.Step.{worn_view, Spoil, changed, SetProtected, SetReferenced}
use Rattle.qic_base.specs.declared.tape.SectorView.{SectorView}
use Rattle.qic_base.specs.declared.tape.SectorView.TheVariants.{Holds, Blank}

-- ---- what was written

pub written_less : (c d : Cartridge) (s mask : ℕ) (area : List (List ℕ)) → ReadsNoMore c d → Written (cells_of c s mask) area →
    Written (cells_of d s mask) area
written_less c d s mask area less written = record {
  size = written.size ∙ count_of_cells c s mask ∙ sym (count_of_cells d s mask);
  each = λ i bytes at. written.each i bytes (held_before c d s mask i bytes less at);
}

pub zero_less : (c d : Cartridge) (s mask : ℕ) → ReadsNoMore c d → Zero (cells_of c s mask) → Zero (cells_of d s mask)
zero_less c d s mask less zeros i bytes at = zeros i bytes (held_before c d s mask i bytes less at)

pub copies_less : (c d : Cartridge) (area : List (List ℕ)) → ReadsNoMore c d → CopiesAre c area → CopiesAre d area
copies_less c d area less (inl written) = inl (written_less c d 0 whole_mask area less written)
copies_less c d area less (inr other) = inr (zero_less c d 0 whole_mask less other.0, written_less c d 1 whole_mask area less other.1)

pub volume_less : (c d : Cartridge) (words : List ℕ) (volume : Volume) → ReadsNoMore c d → VolumeStands c words volume →
    VolumeStands d words volume
volume_less c d words volume less stood = record {
  parts = All-weaker (PartStands c words) (PartStands d words)
      (λ part stands. written_less c d part.segment (mask_at words part.segment) part.sectors less stands)
      (parts_of words (carrying_segments words volume.entry) volume.area) stood.parts;
  size = stood.size;
}

volumes_less : (c d : Cartridge) (words : List ℕ) (volumes : List Volume) → ReadsNoMore c d → All (VolumeStands c words) volumes →
    All (VolumeStands d words) volumes
volumes_less c d words volumes less stood =
    All-weaker (VolumeStands c words) (VolumeStands d words) (λ volume stands. volume_less c d words volume less stands) volumes stood

-- ---- what is read

-- the cells of a segment say the same: as many are unreadable, and the others hold the same
pub record CellsAlike (xs ys : List SectorView) : Type 0 where
  pub long : length xs ≡ length ys
  pub count : unreadable_count xs ≡ unreadable_count ys
  pub no_more : (i : ℕ) (bytes : List ℕ) → slice_get ys i ≡ Some (Holds bytes) → slice_get xs i ≡ Some (Holds bytes)
  pub no_less : (i : ℕ) (bytes : List ℕ) → slice_get xs i ≡ Some (Holds bytes) → slice_get ys i ≡ Some (Holds bytes)

pub same_alike : (xs ys : List SectorView) → xs ≡ ys → CellsAlike xs ys
same_alike xs ys same = record {
  long = ap (λ (cells : List SectorView). length cells) same;
  count = ap unreadable_count same;
  no_more = λ i bytes at. ap (λ (cells : List SectorView). slice_get cells i) same ∙ at;
  no_less = λ i bytes at. ap (λ (cells : List SectorView). slice_get cells i) (sym same) ∙ at;
}

pub turned : {xs ys : List SectorView} → CellsAlike xs ys → CellsAlike ys xs
turned alike = record { long = sym alike.long; count = sym alike.count; no_more = alike.no_less; no_less = alike.no_more }

pub says_alike : (xs ys : List SectorView) (area : List (List ℕ)) → CellsAlike xs ys → Says xs (Data area) → Says ys (Data area)
says_alike xs ys area alike (few, says) = (
  subst (λ (n : ℕ). n ≤ 3) alike.count few,
  record {
    block = says.block;
    code = says.code;
    agrees = record { size = says.agrees.size ∙ alike.long; each = λ i bytes at. says.agrees.each i bytes (alike.no_more i bytes at) };
    shown = says.shown;
  },
)

copy_reads : (c d : Cartridge) (copy : ℕ) (area : List (List ℕ)) → CellsAlike (copy_cells c copy) (copy_cells d copy) →
    CopyReads c copy area → CopyReads d copy area
copy_reads c d copy area alike reads = record {
  says = says_alike (copy_cells c copy) (copy_cells d copy) area alike reads.says;
  signature = reads.signature;
}

pub in_force : (c d : Cartridge) (area : List (List ℕ)) → CellsAlike (copy_cells c 0) (copy_cells d 0) →
    CellsAlike (copy_cells c 1) (copy_cells d 1) → IsInForce c area → IsInForce d area
in_force c d area first second (inl reads) = inl (copy_reads c d 0 area first reads)
in_force c d area first second (inr reads) = inr (
  λ other again. reads.0 other (copy_reads d c 0 other (turned first) again),
  copy_reads c d 1 area second reads.1,
)

-- ---- a worn sector

table_less : (c d : Cartridge) (area : List (List ℕ)) → ReadsNoMore c d → Written (table_cells c) area → Written (table_cells d) area
table_less c d area less written = written_less c d 2 whole_mask area less written

-- one of another segment changes none of these cells
pub other_cells : (c : Cartridge) (segment sector s : ℕ) → sector < 32 → (s ≡ segment → ⊥) →
    cells_of (worn segment sector c) s whole_mask ≡ cells_of c s whole_mask
other_cells c segment sector s small apart =
    same_cells c (worn segment sector c) s whole_mask (λ i h.
    view_of_other c segment sector s i (worn_view (view_at c segment sector)) small h apart)

-- the header in force where no header copy has the sector
pub header_elsewhere : (c : Cartridge) (segment sector : ℕ) (area : List (List ℕ)) → sector < 32 → 2 ≤ segment → HasHeader c area →
    HasHeader (worn segment sector c) area
header_elsewhere c segment sector area small behind header = record {
  referenced = header.referenced;
  in_force =
      in_force c (worn segment sector c) area
      (same_alike _ _ (sym (other_cells c segment sector 0 small (λ same. omega arith))))
      (same_alike _ _ (sym (other_cells c segment sector 1 small (λ same. omega arith))))
      header.in_force;
}

worn_header : (c : Cartridge) (plain : Plain) (segment sector : ℕ) → sector < 32 → Stands c plain → WearSpares c plain segment sector →
    HasHeader (worn segment sector c) plain.header_area
worn_header c plain segment sector small stood (inl behind) = header_elsewhere c segment sector plain.header_area small
    (omega arith) stood.header
worn_header c plain segment sector small stood (inr (inl copy)) = copy.1
worn_header c plain segment sector small stood (inr (inr table)) =
    let two : segment ≡ 2 = table.0 in header_elsewhere c segment sector plain.header_area small (omega arith) stood.header

table_elsewhere : (c : Cartridge) (plain : Plain) (segment sector : ℕ) → sector < 32 → (2 ≡ segment → ⊥) → Stands c plain →
    Written (table_cells (worn segment sector c)) plain.table_area ⊎ ReadsAll (table_cells (worn segment sector c)) plain.table_area
table_elsewhere c plain segment sector small apart stood =
    subst (λ (cells : List SectorView). Written cells plain.table_area ⊎ ReadsAll cells plain.table_area)
    (sym (other_cells c segment sector 2 small apart)) stood.table

worn_table : (c : Cartridge) (plain : Plain) (segment sector : ℕ) → sector < 32 → Stands c plain → WearSpares c plain segment sector →
    Written (table_cells (worn segment sector c)) plain.table_area ⊎ ReadsAll (table_cells (worn segment sector c)) plain.table_area
worn_table c plain segment sector small stood (inl behind) = table_elsewhere c plain segment sector small (λ same. omega arith) stood
worn_table c plain segment sector small stood (inr (inl copy)) =
    let front : segment < 2 = copy.0 in table_elsewhere c plain segment sector small (λ same. omega arith) stood
worn_table c plain segment sector small stood (inr (inr table)) =
    inl (table_less c (worn segment sector c) plain.table_area (worn_reads_no_more c segment sector) table.1)

pub worn_stands : WornStands
worn_stands c plain segment sector small stood spares =
    let less : ReadsNoMore c (worn segment sector c) = worn_reads_no_more c segment sector in
    record {
      whole = stood.whole;
      header = worn_header c plain segment sector small stood spares;
      sound_header = stood.sound_header;
      copies = copies_less c (worn segment sector c) plain.header_area less stood.copies;
      sound_table = stood.sound_table;
      shown = stood.shown;
      volumes = volumes_less c (worn segment sector c) plain.words plain.volumes less stood.volumes;
      table = worn_table c plain segment sector small stood spares;
    }

-- ---- few lost sectors

-- a copy that could be read, and has lost at most three sectors, can be read
few_reads : (c d : Cartridge) (copy : ℕ) (area : List (List ℕ)) → IsArea area → ReadsNoMore c d → CopyReads c copy area →
    unreadable_count (copy_cells d copy) ≤ 3 → CopyReads d copy area
few_reads c d copy area is_area less reads few =
    written_reads d copy area is_area reads.signature
    (written_less c d copy whole_mask area less (said_is_written (copy_cells c copy) area reads.says)) few

-- as many cells are unreadable, or more
pub count_grows : (c d : Cartridge) (copy : ℕ) → ReadsNoMore c d → unreadable_count (copy_cells c copy) ≤ unreadable_count
    (copy_cells d copy)
count_grows c d copy less =
    no_fewer_unreadable (copy_cells c copy) (copy_cells d copy) (count_of_cells c copy whole_mask ∙ sym (count_of_cells d copy whole_mask))
    (λ i bytes at. held_before c d copy whole_mask i bytes less at)

-- a copy that could not be read, and was written or holds zero bytes, can't be read with a sector less
still_lost : (c d : Cartridge) (area : List (List ℕ)) → IsArea area → has_signature area ≡ true → ReadsNoMore c d → CopiesAre c area →
    CopyDoesNotRead c 0 → CopyDoesNotRead d 0
still_lost c d area is_area signature less (inl written) none =
    elim (cases_lt 3 (unreadable_count (copy_cells c 0))) [
      | inl many ↦ let more = count_grows c d 0 less in lost_does_not_read d 0 (omega arith)
      | inr few ↦ absurd (none area (written_reads c 0 area is_area signature written few))
    ]
still_lost c d area is_area signature less (inr zeros) none = zero_does_not_read d 0 (zero_less c d 0 whole_mask less zeros.0)

few_in_force : (c d : Cartridge) (plain : Plain) → Stands c plain → ReadsNoMore c d → FewLost c d plain.header_area →
    IsInForce d plain.header_area
few_in_force c d plain stood less (inl first) = inl (few_reads c d 0 plain.header_area stood.whole.header_area less first.0 first.1)
few_in_force c d plain stood less (inr second) = inr (
  still_lost c d plain.header_area stood.whole.header_area second.1.signature less stood.copies second.0,
  few_reads c d 1 plain.header_area stood.whole.header_area less second.1 second.2,
)

pub few_lost_is_in_force : FewLostIsInForce
few_lost_is_in_force c plain segment sector stood few = record {
  referenced = stood.header.referenced;
  in_force = few_in_force c (worn segment sector c) plain stood (worn_reads_no_more c segment sector) few;
}

-- ---- a further defect

abbrev pub spoiled : (segment sector : ℕ) → Cartridge → Cartridge
spoiled segment sector c = changed (Spoil segment sector) c

pub spoiled_cells : (c : Cartridge) (segment sector s : ℕ) → CellsAlike (cells_of c s whole_mask)
    (cells_of (spoiled segment sector c) s whole_mask)
spoiled_cells c segment sector s =
    let d : Cartridge = spoiled segment sector c in
    let alike : ReadsAlike c d = spoiled_alike c segment sector in
    record {
      long = count_of_cells c s whole_mask ∙ sym (count_of_cells d s whole_mask);
      count = same_count (view_at c s) (view_at d s) (usable_places whole_mask) (λ p. sym (alike.unreadable s p));
      no_more = λ i bytes at. held_before c d s whole_mask i bytes alike.no_more at;
      no_less = λ i bytes at. held_before d c s whole_mask i bytes alike.no_less at;
    }

spoiled_table : (c : Cartridge) (segment sector : ℕ) (area : List (List ℕ)) → Written (table_cells c) area ⊎ ReadsAll (table_cells c) area →
    Written (table_cells (spoiled segment sector c)) area ⊎ ReadsAll (table_cells (spoiled segment sector c)) area
spoiled_table c segment sector area (inl written) =
    let alike : ReadsAlike c (spoiled segment sector c) = spoiled_alike c segment sector in
    inl (table_less c (spoiled segment sector c) area alike.no_more written)
spoiled_table c segment sector area (inr reads) = inr (record {
  size = reads.size;
  each = λ i h. let at = reads.each i h in (at.0, (spoiled_cells c segment sector 2).no_less i at.0 at.1, at.2);
})

pub spoiled_stands : SpoiledStands
spoiled_stands c plain segment sector stood =
    let alike : ReadsAlike c (spoiled segment sector c) = spoiled_alike c segment sector in
    let less : ReadsNoMore c (spoiled segment sector c) = alike.no_more in
    record {
      whole = stood.whole;
      header = record {
        referenced = stood.header.referenced;
        in_force =
            in_force c (spoiled segment sector c) plain.header_area
            (spoiled_cells c segment sector 0) (spoiled_cells c segment sector 1) stood.header.in_force;
      };
      sound_header = stood.sound_header;
      copies = copies_less c (spoiled segment sector c) plain.header_area less stood.copies;
      sound_table = stood.sound_table;
      shown = stood.shown;
      volumes = volumes_less c (spoiled segment sector c) plain.words plain.volumes less stood.volumes;
      table = spoiled_table c segment sector plain.table_area stood.table;
    }

-- ---- a mark

-- a cartridge with the same views reads the same
pub same_views : (c d : Cartridge) (area : List (List ℕ)) → d.views ≡ c.views → IsInForce c area → IsInForce d area
same_views c d area same reads =
    let cells : (s : ℕ) → copy_cells c s ≡ copy_cells d s =
    λ s. ap (λ (views : List SectorView). map (λ i. unwrap_or (slice_get views (place_of s i)) Blank) (usable_places whole_mask))
    (sym same) in
    in_force c d area (same_alike (copy_cells c 0) (copy_cells d 0) (cells 0))
    (same_alike (copy_cells c 1) (copy_cells d 1) (cells 1)) reads

-- and nothing can be read in it that could not
pub marks_read_no_more : (c d : Cartridge) → d.views ≡ c.views → ReadsNoMore c d
marks_read_no_more c d same s i bytes at = sym (ap (λ (views : List SectorView). unwrap_or (slice_get views (place_of s i)) Blank) same)
    ∙ at

pub protected_stands : ProtectedStands
protected_stands c plain on stood = record {
  whole = stood.whole;
  header = record {
    referenced = stood.header.referenced;
    in_force = same_views c (changed (SetProtected on) c) plain.header_area refl stood.header.in_force;
  };
  sound_header = stood.sound_header;
  copies = stood.copies;
  sound_table = stood.sound_table;
  shown = stood.shown;
  volumes = volumes_less c (changed (SetProtected on) c) plain.words plain.volumes
      (marks_read_no_more c (changed (SetProtected on) c) refl) stood.volumes;
  table = stood.table;
}

pub referenced_stands : ReferencedStands
referenced_stands c plain stood = record {
  whole = stood.whole;
  header = record {
    referenced = refl;
    in_force = same_views c (changed SetReferenced c) plain.header_area refl stood.header.in_force;
  };
  sound_header = stood.sound_header;
  copies = stood.copies;
  sound_table = stood.sound_table;
  shown = stood.shown;
  volumes = volumes_less c (changed SetReferenced c) plain.words plain.volumes
      (marks_read_no_more c (changed SetReferenced c) refl) stood.volumes;
  table = stood.table;
}
