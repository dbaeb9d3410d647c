-- A cartridge of which only the table's segment changed, and that not in what it says, is mounted as before and stands for
-- what it stood for.
use Rattle.std.proofs.Common.{◌≡◌, ℕ, ◌<◌, List, arith, sym, subst, inl, inr, ap, ◌∙◌, ◌-◌, ◌*◌, ◌⊎◌, Option, Some, IsSomeAnd}
use Rattle.cartridge_laws.proofs.FormatStanding.{same_cells, entry_starts, volumes_behind, volumes_kept}
use Rattle.cartridge_laws.proofs.FormatWriting.{some_weaker}
use Rattle.cartridge_laws.proofs.MountSettling.{stopped_settling, stopped_plainly}
use Rattle.cartridge_laws.proofs.MountStanding.{standing_data, standing_plainly}
use Rattle.cartridge_laws.proofs.MountStops.{some_both}
use Rattle.cartridge_laws.proofs.Sayings.{said_is_written}
use Rattle.cartridge_laws.specs.MountBlocks.{KeepsTable}
use Rattle.cartridge_laws.specs.MountLaws.{StoppedMounts, StoppedStands, StoppedIsClean}
use Rattle.cartridge_spec.specs.Formatting.{StandsCleanly}
use Rattle.cartridge_spec.specs.Header.{header_fault, Header}
use Rattle.cartridge_spec.specs.HeaderCopies.{copy_cells, CopyReads, CopyDoesNotRead, HasHeader, last_segment}
use Rattle.cartridge_spec.specs.TableSegment.{table_cells, TableIs, ReadsPlainly}
use Rattle.cartridge_laws.specs.HeaderTerms.{IsInForce, CopiesAre}
use Rattle.cartridge_spec.specs.Mounting.{IsMounted}
use Rattle.cartridge_spec.specs.Says.{whole_mask, Data, Says, Written, Zero, ReadsAll}
use Rattle.cartridge_spec.specs.Settling.{settling_steps}
use Rattle.cartridge_spec.specs.Table.{HasNoFault, slot_fault, Entry}
use Rattle.cartridge_spec.specs.Volumes.{Plain, Stands, entries_of}
use Rattle.qic_base.specs.Cartridge.{Cartridge}
use Rattle.qic_base.specs.Step.{Torn}
use Rattle.qic_base.specs.declared.tape.SectorView.{SectorView}
use Rattle.qic_base.specs.declared.tape.TapeInfo.{TapeInfo}

-- ---- the header

same_copy : {area : List (List ℕ)} {c d : Cartridge} (copy : ℕ) → KeepsTable area c d → copy < 2 → copy_cells d copy ≡ copy_cells c copy
same_copy {c = c} {d = d} copy kept below = same_cells c d copy whole_mask (λ i h. kept.others copy i h (λ same. absurd (omega arith)))

copy_reads : (c d : Cartridge) (copy : ℕ) (area : List (List ℕ)) → copy_cells d copy ≡ copy_cells c copy → CopyReads c copy area →
    CopyReads d copy area
copy_reads c d copy area same reads = record {
  says = subst (λ (cells : List SectorView). Says cells (Data area)) (sym same) reads.says;
  signature = reads.signature;
}

copy_does_not_read : (c d : Cartridge) (copy : ℕ) → copy_cells d copy ≡ copy_cells c copy → CopyDoesNotRead c copy → CopyDoesNotRead d copy
copy_does_not_read c d copy same none area reads = none area (copy_reads d c copy area (sym same) reads)

pub in_force : (c d : Cartridge) (area : List (List ℕ)) → copy_cells d 0 ≡ copy_cells c 0 → copy_cells d 1 ≡ copy_cells c 1 →
    IsInForce c area → IsInForce d area
in_force c d area first second (inl reads) = inl (copy_reads c d 0 area first reads)
in_force c d area first second (inr reads) = inr (copy_does_not_read c d 0 first reads.0, copy_reads c d 1 area second reads.1)

has_header : (c d : Cartridge) (table area : List (List ℕ)) → KeepsTable table c d → HasHeader c area → HasHeader d area
has_header c d table area kept has = record {
  referenced = ap (λ (i : TapeInfo). i.referenced) kept.info ∙ has.referenced;
  in_force = in_force c d area (same_copy 0 kept (omega arith)) (same_copy 1 kept (omega arith)) has.in_force;
}

pub copies_are : (c d : Cartridge) (area : List (List ℕ)) → copy_cells d 0 ≡ copy_cells c 0 → copy_cells d 1 ≡ copy_cells c 1 →
    CopiesAre c area → CopiesAre d area
copies_are c d area first second (inl written) = inl (subst (λ (cells : List SectorView). Written cells area) (sym first) written)
copies_are c d area first second (inr other) = inr (
  subst (λ (cells : List SectorView). Zero cells) (sym first) other.0,
  subst (λ (cells : List SectorView). Written cells area) (sym second) other.1,
)

sound_header : (c d : Cartridge) (table area : List (List ℕ)) → KeepsTable table c d →
    header_fault area d.info.segments_per_track ≡ header_fault area c.info.segments_per_track
sound_header c d table area kept = ap (λ (i : TapeInfo). header_fault area i.segments_per_track) kept.info

-- ---- the table

no_fault : (c d : Cartridge) (table area : List (List ℕ)) → KeepsTable table c d → HasNoFault area (last_segment c) →
    HasNoFault area (last_segment d)
no_fault c d table area kept sound i h =
    ap (λ (info : TapeInfo). slot_fault area (28 * info.segments_per_track - 1) i) kept.info ∙ sound i h

pub kept_mounts : (c d : Cartridge) (header : Header) (words : List ℕ) (area : List (List ℕ)) (entries : List Entry) →
    KeepsTable area c d → IsMounted c header words area entries → IsMounted d header words area entries
kept_mounts c d header words area entries kept mounted = record {
  area = mounted.area;
  formatted = record {
    has_header = has_header c d area mounted.area kept mounted.formatted.has_header;
    sound = sound_header c d area mounted.area kept ∙ mounted.formatted.sound;
    shown = mounted.formatted.shown;
  };
  reads = kept.table;
  sound = no_fault c d area area kept mounted.sound;
  shown = mounted.shown;
}

-- ---- the plain cartridge

table_stands : (d : Cartridge) (area : List (List ℕ)) → ReadsPlainly d area → Written (table_cells d) area ⊎ ReadsAll (table_cells d) area
table_stands d area (inl reads) = inr reads
table_stands d area (inr says) = inl (said_is_written (table_cells d) area says)

standing_kept : (c d : Cartridge) (plain : Plain) → KeepsTable plain.table_area c d → ReadsPlainly d plain.table_area → Stands c plain →
    Stands d plain
standing_kept c d plain kept reads stood =
    let table : List (List ℕ) = plain.table_area in
    record {
      whole = stood.whole;
      header = has_header c d table plain.header_area kept stood.header;
      sound_header = sound_header c d table plain.header_area kept ∙ stood.sound_header;
      copies = copies_are c d plain.header_area (same_copy 0 kept (omega arith)) (same_copy 1 kept (omega arith)) stood.copies;
      sound_table = no_fault c d table table kept stood.sound_table;
      shown = stood.shown;
      volumes = volumes_kept c d plain.words plain.volumes (λ s i from h. kept.others s i h (λ same. absurd (omega arith)))
          (volumes_behind plain.volumes (entry_starts table (last_segment c) (entries_of plain) stood.sound_table stood.shown))
          stood.volumes;
      table = table_stands d table reads;
    }

-- ---- after a stop

pub stopped_mounts : StoppedMounts
stopped_mounts c header words area entries left mounted torn =
    some_weaker left (λ d kept. kept_mounts c d header words area entries kept mounted)
    (stopped_settling c area left mounted.reads torn)

-- as well where the data are known to be these
pub data_kept : (c d : Cartridge) (plain : Plain) (area : List (List ℕ)) → Stands c plain → TableIs c area → KeepsTable area c d →
    ReadsPlainly d area → Stands d plain
data_kept c d plain area stood table kept reads =
    let same : area ≡ plain.table_area = standing_data c plain area stood table in
    standing_kept c d plain (subst (λ (xs : List (List ℕ)). KeepsTable xs c d) same kept) (subst (ReadsPlainly d) same reads) stood

-- what a stop leaves of one that stands
kept_plainly : (c : Cartridge) (plain : Plain) (area : List (List ℕ)) (left : Option Cartridge) → Stands c plain → TableIs c area →
    Torn (settling_steps area c) (Some c) left → IsSomeAnd left (λ d. KeepsTable area c d × ReadsPlainly d area)
kept_plainly c plain area left stood table torn =
    some_both (KeepsTable area c) (λ d. ReadsPlainly d area) left (stopped_settling c area left table torn)
    (stopped_plainly c area left (standing_plainly c plain area stood table) torn)

pub stopped_stands : StoppedStands
stopped_stands c plain area left stood table torn =
    some_weaker left (λ d kept. data_kept c d plain area stood table kept.0 kept.1) (kept_plainly c plain area left stood table torn)

-- ---- header copies

pub clean_copy : (xs ys : List SectorView) (area : List (List ℕ)) → ys ≡ xs → Written xs area ⊎ Zero xs → Written ys area ⊎ Zero ys
clean_copy xs ys area same clean = subst (λ (cells : List SectorView). Written cells area ⊎ Zero cells) (sym same) clean

pub clean_kept : (c d : Cartridge) (plain : Plain) (area : List (List ℕ)) → StandsCleanly c plain → TableIs c area → KeepsTable area c d →
    ReadsPlainly d area → StandsCleanly d plain
clean_kept c d plain area clean table kept reads = record {
  stands = data_kept c d plain area clean.stands table kept reads;
  copies = record {
    first = clean_copy (copy_cells c 0) (copy_cells d 0) plain.header_area (same_copy 0 kept (omega arith)) clean.copies.first;
    second = clean_copy (copy_cells c 1) (copy_cells d 1) plain.header_area (same_copy 1 kept (omega arith)) clean.copies.second;
  };
}

pub stopped_is_clean : StoppedIsClean
stopped_is_clean c plain area left clean table torn =
    some_weaker left (λ d kept. clean_kept c d plain area clean table kept.0 kept.1)
    (kept_plainly c plain area left clean.stands table torn)
