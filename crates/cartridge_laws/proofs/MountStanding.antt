-- What a cartridge that stands for a plain one is mounted as.
use Rattle.std.proofs.Common.{◌≡◌, ℕ, ◌+◌, List, length, arith, ◌<◌, ◌++◌, [], slice_get, Some, sym, ap, ◌∙◌, ◌≤◌, inl, inr, ◌⊎◌, subst}
use Rattle.std.proofs.lemmas.List.{get_or_append_left}
use Rattle.std.proofs.lemmas.Option.{slice_get-get_or, get_or_from_slice_get}
use Rattle.std.proofs.lemmas.Bool.{cases_lt}
use Rattle.cartridge_laws.proofs.Cells.{IsReadable, readable_from_count, count_of_readable}
use Rattle.cartridge_laws.proofs.MountOnce.{one_table, mounts_is_function}
use Rattle.cartridge_laws.proofs.Sayings.{said_are_sectors, written_is_said, said_is_written, written_is_lost}
use Rattle.cartridge_laws.proofs.Segments.{length-whole_cells}
use Rattle.cartridge_laws.proofs.TableSayings.{says_data}
use Rattle.cartridge_laws.specs.MountLaws.{StandingMounts, StandingMountsOnlySo}
use Rattle.cartridge_spec.specs.Code.{parity_sectors}
use Rattle.cartridge_spec.specs.Shape.{IsArea}
use Rattle.cartridge_spec.specs.TableSegment.{table_cells, TableIs, CanBeRead, ReadsPlainly}
use Rattle.cartridge_spec.specs.Mounting.{IsSoundlyFormatted, TableLost, mounted_as}
use Rattle.cartridge_spec.specs.Says.{Says, Data, Written, ReadsAll, unreadable_count}
use Rattle.cartridge_laws.specs.Segment.{unreadable_data}
use Rattle.cartridge_spec.specs.Volumes.{Plain, Stands}
use Rattle.qic_base.specs.Cartridge.{Cartridge}
use Rattle.qic_base.specs.declared.tape.SectorView.{SectorView}

-- ---- a written table

-- data that are said are an area
pub said_area : (c : Cartridge) (area : List (List ℕ)) → Says (table_cells c) (Data area) → IsArea area
said_area c area says =
    let are = said_are_sectors (table_cells c) area says in
    let size : length area + 3 ≡ length (table_cells c) = are.size in
    let cells : length (table_cells c) ≡ 32 = length-whole_cells c 2 in
    record { size = omega arith; sectors = are.each }

front_at : (xs ys : List (List ℕ)) (i : ℕ) (x : List ℕ) → i < length xs → slice_get (xs ++ ys) i ≡ Some x → slice_get xs i ≡ Some x
front_at xs ys i x h at =
    slice_get-get_or xs i [] h
    ∙ ap (λ (s : List ℕ). Some s) (sym (get_or_append_left xs ys [] i h) ∙ get_or_from_slice_get (xs ++ ys) i x [] at)

written_is_read : (cells : List SectorView) (area : List (List ℕ)) → length area ≡ 29 → length cells ≡ 32 → Written cells area →
    unreadable_data cells ≡ 0 → ReadsAll cells area
written_is_read cells area size long written none = record {
  size = size;
  each = λ i h.
      let held : IsReadable cells i = readable_from_count 29 cells (omega arith) none i h in
      (held.0, held.1, front_at area (parity_sectors area) i held.0 (omega arith) (written.each i held.0 held.1));
}

few_read : (c : Cartridge) (area : List (List ℕ)) → IsArea area → Written (table_cells c) area → unreadable_count (table_cells c) ≤ 3 →
    TableIs c area
few_read c area is_area written few =
    let size : length area ≡ 29 = is_area.size in
    elim (cases_lt 0 (unreadable_data (table_cells c))) [
      | inl some ↦ inr (says_data (table_cells c) area some
          (written_is_said (table_cells c) area (omega arith) (omega arith) is_area.sectors written few))
      | inr none ↦ inl (written_is_read (table_cells c) area size (length-whole_cells c 2) written (omega arith))
    ]

pub written_table : (c : Cartridge) (area : List (List ℕ)) → IsArea area → Written (table_cells c) area → CanBeRead c → TableIs c area
written_table c area is_area written (inl none) =
    inl (written_is_read (table_cells c) area is_area.size (length-whole_cells c 2) written none)
written_table c area is_area written (inr few) = few_read c area is_area written few

-- so it is read plainly
pub plainly_read : (c : Cartridge) (area : List (List ℕ)) → IsArea area → Written (table_cells c) area ⊎ ReadsAll (table_cells c) area →
    CanBeRead c → ReadsPlainly c area
plainly_read c area is_area (inl written) (inl none) =
    inl (written_is_read (table_cells c) area is_area.size (length-whole_cells c 2) written none)
plainly_read c area is_area (inl written) (inr few) =
    let size : length area ≡ 29 = is_area.size in
    inr (written_is_said (table_cells c) area (omega arith) (omega arith) is_area.sectors written few)
plainly_read c area is_area (inr reads) read = inl reads

pub plain_is_table : (c : Cartridge) (area : List (List ℕ)) → ReadsPlainly c area → TableIs c area
plain_is_table c area (inl reads) = inl reads
plain_is_table c area (inr says) = few_read c area (said_area c area says) (said_is_written (table_cells c) area says) says.0

standing_table : (c : Cartridge) (area : List (List ℕ)) → IsArea area → Written (table_cells c) area ⊎ ReadsAll (table_cells c) area →
    CanBeRead c → TableIs c area
standing_table c area is_area (inl written) read = written_table c area is_area written read
standing_table c area is_area (inr reads) read = inl reads

-- a table whose data are known can be read
pub can_be_read : (c : Cartridge) (area : List (List ℕ)) → TableIs c area → CanBeRead c
can_be_read c area (inl reads) = inl (count_of_readable 29 (table_cells c) (λ i h. ((reads.each i h).0, (reads.each i h).1)))
can_be_read c area (inr says) = inr says.1.0

-- and they are those of the plain cartridge
pub standing_data : (c : Cartridge) (plain : Plain) (area : List (List ℕ)) → Stands c plain → TableIs c area → area ≡ plain.table_area
standing_data c plain area stands table =
    one_table c area plain.table_area table
    (standing_table c plain.table_area stands.whole.table_area stands.table (can_be_read c area table))

-- and they are read plainly
pub standing_plainly : (c : Cartridge) (plain : Plain) (area : List (List ℕ)) → Stands c plain → TableIs c area → ReadsPlainly c area
standing_plainly c plain area stands table =
    subst (ReadsPlainly c) (sym (standing_data c plain area stands table))
    (plainly_read c plain.table_area stands.whole.table_area stands.table (can_be_read c area table))

-- ---- mounting

pub standing_mounts : StandingMounts
standing_mounts c plain stands read = record {
  area = plain.header_area;
  formatted = record { has_header = stands.header; sound = stands.sound_header; shown = stands.whole.shown };
  reads = standing_table c plain.table_area stands.whole.table_area stands.table read;
  sound = stands.sound_table;
  shown = stands.shown;
}

soundly_formatted : (c : Cartridge) (plain : Plain) → Stands c plain → IsSoundlyFormatted c
soundly_formatted c plain stands = record {
  area = plain.header_area;
  header = plain.header;
  words = plain.words;
  formatted = record { has_header = stands.header; sound = stands.sound_header; shown = stands.whole.shown };
}

-- a cartridge's table can be read, or it is lost
read_or_lost : (c : Cartridge) → CanBeRead c ⊎ ((0 < unreadable_data (table_cells c)) × (3 < unreadable_count (table_cells c)))
read_or_lost c =
    elim (cases_lt 0 (unreadable_data (table_cells c))) [
      | inl some ↦ elim (cases_lt 3 (unreadable_count (table_cells c))) [
        | inl many ↦ inr (some, many)
        | inr few ↦ inl (inr few)
      ]
      | inr none ↦ inl (inl (omega arith))
    ]

pub standing_mounts_only_so : StandingMountsOnlySo
standing_mounts_only_so c plain m stands is =
    elim (read_or_lost c) [
      | inl read ↦ inl (mounts_is_function c m (mounted_as plain) is (standing_mounts c plain stands read))
      | inr lost ↦
          let n : ℕ = unreadable_count (table_cells c) in
          inr (
            n,
            mounts_is_function c m (TableLost n) is
                (soundly_formatted c plain stands, (lost.0, written_is_lost (table_cells c) lost.1)),
          )
    ]
