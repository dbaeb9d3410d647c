-- What an append leaves, done or stopped, is a cartridge.
use Rattle.std.proofs.Common.{List, [], ◌∷◌, ◌++◌, ℕ, All, take, drop, ◌<◌, sym, subst, arith, length}
use Rattle.std.proofs.lemmas.List.Elements.{All-append, All-head, All-tail, All-take, All-drop, All-get_or}
use Rattle.std.proofs.lemmas.Option.{unwrap_or-slice_get}
use Rattle.cartridge_laws.proofs.AppendParts.{are_sectors}
use Rattle.cartridge_laws.proofs.AppendTable.{done_table_shows, ready_count}
use Rattle.cartridge_laws.proofs.MountParts.{length-block}
use Rattle.cartridge_laws.proofs.Segments.{view_of_cartridge}
use Rattle.cartridge_laws.proofs.Whole.{with_view_whole, written_is_view, worn_is_view}
use Rattle.cartridge_laws.proofs.WritesKeep.{KeepsEach, writes_keep, torn_writes_keep}
use Rattle.cartridge_laws.proofs.Writing.{each_together}
use Rattle.cartridge_laws.specs.AppendLaws.{append_steps_of, list_steps, MayAppendTo}
use Rattle.cartridge_laws.specs.AppendLaws.{SectorWritesAreCartridge, StoppedAppendIsCartridge, new_table, new_volume, volume_steps}
use Rattle.cartridge_laws.specs.AppendSettled.{DoneIsCartridge}
use Rattle.cartridge_laws.specs.AppendSteps.{parts_writes}
use Rattle.cartridge_laws.specs.AppendWrites.{AreWrites, EachIs, IsOfSector}
use Rattle.cartridge_spec.specs.Appending.{part_writes, new_sectors, Content}
use Rattle.cartridge_laws.specs.VolumeParts.{new_segments, sectors_in}
use Rattle.cartridge_laws.specs.Slots.{slot_sector}
use Rattle.cartridge_spec.specs.Code.{parity_sectors}
use Rattle.cartridge_spec.specs.Shape.{IsArea, mask_at, usable_places, data_count, sector_at}
use Rattle.cartridge_spec.specs.HeaderCopies.{last_segment}
use Rattle.cartridge_spec.specs.Says.{with_parity}
use Rattle.cartridge_spec.specs.Settling.{writes_of}
use Rattle.cartridge_spec.specs.Volumes.{Part, parts_of, Plain}
use Rattle.gf256_qic.proofs.Parities.{parity_sectors-are_sectors}
use Rattle.qic_base.specs.Cartridge.{Cartridge, view_at, IsSector}
use Rattle.qic_base.specs.CartridgeTerms.{IsCartridge}
use Rattle.qic_base.specs.Step.{Step, written_view, worn_view}

-- ---- writes of whole sectors

pub writes_more : (xs ys : List Step) → AreWrites IsOfSector xs → AreWrites IsOfSector ys → AreWrites IsOfSector (xs ++ ys)
writes_more [] ys front rear = rear
writes_more (x ∷ xs) ys front rear = (front.0, writes_more xs ys front.1 rear)

-- a cartridge stays one while a sector is lost, or written
pub whole_by_each : KeepsEach IsOfSector IsCartridge
whole_by_each segment new is = record {
  worn = λ c whole.
      with_view_whole c segment new.sector (worn_view (view_at c segment new.sector)) whole
      (worn_is_view (view_at c segment new.sector) (view_of_cartridge c segment new.sector whole));
  written = λ c whole.
      with_view_whole c segment new.sector (written_view new.bytes (view_at c segment new.sector)) whole
      (written_is_view new.bytes (view_at c segment new.sector) is (view_of_cartridge c segment new.sector whole));
}

pub sector_writes_are_cartridge : SectorWritesAreCartridge
sector_writes_are_cartridge c steps left whole are torn =
    torn_writes_keep IsOfSector IsCartridge steps c left whole_by_each are whole torn

-- ---- those of an append

pub block_sectors : (sectors : List (List ℕ)) → All IsSector sectors → All IsSector (with_parity sectors)
block_sectors sectors are =
    All-append IsSector sectors (parity_sectors sectors) are
    (parity_sectors-are_sectors sectors are)

pub writes_whole : (segment : ℕ) (places : List ℕ) (sectors : List (List ℕ)) → All IsSector sectors →
    AreWrites IsOfSector (writes_of segment places sectors)
writes_whole segment [] sectors are = tt
writes_whole segment (place ∷ places) [] are = tt
writes_whole segment (place ∷ places) (bytes ∷ sectors) are =
    ((All-head IsSector bytes sectors are, tt), writes_whole segment places sectors (All-tail IsSector bytes sectors are))

-- .. and so are those of several sectors at once
pub sectors_whole : (segment : ℕ) (places : List ℕ) (sectors : List (List ℕ)) → All IsSector sectors →
    EachIs IsOfSector segment (new_sectors places sectors)
sectors_whole segment places sectors are =
    each_together IsOfSector segment places sectors (writes_whole segment places sectors are)

parts_whole : (words segments : List ℕ) (area : List (List ℕ)) → All IsSector area →
    AreWrites IsOfSector (parts_writes words (parts_of words segments area))
parts_whole words [] area are = tt
parts_whole words (s ∷ ss) area are =
    let n : ℕ = data_count (mask_at words s) in
    let part : Part = record { segment = s; sectors = take n area } in
    let rest : List Part = parts_of words ss (drop n area) in
    writes_more (part_writes words part) (parts_writes words rest) (
      sectors_whole s (usable_places (mask_at words s)) (with_parity (take n area))
          (block_sectors (take n area) (All-take IsSector n area are)),
      tt,
    )
    (parts_whole words ss (drop n area) (All-drop IsSector n area are))

pub block_sector : (area : List (List ℕ)) (i : ℕ) → IsArea area → i < 32 → IsSector (sector_at (with_parity area) i)
block_sector area i is h =
    subst IsSector (sym (unwrap_or-slice_get (with_parity area) i []))
    (All-get_or IsSector (with_parity area) i [] (omega (arith, length-block area is)) (block_sectors area is.sectors))

append_whole : (c : Cartridge) (plain : Plain) (content : Content) → MayAppendTo c plain content →
    AreWrites IsOfSector (append_steps_of plain content)
append_whole c plain content ready =
    let last : ℕ = last_segment c in
    let segments : List ℕ = new_segments plain content.bytes in
    let table : List (List ℕ) = new_table plain content in
    let area : IsArea table = (done_table_shows c plain content ready).0 in
    let few = ready_count c plain content ready in
    writes_more (volume_steps plain content) (list_steps plain content)
    (parts_whole plain.words segments (new_volume plain content).area
    (are_sectors (sectors_in plain.words segments) content.bytes ready.appendable.bytes)) (
      (block_sector table (slot_sector (length plain.volumes)) area (omega arith), tt),
      (
        (block_sector table 29 area (omega arith), tt),
        ((block_sector table 30 area (omega arith), tt), ((block_sector table 31 area (omega arith), tt), tt)),
      ),
    )

pub stopped_append_is_cartridge : StoppedAppendIsCartridge
stopped_append_is_cartridge c plain content left ready torn =
    sector_writes_are_cartridge c (append_steps_of plain content) left ready.may.cartridge
    (append_whole c plain content ready.may) torn

pub done_is_cartridge : DoneIsCartridge
done_is_cartridge c plain content may =
    writes_keep IsOfSector IsCartridge (append_steps_of plain content) c whole_by_each
    (append_whole c plain content may) may.cartridge
