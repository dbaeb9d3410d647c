-- A cartridge with fresh header data in copy 0, and zero bytes in the table's segment, stands for the empty one.
use Rattle.std.proofs.Common.{ℕ, List, replicate, ◌≡◌, refl, ◌+◌, ◌-◌, ◌≤◌, take, drop, ap, ◌∙◌, arith, ◌*◌, ◌/◌, ◌%◌, ◌<◌, true, []}
use Rattle.std.proofs.Common.{eq-eqb, All, inl}
use Rattle.std.proofs.lemmas.List.{take-replicate, drop-replicate, get_or-replicate, length-replicate}
use Rattle.std.proofs.lemmas.Option.{unwrap_or-slice_get}
use Rattle.std.proofs.lemmas.List.Elements.{All-nil, All-replicate}
use Rattle.cartridge_laws.proofs.FormatCopies.{HoldsZeros, zero_from_views}
use Rattle.cartridge_laws.proofs.FormatFresh.{fresh_are_sound}
use Rattle.cartridge_laws.proofs.Segments.{length-whole_cells}
use Rattle.cartridge_laws.proofs.Zeros.{zero_is_written}
use Rattle.cartridge_spec.specs.Formatting.{IsFreshFor, fresh_plain}
use Rattle.cartridge_spec.specs.Header.{header_fault}
use Rattle.cartridge_spec.specs.HeaderCopies.{CopyReads, copy_cells}
use Rattle.cartridge_spec.specs.Says.{whole_mask, cells_of, Written}
use Rattle.cartridge_spec.specs.Shape.{sector_at}
use Rattle.cartridge_spec.specs.Table.{slot, is_free, slot_fault, HasNoFault}
use Rattle.cartridge_spec.specs.Volumes.{Volume, IsPlain, VolumeStands, Stands}
use Rattle.qic_base.specs.Cartridge.{zero_sector, Cartridge, IsSector}
use Rattle.qic_base.specs.CartridgeTerms.{IsCartridge}
use Rattle.qic_base.specs.Field.{number_at, little_endian}
use Rattle.qic_base.specs.declared.tape.TapeInfo.{TapeInfo}
use Rattle.cartridge_laws.proofs.FreshBuilding.{zero_area, zero_bytes}
use Rattle.qic_base.proofs.Arrays.{zero_sector-is_sector}
use Rattle.cartridge_spec.specs.Table as tables

-- ---- the empty table

-- no signature stands among zero bytes
unsigned : (m k : ℕ) (bytes : List ℕ) → bytes ≡ replicate m 0 → k + 128 ≤ m → number_at (take 128 (drop k bytes)) 0 4 ≡ 0
unfolding number_at
unsigned m k bytes zeros room =
    let rest : drop {A = ℕ} k (replicate {A = ℕ} m 0) ≡ replicate {A = ℕ} (m - k) 0 = drop-replicate k m 0 in
    let some : take {A = ℕ} 128 (replicate {A = ℕ} (m - k) 0) ≡ replicate {A = ℕ} 128 0 = take-replicate 128 (m - k) 0 (omega arith) in
    ap (λ (xs : List ℕ). little_endian (take 4 (take 128 (drop k xs)))) zeros
    ∙ ap (λ (xs : List ℕ). little_endian (take 4 (take 128 xs))) rest
    ∙ ap (λ (xs : List ℕ). little_endian (take 4 xs)) some

free_slot : (i : ℕ) → i < 232 → is_free (slot zero_area i) ≡ true
unfolding slot zero_area
free_slot i h =
    let sector : sector_at zero_area (i / 8) ≡ zero_sector =
    unwrap_or-slice_get zero_area (i / 8) [] ∙ get_or-replicate 29 (i / 8) zero_sector [] (omega arith) in
    eq-eqb _ 0 (ap (λ (bytes : List ℕ). number_at (take 128 (drop (128 * (i % 8)) bytes)) 0 4) sector
    ∙ unsigned 1024 (128 * (i % 8)) zero_sector zero_bytes (omega arith))

empty_has_no_fault : (last : ℕ) → HasNoFault zero_area last
unfolding slot_fault
empty_has_no_fault last i h = rw (free_slot i h) refl

empty_shows : tables.Shows zero_area []
empty_shows = record {
  room = omega arith;
  used = λ i h. absurd (omega arith);
  shown = λ i h. absurd (omega arith);
  free = λ i from h. free_slot i h;
}

-- ---- the empty cartridge

empty_is_plain : (c : Cartridge) (label : List ℕ) (date : ℕ) (words : List ℕ) (area : List (List ℕ)) → IsFreshFor c label date words area →
    IsPlain (fresh_plain c label date words area)
empty_is_plain c label date words area for = record {
  header_area = for.fresh.size;
  shown = for.fresh.spells.shows;
  table_area = record {
    size = length-replicate 29 zero_sector;
    sectors = All-replicate IsSector 29 zero_sector zero_sector-is_sector;
  };
  areas = All-nil (λ (volume : Volume). All IsSector volume.area);
}

pub empty_stands : (c d : Cartridge) (label : List ℕ) (date : ℕ) (words : List ℕ) (area : List (List ℕ)) → IsCartridge c →
    IsFreshFor c label date words area → d.info ≡ record c.info { referenced = true } → Written (copy_cells d 0) area →
    CopyReads d 0 area → HoldsZeros d 2 → Stands d (fresh_plain c label date words area)
unfolding zero_area
empty_stands c d label date words area whole for info written reads zeros =
    let same : d.info.segments_per_track ≡ c.info.segments_per_track = ap (λ (i : TapeInfo). i.segments_per_track) info in
    let sound = fresh_are_sound c label date words area whole for in
    record {
      whole = empty_is_plain c label date words area for;
      header = record { referenced = ap (λ (i : TapeInfo). i.referenced) info; in_force = inl reads };
      sound_header = ap (header_fault area) same ∙ sound.sound;
      copies = inl written;
      sound_table = empty_has_no_fault _;
      shown = empty_shows;
      volumes = All-nil (VolumeStands d words);
      table = inl (zero_is_written (cells_of d 2 whole_mask) 29 (zero_from_views zeros) (length-whole_cells d 2) (omega arith)
          (omega arith));
    }
