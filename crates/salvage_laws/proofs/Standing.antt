-- A cartridge that stands for a plain one hides no other header, and is read as it.
use Rattle.std.proofs.Common.{inl, inr, ℕ, List, replicate, arith}
use Rattle.std.proofs.lemmas.List.{length-replicate}
use Rattle.std.proofs.lemmas.List.Elements.{All-replicate}
use Rattle.cartridge_laws.proofs.MountStanding.{standing_mounts}
use Rattle.cartridge_laws.proofs.Segments.{length-whole_cells}
use Rattle.cartridge_laws.proofs.Zeros.{zero_is_written}
use Rattle.cartridge_laws.specs.HeaderTerms.{CopiesAre}
use Rattle.cartridge_spec.specs.HeaderCopies.{copy_cells}
use Rattle.cartridge_spec.specs.Says.{Written, HasNoBlock, with_parity}
use Rattle.cartridge_spec.specs.Shape.{IsArea}
use Rattle.gf256_qic.proofs.Parities.{parity_block}
use Rattle.qic_base.proofs.Arrays.{zero_sector-is_sector}
use Rattle.qic_base.specs.Cartridge.{Cartridge, IsSector, zero_sector}
use Rattle.qic_base.specs.declared.tape.SectorView.{SectorView}
use Rattle.salvage_laws.specs.CellLaws.{StandingIsReadAs}

-- cells that were written have a block
written_has_block : (cells : List SectorView) (area : List (List ℕ)) → IsArea area → Written cells area → HasNoBlock cells → ⊥
written_has_block cells area whole written none =
    let size = whole.size in
    none (with_parity area) (parity_block area (omega arith) (omega arith) whole.sectors) written

zero_area : IsArea (replicate 29 zero_sector)
zero_area = record {
  size = length-replicate 29 zero_sector;
  sectors = All-replicate IsSector 29 zero_sector zero_sector-is_sector;
}

-- so copy 0 has one
copy_has_block : (c : Cartridge) (area : List (List ℕ)) → IsArea area → CopiesAre c area → HasNoBlock (copy_cells c 0) → ⊥
copy_has_block c area whole (inl written) none = written_has_block (copy_cells c 0) area whole written none
copy_has_block c area whole (inr (zeros, written)) none =
    written_has_block (copy_cells c 0) (replicate 29 zero_sector) zero_area
    (zero_is_written (copy_cells c 0) 29 zeros (length-whole_cells c 0) (omega arith) (omega arith)) none

pub standing_is_read_as : StandingIsReadAs
standing_is_read_as c plain is stood reads uncompressed = record {
  whole = is;
  mounts = standing_mounts c plain stood reads;
  hides_none = λ area block place has wrong signature.
      absurd (copy_has_block c plain.header_area stood.whole.header_area stood.copies wrong.none_agrees);
  uncompressed = uncompressed;
}
