-- The data of a table are sectors, and its settling leaves a cartridge, done or stopped.
use Rattle.std.proofs.Common.{ℕ, inl, inr, List, ◌≡◌, length, arith, All, ◌<◌, [], sym, subst, Some, ap, ◌∙◌, Option, IsSomeAnd}
use Rattle.std.proofs.lemmas.List.Elements.{All-get_or}
use Rattle.std.proofs.lemmas.Option.{unwrap_or-slice_get}
use Rattle.cartridge_laws.proofs.FormatWriting.{effects-some}
use Rattle.cartridge_laws.proofs.MountFar.{is_far, far_area, length-table_block}
use Rattle.cartridge_laws.proofs.MountSettles.{settling_settles}
use Rattle.cartridge_laws.proofs.MountSettling.{IsKeptBy, stopped_keeps}
use Rattle.cartridge_laws.proofs.MountStanding.{said_area}
use Rattle.cartridge_laws.proofs.Segments.{cells_are_views, view_of_cartridge}
use Rattle.cartridge_laws.proofs.TableSayings.{read_are_sectors}
use Rattle.cartridge_laws.proofs.Whole.{with_view_whole, written_is_view, worn_is_view}
use Rattle.cartridge_laws.specs.MountLaws.{TableIsArea, StoppedIsCartridge, SettlingEffects, SettledIsCartridge}
use Rattle.cartridge_spec.specs.Shape.{IsArea, sector_at}
use Rattle.cartridge_spec.specs.TableSegment.{table_cells, TableIs, ReadsPlainly}
use Rattle.cartridge_spec.specs.Says.{whole_mask, with_parity}
use Rattle.cartridge_spec.specs.Settling.{settling_steps}
use Rattle.gf256_qic.proofs.Parities.{parity_block}
use Rattle.qic_base.proofs.Steps.{Torn-all}
use Rattle.qic_base.specs.Cartridge.{Cartridge, IsSector, view_at}
use Rattle.qic_base.specs.CartridgeTerms.{IsCartridge}
use Rattle.qic_base.specs.Step.{written_view, worn_view, Step, effects}

-- ---- the data

plain_area : (c : Cartridge) (area : List (List ℕ)) → IsCartridge c → ReadsPlainly c area → IsArea area
plain_area c area whole (inl reads) = record {
  size = reads.size;
  sectors = (read_are_sectors (table_cells c) area (cells_are_views c 2 whole_mask whole) reads);
}
plain_area c area whole (inr says) = said_area c area says

pub table_is_area : TableIsArea
table_is_area c area whole table =
    elim (is_far c area table) [ inl plain ↦ plain_area c area whole plain | inr far ↦ far_area c area far ]

pub block_sectors : (area : List (List ℕ)) → IsArea area → All IsSector (with_parity area)
block_sectors area is_area =
    let size : length area ≡ 29 = is_area.size in
    (parity_block area (omega arith) (omega arith) is_area.sectors).sectors

block_sector : (c : Cartridge) (area : List (List ℕ)) (i : ℕ) → IsCartridge c → TableIs c area → i < 32 →
    IsSector (sector_at (with_parity area) i)
block_sector c area i whole table h =
    let long : length (with_parity area) ≡ 32 = length-table_block c area table in
    subst IsSector (sym (unwrap_or-slice_get (with_parity area) i []))
    (All-get_or IsSector (with_parity area) i [] (omega arith) (block_sectors area (table_is_area c area whole table)))

-- ---- the settling's writes

whole_kept : (c : Cartridge) (area : List (List ℕ)) → IsCartridge c → TableIs c area → IsKeptBy IsCartridge (with_parity area)
whole_kept c area whole table = record {
  written = λ i d h is.
      with_view_whole d 2 i (written_view (sector_at (with_parity area) i) (view_at d 2 i)) is
      (written_is_view (sector_at (with_parity area) i) (view_at d 2 i) (block_sector c area i whole table h) (view_of_cartridge d 2 i is));
  worn = λ i d h is.
      with_view_whole d 2 i (worn_view (view_at d 2 i)) is (worn_is_view (view_at d 2 i) (view_of_cartridge d 2 i is));
}

pub stopped_is_cartridge : StoppedIsCartridge
stopped_is_cartridge c area left whole table torn =
    stopped_keeps IsCartridge c area left (whole_kept c area whole table) whole torn

pub settling_effects : SettlingEffects
settling_effects c area table = effects-some (settling_steps area c) c ∙ ap Some (settling_settles c area table)

pub settled_is_cartridge : SettledIsCartridge
settled_is_cartridge c area whole table =
    let steps : List Step = settling_steps area c in
    subst (λ (o : Option Cartridge). IsSomeAnd o IsCartridge) (settling_effects c area table)
    (stopped_is_cartridge c area (effects steps (Some c)) whole table (Torn-all steps (Some c)))
