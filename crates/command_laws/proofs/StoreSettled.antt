-- The writes of a settling are those of the cartridge, and what they leave.
use Rattle.std.proofs.Common.{◌≡◌, ℕ, arith, List, length, All, sym, subst, false}
use Rattle.std.proofs.lemmas.List.{length-append}
use Rattle.cartridge_laws.proofs.MountFar.{length-table_block}
use Rattle.cartridge_laws.proofs.MountSettled.{settled_is_written}
use Rattle.cartridge_laws.proofs.MountWhole.{table_is_area}
use Rattle.cartridge_laws.proofs.Sayings.{data_of-parity}
use Rattle.cartridge_spec.specs.Code.{parity_sectors}
use Rattle.cartridge_spec.specs.TableSegment.{TableIs}
use Rattle.cartridge_spec.specs.Mounting.{settled}
use Rattle.cartridge_laws.specs.TableCells.{HasList}
use Rattle.cartridge_spec.specs.Says.{with_parity}
use Rattle.cartridge_spec.specs.Table.{Entry}
use Rattle.gf256_qic.proofs.Parities.{length-parity_sectors, parity_block}
use Rattle.qic_base.specs.Cartridge.{Cartridge, IsSector}
use Rattle.qic_base.specs.CartridgeTerms.{IsCartridge}
use Rattle.cartridge_spec.specs.Table as tables

-- ---- what the writes leave

-- the table's data are 29 sectors
pub table_size : (c : Cartridge) (area : List (List ℕ)) → TableIs c area → length area ≡ 29
table_size c area table = omega (
  arith,
  length-table_block c area table,
  length-append area (parity_sectors area),
  length-parity_sectors area,
)

pub table_sectors : (c : Cartridge) (area : List (List ℕ)) → IsCartridge c → TableIs c area → All IsSector area
table_sectors c area whole table = (table_is_area c area whole table).sectors

pub settled_list : (c : Cartridge) (area : List (List ℕ)) (entries : List Entry) → IsCartridge c → TableIs c area →
    tables.Shows area entries → c.info.protected ≡ false →
    HasList (settled area c) entries
settled_list c area entries whole table shown mark =
    let size : length area ≡ 29 = table_size c area table in record {
      block = with_parity area;
      code = parity_block area (omega arith) (omega arith) (table_sectors c area whole table);
      agrees = settled_is_written c area table mark;
      shown = subst (λ (d : List (List ℕ)). tables.Shows d entries) (sym (data_of-parity area)) shown;
    }
