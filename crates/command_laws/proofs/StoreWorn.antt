-- A table that holds a list does so behind a sector that was worn.
use Rattle.std.proofs.Common.{ℕ, List, sym, ◌∙◌}
use Rattle.cartridge_laws.proofs.ChangeViews.{worn_reads_no_more}
use Rattle.cartridge_laws.proofs.FormatCopies.{held_view, view_held}
use Rattle.cartridge_laws.proofs.Segments.{length-whole_cells}
use Rattle.cartridge_laws.specs.TableCells.{HasList}
use Rattle.cartridge_spec.specs.Table.{Entry}
use Rattle.qic_base.specs.Cartridge.{Cartridge}
use Rattle.qic_base.specs.Step.{Wear, changed}

-- what can be read agrees with the same block
pub worn_list : (c : Cartridge) (segment sector : ℕ) (entries : List Entry) → HasList c entries →
    HasList (changed (Wear segment sector) c) entries
worn_list c segment sector entries has =
    let d : Cartridge = changed (Wear segment sector) c in
    record {
      block = has.block;
      code = has.code;
      agrees = record {
        size = has.agrees.size ∙ length-whole_cells c 2 ∙ sym (length-whole_cells d 2);
        each = λ i bytes at.
            let held = held_view d 2 i bytes at in
            has.agrees.each i bytes (view_held c 2 i bytes held.within (worn_reads_no_more c segment sector 2 i bytes held.view));
      };
      shown = has.shown;
    }
