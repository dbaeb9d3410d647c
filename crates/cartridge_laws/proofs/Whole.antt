-- A cartridge with another view of one sector is a cartridge.
use Rattle.std.proofs.Common.{ℕ, ◌+◌, ◌*◌, ◌∙◌, List}
use Rattle.std.proofs.lemmas.List.{length-set}
use Rattle.std.proofs.lemmas.List.Elements.{All-set}
use Rattle.qic_base.specs.Cartridge.{Cartridge, with_view, IsSector}
use Rattle.qic_base.specs.CartridgeTerms.{IsCartridge, IsView}
use Rattle.qic_base.specs.Step.{written_view, worn_view}
use Rattle.qic_base.specs.declared.tape.SectorView.{SectorView}
use Rattle.qic_base.specs.declared.tape.SectorView.TheVariants.{Blank, Defect, Lost, Holds}

pub with_view_whole : (d : Cartridge) (segment i : ℕ) (view : SectorView) → IsCartridge d → IsView view →
    IsCartridge (with_view d segment i view)
with_view_whole d segment i view whole good = record {
  long = whole.long;
  version = whole.version;
  sectors = length-set d.views (32 * segment + i) view ∙ whole.sectors;
  views = All-set IsView d.views (32 * segment + i) view good whole.views;
}

-- a written view is one, and a worn one
pub written_is_view : (bytes : List ℕ) (view : SectorView) → IsSector bytes → IsView view → IsView (written_view bytes view)
written_is_view bytes Blank sector good = tt
written_is_view bytes Defect sector good = tt
written_is_view bytes Lost sector good = sector
written_is_view bytes (Holds old) sector good = sector

pub worn_is_view : (view : SectorView) → IsView view → IsView (worn_view view)
worn_is_view Blank good = tt
worn_is_view Defect good = tt
worn_is_view Lost good = tt
worn_is_view (Holds old) good = tt
