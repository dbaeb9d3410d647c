-- The flat dump of a cartridge: the bytes of its sectors, one sector behind the other (this project's own).
use Rattle.std.specs.Prelude.{ℕ, List, [], ◌∷◌, ◌++◌}
use Rattle.qic_base.specs.Cartridge.{Cartridge, zero_sector}
use Rattle.qic_base.specs.declared.tape.SectorView.{SectorView}
use Rattle.qic_base.specs.declared.tape.SectorView.TheVariants.{Blank, Defect, Lost, Holds}

-- what a sector holds, and 1,024 zero bytes where it holds nothing
abbrev pub sector_bytes : SectorView → List ℕ
sector_bytes Blank = zero_sector
sector_bytes Defect = zero_sector
sector_bytes Lost = zero_sector
sector_bytes (Holds bytes) = bytes

-- the bytes of sectors, one behind the other
abbrev pub views_bytes : List SectorView → List ℕ
views_bytes [] = []
views_bytes (view ∷ views) = sector_bytes view ++ views_bytes views

-- the flat dump
abbrev pub dump_of : Cartridge → List ℕ
dump_of c = views_bytes c.views
