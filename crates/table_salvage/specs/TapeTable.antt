-- Whether a cartridge's table of some cells is read as any data (this project's own).
use Rattle.std.specs.Prelude.{ℕ, Bool, true, false, List, take}
use Rattle.dump_spec.specs.Table.{IsTapeTable}
use Rattle.qic_base.specs.declared.tape.SectorView.{SectorView}

-- those at the front of the sectors are; or none are
abbrev pub FindsTapeTable : (found : Bool) → List SectorView → (sectors : List (List ℕ)) → Type 0
FindsTapeTable true cells sectors = IsTapeTable cells (take 29 sectors)
FindsTapeTable false cells sectors = (area : List (List ℕ)) → IsTapeTable cells area → ⊥
