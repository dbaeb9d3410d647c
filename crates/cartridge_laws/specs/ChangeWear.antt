-- A header copy that was in force and has lost few sectors (this project's profile).
use Rattle.std.specs.Prelude.{◌⊎◌, ℕ, ◌≤◌, List}
use Rattle.cartridge_spec.specs.HeaderCopies.{CopyReads, CopyDoesNotRead, copy_cells}
use Rattle.cartridge_spec.specs.Says.{unreadable_count}
use Rattle.qic_base.specs.Cartridge.{Cartridge}

-- the header copy that was in force, with these data, has lost at most three sectors
abbrev pub FewLost : (old new : Cartridge) (area : List (List ℕ)) → Type 0
FewLost old new area =
    (CopyReads old 0 area × (unreadable_count (copy_cells new 0) ≤ 3))
    ⊎ (CopyDoesNotRead old 0 × CopyReads old 1 area × (unreadable_count (copy_cells new 1) ≤ 3))
