-- Worked values of copies, as facts: a source of two volumes, and a target whose segment 3 has too many defects to carry any.
use Rattle.std.specs.Prelude.{ℕ, ◌≡◌, List, [], ◌∷◌, ◌++◌, replicate, Some, None, codes}
use Rattle.cartridge_spec.specs.Appending.{new_entry}
use Rattle.cartridge_spec.specs.Table.{Entry}
use Rattle.command_spec.specs.Copying.{Side, copied_entry, difference}
use Rattle.command_spec.specs.CopyPromises.{copy_text}
use Rattle.qic_base.specs.Cartridge.{Cartridge}
use Rattle.qic_base.specs.Field.{filled}

-- volumes of 10 bytes and of none, with the date word 0
abbrev pub ten_bytes : (name : List ℕ) → (segment : ℕ) → Entry
ten_bytes name segment = new_entry (segment ∷ []) (filled name) 0 10

abbrev pub no_bytes : (segment : ℕ) → Entry
no_bytes segment = new_entry (segment ∷ []) (filled (codes "b")) 0 0

-- a map of 84 segments without a defect, and one with 29 defects in segment 3
abbrev pub whole_map : List ℕ
whole_map = replicate 84 0

abbrev pub worn_map : List ℕ
worn_map = replicate 3 0 ++ 0x1FFF_FFFF ∷ replicate 80 0

abbrev pub both_volumes : List Entry
both_volumes = ten_bytes (codes "a") 3 ∷ no_bytes 4 ∷ []

abbrev pub two_volumes : Cartridge → Side
two_volumes c = record { cartridge = c; words = whole_map; entries = both_volumes }

abbrev pub target_with : Cartridge → List Entry → Side
target_with c entries = record { cartridge = c; words = worn_map; entries = entries }

-- what the copy of both prints
abbrev pub CopiedText : Type 0
CopiedText = copy_text 0 (10 ∷ 0 ∷ []) ≡ codes "copied 1 10\ncopied 2 0\nvolumes 2\n"

-- the first volume takes segment 4, since segment 3 carries nothing, and the second one segment 5
abbrev pub FirstCopied : Type 0
FirstCopied = (c d : Cartridge) → copied_entry (two_volumes c) (ten_bytes (codes "a") 3) (target_with d []) ≡ ten_bytes (codes "a") 4

abbrev pub SecondCopied : Type 0
SecondCopied =
    (c d : Cartridge) → copied_entry (two_volumes c) (no_bytes 4) (target_with d (ten_bytes (codes "a") 4 ∷ [])) ≡ no_bytes 5

-- behind the copy nothing is missing, and no volume differs
abbrev pub CopiesAreAlike : Type 0
CopiesAreAlike = difference whole_map both_volumes worn_map (ten_bytes (codes "a") 4 ∷ no_bytes 5 ∷ []) 1 ≡ None

-- another name makes another volume
abbrev pub NameDiffers : Type 0
NameDiffers = difference whole_map both_volumes whole_map (ten_bytes (codes "x") 3 ∷ []) 1 ≡ Some 1

-- the first volume of the target that the source has not
abbrev pub OneTooMany : Type 0
OneTooMany = difference whole_map (ten_bytes (codes "a") 3 ∷ []) worn_map (ten_bytes (codes "a") 4 ∷ no_bytes 5 ∷ []) 1 ≡ Some 2
