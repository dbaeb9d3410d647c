-- What a shifter shows. Standard: QIC-117, the report of a word.
use Rattle.std.specs.Prelude.{◌≡◌, ◌<◌, Bool, true, List, [], ◌∷◌, length}
use Rattle.qic117_commands.specs.declared.shift.Shown.{Shown}
use Rattle.qic117_commands.specs.declared.shift.Shown.TheVariants.{Bit, Final, Past}

-- of the levels still to show, the first is shown and the rest are left: the last of them is the
-- final one, and when it is shown nothing more is
abbrev pub Shows : List Bool → List Bool → Shown → Type 0
Shows levels rest (Bit level) = (levels ≡ level ∷ rest) × (0 < length rest)
Shows levels rest Final = (levels ≡ true ∷ []) × (rest ≡ [])
Shows levels rest Past = (levels ≡ []) × (rest ≡ [])
