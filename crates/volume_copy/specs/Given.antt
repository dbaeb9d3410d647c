-- The bytes that pieces give where zero bytes stand in the place of what doesn't read, as a function (this project's own).
use Rattle.std.specs.Prelude.{ℕ, List}
use Rattle.command_laws.proofs.RestoreGiven.{given_always}
use Rattle.command_spec.specs.Restore.{Piece}
use Rattle.qic_base.specs.Cartridge.{Cartridge}

-- the one list of bytes that is given of them
unfoldable pub given_bytes : Cartridge → (words : List ℕ) → List Piece → List ℕ
given_bytes c words needed = (given_always c words needed).0
