-- What an append and a restore need of a cartridge (this project's own).
use Rattle.std.specs.Prelude.{ℕ, All, true, List, length, ◌≡◌}
use Rattle.cartridge_spec.specs.Appending.{has_room}
use Rattle.cartridge_spec.specs.Volumes.{Plain, Volume}
use Rattle.command_spec.specs.Command.{ReadsAs}
use Rattle.command_spec.specs.Restore.{HasNumber, LosesFew, pieces_in}
use Rattle.qic_base.specs.Cartridge.{Cartridge}

-- there is room for one byte at least, and for all of the input
abbrev pub CanTake : Cartridge → (input : List ℕ) → Type 0
CanTake c input = (plain : Plain) × ReadsAs c plain × (has_room plain (length input) ≡ true)

-- there is a volume of this number, and no segment that holds some of its bytes has more than three unreadable sectors
abbrev pub CanGive : Cartridge → (number : ℕ) → Type 0
CanGive c number =
    (plain : Plain) × ((volume : Volume) × HasNumber c plain number volume × All (LosesFew c plain.words) (pieces_in plain volume))
