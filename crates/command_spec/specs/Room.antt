-- The plain machine of `room`, which looks and writes nothing, and its record (this project's own).
use Rattle.std.specs.Prelude.{◌≡◌, ℕ, List, [], ◌∷◌, codes, true, IsSomeAnd}
use Rattle.cartridge_spec.specs.Appending.{room}
use Rattle.cartridge_spec.specs.Table.{Entry}
use Rattle.command_spec.specs.Command.{Command, plain_command, CanBeMounted, none_of_them, Word}
use Rattle.command_spec.specs.Lines.{room_line}
use Rattle.command_spec.specs.Outcome.{Going, OpenOutcome, acted}

-- Once it is open the bytes are told that an append may have now: those that an append names which is refused as full. The table is
-- not settled, so there is no step.
abbrev pub TellsRoom : Going
TellsRoom c header words table entries outcome = outcome ≡ acted [] (room_line (room words entries))

-- a protected cartridge has its room as well, though no append may take it
abbrev pub room_command : Command
room_command =
    record (plain_command ((Word (codes "room") ∷ []) ∷ []) (λ held input. OpenOutcome TellsRoom held)
    (λ text. (words : List ℕ) × ((entries : List Entry) × (text ≡ room_line (room words entries))))) {
      traits = record none_of_them { memory = true; cartridge = true; mounts = true };
      needs = λ held input. IsSomeAnd held CanBeMounted;
    }
