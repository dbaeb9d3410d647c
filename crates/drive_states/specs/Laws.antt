-- Laws of the state table.
use Rattle.std.specs.Prelude.{◌≡◌, ℕ, true, List, [], ◌∷◌, Option}
use Rattle.qic_base.specs.declared.tape.TapeInfo.{TapeInfo}
use Rattle.qic_base.specs.Step.{Step}
use Rattle.qic117_commands.specs.Commands.{number_of}
use Rattle.qic117_commands.specs.declared.command.Command.TheVariants.{WriteReference}
use Rattle.drive_spec.specs.Terms.{referenced_as, row}
use Rattle.drive_spec.specs.Record.{Record}
use Rattle.drive_spec.specs.Row.{after_gap}
use Rattle.drive_spec.specs.Steps.{gap_steps}
use Rattle.drive_states.specs.Sound.{IsSoundRecord}

-- a gap after any train keeps the bounds of the record
abbrev pub RowsKeepBounds : Type 0
RowsKeepBounds = (r : Record) (train : ℕ) → IsSoundRecord r → IsSoundRecord (row r train)

-- a gap does something to the cartridge after one train alone
abbrev pub OneTrainWrites : Type 0
OneTrainWrites = (r : Record) → ¬ (r.train ≡ number_of WriteReference) → gap_steps r ≡ []

-- what is known of the cartridge after the steps of a gap: the reference bursts, where they were written
abbrev pub marked_by : List Step → Option TapeInfo → Option TapeInfo
marked_by [] cartridge = cartridge
marked_by (step ∷ steps) cartridge = referenced_as true cartridge

-- the drive knows of the mark that a gap sets, and forgets none
abbrev pub RowsKeepMarks : Type 0
RowsKeepMarks = (r : Record) → (after_gap r).deck.cartridge ≡ marked_by (gap_steps r) r.deck.cartridge
