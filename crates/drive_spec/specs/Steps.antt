-- What a gap does to the cartridge, after a train: one command alone does anything (this project's profile of QIC-117).
use Rattle.std.specs.Prelude.{ℕ, Bool, true, false, List, [], ◌∷◌, Option, Some, None, is_none, if◌then◌else◌}
use Rattle.qic_base.specs.Step.{Step, SetReferenced}
use Rattle.qic117_commands.specs.Commands.{command_at}
use Rattle.qic117_commands.specs.Refusals.{first_refusal}
use Rattle.qic117_commands.specs.declared.command.Command.{Command}
use Rattle.qic117_commands.specs.declared.command.Command.TheVariants.{WriteReference}
use Rattle.drive_spec.specs.declared.deck.Deck.{Deck}
use Rattle.drive_spec.specs.declared.under_way.UnderWay.{UnderWay}
use Rattle.drive_spec.specs.declared.under_way.UnderWay.TheVariants.{Nothing}
use Rattle.drive_spec.specs.Deck.{view_of}
use Rattle.drive_spec.specs.Effects.{ticked}
use Rattle.drive_spec.specs.Record.{Record}

-- whether nothing is under way
abbrev pub is_idle : UnderWay → Bool
is_idle Nothing = true
is_idle under_way = false

-- what an accepted command does to the cartridge
abbrev pub reference_steps : Command → List Step
reference_steps WriteReference = SetReferenced ∷ []
reference_steps command = []

-- what a command of its own does to the cartridge: nothing where a row refuses it
abbrev pub command_steps : Deck → Option Command → List Step
command_steps d None = []
command_steps d (Some command) = if is_none (first_refusal (view_of d) command) then reference_steps command else []

-- what a gap does to the cartridge
abbrev pub gap_steps : Record → List Step
gap_steps r = if is_idle r.under_way then command_steps (ticked r.deck) (command_at r.train) else []

-- what so many pulses and a gap do to it
unfoldable pub train_changes : Record → (train : ℕ) → List Step
train_changes r train = gap_steps (record r { train = train })
