-- What was printed behind an answer.
use Rattle.std.specs.Prelude.{ℕ, List, ◌≡◌, ◌≢◌}
use Rattle.command_laws.specs.CommandFields.{CommandPrints, RefusedPrints}
use Rattle.command_spec.specs.declared.status.Status.{Status}
use Rattle.command_spec.specs.declared.words.Words.{Words}
use Rattle.command_spec.specs.declared.status.Status.TheVariants as status

-- the texts behind an answer: those of a command that was carried out, or that was refused
abbrev pub Prints : Words → Status → List ℕ → Type 0
Prints command answer text =
    (answer ≡ status.Done → CommandPrints command text) × (answer ≢ status.Done → RefusedPrints command answer text)
