-- Answers of a run: by what is told, by whether its command was done, and whatever the source is (this project's own).
use Rattle.std.specs.Prelude.{ℕ, List, ◌≡◌, ◌≢◌, ◌⊎◌}
use Rattle.command_spec.specs.Headline.{Stepped}
use Rattle.command_spec.specs.Machine.{OverTold, CommandEnds}
use Rattle.command_spec.specs.declared.status.Status.{Status}
use Rattle.qic_base.specs.Acts.{Outside}
use Rattle.command_spec.specs.declared.words.Words.{Words}
use Rattle.qic_base.specs.Alone.{around, no_source}
use Rattle.command_spec.specs.declared.status.Status.TheVariants as status
use Rattle.qic_base.specs.Sink as sinks
use Rattle.qic_base.specs.Source as sources
use Rattle.qic_base.specs.Tape as tapes

-- over what is told the answer is want of memory, or the plain machine's step was made
abbrev pub Answers : {T S K : Type 0} (t : tapes.Meaning T) (s : sources.Meaning S) (k : sinks.Meaning K) (words : List (List ℕ))
    (old new : Outside T S K) → Status → Type 0
Answers t s k words old new answer =
    OverTold t s old (λ held input. (answer ≡ status.NoMemory) ⊎ Stepped t s k words held input old new answer)

-- the command was refused, or its input failed
abbrev pub WasNotDone : Status → Type 0
WasNotDone answer = (answer ≢ status.Done) × (answer ≢ status.SinkFault) × (answer ≢ status.TapeFault)

-- how it ended, whatever the source is
abbrev pub EndsBlind : {T K : Type 0} (t : tapes.Meaning T) (k : sinks.Meaning K) (command : Words) (old new : T) (sink printed : K) →
    Status → Type 0
EndsBlind t k command old new sink printed answer = CommandEnds t no_source k command (around old sink) (around new printed) answer
