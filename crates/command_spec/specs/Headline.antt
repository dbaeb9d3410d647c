-- The clauses of the headline, one by one (this project's own).
use Rattle.std.specs.Prelude.{◌≡◌, ℕ, List, ◌++◌, Option, Some, ◌⊎◌, true, IsSomeAnd, is_some}
use Rattle.std.specs.Option.{option_map}
use Rattle.command_spec.specs.Commands.{command_of}
use Rattle.command_spec.specs.Machine.{Step, Spells, InputLeft, OverTold, IsCutOff, IsOfBytes}
use Rattle.command_spec.specs.Outcome.{CommandOutcome}
use Rattle.command_spec.specs.declared.status.Status.{Status}
use Rattle.command_spec.specs.declared.words.Words.{Words}
use Rattle.qic_base.specs.Acts.{Outside, Failing, FailingRose, steps_of, NoneFell}
use Rattle.qic_base.specs.Cartridge.{Cartridge}
use Rattle.qic_base.specs.Step.{Step as TapeStep, Torn}
use Rattle.qic_base.specs.Source.{IsInput}
use Rattle.qic_base.specs.Sink as sinks
use Rattle.qic_base.specs.Source as sources
use Rattle.qic_base.specs.Tape as tapes

-- ---- a step of the plain machine

-- It took place: over the cartridge that the tape told, and this input.
pub record Stepped {T S K : Type 0} (t : tapes.Meaning T) (s : sources.Meaning S) (k : sinks.Meaning K) (words : List (List ℕ))
    (held : Option Cartridge) (input : List ℕ) (old new : Outside T S K) (answer : Status) : Type 0 where
  pub held' : Option Cartridge
  pub output : List ℕ
  pub taken : ℕ
  pub step : Step words held input held' output taken answer
  pub tape : t.told new.tape ≡ Some held'
  pub source : InputLeft answer taken (s.left old.source) (s.left new.source)
  pub took : k.took old.sink output new.sink
  pub written : k.written new.sink ≡ option_map (λ bytes. bytes ++ output) (k.written old.sink)

-- no count of faults rose
abbrev pub NoneRose : {T S K : Type 0} (t : tapes.Meaning T) (s : sources.Meaning S) (k : sinks.Meaning K) (old new : Outside T S K) →
    Type 0
NoneRose t s k old new = (failing : Failing) → ¬ (FailingRose t s k old new failing)

-- ---- a fault of the outside

-- it cut off the acts of the plain machine's outcome, of a command that the words spell, over what is told
abbrev pub IsCut : {T S K : Type 0} (t : tapes.Meaning T) (s : sources.Meaning S) (k : sinks.Meaning K) (words : List (List ℕ))
    (old new : Outside T S K) → Failing → Type 0
IsCut t s k words old new failing =
    (command : Words) × Spells words command × OverTold t s old (λ held input.
    (outcome : CommandOutcome) × (command_of command).yields held input outcome × IsCutOff t s k command held input old new failing outcome)

-- ---- a stop

-- Each cartridge that a run leaves, by what the drive held: that which the tape tells when the run is over, whatever it
-- answered, and that a stop then leaves; and, where the tape tells its stops, each that a stop since the run's start might
-- have left.
pub record EachLeft {T : Type 0} (t : tapes.Meaning T) (old new : T) (P : (held left : Option Cartridge) → Type 0) : Type 0 where
  pub told : (held : Option Cartridge) → t.told old ≡ Some held → IsSomeAnd (t.told new) (P held)
  pub since : (held left : Option Cartridge) → t.tells_stops old ≡ true → t.told old ≡ Some held → t.left_since new (t.moment old) left →
      P held left

-- the cartridge that stands when a run is over: that which the tape tells, and that a stop then leaves
abbrev pub ToldNow : {T : Type 0} (t : tapes.Meaning T) (new : T) (P : (left : Option Cartridge) → Type 0) → Type 0
ToldNow t new P = IsSomeAnd (t.told new) P

-- a stop in the steps of an outcome leaves this, over the input that is told, or some input where none is
pub record StopLeaves (told : Option (List ℕ)) (command : Words) (held left : Option Cartridge) : Type 0 where
  pub input : List ℕ
  pub is_told : IsInput told input
  pub bytes : IsOfBytes command told input
  pub outcome : CommandOutcome
  pub plain : (command_of command).yields held input outcome
  pub torn : Torn (steps_of outcome.acts) held left

-- what a run leaves: what stood, or what a stop in its command leaves
abbrev pub WordsLeave : (told : Option (List ℕ)) → List (List ℕ) → (held left : Option Cartridge) → Type 0
WordsLeave told words held left = (left ≡ held) ⊎ ((command : Words) × Spells words command × StopLeaves told command held left)

-- ---- runs one after the other

-- the clauses of two runs over the same objects can be put together
pub record Joins {T S K : Type 0} (t : tapes.Meaning T) (s : sources.Meaning S) (k : sinks.Meaning K)
    (old new : Outside T S K) : Type 0 where
  -- no count has fallen, and each object tells as before
  pub counts : NoneFell t s k old new
  pub tape : is_some (t.told new.tape) ≡ is_some (t.told old.tape)
  pub source : is_some (s.left new.source) ≡ is_some (s.left old.source)
  pub sink : is_some (k.written new.sink) ≡ is_some (k.written old.sink)
  -- the tape went through some steps, and what was told of stops before is told of them still
  pub stops : (steps : List TapeStep) × tapes.Stops t old.tape new.tape steps
