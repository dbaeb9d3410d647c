-- What a fault of the outside cuts off is a run of a life that was stopped, with the text that it had printed; and what one run
-- leaves mounts again, as facts (this project's own).
use Rattle.std.specs.Prelude.{◌≡◌, ℕ, List, Option, Some, IsSomeAnd}
use Rattle.cartridge_spec.specs.Mounting.{Mounts, mounted_as}
use Rattle.cartridge_spec.specs.TableSegment.{IsTableLive}
use Rattle.cartridge_spec.specs.Volumes.{Plain, Stands}
use Rattle.command_laws.specs.Life.{Stopped}
use Rattle.command_laws.specs.LifeLaws.{WordsRan}
use Rattle.command_laws.specs.ReadableLaws.{WordsKeepReadable}
use Rattle.command_spec.specs.Command.{ReadsAs}
use Rattle.command_spec.specs.Headline.{EachLeft, ToldNow}
use Rattle.command_spec.specs.Machine.{fault_of}
use Rattle.command_spec.specs.Promises.{Promises}
use Rattle.command_spec.specs.declared.status.Status.{Status}
use Rattle.qic_base.specs.Acts.{Failing, Outside}
use Rattle.qic_base.specs.Cartridge.{Cartridge}
use Rattle.qic_base.specs.Source.{IsInput}
use Rattle.qic_base.specs.Sink as sinks
use Rattle.qic_base.specs.Source as sources
use Rattle.qic_base.specs.Tape as tapes

-- where a fault of the outside is answered, the sink took this text, and what the tape tells then is what a run of the words leaves
-- that was stopped once it had printed just that, over the input that is told, or some input where none is
abbrev pub CutRunsAreStopped : {T S K : Type 0} → tapes.Meaning T → sources.Meaning S → sinks.Meaning K → Type 0
CutRunsAreStopped {T} {S} {K} t s k =
    (words : List (List ℕ)) (old new : Outside T S K) (answer : Status) (failing : Failing) (held : Option Cartridge) →
    Promises t s k words old new answer → answer ≡ fault_of failing → t.told old.tape ≡ Some held →
    (text : List ℕ) × k.took old.sink text new.sink × ((input : List ℕ) × IsInput (s.left old.source) input
    × ToldNow t new.tape (λ left. WordsRan words input (Stopped (Some text)) held left))

-- of a cartridge whose volume table can be read, each that a run of words leaves that keep it so mounts, with just the list that it
-- stands for
abbrev pub RunsReopen : {T S K : Type 0} → tapes.Meaning T → sources.Meaning S → sinks.Meaning K → Type 0
RunsReopen {T} {S} {K} t s k =
    (words : List (List ℕ)) (old new : Outside T S K) (answer : Status) → Promises t s k words old new answer →
    EachLeft t old.tape new.tape (λ held left. (c : Cartridge) (plain : Plain) → held ≡ Some c → ReadsAs c plain → IsTableLive c →
    WordsKeepReadable (s.left old.source) words c plain →
    IsSomeAnd left (λ d. (later : Plain) → Stands d later → Mounts d (mounted_as later)))
