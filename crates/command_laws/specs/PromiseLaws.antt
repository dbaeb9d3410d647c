-- What follows of the promises of a run and is no clause of them, as a fact (this project's own).
use Rattle.std.specs.Prelude.{◌≡◌, IsSomeAnd, List, Some, ℕ, IfSome, None, ◌<◌, All, ◌-◌, ◌^◌, ◌↔◌}
use Rattle.cartridge_laws.specs.AppendSettled.{IsSettledFor}
use Rattle.cartridge_spec.specs.Volumes.{Plain, Stands}
use Rattle.command_laws.specs.SilentSectors.{DiffersSilently}
use Rattle.command_laws.specs.RunTerms.{Answers}
use Rattle.command_spec.specs.Headline.{NoneRose, ToldNow, EachLeft}
use Rattle.command_spec.specs.Machine.{Spells, fault_of}
use Rattle.command_spec.specs.OneLoss.{StoppedComesBack}
use Rattle.command_spec.specs.Promises.{Promises}
use Rattle.command_spec.specs.Several.{LinesLeave}
use Rattle.command_spec.specs.declared.status.Status.{Status}
use Rattle.qic_base.specs.Acts.{Outside, Failing, TapeFails, SourceFails, SinkFails}
use Rattle.qic_base.specs.Cartridge.{Cartridge}
use Rattle.qic_base.specs.CartridgeTerms.{IsCartridge}
use Rattle.qic_base.specs.Sink as sinks
use Rattle.qic_base.specs.Source as sources
use Rattle.qic_base.specs.Tape as tapes
use Rattle.command_spec.specs.declared.status.Status.TheVariants as status
use Rattle.command_spec.specs.declared.words.Words.{Words}
use Rattle.command_spec.specs.declared.words.Words.TheVariants as commands

-- where no count of faults rose, over what is told the plain machine's step was made, or there was no memory
abbrev pub AnswersWhereNoneRose : {T S K : Type 0} (t : tapes.Meaning T) (s : sources.Meaning S) (k : sinks.Meaning K) → Type 0
AnswersWhereNoneRose {T} {S} {K} t s k =
    (words : List (List ℕ)) (old new : Outside T S K) (answer : Status) → Promises t s k words old new answer → NoneRose t s k old new →
    Answers t s k words old new answer

-- how often the calls of an object failed
abbrev pub count_of : {T S K : Type 0} (t : tapes.Meaning T) (s : sources.Meaning S) (k : sinks.Meaning K) → Outside T S K → Failing → ℕ
count_of t s k outside TapeFails = t.faults outside.tape
count_of t s k outside SourceFails = s.faults outside.source
count_of t s k outside SinkFails = k.faults outside.sink

-- below the greatest count a fault of an object is answered exactly where its count rose
abbrev pub FaultsWhereCountsRose : {T S K : Type 0} (t : tapes.Meaning T) (s : sources.Meaning S) (k : sinks.Meaning K) → Type 0
FaultsWhereCountsRose {T} {S} {K} t s k =
    (words : List (List ℕ)) (old new : Outside T S K) (answer : Status) → Promises t s k words old new answer → (failing : Failing) →
    count_of t s k old failing < 2 ^ 64 - 1 → (answer ≡ fault_of failing) ↔ (count_of t s k old failing < count_of t s k new failing)

-- A run of `scrub deep` over a cartridge that differs in sectors that silently hold other bytes from one that stands, and whose
-- table was settled: where it is Done, what stands then stands for the same.
abbrev pub DeepScrubRunMends : {T S K : Type 0} (t : tapes.Meaning T) (s : sources.Meaning S) (k : sinks.Meaning K) → Type 0
DeepScrubRunMends {T} {S} {K} t s k =
    (words : List (List ℕ)) (old new : Outside T S K) (answer : Status) (whole c : Cartridge) (plain : Plain) →
    Promises t s k words old new answer → Spells words commands.ScrubDeep → answer ≡ status.Done → t.told old.tape ≡ Some (Some c) →
    Stands whole plain → IsSettledFor whole plain.table_area → DiffersSilently whole c plain →
    ToldNow t new.tape (λ left. IsSomeAnd left (λ d. Stands d plain))

-- Over a tape that tells, each cartridge that a run of this command leaves, at its end or at any moment of it, is the one that was
-- held.
abbrev pub LeavesAll : {T S K : Type 0} (t : tapes.Meaning T) (s : sources.Meaning S) (k : sinks.Meaning K) (command : Words) → Type 0
LeavesAll {T} {S} {K} t s k command =
    (words : List (List ℕ)) (old new : Outside T S K) (answer : Status) → Promises t s k words old new answer → Spells words command →
    EachLeft t old.tape new.tape (λ held left. left ≡ held)

-- Over a source that tells nothing, what a run of a script leaves, at its end or at any moment of it, is what one leaves
-- over one input of bytes, of which hold the clauses on what it leaves, and on one loss.
abbrev pub ScriptsUntold : {T S K : Type 0} → tapes.Meaning T → sources.Meaning S → sinks.Meaning K → Type 0
ScriptsUntold {T} {S} {K} t s k =
    (words : List (List ℕ)) (old new : Outside T S K) (answer : Status) → Promises t s k words old new answer →
    s.left old.source ≡ None → EachLeft t old.tape new.tape (λ held left. IfSome held IsCartridge →
    Spells words commands.Script → (input : List ℕ) × All (λ b. b < 256) input × LinesLeave input words held left
    × StoppedComesBack (Some input) words held left)
