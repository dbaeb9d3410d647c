-- That a volume table can be read goes on from run to run, by what the promises of a run say, as facts (this project's
-- own).
use Rattle.std.specs.Prelude.{◌≡◌, ◌⊎◌, ◌<◌, ℕ, All, IfNone, List, length, Option, Some, IsSomeAnd}
use Rattle.cartridge_spec.specs.Formatting.{HasNoHeader}
use Rattle.cartridge_spec.specs.HeaderCopies.{IsUnformatted}
use Rattle.cartridge_spec.specs.TableSegment.{CanBeRead, IsTableLive}
use Rattle.cartridge_spec.specs.Volumes.{Plain}
use Rattle.command_spec.specs.Command.{ReadsAs}
use Rattle.command_spec.specs.Commands.{command_of}
use Rattle.command_spec.specs.Headline.{EachLeft, ToldNow}
use Rattle.command_spec.specs.Machine.{Spells}
use Rattle.command_spec.specs.OneLoss.{ComesBackAsOneOf, LeftComesBack}
use Rattle.command_spec.specs.Promises.{Promises}
use Rattle.command_spec.specs.ScriptLists.{ItemsSpareTable}
use Rattle.command_spec.specs.Several.{FirstLinesSpare, Scripted}
use Rattle.command_spec.specs.Volumes.{TellsBytes}
use Rattle.qic_base.specs.Source.{IsInput}
use Rattle.command_spec.specs.declared.words.Words.{Words}
use Rattle.command_spec.specs.declared.status.Status.{Status}
use Rattle.qic_base.specs.Acts.{Outside}
use Rattle.qic_base.specs.Cartridge.{Cartridge}
use Rattle.qic_base.specs.CartridgeTerms.{IsCartridge}
use Rattle.qic_base.specs.Sink as sinks
use Rattle.qic_base.specs.Source as sources
use Rattle.qic_base.specs.Tape as tapes
use Rattle.command_spec.specs.declared.status.Status.TheVariants as status
use Rattle.command_spec.specs.declared.words.Words.TheVariants as commands

-- one that comes back with any one sector of its table's segment lost can be read without a loss, ..
abbrev pub ComesBackCanBeRead : Type 0
ComesBackCanBeRead = (c : Cartridge) (one other : Plain) → IsTableLive c → ComesBackAsOneOf one other c → CanBeRead c

-- .. and so can what is left of one that could be read, behind the settling of its table or in it
abbrev pub LeftCanBeRead : Type 0
LeftCanBeRead =
    (c : Cartridge) (standing : ℕ → Plain) (least most : ℕ) (left : Option Cartridge) → ReadsAs c (standing 0) →
    IsSomeAnd left IsTableLive → LeftComesBack c standing least most left → IsSomeAnd left CanBeRead

-- ---- runs

-- The words keep the list; or they are those of an append, of a generated run, or of a script each line of which spares
-- the header, and wears no sector of the table's segment, whatever its input of bytes is, where none is told.
abbrev pub WordsKeepReadable : (told : Option (List ℕ)) → (words : List (List ℕ)) → Cartridge → Plain → Type 0
WordsKeepReadable told words c plain =
    ((command : Words) → Spells words command → (command_of command).keeps_list c)
    ⊎ ((name : List ℕ) × (date : ℕ) × Spells words (commands.Append name date) × TellsBytes told)
    ⊎ ((seed : ℕ) × (count : ℕ) × Spells words (commands.Make seed count))
    ⊎ ((input : List ℕ) → IsInput told input → IfNone told (All (λ b. b < 256) input) →
    (script : Scripted input words c plain) × FirstLinesSpare script (length script.does.items)
    × ItemsSpareTable script.does.items)

abbrev pub StillReadable : (told : Option (List ℕ)) → (words : List (List ℕ)) → (held left : Option Cartridge) → Type 0
StillReadable told words held left =
    (c : Cartridge) (plain : Plain) → held ≡ Some c → ReadsAs c plain → IsTableLive c →
    WordsKeepReadable told words c plain → IsSomeAnd left CanBeRead

-- each cartridge that a run leaves of one that could be read can be read
abbrev pub RunsKeepReadable : {T S K : Type 0} → tapes.Meaning T → sources.Meaning S → sinks.Meaning K → Type 0
RunsKeepReadable {T} {S} {K} t s k =
    (words : List (List ℕ)) (old new : Outside T S K) (answer : Status) → Promises t s k words old new answer →
    EachLeft t old.tape new.tape (StillReadable (s.left old.source) words)

-- behind a formatting that was carried out it can
abbrev pub FormattedCanBeRead : {T S K : Type 0} → tapes.Meaning T → sources.Meaning S → sinks.Meaning K → Type 0
FormattedCanBeRead {T} {S} {K} t s k =
    (words : List (List ℕ)) (old new : Outside T S K) (answer : Status) (label : List ℕ) (date : ℕ) (c : Cartridge) →
    Promises t s k words old new answer → Spells words (commands.Format label date) → answer ≡ status.Done →
    t.told old.tape ≡ Some (Some c) → IsCartridge c → ToldNow t new.tape (λ left. IsSomeAnd left CanBeRead)

-- what one that was stopped leaves is unformatted, or can be read
abbrev pub FormatsLeaveReadable : {T S K : Type 0} → tapes.Meaning T → sources.Meaning S → sinks.Meaning K → Type 0
FormatsLeaveReadable {T} {S} {K} t s k =
    (words : List (List ℕ)) (old new : Outside T S K) (answer : Status) → Promises t s k words old new answer →
    EachLeft t old.tape new.tape (λ held left. (label : List ℕ) (date : ℕ) (c : Cartridge) →
    Spells words (commands.Format label date) → held ≡ Some c → IsCartridge c → CanBeRead c ⊎ HasNoHeader c →
    IsSomeAnd left (λ d. IsUnformatted d ⊎ CanBeRead d))
