-- The first run over a cartridge that comes back is one over the settled cartridge: what the promises say of such a run, as facts
-- (this project's own).
use Rattle.std.specs.Prelude.{◌≡◌, ◌≢◌, ◌⊎◌, ◌<◌, ℕ, All, List, Option, Some, IsSomeAnd, false}
use Rattle.cartridge_spec.specs.Appending.{Content, with_bytes}
use Rattle.cartridge_spec.specs.Mounting.{ComesBackAs, Mounts, mounted_as, settled}
use Rattle.cartridge_spec.specs.Settling.{settling_steps}
use Rattle.cartridge_spec.specs.TableSegment.{IsTableLive}
use Rattle.cartridge_spec.specs.Volumes.{Plain, Stands, Volume}
use Rattle.command_laws.specs.ScriptTerms.{SomeScripted}
use Rattle.command_laws.specs.SettledRuns.{SettlesFirst}
use Rattle.command_spec.specs.Headline.{EachLeft, Stepped, ToldNow, WordsLeave}
use Rattle.command_spec.specs.Machine.{Spells, is_fault}
use Rattle.command_spec.specs.OneLoss.{StoppedComesBack}
use Rattle.command_spec.specs.Promises.{Promises}
use Rattle.command_spec.specs.Several.{SomeMade}
use Rattle.command_spec.specs.Restore.{volume_at}
use Rattle.command_spec.specs.Volumes.{AppendedOrNot, GivesBack}
use Rattle.command_spec.specs.declared.status.Status.{Status}
use Rattle.command_spec.specs.declared.words.Words.{Words}
use Rattle.qic_base.specs.Acts.{Outside}
use Rattle.qic_base.specs.Cartridge.{Cartridge}
use Rattle.qic_base.specs.CartridgeTerms.{IsCartridge}
use Rattle.qic_base.specs.Source.{IsInput}
use Rattle.qic_base.specs.Step.{Torn}
use Rattle.qic_base.specs.Sink as sinks
use Rattle.qic_base.specs.Source as sources
use Rattle.qic_base.specs.Tape as tapes
use Rattle.command_spec.specs.declared.status.Status.TheVariants as status
use Rattle.command_spec.specs.declared.words.Words.TheVariants as commands

-- A cartridge without the protect mark, each sector of whose table's segment takes a write, comes back as this plain one.
pub record IsBackNow (c : Cartridge) (plain : Plain) : Type 0 where
  pub whole : IsCartridge c
  pub free : c.info.protected ≡ false
  pub live : IsTableLive c
  pub comes : ComesBackAs c plain

-- what a stop among the steps that settle it leaves: it mounts as before
pub record IsLeftUnsettled (c : Cartridge) (plain : Plain) (left : Option Cartridge) : Type 0 where
  pub torn : Torn (settling_steps plain.table_area c) (Some c) left
  pub mounts : IsSomeAnd left (λ d. Mounts d (mounted_as plain))

-- what words leave of the settled one, which stands for the plain one: by all that is said of what is left of such a one
pub record IsLeftOfSettled (told : Option (List ℕ)) (words : List (List ℕ)) (s : Cartridge) (plain : Plain) (left : Option Cartridge) :
    Type 0 where
  pub stands : Stands s plain
  pub live : IsTableLive s
  pub stops : WordsLeave told words (Some s) left
  pub appends : AppendedOrNot told words (Some s) left
  pub makes : SomeMade words (Some s) left
  pub scripts : SomeScripted told words (Some s) left
  pub survives : StoppedComesBack told words (Some s) left

-- Where the tape told such a cartridge, and the words are those of a command that settles it first, what the run leaves is what it
-- leaves of the settled one, but where it is stopped meanwhile. And where no fault of the outside ended it, its step is one over the
-- settled one, over what is told of the input, or there was no memory. A volume is given back as of one that stands, and an append is
-- there behind `Done`, and not behind a refusal.
pub record FirstRun {T S K : Type 0} (t : tapes.Meaning T) (s : sources.Meaning S) (k : sinks.Meaning K) (words : List (List ℕ))
    (old new : Outside T S K) (answer : Status) (c : Cartridge) (plain : Plain) : Type 0 where
  pub left : EachLeft t old.tape new.tape (λ held left.
      IsLeftUnsettled c plain left ⊎ IsLeftOfSettled (s.left old.source) words (settled plain.table_area c) plain left)
  pub carried : is_fault answer ≡ false → (input : List ℕ) × IsInput (s.left old.source) input × ((answer ≡ status.NoMemory)
      ⊎ Stepped t s k words (Some (settled plain.table_area c)) input old new answer)
  pub restores : (number : ℕ) (volume : Volume) → Spells words (commands.Restore number) → volume_at plain.volumes number ≡ Some volume →
      GivesBack k c plain volume old.sink new.sink answer
  pub appended : (content : Content) → Spells words (commands.Append content.name content.date) →
      s.left old.source ≡ Some content.bytes → All (λ b. b < 256) content.bytes → answer ≡ status.Done →
      ToldNow t new.tape (λ left. IsSomeAnd left (λ d. Stands d (with_bytes plain content.name content.date content.bytes)))
  pub unchanged : (name : List ℕ) (date : ℕ) → Spells words (commands.Append name date) → is_fault answer ≡ false →
      answer ≢ status.NoMemory → answer ≢ status.Done → ToldNow t new.tape (λ left. IsSomeAnd left (λ d. Stands d plain))

abbrev pub FirstRunsOverSettled : {T S K : Type 0} → tapes.Meaning T → sources.Meaning S → sinks.Meaning K → Type 0
FirstRunsOverSettled {T} {S} {K} t s k =
    (words : List (List ℕ)) (old new : Outside T S K) (answer : Status) (command : Words) (c : Cartridge) (plain : Plain) →
    Promises t s k words old new answer → Spells words command → SettlesFirst command → t.told old.tape ≡ Some (Some c) →
    IsBackNow c plain → FirstRun t s k words old new answer c plain
