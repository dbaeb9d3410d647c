-- What follows of lives, and which runs are runs of a life (this project's own).
use Rattle.std.specs.Prelude.{◌≡◌, ◌⊎◌, ◌++◌, ℕ, suc, All, Bool, false, List, [], ◌∷◌, Option, Some, None, length, slice_get}
use Rattle.cartridge_spec.specs.Appending.{Content, appended_volume, with_bytes}
use Rattle.cartridge_spec.specs.Volumes.{volume_bytes, Plain, Volume}
use Rattle.cartridge_spec.specs.TableSegment.{CanBeRead}
use Rattle.command_laws.specs.Life.{Answered, Ended, Event, HasRun, IsEmptied, IsSound, Lives, Loses, Run, Runs, Stopped, begun_behind_all}
use Rattle.command_spec.specs.Headline.{WordsLeave}
use Rattle.command_spec.specs.Machine.{Spells, SpellsNone, Step}
use Rattle.command_laws.specs.CommandFields.{Yields}
use Rattle.command_spec.specs.Outcome.{CommandOutcome, output_of}
use Rattle.command_spec.specs.Restore.{LosesFew, pieces_in}
use Rattle.command_spec.specs.declared.status.Status.{Status}
use Rattle.command_spec.specs.declared.words.Words.{Words}
use Rattle.qic_base.specs.Cartridge.{Cartridge, new_cartridge}
use Rattle.qic_base.specs.CartridgeTerms.{IsCartridge}
use Rattle.qic_base.specs.Source.{IsInput}
use Rattle.command_spec.specs.declared.status.Status.TheVariants as status
use Rattle.command_spec.specs.declared.words.Words.TheVariants as commands

-- ---- runs of words

abbrev pub run_of : Words → (input : List ℕ) → Ended → Run
run_of command input ended = record { command = command; input = input; ended = ended }

-- the words are those of a command, which has run so
abbrev pub WordsRan : (words : List (List ℕ)) → (input : List ℕ) → Ended → (held left : Option Cartridge) → Type 0
WordsRan words input ended held left = (command : Words) × Spells words command × HasRun (run_of command input ended) held left

-- a step of the plain machine is an answered run, or the words were those of no command
abbrev pub AnsweredRuns : Type 0
AnsweredRuns =
    (words : List (List ℕ)) (input output : List ℕ) (taken : ℕ) (answer : Status) (held left : Option Cartridge) →
    Step words held input left output taken answer →
    (SpellsNone words × (left ≡ held)) ⊎ WordsRan words input (Answered answer output) held left

-- what a stop in words leaves, a stopped run leaves, over the input that is told or some input where none is; or it came before
abbrev pub StoppedRuns : Type 0
StoppedRuns =
    (words : List (List ℕ)) (told : Option (List ℕ)) (held left : Option Cartridge) → WordsLeave told words held left →
    (left ≡ held) ⊎ ((input : List ℕ) × IsInput told input × WordsRan words input (Stopped None) held left)

-- ---- the beginning of a life

-- behind a `format` of any cartridge that was answered Done the empty list stands, and the next run may rely on it
abbrev pub FormatBegins : Type 0
FormatBegins =
    (label : List ℕ) (date : ℕ) (input text : List ℕ) (begun : Bool) (c : Cartridge) (left : Option Cartridge) → IsCartridge c →
    Lives (Runs (run_of (commands.Format label date) input (Answered status.Done text)) ∷ []) begun (Some c) left →
    (after : Option Plain) × IsEmptied c label date after × IsSound false left after

-- .. so it is, whatever the drive held, behind a new cartridge that was formatted
abbrev pub NewAndFormatBegin : Type 0
NewAndFormatBegin =
    (segments : ℕ) (label : List ℕ) (date : ℕ) (answer : Status) (input other printed text : List ℕ) (begun : Bool)
    (held left : Option Cartridge) →
    Lives (Runs (run_of (commands.New segments) input (Answered answer printed)) ∷ Runs
    (run_of (commands.Format label date) other (Answered status.Done text)) ∷ []) begun held left →
    (after : Option Plain) × IsEmptied (new_cartridge segments) label date after × IsSound false left after

-- ---- volumes in a life

-- a command but for `new` and `format`
abbrev pub IsKeeping : Words → Type 0
IsKeeping (commands.New segments) = ⊥
IsKeeping (commands.Format label date) = ⊥
IsKeeping command = Unit {0}

abbrev pub AreKeeping : List Event → Type 0
AreKeeping [] = Unit {0}
AreKeeping (Runs run ∷ events) = IsKeeping run.command × AreKeeping events
AreKeeping (Loses segment sector ∷ events) = AreKeeping events

-- each volume is there as it was, on the same map, and perhaps more of them behind
pub record HasGrown (plain later : Plain) : Type 0 where
  pub header_area : later.header_area ≡ plain.header_area
  pub words : later.words ≡ plain.words
  pub more : List Volume
  pub volumes : later.volumes ≡ plain.volumes ++ more

-- whatever the runs, and wherever they are stopped, no volume is lost or changed
abbrev pub VolumesAreKept : Type 0
VolumesAreKept =
    (events : List Event) (begun : Bool) (held left : Option Cartridge) (plain : Plain) → AreKeeping events →
    IsSound begun held (Some plain) →
    Lives events begun held left →
    (later : Plain) × HasGrown plain later × IsSound (begun_behind_all events begun) left (Some later)

-- ---- volumes, given back

-- a restore of the volume of this number prints just these bytes, where the volume table can be read, and no segment that holds some
-- of them has lost more than three sectors
abbrev pub GivesBytes : Cartridge → Plain → (number : ℕ) → Volume → (bytes : List ℕ) → Type 0
GivesBytes c plain number volume bytes =
    (input : List ℕ) (outcome : CommandOutcome) → CanBeRead c → All (LosesFew c plain.words) (pieces_in plain volume) →
    Yields (commands.Restore number) (Some c) input outcome → (outcome.status ≡ status.Done) × (output_of outcome ≡ bytes)

-- whatever the runs, each volume is given back as it was, whoever appended it
abbrev pub VolumesAreGivenBack : Type 0
VolumesAreGivenBack =
    (events : List Event) (begun : Bool) (held : Option Cartridge) (c : Cartridge) (plain : Plain) (place : ℕ) (volume : Volume) →
    AreKeeping events → IsSound begun held (Some plain) → slice_get plain.volumes place ≡ Some volume → Lives events begun held (Some c) →
    (later : Plain) × HasGrown plain later × IsSound (begun_behind_all events begun) (Some c) (Some later)
    × GivesBytes c later (suc place) volume (volume_bytes plain.words volume)

-- an append is answered Done, and whatever runs come behind it, and wherever they are stopped, its bytes are given back
abbrev pub BackupsAreGivenBack : Type 0
BackupsAreGivenBack =
    (content : Content) (printed : List ℕ) (events : List Event) (begun : Bool) (held : Option Cartridge) (c : Cartridge)
    (plain : Plain) → AreKeeping events → IsSound begun held (Some plain) →
    Lives (Runs (run_of (commands.Append content.name content.date) content.bytes (Answered status.Done printed)) ∷ events) begun held
    (Some c) →
    (later : Plain) × HasGrown (with_bytes plain content.name content.date content.bytes) later
    × IsSound (begun_behind_all events begun) (Some c) (Some later)
    × GivesBytes c later (suc (length plain.volumes)) (appended_volume plain content.name content.date content.bytes) content.bytes
