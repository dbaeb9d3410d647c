-- A life in which one sector more of the table's segment is lost behind the settling of an append, a script or a generated run, before
-- the next mount: what comes back then is what the next run begins with (this project's own).
use Rattle.std.specs.Prelude.{◌≡◌, ◌⊎◌, ◌<◌, ◌≤◌, ℕ, suc, slice_get, All, Bool, true, false, IsSomeAnd, List, [], ◌∷◌, Option, Some}
use Rattle.cartridge_spec.specs.Formatting.{HasCleanCopies}
use Rattle.cartridge_spec.specs.Mounting.{ComesBackAs, Mounts, mounted_as, settled}
use Rattle.cartridge_spec.specs.TableSegment.{IsTableLive}
use Rattle.cartridge_spec.specs.Volumes.{Plain, Volume, volume_bytes, worn}
use Rattle.command_laws.specs.Between.{IsBetween, without_mark}
use Rattle.command_laws.specs.Life.{Event, EventBecomes, Happens, HasRun, IsSound, IsWithin, Loses, Run, Runs, begun_behind}
use Rattle.command_laws.specs.CommandFields.{Yields}
use Rattle.command_laws.specs.LifeLaws.{HasGrown, IsKeeping}
use Rattle.command_laws.specs.LifeReopens.{CanReopen, EventSparesTable, Reopens}
use Rattle.command_laws.specs.SettledRuns.{SettlesFirst, StopsInSettling}
use Rattle.command_spec.specs.Outcome.{CommandOutcome, output_of}
use Rattle.command_spec.specs.Restore.{LosesFew, pieces_in}
use Rattle.command_spec.specs.declared.words.Words.{Words}
use Rattle.qic_base.specs.Acts.{steps_of}
use Rattle.qic_base.specs.Cartridge.{Cartridge}
use Rattle.qic_base.specs.CartridgeTerms.{IsCartridge}
use Rattle.qic_base.specs.Step.{Step, changed}
use Rattle.command_spec.specs.declared.status.Status.TheVariants as status
use Rattle.command_spec.specs.declared.words.Words.TheVariants as commands

-- ---- the turns of a life

-- A life takes such turns. The usual one is an event over what stands. A run of an append, a script or a generated run may be one
-- behind whose settling one sector more of the table's segment is lost. From then on the loss is open, up to the next mount: what
-- comes between leaves it open, and so does a run that is stopped while it settles the table; the first one that is not opens the
-- cartridge, and goes by what was settled.
pub data Turn : Type 0 where
  Usual : Event → Turn
  LosesBehind : Run → (sector : ℕ) → Turn
  Passes : Event → Turn
  StopsSettling : Run → Turn
  Opens : Run → Turn

-- a loss is open behind it
abbrev pub is_open_behind : Turn → Bool
is_open_behind (Usual event) = false
is_open_behind (LosesBehind run sector) = true
is_open_behind (Passes event) = true
is_open_behind (StopsSettling run) = true
is_open_behind (Opens run) = false

-- so it may be where one is open, or none is: where one is, the first mount comes before anything else
abbrev pub FitsIn : (is_open : Bool) → Turn → Type 0
FitsIn is_open (Usual event) = is_open ≡ false
FitsIn is_open (LosesBehind run sector) = Unit {0}
FitsIn is_open (Passes event) = is_open ≡ true
FitsIn is_open (StopsSettling run) = is_open ≡ true
FitsIn is_open (Opens run) = is_open ≡ true

-- a formatting was stopped, and none was carried out since: while a loss is open there is no formatting
abbrev pub begun_after : Turn → (begun : Bool) → Bool
begun_after (Usual event) begun = begun_behind event begun
begun_after turn begun = begun

-- ---- what the next run may rely on

-- Once its protect mark is cleared, the cartridge comes back as this plain one; each sector of its table's segment takes a write; and
-- its header copies are clean, unless a formatting was stopped.
pub record IsBackWith (begun : Bool) (c : Cartridge) (plain : Plain) : Type 0 where
  pub whole : IsCartridge c
  pub comes : ComesBackAs (without_mark c) plain
  pub live : IsTableLive c
  pub clean : begun ≡ false → HasCleanCopies c plain.header_area

-- while no loss is open the drive holds what has these volumes, and that mounts; else what comes back with them
abbrev pub IsNow : (is_open begun : Bool) → (held : Option Cartridge) → Option Plain → Type 0
IsNow false begun held plain = IsSound begun held plain × CanReopen held plain
IsNow true begun (Some c) (Some plain) = IsBackWith begun c plain
IsNow true begun held plain = ⊥

-- ---- what happens

-- a command that adds volumes
abbrev pub AddsVolumes : Words → Type 0
AddsVolumes (commands.Append name date) = Unit {0}
AddsVolumes (commands.Make seed count) = Unit {0}
AddsVolumes commands.Script = Unit {0}
AddsVolumes command = ⊥

-- The run is one over this settled cartridge, so that a stop in it comes behind the settling; under the premises of a life. Of a
-- script no line that was carried out loses a sector of the table's segment.
pub record RunsOver (run : Run) (begun : Bool) (s : Cartridge) (left : Option Cartridge) : Type 0 where
  pub ran : HasRun run (Some s) left
  pub within : IsWithin run begun (Some s) left
  pub table : EventSparesTable (Runs run) (Some s) left

-- .. over the settled one of a cartridge that mounts
abbrev pub RunsOverSettledOf : Run → (begun : Bool) → Cartridge → (left : Option Cartridge) → Type 0
RunsOverSettledOf run begun c left = (plain : Plain) → Mounts c (mounted_as plain) → RunsOver run begun (settled plain.table_area c) left

-- Such a run over a cartridge that mounts, without the protect mark, left one without it, and then one sector of the table's segment
-- of that was lost.
pub record LosesOneBehind (run : Run) (sector : ℕ) (begun : Bool) (left : Option Cartridge) (c : Cartridge) : Type 0 where
  pub adds : AddsVolumes run.command
  pub free : c.info.protected ≡ false
  pub mounts : (plain : Plain) × Mounts c (mounted_as plain)
  pub next : Cartridge
  pub still_free : next.info.protected ≡ false
  pub ran : HasRun run (Some c) (Some next)
  pub behind : RunsOverSettledOf run begun c (Some next)
  pub small : sector < 32
  pub lost : left ≡ Some (worn 2 sector next)

-- each step leaves a loss open: the mark and the version change, the reference bursts are there already, a sector is worn behind the
-- table's segment, or made a defect
abbrev pub AreBetween : Cartridge → List Step → Type 0
AreBetween c [] = Unit {0}
AreBetween c (step ∷ steps) = IsBetween c step × AreBetween (changed step c) steps

-- a run of such steps, or of none; or a sector that is lost behind the table's segment
abbrev pub PassesBy : Event → (left : Option Cartridge) → Cartridge → Type 0
PassesBy (Runs run) left c = (ran : HasRun run (Some c) left) × AreBetween c (steps_of ran.outcome.acts)
PassesBy (Loses segment sector) left c = (3 ≤ segment) × (sector < 32) × (left ≡ Some (worn segment sector c))

-- a run that settles the table of a cartridge without the protect mark first, and is stopped meanwhile
pub record StopsWhileSettling (run : Run) (left : Option Cartridge) (c : Cartridge) : Type 0 where
  pub settles : SettlesFirst run.command
  pub free : c.info.protected ≡ false
  pub ran : HasRun run (Some c) left
  pub stops : (plain : Plain) → Mounts c (mounted_as plain) → StopsInSettling run.ended c plain.table_area left

-- .. or that is not stopped then
pub record OpensFirst (run : Run) (begun : Bool) (left : Option Cartridge) (c : Cartridge) : Type 0 where
  pub settles : SettlesFirst run.command
  pub free : c.info.protected ≡ false
  pub ran : HasRun run (Some c) left
  pub behind : RunsOverSettledOf run begun c left

abbrev pub TurnHappens : Turn → (begun : Bool) → (held left : Option Cartridge) → Type 0
TurnHappens (Usual event) begun held left = Happens event begun held left × EventSparesTable event held left
TurnHappens (LosesBehind run sector) begun held left = IsSomeAnd held (LosesOneBehind run sector begun left)
TurnHappens (Passes event) begun held left = IsSomeAnd held (PassesBy event left)
TurnHappens (StopsSettling run) begun held left = IsSomeAnd held (StopsWhileSettling run left)
TurnHappens (Opens run) begun held left = IsSomeAnd held (OpensFirst run begun left)

-- each turn is taken over what the one before it left
abbrev pub TakesTurns : List Turn → (is_open begun : Bool) → (held left : Option Cartridge) → Type 0
TakesTurns [] is_open begun held left = left ≡ held
TakesTurns (turn ∷ turns) is_open begun held left =
    (next : Option Cartridge) × FitsIn is_open turn × TurnHappens turn begun held next
    × TakesTurns turns (is_open_behind turn) (begun_after turn begun) next left

abbrev pub is_open_behind_all : List Turn → (is_open : Bool) → Bool
is_open_behind_all [] is_open = is_open
is_open_behind_all (turn ∷ turns) is_open = is_open_behind_all turns (is_open_behind turn)

abbrev pub begun_after_all : List Turn → (begun : Bool) → Bool
begun_after_all [] begun = begun
begun_after_all (turn ∷ turns) begun = begun_after_all turns (begun_after turn begun)

-- ---- what it makes of the volumes

-- A run behind which a sector was lost, and one that opens what came back, make of the volumes what a run without a loss does; what
-- comes between, and a stop while the table is settled, keeps them.
abbrev pub TurnBecomes : Turn → (held : Option Cartridge) → (before after : Option Plain) → Type 0
TurnBecomes (Usual event) held before after = EventBecomes event held before after
TurnBecomes (LosesBehind run sector) held before after = EventBecomes (Runs run) held before after
TurnBecomes (Passes event) held before after = after ≡ before
TurnBecomes (StopsSettling run) held before after = after ≡ before
TurnBecomes (Opens run) held before after = EventBecomes (Runs run) held before after

-- each turn makes this of the volumes that stood behind the one before it, and what it leaves mounts with just them
abbrev pub TurnsBecome : (turns : List Turn) (is_open begun : Bool) (held left : Option Cartridge) →
    TakesTurns turns is_open begun held left →
    (before after : Option Plain) → Type 0
TurnsBecome [] is_open begun held left life before after = after ≡ before
TurnsBecome (turn ∷ turns) is_open begun held left life before after =
    (now : Option Plain) × TurnBecomes turn held before now × IsNow (is_open_behind turn) (begun_after turn begun) life.0 now
    × Reopens life.0 now
    × TurnsBecome turns (is_open_behind turn) (begun_after turn begun) life.0 left life.3 now after

-- ---- the law

-- Behind each turn of such a life, stopped where it may, what the drive holds mounts with just the volumes that the answered commands
-- made, with those of the one that was stopped or not; and it stands for them once it was opened.
abbrev pub ALifeWithOneLoss : Type 0
ALifeWithOneLoss =
    (turns : List Turn) (is_open begun : Bool) (held left : Option Cartridge) (before : Option Plain) → IsNow is_open begun held before →
    (life : TakesTurns turns is_open begun held left) →
    (after : Option Plain) × TurnsBecome turns is_open begun held left life before after
    × IsNow (is_open_behind_all turns is_open) (begun_after_all turns begun) left after

-- ---- volumes in it

-- a turn without `new` and `format`
abbrev pub KeepsVolumesSo : Turn → Type 0
KeepsVolumesSo (Usual (Runs run)) = IsKeeping run.command
KeepsVolumesSo turn = Unit {0}

abbrev pub KeepVolumesSo : List Turn → Type 0
KeepVolumesSo [] = Unit {0}
KeepVolumesSo (turn ∷ turns) = KeepsVolumesSo turn × KeepVolumesSo turns

-- whatever the turns, no volume is lost or changed, also while a loss is open
abbrev pub VolumesAreKeptSo : Type 0
VolumesAreKeptSo =
    (turns : List Turn) (is_open begun : Bool) (held left : Option Cartridge) (plain : Plain) → KeepVolumesSo turns →
    IsNow is_open begun held (Some plain) → TakesTurns turns is_open begun held left →
    (later : Plain) × HasGrown plain later × IsNow (is_open_behind_all turns is_open) (begun_after_all turns begun) left (Some later)

-- a restore of the volume of this number prints just these bytes, where no segment that holds some of them has lost more than three
-- sectors: the volume table can be read
abbrev pub GivesAtOnce : Cartridge → Plain → (number : ℕ) → Volume → (bytes : List ℕ) → Type 0
GivesAtOnce c plain number volume bytes =
    (input : List ℕ) (outcome : CommandOutcome) → All (LosesFew c plain.words) (pieces_in plain volume) →
    Yields (commands.Restore number) (Some c) input outcome → (outcome.status ≡ status.Done) × (output_of outcome ≡ bytes)

-- So each volume is given back as it was, whoever appended it, by the first run over what comes back, too; while a loss is open, of a
-- cartridge without the protect mark.
abbrev pub VolumesAreGivenBackSo : Type 0
VolumesAreGivenBackSo =
    (turns : List Turn) (is_open begun : Bool) (held : Option Cartridge) (c : Cartridge) (plain : Plain) (place : ℕ) (volume : Volume) →
    KeepVolumesSo turns → IsNow is_open begun held (Some plain) → slice_get plain.volumes place ≡ Some volume →
    TakesTurns turns is_open begun held (Some c) → (is_open_behind_all turns is_open ≡ false) ⊎ (c.info.protected ≡ false) →
    (later : Plain) × HasGrown plain later × IsNow (is_open_behind_all turns is_open) (begun_after_all turns begun) (Some c) (Some later)
    × GivesAtOnce c later (suc place) volume (volume_bytes plain.words volume)
