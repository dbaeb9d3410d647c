-- A life in which no sector of the table's segment is lost beside what a stop takes: behind each event the cartridge mounts, with
-- just the list that it stands for (this project's own).
use Rattle.std.specs.Prelude.{◌≡◌, ◌≢◌, ◌⊎◌, ◌≤◌, ℕ, Bool, IfSome, List, [], ◌∷◌, Option, Some, None, false, length, take}
use Rattle.cartridge_spec.specs.Mounting.{Mounts, NotFormatted, mounted_as, settled}
use Rattle.cartridge_spec.specs.TableSegment.{CanBeRead}
use Rattle.cartridge_spec.specs.Volumes.{Plain, Stands, entries_of}
use Rattle.command_laws.specs.Life.{Answered, Ended, Event, EventBecomes, IsSound, Lives, Loses, Runs, Stopped, StopsAmong, begun_behind}
use Rattle.command_laws.specs.Life.{begun_behind_all}
use Rattle.command_spec.specs.Input.{Item}
use Rattle.command_spec.specs.Outcome.{CommandOutcome}
use Rattle.command_spec.specs.Script.{Did, ScriptDoes}
use Rattle.command_spec.specs.ScriptLists.{FirstSpare, ItemsSpareTable}
use Rattle.command_spec.specs.declared.words.Words.{Words}
use Rattle.qic_base.specs.Acts.{Act}
use Rattle.qic_base.specs.Cartridge.{Cartridge}
use Rattle.command_spec.specs.declared.words.Words.TheVariants as commands

-- ---- what the next run may rely on

-- the volume table of what has a list can be read
abbrev pub CanReopen : (held : Option Cartridge) → Option Plain → Type 0
CanReopen (Some c) (Some plain) = CanBeRead c
CanReopen held plain = Unit {0}

-- what the drive holds mounts, with just this list; without one it is unformatted
abbrev pub Reopens : (held : Option Cartridge) → Option Plain → Type 0
Reopens None plain = Unit {0}
Reopens (Some c) None = Mounts c NotFormatted
Reopens (Some c) (Some plain) = Mounts c (mounted_as plain)

-- ---- the premise on losses

-- No line of a script that was carried out loses a sector of the table's segment; of one that was stopped, on a cartridge that isn't
-- protected, none of so many lines that it went no further.
abbrev pub LinesSpareTable : Ended → Cartridge → Plain → List Item → List Did → (last : List Act) → (left : Option Cartridge) → Type 0
LinesSpareTable (Answered answer printed) c plain items dids last left = ItemsSpareTable items
LinesSpareTable (Stopped printed) c plain items dids last left =
    ItemsSpareTable items
    ⊎ ((c.info.protected ≡ false) × ((count : ℕ) × (count ≤ length items) × StopsAmong printed c items dids last count left
    × FirstSpare c plain items dids count × ItemsSpareTable (take count items)))

-- so it is with each command
abbrev pub SparesTable : Words → Ended → (input : List ℕ) → (left : Option Cartridge) → Cartridge → Type 0
SparesTable (commands.Lose segment sector) ended input left c = segment ≢ 2
SparesTable commands.Script ended input left c =
    (plain : Plain) (run : CommandOutcome) → Stands c plain →
    (does : ScriptDoes (settled plain.table_area c) plain.words (entries_of plain) input run) →
    LinesSpareTable ended (settled plain.table_area c) plain does.items does.dids does.last left
SparesTable command ended input left c = Unit {0}

-- and with each event
abbrev pub EventSparesTable : Event → (held left : Option Cartridge) → Type 0
EventSparesTable (Runs run) held left = IfSome held (SparesTable run.command run.ended run.input left)
EventSparesTable (Loses segment sector) held left = segment ≢ 2

abbrev pub AllSpareTable : (events : List Event) (begun : Bool) (held left : Option Cartridge) → Lives events begun held left → Type 0
AllSpareTable [] begun held left life = Unit {0}
AllSpareTable (event ∷ events) begun held left life =
    EventSparesTable event held life.0 × AllSpareTable events (begun_behind event begun) life.0 left life.2

-- ---- the law

-- each event makes this of the volumes that stood behind the one before it, and what it leaves mounts with just them
abbrev pub ReopensAll : (events : List Event) (begun : Bool) (held left : Option Cartridge) → Lives events begun held left →
    (before after : Option Plain) → Type 0
ReopensAll [] begun held left life before after = after ≡ before
ReopensAll (event ∷ events) begun held left life before after =
    (now : Option Plain) × EventBecomes event held before now × IsSound (begun_behind event begun) life.0 now × Reopens life.0 now
    × ReopensAll events (begun_behind event begun) life.0 left life.2 now after

-- Behind each event of a life without such losses, stopped where it may, the cartridge mounts, with just the volumes that it stands
-- for.
abbrev pub AReopeningLife : Type 0
AReopeningLife =
    (events : List Event) (begun : Bool) (held left : Option Cartridge) (before : Option Plain) → IsSound begun held before →
    CanReopen held before → (life : Lives events begun held left) → AllSpareTable events begun held left life →
    (after : Option Plain) × ReopensAll events begun held left life before after
    × IsSound (begun_behind_all events begun) left after × CanReopen left after
