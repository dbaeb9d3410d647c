-- A life of a cartridge: runs, each answered or stopped anywhere, and sectors that are lost between them; and the volumes that
-- stand behind each of these (this project's own).
use Rattle.std.specs.Prelude.{◌≡◌, ◌≢◌, ◌⊎◌, ◌≤◌, ◌<◌, ℕ, Bool, true, false, All, IfSome, List, [], ◌∷◌, Option, Some, None, length, suc}
use Rattle.cartridge_spec.specs.Appending.{with_bytes}
use Rattle.cartridge_spec.specs.Formatting.{HasCleanCopies, HasNoHeader, IsFreshFor, fresh_plain}
use Rattle.cartridge_spec.specs.HeaderCopies.{CopyDoesNotRead}
use Rattle.cartridge_spec.specs.TableSegment.{IsTableLive}
use Rattle.cartridge_spec.specs.Mounting.{settled}
use Rattle.cartridge_spec.specs.Volumes.{Plain, Stands, entries_of, WearSpares}
use Rattle.command_laws.specs.ActStops.{IsLeftBy}
use Rattle.command_spec.specs.Input.{Item}
use Rattle.command_spec.specs.Several.{IsHeard}
use Rattle.command_spec.specs.Machine.{HasValues}
use Rattle.command_laws.specs.CommandFields.{Yields}
use Rattle.command_spec.specs.Make.{with_made}
use Rattle.command_spec.specs.Outcome.{CommandOutcome, HasPlace, output_of}
use Rattle.command_spec.specs.Script.{Did, ScriptDoes}
use Rattle.command_spec.specs.ScriptLists.{CameFurther, FirstSpare, GoesNoFurther, ItemsSpare, printed_by, with_items}
use Rattle.command_spec.specs.declared.status.Status.{Status}
use Rattle.command_spec.specs.declared.words.Words.{Words}
use Rattle.qic_base.specs.Acts.{Act, steps_of}
use Rattle.qic_base.specs.Cartridge.{Cartridge}
use Rattle.qic_base.specs.CartridgeTerms.{IsCartridge}
use Rattle.qic_base.specs.Step.{Wear, effect, effects, Torn}
use Rattle.command_spec.specs.declared.status.Status.TheVariants as status
use Rattle.command_spec.specs.declared.words.Words.TheVariants as commands

-- ---- runs

-- How a run ended: it was answered, and printed this; or a stop, a fault of the outside or want of memory cut it off, once this
-- was printed, where it is known.
pub data Ended : Type 0 where
  Answered : Status → (printed : List ℕ) → Ended
  Stopped : (printed : Option (List ℕ)) → Ended

pub record Run : Type 0 where
  pub command : Words
  pub input : List ℕ
  pub ended : Ended

-- a run; or a sector that is lost between runs
pub data Event : Type 0 where
  Runs : Run → Event
  Loses : (segment sector : ℕ) → Event

-- A formatting was stopped, and none was carried out since: a header copy may be half written.
abbrev pub begun_by : Words → Ended → (begun : Bool) → Bool
begun_by (commands.New segments) (Answered answer printed) begun = false
begun_by (commands.Format label date) (Answered status.Done printed) begun = false
begun_by (commands.Format label date) (Answered (status.DefectInFront segment) printed) begun = false
begun_by (commands.Format label date) (Stopped printed) begun = true
begun_by command ended begun = begun

abbrev pub begun_behind : Event → (begun : Bool) → Bool
begun_behind (Runs run) begun = begun_by run.command run.ended begun
begun_behind (Loses segment sector) begun = begun

-- .. and behind several
abbrev pub begun_behind_all : List Event → (begun : Bool) → Bool
begun_behind_all [] begun = begun
begun_behind_all (event ∷ events) begun = begun_behind_all events (begun_behind event begun)

-- ---- what the next run may rely on

-- The cartridge stands for these volumes, and each sector of its table's segment takes a write; its header copies are clean,
-- unless a formatting was stopped.
pub record IsSoundWith (begun : Bool) (c : Cartridge) (plain : Plain) : Type 0 where
  pub whole : IsCartridge c
  pub stands : Stands c plain
  pub live : IsTableLive c
  pub clean : begun ≡ false → HasCleanCopies c plain.header_area

-- No header copy of it can be read; both are bare, unless a formatting was stopped.
pub record IsWithout (begun : Bool) (c : Cartridge) : Type 0 where
  pub whole : IsCartridge c
  pub first : CopyDoesNotRead c 0
  pub second : CopyDoesNotRead c 1
  pub bare : begun ≡ false → HasNoHeader c

-- The drive holds what has these volumes; or, where none are listed, no cartridge or an unformatted one.
abbrev pub IsSound : (begun : Bool) → (held : Option Cartridge) → Option Plain → Type 0
IsSound begun None None = Unit {0}
IsSound begun None (Some plain) = ⊥
IsSound begun (Some c) None = IsWithout begun c
IsSound begun (Some c) (Some plain) = IsSoundWith begun c plain

-- ---- the premises on losses

-- A lost sector spares header and table of what the cartridge stands for; and where no header copy can be read, it is none
-- of these, unless they are bare.
pub record LossSpares (c : Cartridge) (segment sector : ℕ) : Type 0 where
  pub volumes : (plain : Plain) → Stands c plain → WearSpares c plain segment sector
  pub copies : CopyDoesNotRead c 0 → CopyDoesNotRead c 1 → (2 ≤ segment) ⊎ HasNoHeader c

-- a script that was stopped went no further than so many lines: by what it had printed, or by what it left
abbrev pub StopsAmong : (printed : Option (List ℕ)) → Cartridge → List Item → List Did → (last : List Act) → (count : ℕ) →
    (left : Option Cartridge) → Type 0
StopsAmong (Some text) c items dids last count left = GoesNoFurther items dids count (length text)
StopsAmong None c items dids last count left = ¬ (CameFurther c items dids last count left)

-- the lines that were carried out spare header and table: all of a script that was answered, and of one that was stopped so many
-- that it went no further
abbrev pub LinesSpare : Ended → Cartridge → Plain → List Item → List Did → (last : List Act) → (left : Option Cartridge) → Type 0
LinesSpare (Answered answer printed) c plain items dids last left = ItemsSpare c plain items dids
LinesSpare (Stopped printed) c plain items dids last left =
    (count : ℕ) × (count ≤ length items) × StopsAmong printed c items dids last count left × FirstSpare c plain items dids count

-- so does each sector that a command loses, up to where it ended
abbrev pub CommandSpares : Words → Ended → (input : List ℕ) → (left : Option Cartridge) → Cartridge → Type 0
CommandSpares (commands.Lose segment sector) ended input left c = HasPlace c segment sector → LossSpares c segment sector
CommandSpares commands.Script ended input left c =
    (plain : Plain) (run : CommandOutcome) → Stands c plain →
    (does : ScriptDoes (settled plain.table_area c) plain.words (entries_of plain) input run) →
    LinesSpare ended (settled plain.table_area c) plain does.items does.dids does.last left
CommandSpares command ended input left c = Unit {0}

-- formatting isn't stopped a second time before one was carried out
abbrev pub MayEnd : Words → Ended → (begun : Bool) → Type 0
MayEnd (commands.Format label date) (Stopped printed) begun = begun ≡ false
MayEnd command ended begun = Unit {0}

-- ---- what a run leaves

-- an answered one all steps of the plain machine's outcome, and another one what a stop in them leaves, or one in its acts once
-- this was printed
abbrev pub Leaves : Ended → CommandOutcome → (held left : Option Cartridge) → Type 0
Leaves (Answered answer printed) outcome held left =
    (outcome.status ≡ answer) × (output_of outcome ≡ printed) × (left ≡ effects (steps_of outcome.acts) held)
Leaves (Stopped (Some printed)) outcome (Some c) left = IsLeftBy c outcome.acts printed left
Leaves (Stopped printed) outcome held left = Torn (steps_of outcome.acts) held left

-- the plain machine ran
pub record HasRun (run : Run) (held left : Option Cartridge) : Type 0 where
  pub values : HasValues run.command
  pub outcome : CommandOutcome
  pub plain : Yields run.command held run.input outcome
  pub leaves : Leaves run.ended outcome held left

-- The premises: an input is one of bytes; the sectors that it loses spare header and table; and no formatting is stopped a second
-- time.
pub record IsWithin (run : Run) (begun : Bool) (held left : Option Cartridge) : Type 0 where
  pub bytes : All (λ b. b < 256) run.input
  pub spares : IfSome held (CommandSpares run.command run.ended run.input left)
  pub may_end : MayEnd run.command run.ended begun

abbrev pub Happens : Event → (begun : Bool) → (held left : Option Cartridge) → Type 0
Happens (Runs run) begun held left = HasRun run held left × IsWithin run begun held left
Happens (Loses segment sector) begun held left =
    (sector < 32) × (left ≡ effect (Wear segment sector) held) × IfSome held (λ c. LossSpares c segment sector)

-- each event happens to what the one before it left
abbrev pub Lives : List Event → (begun : Bool) → (held left : Option Cartridge) → Type 0
Lives [] begun held left = left ≡ held
Lives (event ∷ events) begun held left =
    (next : Option Cartridge) × Happens event begun held next × Lives events (begun_behind event begun) next left

-- ---- what a run makes of the volumes

-- the empty list that formatting makes, with the label, the date word, and a map that marks the cartridge's defects
pub record IsEmptied (c : Cartridge) (label : List ℕ) (date : ℕ) (after : Option Plain) : Type 0 where
  pub words : List ℕ
  pub area : List (List ℕ)
  pub fresh : IsFreshFor c label date words area
  pub is : after ≡ Some (fresh_plain c label date words area)

abbrev pub Renewed : Ended → (before after : Option Plain) → Type 0
Renewed (Answered answer printed) before after = after ≡ None
Renewed (Stopped printed) before after = (after ≡ before) ⊎ (after ≡ None)

-- formatting was carried out; or refused, over a defect in front once the old list was gone; or stopped
abbrev pub Formatted : (label : List ℕ) → (date : ℕ) → Cartridge → Ended → (before after : Option Plain) → Type 0
Formatted label date c (Answered answer printed) before after =
    ((answer ≡ status.Done) × IsEmptied c label date after)
    ⊎ (((segment : ℕ) × (answer ≡ status.DefectInFront segment)) × (after ≡ None))
    ⊎ ((answer ≡ status.Protected) × (after ≡ before))
Formatted label date c (Stopped printed) before after = (after ≡ before) ⊎ (after ≡ None) ⊎ IsEmptied c label date after

-- an append was carried out, or refused; where it was stopped, it is done or not
abbrev pub Appended : (one other : Plain) → Ended → (after : Option Plain) → Type 0
Appended one other (Answered answer printed) after =
    ((answer ≡ status.Done) × (after ≡ Some other)) ⊎ ((answer ≢ status.Done) × (after ≡ Some one))
Appended one other (Stopped printed) after = (after ≡ Some one) ⊎ (after ≡ Some other)

-- it is known to have printed anything
abbrev pub HasPrinted : Ended → Type 0
HasPrinted (Answered answer printed) = printed ≢ []
HasPrinted (Stopped (Some printed)) = printed ≢ []
HasPrinted (Stopped None) = ⊥

abbrev pub WasDone : Ended → Type 0
WasDone (Answered answer printed) = answer ≡ status.Done
WasDone (Stopped printed) = ⊥

-- the first ones of the generated volumes; all of them at Done, and once anything was printed
pub record VolumesMade (seed count : ℕ) (plain : Plain) (ended : Ended) (after : Option Plain) : Type 0 where
  pub made : ℕ
  pub within : made ≤ count
  pub all : WasDone ended ⊎ HasPrinted ended → made ≡ count
  pub is : after ≡ Some (with_made plain seed made)

-- the input of a script was carried out, up to its end or to the line at fault
abbrev pub WasHeard : Ended → Type 0
WasHeard (Answered answer printed) = IsHeard answer
WasHeard (Stopped printed) = ⊥

-- All lines are among so many once the input was carried out; and those whose reply was written whole, with at most one more.
abbrev pub AnsweredAmong : Ended → List Item → List Did → (count : ℕ) → Type 0
AnsweredAmong (Answered answer printed) items dids count = IsHeard answer → count ≡ length items
AnsweredAmong (Stopped (Some printed)) items dids count =
    ((n : ℕ) → n ≤ length items → printed_by dids n ≤ length printed → n ≤ count)
    × ((n : ℕ) → suc n ≤ count → printed_by dids n ≤ length printed)
AnsweredAmong (Stopped None) items dids count = Unit {0}

-- the appends of the first lines, by what the plain machine did
pub record SomeLines (c : Cartridge) (input : List ℕ) (plain : Plain) (ended : Ended) (after : Option Plain) : Type 0 where
  pub run : CommandOutcome
  pub does : ScriptDoes (settled plain.table_area c) plain.words (entries_of plain) input run
  pub count : ℕ
  pub within : count ≤ length does.items
  pub answered : AnsweredAmong ended does.items does.dids count
  pub is : after ≡ Some (with_items plain does.items does.dids count)

-- the lines were carried out; or the cartridge was refused, before the first of them
abbrev pub LinesOrRefusal : Cartridge → (input : List ℕ) → Plain → Ended → (after : Option Plain) → Type 0
LinesOrRefusal c input plain ended after =
    SomeLines c input plain ended after ⊎ (¬ (WasHeard ended) × ¬ (HasPrinted ended) × (after ≡ Some plain))

-- What a command adds to a list on a cartridge; the others keep it.
abbrev pub Adds : Words → Cartridge → (input : List ℕ) → Plain → Ended → (after : Option Plain) → Type 0
Adds (commands.Append name date) c input plain ended after = Appended plain (with_bytes plain name date input) ended after
Adds (commands.Make seed count) c input plain ended after = VolumesMade seed count plain ended after
Adds commands.Script c input plain ended after = LinesOrRefusal c input plain ended after
Adds command c input plain ended after = after ≡ Some plain

-- over no cartridge, an unformatted one, or one with a list
abbrev pub Changes : Words → (held : Option Cartridge) → (input : List ℕ) → Ended → (before after : Option Plain) → Type 0
Changes command None input ended before after = after ≡ before
Changes command (Some c) input ended None after = after ≡ None
Changes command (Some c) input ended (Some plain) after = Adds command c input plain ended after

abbrev pub Becomes : Words → (held : Option Cartridge) → (input : List ℕ) → Ended → (before after : Option Plain) → Type 0
Becomes (commands.New segments) held input ended before after = Renewed ended before after
Becomes (commands.Format label date) (Some c) input ended before after = Formatted label date c ended before after
Becomes command held input ended before after = Changes command held input ended before after

abbrev pub EventBecomes : Event → (held : Option Cartridge) → (before after : Option Plain) → Type 0
EventBecomes (Runs run) held before after = Becomes run.command held run.input run.ended before after
EventBecomes (Loses segment sector) held before after = after ≡ before

-- each event makes this of the volumes that stood behind the one before it
abbrev pub BecomesAll : (events : List Event) (begun : Bool) (held left : Option Cartridge) → Lives events begun held left →
    (before after : Option Plain) → Type 0
BecomesAll [] begun held left life before after = after ≡ before
BecomesAll (event ∷ events) begun held left life before after =
    (now : Option Plain) × EventBecomes event held before now × IsSound (begun_behind event begun) life.0 now
    × BecomesAll events (begun_behind event begun) life.0 left life.2 now after

-- ---- the law

-- Behind each event of a life, stopped where it may, the cartridge stands for the volumes that the answered commands made,
-- with those of the one that was stopped or not.
abbrev pub ALife : Type 0
ALife =
    (events : List Event) (begun : Bool) (held left : Option Cartridge) (before : Option Plain) →
    IsSound begun held before → (life : Lives events begun held left) →
    (after : Option Plain) × BecomesAll events begun held left life before after × IsSound (begun_behind_all events begun) left after
