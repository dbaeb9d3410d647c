-- A mounted cartridge whose whole table holds what it should, so that one sector more of the table's segment may be lost; and what
-- generated runs and scripts leave of it, as facts (this project's own).
use Rattle.std.specs.Prelude.{◌≡◌, ◌⊎◌, ◌<◌, ◌≤◌, ℕ, List, All, Option, Some, IsSomeAnd, length, take, drop, true, ◌≢◌, ◌++◌, []}
use Rattle.cartridge_laws.specs.AppendBetween.{IsWhole}
use Rattle.cartridge_laws.specs.AppendLaws.{IsAppendable, with_content}
use Rattle.cartridge_spec.specs.Appending.{Content, has_room}
use Rattle.cartridge_spec.specs.Mounting.{settled, ComesBackAs}
use Rattle.cartridge_spec.specs.TableSegment.{LosesOneAlone}
use Rattle.cartridge_spec.specs.Settling.{changed_by}
use Rattle.cartridge_spec.specs.Volumes.{Plain, entries_of, worn, WearSpares}
use Rattle.command_laws.specs.ActStops.{IsLeftBy}
use Rattle.command_laws.specs.MountedKept.{IsKept, settle_and_append}
use Rattle.command_laws.specs.MadeTerms.{Makes}
use Rattle.command_spec.specs.OneLoss.{ComesBackAsOneOf, SettlingAppend, SomeComeBack, steps_until}
use Rattle.command_spec.specs.Script.{ScriptDoes}
use Rattle.command_spec.specs.Outcome.{CommandOutcome}
use Rattle.command_spec.specs.ScriptLists.{CameFurther, GoesNoFurther, printed_by, FirstSpare, ItemsSpare, ItemsSpareTable, with_items}
use Rattle.command_spec.specs.Scrub.{ScrubsAs}
use Rattle.qic_base.specs.Acts.{Act, steps_of, next_steps, text_of}
use Rattle.qic_base.specs.Cartridge.{Cartridge}
use Rattle.qic_base.specs.Step.{Torn}
use Rattle.command_spec.specs.declared.status.Status.{Status}
use Rattle.command_spec.specs.declared.depth.Depth.TheVariants.{Shallow}
use Rattle.command_spec.specs.Make.{with_made}
use Rattle.command_spec.specs.declared.status.Status.TheVariants as status

-- all 32 sectors of its table's segment hold their parts of the table
pub record IsIntact (c : Cartridge) (plain : Plain) : Type 0 where
  pub kept : IsKept c plain
  pub table : IsWhole c plain.table_area

-- so it is once its table was settled, ..
abbrev pub SettledIsIntact : Type 0
SettledIsIntact = (c : Cartridge) (plain : Plain) → IsKept c plain → IsIntact (settled plain.table_area c) plain

-- .. and then it comes back where one of these sectors is lost
abbrev pub IntactComesBack : Type 0
IntactComesBack =
    (c : Cartridge) (plain : Plain) (f : Cartridge) (lost : ℕ) → IsIntact c plain → LosesOneAlone c f lost → ComesBackAs f plain

-- an append leaves it so with the volume; where it is stopped, it comes back as one of the two
pub record AppendLeavesIntact (c : Cartridge) (plain : Plain) (content : Content) : Type 0 where
  pub done : IsIntact (changed_by (settle_and_append c plain content) c) (with_content plain content)
  pub stopped : (left : Option Cartridge) → Torn (settle_and_append c plain content) (Some c) left →
      IsSomeAnd left (ComesBackAsOneOf plain (with_content plain content))

abbrev pub AppendsLeaveIntact : Type 0
AppendsLeaveIntact =
    (c : Cartridge) (plain : Plain) (content : Content) → IsIntact c plain → IsAppendable content →
    has_room plain (length content.bytes) ≡ true → AppendLeavesIntact c plain content

-- so does a sector that is worn in no sector of the table's segment, and spares the header, and a scrub, stopped or not
abbrev pub WearsLeaveIntact : Type 0
WearsLeaveIntact =
    (c : Cartridge) (plain : Plain) (segment sector : ℕ) → IsIntact c plain → WearSpares c plain segment sector → segment ≢ 2 →
    sector < 32 → IsIntact (worn segment sector c) plain

pub record ScrubLeavesIntact (c : Cartridge) (plain : Plain) (acts : List Act) : Type 0 where
  pub done : IsIntact (changed_by (steps_of acts) c) plain
  pub stopped : (left : Option Cartridge) → Torn (steps_of acts) (Some c) left → IsSomeAnd left (ComesBackAsOneOf plain plain)

abbrev pub ScrubsLeaveIntact : Type 0
ScrubsLeaveIntact =
    (c : Cartridge) (plain : Plain) (acts : List Act) → IsIntact c plain → ScrubsAs Shallow c plain.words (entries_of plain) acts →
    ScrubLeavesIntact c plain acts

-- ---- generated runs

-- one that is stopped leaves what comes back with some of its volumes, ..
abbrev pub StoppedMakeComesBack : Type 0
StoppedMakeComesBack =
    (seed count : ℕ) (c : Cartridge) (plain : Plain) (acts : List Act) (answer : Status) (left : Option Cartridge) →
    count ≤ 200 → IsIntact c plain → Makes seed count c plain.words (entries_of plain) acts answer →
    Torn (steps_of acts) (Some c) left → SomeComeBack (with_made plain seed) 0 count left

-- .. with all, where something was printed before the stop, which may come inside the steps of the next act, ..
abbrev pub PrintedMakeComesBack : Type 0
PrintedMakeComesBack =
    (seed count : ℕ) (c : Cartridge) (plain : Plain) (acts front rest : List Act) (answer : Status)
    (left : Option Cartridge) → count ≤ 200 → IsIntact c plain →
    Makes seed count c plain.words (entries_of plain) acts answer → front ++ rest ≡ acts → text_of front ≢ [] →
    Torn (next_steps rest) (Some (changed_by (steps_of front) c)) left →
    SomeComeBack (with_made plain seed) count count left

-- .. and where it was carried out
abbrev pub DoneMakeIsIntact : Type 0
DoneMakeIsIntact =
    (seed count : ℕ) (c : Cartridge) (plain : Plain) (acts : List Act) → count ≤ 200 → IsIntact c plain →
    Makes seed count c plain.words (entries_of plain) acts status.Done →
    IsIntact (changed_by (steps_of acts) c) (with_made plain seed count)

-- ---- scripts

-- One whose first lines spare the header, and wear no sector of the table's segment, leaves what comes back behind some of
-- these, or the stop came further.
abbrev pub StoppedScriptComesBack : Type 0
StoppedScriptComesBack =
    (c : Cartridge) (plain : Plain) (input : List ℕ) (outcome : CommandOutcome) (left : Option Cartridge) →
    IsIntact c plain → (does : ScriptDoes c plain.words (entries_of plain) input outcome) → All (λ b. b < 256) input →
    (count : ℕ) → count ≤ length does.items → FirstSpare c plain does.items does.dids count →
    ItemsSpareTable (take count does.items) →
    Torn (steps_of outcome.acts) (Some c) left →
    CameFurther c does.items does.dids does.last count left
    ⊎ SomeComeBack (with_items plain does.items does.dids) 0 count left

-- Where it was cut off once this was written, and the lines that it went no further than are these, all lines whose
-- reply was written whole are among those.
abbrev pub AnsweredScriptComesBack : Type 0
AnsweredScriptComesBack =
    (c : Cartridge) (plain : Plain) (input : List ℕ) (outcome : CommandOutcome) (text : List ℕ) (left : Option Cartridge) →
    IsIntact c plain → (does : ScriptDoes c plain.words (entries_of plain) input outcome) → All (λ b. b < 256) input →
    (answered count : ℕ) → answered ≤ length does.items → printed_by does.dids answered ≤ length text →
    count ≤ length does.items → GoesNoFurther does.items does.dids count (length text) →
    FirstSpare c plain does.items does.dids count → ItemsSpareTable (take count does.items) → IsLeftBy c outcome.acts text left →
    SomeComeBack (with_items plain does.items does.dids) answered count left

-- and all lines, where all of it was done
abbrev pub DoneScriptComesBack : Type 0
DoneScriptComesBack =
    (c : Cartridge) (plain : Plain) (input : List ℕ) (outcome : CommandOutcome) → IsIntact c plain →
    (does : ScriptDoes c plain.words (entries_of plain) input outcome) → All (λ b. b < 256) input →
    ItemsSpare c plain does.items does.dids → ItemsSpareTable does.items →
    SomeComeBack (with_items plain does.items does.dids) (length does.items) (length does.items)
    (Some (changed_by (steps_of outcome.acts) c))

-- ---- behind an append of a script

-- Where a line is an append that finds its table, so much is asked only of the lines behind it: it settles the table again. The stop
-- comes before the end of that settling, or it leaves what comes back behind the lines from that one on.
abbrev pub StoppedBehindAppend : Type 0
StoppedBehindAppend =
    (c : Cartridge) (plain : Plain) (input : List ℕ) (outcome : CommandOutcome) (left : Option Cartridge) →
    IsIntact c plain → (does : ScriptDoes c plain.words (entries_of plain) input outcome) → All (λ b. b < 256) input →
    (count : ℕ) → count ≤ length does.items → FirstSpare c plain does.items does.dids count →
    (append : SettlingAppend c does.items does.dids count) → ItemsSpareTable (drop append.at (take count does.items)) →
    Torn (steps_of outcome.acts) (Some c) left →
    CameFurther c does.items does.dids does.last count left
    ⊎ Torn (steps_until [] (Some append)) (Some c) left
    ⊎ SomeComeBack (with_items plain does.items does.dids) append.at count left

-- So it is where it was cut off once this was written: with the reply to that append it was settled.
abbrev pub AnsweredBehindAppend : Type 0
AnsweredBehindAppend =
    (c : Cartridge) (plain : Plain) (input : List ℕ) (outcome : CommandOutcome) (text : List ℕ) (left : Option Cartridge) →
    IsIntact c plain → (does : ScriptDoes c plain.words (entries_of plain) input outcome) → All (λ b. b < 256) input →
    (answered count : ℕ) → answered ≤ length does.items → printed_by does.dids answered ≤ length text →
    count ≤ length does.items → GoesNoFurther does.items does.dids count (length text) →
    FirstSpare c plain does.items does.dids count → (append : SettlingAppend c does.items does.dids count) → append.at ≤ answered →
    ItemsSpareTable (drop append.at (take count does.items)) → IsLeftBy c outcome.acts text left →
    ((answered ≡ append.at) × Torn (steps_until [] (Some append)) (Some c) left)
    ⊎ SomeComeBack (with_items plain does.items does.dids) answered count left

-- and all lines, where all of it was done
abbrev pub DoneBehindAppend : Type 0
DoneBehindAppend =
    (c : Cartridge) (plain : Plain) (input : List ℕ) (outcome : CommandOutcome) → IsIntact c plain →
    (does : ScriptDoes c plain.words (entries_of plain) input outcome) → All (λ b. b < 256) input →
    ItemsSpare c plain does.items does.dids → (append : SettlingAppend c does.items does.dids (length does.items)) →
    ItemsSpareTable (drop append.at does.items) →
    SomeComeBack (with_items plain does.items does.dids) (length does.items) (length does.items)
    (Some (changed_by (steps_of outcome.acts) c))
