-- What scrubbing does in either form, and what a deep scrub leaves, done or stopped, as facts.
use Rattle.std.specs.Prelude.{◌≡◌, ◌⊎◌, ℕ, false, List, [], ◌↔◌, Option, Some, IsSomeAnd}
use Rattle.cartridge_laws.specs.AppendSettled.{IsSettledFor}
use Rattle.cartridge_laws.specs.Table.{IsSoundList}
use Rattle.cartridge_spec.specs.Header.{Header}
use Rattle.cartridge_spec.specs.TableSegment.{TableIs}
use Rattle.cartridge_spec.specs.Mounting.{Mounted, Mounts, mounted_as, settled}
use Rattle.cartridge_spec.specs.Settling.{changed_by, settling_steps}
use Rattle.cartridge_spec.specs.Table.{Entry}
use Rattle.cartridge_spec.specs.Formatting.{StandsCleanly}
use Rattle.cartridge_spec.specs.Volumes.{Plain, Stands, entries_of}
use Rattle.command_laws.specs.ScrubFound.{FindAtOnce, finds_at_once, without_all, IsBeingScrubbed}
use Rattle.command_laws.specs.ScrubLaws.{AreAllLive}
use Rattle.command_laws.specs.ScrubMended.{IsScrubbed}
use Rattle.command_laws.specs.SilentSectors.{DiffersSilently}
use Rattle.command_laws.specs.CommandFields.{Yields}
use Rattle.command_laws.specs.ScrubPlain.{Scrubs}
use Rattle.command_spec.specs.Outcome.{CommandOutcome}
use Rattle.command_spec.specs.Scrub.{Looked, looked_at, Finding, FindInTurn, MayBeFound, IsWrong, ScrubsAs, finding_acts, ScrubsBy}
use Rattle.command_spec.specs.Scrub.{whole_segment}
use Rattle.command_spec.specs.declared.depth.Depth.{Depth}
use Rattle.command_spec.specs.declared.depth.Depth.TheVariants.{Shallow, Deep}
use Rattle.qic_base.specs.Acts.{Act, steps_of}
use Rattle.qic_base.specs.Cartridge.{Cartridge}
use Rattle.qic_base.specs.CartridgeTerms.{IsCartridge}
use Rattle.qic_base.specs.Step.{Torn}
use Rattle.command_spec.specs.declared.status.Status.TheVariants as status
use Rattle.command_spec.specs.declared.words.Words.TheVariants as commands

-- ---- what it does

-- without a search for wrong sectors it is a scrub
abbrev pub ShallowIsScrub : Type 0
ShallowIsScrub =
    (c : Cartridge) (words : List ℕ) (entries : List Entry) (acts : List Act) →
    ScrubsAs Shallow c words entries acts ↔ Scrubs c words entries acts

-- what is found is what may be found
abbrev pub FoundMayBe : Type 0
FoundMayBe =
    (depth : Depth) (c : Cartridge) (looked : List Looked) (findings : List Finding) → FindInTurn depth c looked findings →
    MayBeFound depth looked findings

-- scrubbing a cartridge in a form is one list of acts: at most one sector of a segment is wrong
abbrev pub FormIsFunction : Type 0
FormIsFunction =
    (depth : Depth) (c : Cartridge) (words : List ℕ) (entries : List Entry) (a b : List Act) → ScrubsAs depth c words entries a →
    ScrubsAs depth c words entries b → a ≡ b

-- and there is one
abbrev pub FormAlways : Type 0
FormAlways =
    (depth : Depth) (c : Cartridge) (words : List ℕ) (entries : List Entry) → IsCartridge c →
    (acts : List Act) × ScrubsAs depth c words entries acts

-- the segments that are looked at ascend, so what is found of each, and what is done in it, follows from the cartridge as it
-- was before the first write
abbrev pub FindsAtOnce : Type 0
FindsAtOnce =
    (depth : Depth) (c : Cartridge) (words : List ℕ) (entries : List Entry) (last : ℕ) (acts : List Act) → IsSoundList last entries →
    (scrubs : ScrubsAs depth c words entries acts) →
    FindAtOnce depth c (looked_at words entries) scrubs.findings
    × (finding_acts c (looked_at words entries) scrubs.findings ≡ finds_at_once c (looked_at words entries) scrubs.findings)

-- ---- all steps done

-- With the wrong sectors lost, each unreadable usable sector of a segment that is looked at and reads holds its sector of the
-- block, where it takes a write; nothing else changes.
abbrev pub DoneInForm : Type 0
DoneInForm =
    (depth : Depth) (c : Cartridge) (words : List ℕ) (entries : List Entry) (last : ℕ) (acts : List Act) → IsSoundList last entries →
    (scrubs : ScrubsAs depth c words entries acts) →
    IsScrubbed (looked_at words entries) (without_all c (looked_at words entries) scrubs.findings) (changed_by (steps_of acts) c)

-- what is left is a cartridge
abbrev pub DoneFormIsCartridge : Type 0
DoneFormIsCartridge =
    (depth : Depth) (c : Cartridge) (words : List ℕ) (entries : List Entry) (acts : List Act) → IsCartridge c →
    ScrubsAs depth c words entries acts → IsCartridge (changed_by (steps_of acts) c)

-- a cartridge that stands for a plain one stands for it still, ..
abbrev pub DoneFormStands : Type 0
DoneFormStands =
    (depth : Depth) (c : Cartridge) (plain : Plain) (acts : List Act) → Stands c plain →
    ScrubsAs depth c plain.words (entries_of plain) acts →
    Stands (changed_by (steps_of acts) c) plain

-- .. with header copies that formatting may begin over, where they were so
abbrev pub DoneFormIsClean : Type 0
DoneFormIsClean =
    (depth : Depth) (c : Cartridge) (plain : Plain) (acts : List Act) → StandsCleanly c plain →
    ScrubsAs depth c plain.words (entries_of plain) acts → StandsCleanly (changed_by (steps_of acts) c) plain

-- the table reads the same, and stays settled: no wrong sector is looked for in it
abbrev pub DoneFormTable : Type 0
DoneFormTable =
    (depth : Depth) (c : Cartridge) (words : List ℕ) (entries : List Entry) (last : ℕ) (acts : List Act) (area : List (List ℕ)) →
    IsSoundList last entries → ScrubsAs depth c words entries acts → TableIs c area → TableIs (changed_by (steps_of acts) c) area

abbrev pub DoneFormIsSettled : Type 0
DoneFormIsSettled =
    (depth : Depth) (c : Cartridge) (words : List ℕ) (entries : List Entry) (last : ℕ) (acts : List Act) (area : List (List ℕ)) →
    IsSoundList last entries → ScrubsAs depth c words entries acts → IsSettledFor c area →
    IsSettledFor (changed_by (steps_of acts) c) area

-- no sector of the first header copy is wrong
abbrev pub IsFirstCopyRight : Cartridge → Type 0
IsFirstCopyRight c = (sector : ℕ) (sectors : List (List ℕ)) → ¬ (IsWrong c (whole_segment 0) sector sectors)

-- that of a cartridge that stands for a plain one is right, so `scrub deep` also keeps what it is mounted as
abbrev pub FirstCopyIsRight : Type 0
FirstCopyIsRight = (c : Cartridge) (plain : Plain) → Stands c plain → IsFirstCopyRight c

-- ---- silent sectors

-- What differs from a cartridge that stands for a plain one in sectors that silently hold other bytes is mounted as that one, ..
abbrev pub SilentSectorsAreMounted : Type 0
SilentSectorsAreMounted =
    (k c : Cartridge) (plain : Plain) → Stands k plain → Mounts k (mounted_as plain) → DiffersSilently k c plain →
    Mounts c (mounted_as plain)

-- .. and behind a deep scrub it stands for the plain one
abbrev pub SilentSectorsAreMended : Type 0
SilentSectorsAreMended =
    (k c : Cartridge) (plain : Plain) (acts : List Act) → Stands k plain → DiffersSilently k c plain →
    ScrubsAs Deep c plain.words (entries_of plain) acts → Stands (changed_by (steps_of acts) c) plain

-- so what `scrub deep` makes of such a cartridge stands, where the table of the other was settled
abbrev pub SilentSectorsEnd : Type 0
SilentSectorsEnd =
    (k c : Cartridge) (plain : Plain) (outcome : CommandOutcome) → Stands k plain → IsSettledFor k plain.table_area →
    c.info.protected ≡ false → DiffersSilently k c plain →
    ScrubsBy Deep c plain.header plain.words plain.table_area (entries_of plain) outcome →
    Stands (changed_by (steps_of outcome.acts) c) plain

-- The command `scrub deep` is carried out on each such cartridge that isn't protected, and what it leaves stands.
abbrev pub DeepScrubMends : Type 0
DeepScrubMends =
    (k c : Cartridge) (plain : Plain) (input : List ℕ) (outcome : CommandOutcome) → Stands k plain → IsSettledFor k plain.table_area →
    DiffersSilently k c plain → c.info.protected ≡ false → Yields commands.ScrubDeep (Some c) input outcome →
    (outcome.status ≡ status.Done) × Stands (changed_by (steps_of outcome.acts) c) plain

-- ---- a second scrub

-- where each usable sector of the segments that are looked at takes what is written to it, a second scrub in the same form
-- writes nothing
abbrev pub SecondFormWritesNothing : Type 0
SecondFormWritesNothing =
    (depth : Depth) (c : Cartridge) (words : List ℕ) (entries : List Entry) (last : ℕ) (acts again : List Act) → IsSoundList last entries →
    AreAllLive c (looked_at words entries) → ScrubsAs depth c words entries acts →
    ScrubsAs depth (changed_by (steps_of acts) c) words entries again → steps_of again ≡ []

-- ---- a stop

-- a stop among the steps, or behind the last, leaves each sector as it was, but for those to be written, which may be lost or
-- hold their sector of the block
abbrev pub StoppedInForm : Type 0
StoppedInForm =
    (depth : Depth) (c : Cartridge) (words : List ℕ) (entries : List Entry) (last : ℕ) (acts : List Act) (left : Option Cartridge) →
    IsSoundList last entries → (scrubs : ScrubsAs depth c words entries acts) → Torn (steps_of acts) (Some c) left →
    IsSomeAnd left (IsBeingScrubbed (looked_at words entries) (without_all c (looked_at words entries) scrubs.findings) c)

abbrev pub StoppedFormIsCartridge : Type 0
StoppedFormIsCartridge =
    (depth : Depth) (c : Cartridge) (words : List ℕ) (entries : List Entry) (acts : List Act) (left : Option Cartridge) → IsCartridge c →
    ScrubsAs depth c words entries acts → Torn (steps_of acts) (Some c) left → IsSomeAnd left IsCartridge

-- a cartridge that stands for a plain one stands for it still, ..
abbrev pub StoppedFormStands : Type 0
StoppedFormStands =
    (depth : Depth) (c : Cartridge) (plain : Plain) (acts : List Act) (left : Option Cartridge) → Stands c plain →
    ScrubsAs depth c plain.words (entries_of plain) acts → Torn (steps_of acts) (Some c) left → IsSomeAnd left (λ d. Stands d plain)

-- .. with header copies that formatting may begin over, where they were so
abbrev pub StoppedFormIsClean : Type 0
StoppedFormIsClean =
    (depth : Depth) (c : Cartridge) (plain : Plain) (acts : List Act) (left : Option Cartridge) → StandsCleanly c plain →
    ScrubsAs depth c plain.words (entries_of plain) acts → Torn (steps_of acts) (Some c) left →
    IsSomeAnd left (λ d. StandsCleanly d plain)

-- the table reads the same, and stays settled
abbrev pub StoppedFormTable : Type 0
StoppedFormTable =
    (depth : Depth) (c : Cartridge) (words : List ℕ) (entries : List Entry) (last : ℕ) (acts : List Act) (area : List (List ℕ))
    (left : Option Cartridge) → IsSoundList last entries → ScrubsAs depth c words entries acts → TableIs c area →
    Torn (steps_of acts) (Some c) left → IsSomeAnd left (λ d. TableIs d area)

abbrev pub StoppedFormIsSettled : Type 0
StoppedFormIsSettled =
    (depth : Depth) (c : Cartridge) (words : List ℕ) (entries : List Entry) (last : ℕ) (acts : List Act) (area : List (List ℕ))
    (left : Option Cartridge) → IsSoundList last entries → ScrubsAs depth c words entries acts → IsSettledFor c area →
    Torn (steps_of acts) (Some c) left → IsSomeAnd left (λ d. IsSettledFor d area)

-- a cartridge while the sectors that were found on it are written
pub record IsBeingScrubbedDeep (c : Cartridge) (words : List ℕ) (entries : List Entry) (d : Cartridge) : Type 0 where
  pub findings : List Finding
  pub found : FindAtOnce Deep c (looked_at words entries) findings
  pub scrubbed : IsBeingScrubbed (looked_at words entries) (without_all c (looked_at words entries) findings) c d

-- the settling was stopped, or the scrubbing behind it
pub record IsStoppedDeep (c : Cartridge) (left : Option Cartridge) : Type 0 where
  pub header : Header
  pub words : List ℕ
  pub table : List (List ℕ)
  pub entries : List Entry
  pub mounts : Mounts c (Mounted header words table entries)
  pub stopped : Torn (settling_steps table c) (Some c) left ⊎ IsSomeAnd left (IsBeingScrubbedDeep (settled table c) words entries)

-- so is what a stop in the command `scrub deep` leaves of any cartridge, or nothing was done
abbrev pub DeepScrubStopped : Type 0
DeepScrubStopped =
    (c : Cartridge) (input : List ℕ) (outcome : CommandOutcome) (left : Option Cartridge) →
    Yields commands.ScrubDeep (Some c) input outcome →
    Torn (steps_of outcome.acts) (Some c) left → (left ≡ Some c) ⊎ IsStoppedDeep c left
