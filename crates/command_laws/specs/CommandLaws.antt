-- The laws of the plain machine, as facts (this project's own).
use Rattle.std.specs.Prelude.{All, ◌<◌, ◌≡◌, ℕ, List, Option, Some, IfSome, IsSomeAnd}
use Rattle.cartridge_laws.specs.ChangeSteps.{HasNoRenew}
use Rattle.cartridge_spec.specs.Formatting.{HasCleanCopies, HasNoHeader}
use Rattle.cartridge_spec.specs.Shape.{IsArea}
use Rattle.command_spec.specs.Machine.{Step, HasValues}
use Rattle.command_spec.specs.Outcome.{CommandOutcome}
use Rattle.command_laws.specs.CommandFields.{KeepsCopies, KeepsLive, Yields, CanBeDone}
use Rattle.command_spec.specs.declared.status.Status.{Status}
use Rattle.command_spec.specs.declared.words.Words.{Words}
use Rattle.qic_base.specs.Acts.{steps_of}
use Rattle.qic_base.specs.Cartridge.{Cartridge}
use Rattle.qic_base.specs.CartridgeTerms.{IsCartridge}
use Rattle.qic_base.specs.Step.{Torn}
use Rattle.command_spec.specs.declared.status.Status.TheVariants as status

-- two outcomes of a step are one: what is held then, the output, how many bytes were taken, and the status
pub record IsSameOutcome (held other : Option Cartridge) (output printed : List ℕ) (taken read : ℕ) (status answer : Status) : Type 0 where
  pub same_held : held ≡ other
  pub same_output : output ≡ printed
  pub same_taken : taken ≡ read
  pub same_status : status ≡ answer

-- The machine is a function: over the same words, held cartridge and input two steps have the same outcome.
abbrev pub MachineIsFunction : Type 0
MachineIsFunction =
    (words : List (List ℕ)) (held : Option Cartridge) (input : List ℕ)
    (held' other : Option Cartridge) (output printed : List ℕ) (taken read : ℕ) (status answer : Status) →
    Step words held input held' output taken status →
    Step words held input other printed read answer →
    IsSameOutcome held' other output printed taken read status answer

-- The machine answers: over any words, a whole cartridge or none, and any input some step takes place.
abbrev pub MachineAnswers : Type 0
MachineAnswers =
    (words : List (List ℕ)) (held : Option Cartridge) (input : List ℕ) → IfSome held IsCartridge →
    (held' : Option Cartridge) × ((output : List ℕ) × ((taken : ℕ) × ((status : Status) × Step words held input held' output taken status)))

-- a command has one outcome over what the drive holds and an input
abbrev pub OneOutcome : Type 0
OneOutcome =
    (command : Words) (held : Option Cartridge) (input : List ℕ) (one other : CommandOutcome) →
    Yields command held input one → Yields command held input other → one ≡ other

-- where all is there that a command needs it is carried out
abbrev pub DoneWhereAllIsThere : Type 0
DoneWhereAllIsThere =
    (command : Words) (held : Option Cartridge) (input : List ℕ) (outcome : CommandOutcome) → IfSome held IsCartridge → HasValues command →
    CanBeDone command held input → Yields command held input outcome → outcome.status ≡ status.Done

-- a command that keeps it that the sectors of the table's segment take writes, as each but `new` does, puts in no new cartridge
abbrev pub OnlyNewRenews : Type 0
OnlyNewRenews =
    (command : Words) (held : Option Cartridge) (input : List ℕ) (outcome : CommandOutcome) →
    KeepsLive command → Yields command held input outcome → HasNoRenew (steps_of outcome.acts)

-- what is left of a whole cartridge, or of none, is a whole one or none, at any moment of a command over an input of bytes
abbrev pub LeavesWhole : Type 0
LeavesWhole =
    (command : Words) (held left : Option Cartridge) (input : List ℕ) (outcome : CommandOutcome) → HasValues command →
    All (λ b. b < 256) input →
    IfSome held IsCartridge → Yields command held input outcome → Torn (steps_of outcome.acts) held left → IfSome left IsCartridge

-- ---- header copies

-- clean ones stay clean at any moment of a command but `new` and `format`, ..
abbrev pub CopiesStayClean : Type 0
CopiesStayClean =
    (command : Words) (c : Cartridge) (input : List ℕ) (outcome : CommandOutcome) (area : List (List ℕ)) (left : Option Cartridge) →
    KeepsCopies command c → Yields command (Some c) input outcome → IsArea area → HasCleanCopies c area →
    Torn (steps_of outcome.acts) (Some c) left → IsSomeAnd left (λ d. HasCleanCopies d area)

-- .. and bare ones bare
abbrev pub CopiesStayBare : Type 0
CopiesStayBare =
    (command : Words) (c : Cartridge) (input : List ℕ) (outcome : CommandOutcome) (left : Option Cartridge) → KeepsCopies command c →
    Yields command (Some c) input outcome → HasNoHeader c → Torn (steps_of outcome.acts) (Some c) left → IsSomeAnd left HasNoHeader
