-- All that a theorem over all commands asks of one: the laws of a command, in one record.
use Rattle.std.specs.Prelude.{All, ◌<◌, length, ◌≤◌, true, None, ◌≡◌, ◌++◌, ℕ, List, [], Option, Some, IfSome, IsSomeAnd, false, Bool}
use Rattle.cartridge_laws.specs.ChangeSteps.{HasNoRenew}
use Rattle.cartridge_spec.specs.Formatting.{IsFirstDefectInFront, HasCleanCopies, HasNoHeader}
use Rattle.cartridge_spec.specs.Header.{Header}
use Rattle.cartridge_spec.specs.Shape.{IsArea}
use Rattle.cartridge_spec.specs.Mounting.{Mounted, Mounts}
use Rattle.cartridge_spec.specs.Table.{Entry}
use Rattle.cartridge_spec.specs.Volumes.{Plain, Stands}
use Rattle.command_spec.specs.Command.{Command, HasForm}
use Rattle.command_spec.specs.Outcome.{CommandOutcome, refused}
use Rattle.command_spec.specs.declared.status.Status.{Status}
use Rattle.qic_base.specs.Acts.{steps_of}
use Rattle.qic_base.specs.Cartridge.{Cartridge}
use Rattle.qic_base.specs.CartridgeTerms.{IsCartridge}
use Rattle.qic_base.specs.Step.{Torn}
use Rattle.cartridge_laws.specs.HeaderTerms.{NeitherReads}
use Rattle.command_spec.specs.declared.status.Status.TheVariants as status

-- what was found is told with its counts
abbrev pub is_unsound : Status → Bool
is_unsound (status.Unsound mendable bad) = true
is_unsound answer = false

-- What it prints hangs together: before its first act nothing is printed, but where counts are told, and nothing is a front of its
-- text; so is all of it, a front of a front, and what it has printed that was refused.
pub record TextLaws (prints fronts : List ℕ → Type 0) (refused : Status → List ℕ → Type 0) : Type 0 where
  pub none_printed : (answer : Status) → is_unsound answer ≡ false → refused answer []
  pub nothing_front : fronts []
  pub text_front : (text : List ℕ) → prints text → fronts text
  pub shorter_front : (front rest text : List ℕ) → front ++ rest ≡ text → fronts text → fronts front
  pub refused_front : (answer : Status) (text : List ℕ) → refused answer text → fronts text

-- It goes by no input: it does over one what it does over any, appends none, reads no lines, and finds no fault.
pub record IsBlind (command : Command) : Type 0 where
  pub any : (held : Option Cartridge) (input other : List ℕ) (outcome : CommandOutcome) → command.yields held input outcome →
      command.yields held other outcome
  pub no_append : command.traits.appends ≡ false
  pub no_lines : command.traits.lines ≡ false
  pub no_fault : (input : List ℕ) (line place : ℕ) → ¬ (command.fault input line place)

-- each cartridge that is left, at any moment of it, over this one is so
abbrev pub LeavesEach : (command : Command) (c : Cartridge) (P : Cartridge → Type 0) → Type 0
LeavesEach command c P =
    (input : List ℕ) (outcome : CommandOutcome) (left : Option Cartridge) → command.yields (Some c) input outcome →
    Torn (steps_of outcome.acts) (Some c) left → IsSomeAnd left P

pub record CommandLaws (command : Command) : Type 0 where
  -- its words give it its values
  pub values : (words : List (List ℕ)) → HasForm words command.forms → command.values
  -- they are one to three
  pub few_words : (words : List (List ℕ)) → HasForm words command.forms → (1 ≤ length words) × (length words ≤ 3)
  -- it has an outcome over what a drive can hold, and one alone
  pub answers : (held : Option Cartridge) (input : List ℕ) → command.values → IfSome held IsCartridge →
      (outcome : CommandOutcome) × command.yields held input outcome
  pub one : (held : Option Cartridge) (input : List ℕ) (a b : CommandOutcome) → command.yields held input a → command.yields held input b →
      a ≡ b
  -- a missing cartridge and a protected one stop those that need one, and one that takes writes
  pub none_held : command.traits.cartridge ≡ true → (input : List ℕ) (outcome : CommandOutcome) → command.yields None input outcome →
      outcome ≡ refused status.NoCartridge
  pub locked : command.traits.writable ≡ true → (c : Cartridge) (input : List ℕ) (outcome : CommandOutcome) → c.info.protected ≡ true →
      command.yields (Some c) input outcome → outcome ≡ refused status.Protected
  -- a defect in front stops one that formats
  pub in_front : command.traits.formats ≡ true → (c : Cartridge) (segment : ℕ) (input : List ℕ) (outcome : CommandOutcome) →
      c.info.protected ≡ false →
      IsFirstDefectInFront c segment → command.yields (Some c) input outcome → outcome.status ≡ status.DefectInFront segment
  -- it is carried out where all is there that it needs
  pub done : (held : Option Cartridge) (input : List ℕ) (outcome : CommandOutcome) → IfSome held IsCartridge → command.values →
      command.needs held input → command.yields held input outcome → outcome.status ≡ status.Done
  pub texts : TextLaws command.prints command.fronts command.refused
  pub blind : command.traits.reads ≡ false → IsBlind command
  -- what it keeps is kept in each cartridge that it leaves: what the cartridge stood for, what it was mounted as, header copies that
  -- are clean, bare, or such that neither can be read
  pub stands : (c : Cartridge) (plain : Plain) → command.keeps_volumes c plain → Stands c plain → LeavesEach command c (λ d. Stands d plain)
  pub mounts : (c : Cartridge) (header : Header) (map_words : List ℕ) (table : List (List ℕ)) (entries : List Entry) →
      command.keeps_list c →
      Mounts c (Mounted header map_words table entries) → LeavesEach command c (λ d. Mounts d (Mounted header map_words table entries))
  pub clean : (c : Cartridge) (area : List (List ℕ)) → command.keeps_copies c → IsArea area → HasCleanCopies c area →
      LeavesEach command c (λ d. HasCleanCopies d area)
  pub bare : (c : Cartridge) → command.keeps_copies c → HasNoHeader c → LeavesEach command c HasNoHeader
  pub unread : (c : Cartridge) → command.keeps_copies c → command.keeps_unread c → NeitherReads c → LeavesEach command c NeitherReads
  -- each cartridge that it leaves is a whole one, over an input of bytes
  pub whole : (c : Cartridge) (input : List ℕ) (outcome : CommandOutcome) (left : Option Cartridge) → command.values →
      All (λ b. b < 256) input → IsCartridge c →
      command.yields (Some c) input outcome → Torn (steps_of outcome.acts) (Some c) left → IfSome left IsCartridge
  -- one that keeps the table's segment live puts in no new cartridge
  pub live : (held : Option Cartridge) (input : List ℕ) (outcome : CommandOutcome) → command.keeps_live →
      command.yields held input outcome →
      HasNoRenew (steps_of outcome.acts)
