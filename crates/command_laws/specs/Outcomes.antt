-- The outcome of each command, by what the drive holds, and what is done once the cartridge is open (this project's own).
use Rattle.std.specs.Prelude.{ℕ, ◌*◌, List, length, ◌≡◌, Bool, Option}
use Rattle.cartridge_spec.specs.Formatting.{clearing_steps, format_steps}
use Rattle.cartridge_spec.specs.Header.{Header}
use Rattle.cartridge_spec.specs.Shape.{marked_sectors}
use Rattle.cartridge_spec.specs.Table.{Entry}
use Rattle.command_spec.specs.Lines.{blank_line, formatted_line, info_text, list_text, protected_line, upgraded_line}
use Rattle.command_spec.specs.Outcome.{CommandOutcome, Going, OpenOutcome, Shows, StepOutcome, WritableOutcome, acted, carried_out}
use Rattle.command_spec.specs.Outcome.{refused_behind}
use Rattle.command_spec.specs.Scrub.{ScrubsBy}
use Rattle.command_spec.specs.declared.depth.Depth.TheVariants.{Shallow, Deep}
use Rattle.qic_base.specs.Cartridge.{Cartridge}
use Rattle.qic_base.specs.Step.{Renew, SetProtected, Upgrade}
use Rattle.command_spec.specs.Append.{appended}
use Rattle.command_spec.specs.Make.{Making}
use Rattle.command_spec.specs.Restore.{Gives}
use Rattle.command_spec.specs.Script.{Scripting}
use Rattle.command_spec.specs.declared.status.Status.TheVariants as status

-- what is printed of a header, the words of its map and the volumes
abbrev pub Printing : Type 0
Printing = Header → (words : List ℕ) → List Entry → List ℕ

-- what `info` prints, and its outcome
abbrev pub telling : Printing
telling header words entries = info_text header words (length entries)

abbrev pub InfoOutcome : Option Cartridge → CommandOutcome → Type 0
InfoOutcome held outcome = OpenOutcome (Shows telling) held outcome

-- what `list` prints, and its outcome
abbrev pub listing : Printing
listing header words entries = list_text words entries

abbrev pub ListOutcome : Option Cartridge → CommandOutcome → Type 0
ListOutcome held outcome = OpenOutcome (Shows listing) held outcome

-- the outcomes of `new`, `protect` and `upgrade`
abbrev pub NewOutcome : (segments : ℕ) → CommandOutcome → Type 0
NewOutcome segments outcome = outcome ≡ carried_out (Renew segments) (blank_line segments)

abbrev pub ProtectOutcome : Bool → Option Cartridge → CommandOutcome → Type 0
ProtectOutcome on held outcome = StepOutcome (SetProtected on) (λ c. protected_line on) held outcome

abbrev pub UpgradeOutcome : Option Cartridge → CommandOutcome → Type 0
UpgradeOutcome held outcome = StepOutcome Upgrade (λ c. upgraded_line c.version) held outcome

-- the segments were formatted, and a segment in front has a defect
abbrev pub cleared : (n segment : ℕ) → CommandOutcome
cleared n segment = refused_behind (clearing_steps n) (status.DefectInFront segment)

-- all was formatted, and the header copies have these data, with the words of this map
abbrev pub formatted : (n : ℕ) → (words : List ℕ) → (area : List (List ℕ)) → CommandOutcome
formatted n words area = acted (format_steps n area) (formatted_line (28 * n) (marked_sectors words))

-- what `scrub` does once the cartridge is open, and its outcome
abbrev pub Mends : Going
Mends = ScrubsBy Shallow

abbrev pub ScrubOutcome : Option Cartridge → CommandOutcome → Type 0
ScrubOutcome held outcome = WritableOutcome Mends held outcome

-- what `scrub deep` does once it is open, and its outcome
abbrev pub MendsDeep : Going
MendsDeep = ScrubsBy Deep

abbrev pub DeepScrubOutcome : Option Cartridge → CommandOutcome → Type 0
DeepScrubOutcome held outcome = WritableOutcome MendsDeep held outcome

-- a mounted cartridge is appended to
abbrev pub Appends : (name : List ℕ) → (date : ℕ) → (input : List ℕ) → Going
Appends name date input c header words table entries outcome = outcome ≡ appended name date input c words table entries

-- the outcome of a restore, by what the drive holds
abbrev pub RestoreOutcome : (number : ℕ) → Option Cartridge → CommandOutcome → Type 0
RestoreOutcome number held outcome = OpenOutcome (Gives number) held outcome

-- the outcome of a generated run, by what the drive holds
abbrev pub MakeOutcome : (seed count : ℕ) → Option Cartridge → CommandOutcome → Type 0
MakeOutcome seed count held outcome = WritableOutcome (Making seed count) held outcome

-- the outcome of a script, by what the drive holds
abbrev pub ScriptOutcome : Option Cartridge → (input : List ℕ) → CommandOutcome → Type 0
ScriptOutcome held input outcome = OpenOutcome (Scripting input) held outcome
