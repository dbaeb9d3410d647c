-- The numbers of commands and the commands of numbers.
use Rattle.std.proofs.Common.{◌≡◌, ◌↔◌, ℕ, ◌<◌, Bool, true, false, not, cond, List, [], ◌∷◌, Option, Some, ◌==◌, is_some, find, refl}
use Rattle.std.proofs.lemmas.Bool.{eqb-true, agree_below_at}
use Rattle.qic117_commands.specs.declared.command.Command.{Command}
use Rattle.qic117_commands.specs.declared.command.Command.TheVariants.{Reset, ReportNextBit, Pause, MicroStepPause, AlternateTimeout}
use Rattle.qic117_commands.specs.declared.command.Command.TheVariants.{ReportStatus, ReportError, ReportConfiguration, ReportRom}
use Rattle.qic117_commands.specs.declared.command.Command.TheVariants.{LogicalForward, PhysicalReverse, PhysicalForward, SeekTrack}
use Rattle.qic117_commands.specs.declared.command.Command.TheVariants.{SeekLoadPoint, EnterFormat, WriteReference, EnterVerify, StopTape}
use Rattle.qic117_commands.specs.declared.command.Command.TheVariants.{MicroStepUp, MicroStepDown, SoftSelect, SoftDeselect, SkipReverse}
use Rattle.qic117_commands.specs.declared.command.Command.TheVariants.{SkipForward, SelectRate, Diagnostic1, Diagnostic2, EnterPrimary}
use Rattle.qic117_commands.specs.declared.command.Command.TheVariants.{VendorUnique, ReportVendor, ReportTapeStatus, ExtendedSkipReverse}
use Rattle.qic117_commands.specs.declared.command.Command.TheVariants.{ExtendedSkipForward, CalibrateLength, ReportFormatSegments}
use Rattle.qic117_commands.specs.declared.command.Command.TheVariants.{SetFormatSegments, PhantomSelect, PhantomDeselect}
use Rattle.qic117_commands.specs.Commands.{number_of, command_at, commands}
use Rattle.qic117_commands.specs.RefusalTerms.{is_undefined}

-- each command is the one of its number
pub command_at-number_of : (command : Command) → command_at (number_of command) ≡ Some command
unfolding command_at commands
command_at-number_of Reset = refl
command_at-number_of ReportNextBit = refl
command_at-number_of Pause = refl
command_at-number_of MicroStepPause = refl
command_at-number_of AlternateTimeout = refl
command_at-number_of ReportStatus = refl
command_at-number_of ReportError = refl
command_at-number_of ReportConfiguration = refl
command_at-number_of ReportRom = refl
command_at-number_of LogicalForward = refl
command_at-number_of PhysicalReverse = refl
command_at-number_of PhysicalForward = refl
command_at-number_of SeekTrack = refl
command_at-number_of SeekLoadPoint = refl
command_at-number_of EnterFormat = refl
command_at-number_of WriteReference = refl
command_at-number_of EnterVerify = refl
command_at-number_of StopTape = refl
command_at-number_of MicroStepUp = refl
command_at-number_of MicroStepDown = refl
command_at-number_of SoftSelect = refl
command_at-number_of SoftDeselect = refl
command_at-number_of SkipReverse = refl
command_at-number_of SkipForward = refl
command_at-number_of SelectRate = refl
command_at-number_of Diagnostic1 = refl
command_at-number_of Diagnostic2 = refl
command_at-number_of EnterPrimary = refl
command_at-number_of VendorUnique = refl
command_at-number_of ReportVendor = refl
command_at-number_of ReportTapeStatus = refl
command_at-number_of ExtendedSkipReverse = refl
command_at-number_of ExtendedSkipForward = refl
command_at-number_of CalibrateLength = refl
command_at-number_of ReportFormatSegments = refl
command_at-number_of SetFormatSegments = refl
command_at-number_of PhantomSelect = refl
command_at-number_of PhantomDeselect = refl

find_step : {X : Type 0} (p : X → Bool) (y x : X) (b : Bool) (rest : Option X) → p y ≡ b → (rest ≡ Some x → p x ≡ true) →
    cond b (Some y) rest ≡ Some x → p x ≡ true
find_step p y x true rest passes later found = cc
find_step p y x false rest passes later found = later found

-- what a search finds passes its test
find-Some : {X : Type 0} (p : X → Bool) (xs : List X) (x : X) → find p xs ≡ Some x → p x ≡ true
find-Some p [] x found = cc
find-Some p (y ∷ ys) x found = find_step p y x (p y) (find p ys) refl (find-Some p ys x) found

-- the command of a number has that number
pub number_of-command_at : (pulses : ℕ) (command : Command) → command_at pulses ≡ Some command → number_of command ≡ pulses
unfolding command_at
number_of-command_at pulses command found =
    eqb-true _ _ (find-Some (λ c. number_of c == pulses) commands command found)

-- a byte is the number of a command or undefined
pub is_some-command_at : (pulses : ℕ) → pulses < 256 → is_some (command_at pulses) ≡ not (is_undefined pulses)
unfolding command_at commands is_undefined
is_some-command_at pulses byte = agree_below_at (λ n. is_some (command_at n)) (λ n. not (is_undefined n)) 256 pulses refl byte

pub not-iff : (a b : Bool) → a ≡ not b → (a ≡ false) ↔ (b ≡ true)
not-iff a true e = (λ _. refl, λ _. e)
not-iff a false e = (λ f. cc, λ f. cc)
