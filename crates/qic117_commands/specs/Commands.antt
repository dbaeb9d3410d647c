-- The commands of the drive and their numbers. Standard: QIC-117, the table of commands.
use Rattle.std.specs.Prelude.{ℕ, ◌==◌, List, [], ◌∷◌, Option, find}
use Rattle.qic117_commands.specs.declared.command.Command.{Command}
use Rattle.qic117_commands.specs.declared.command.Command.TheVariants.{Reset, ReportNextBit, Pause, MicroStepPause, AlternateTimeout}
use Rattle.qic117_commands.specs.declared.command.Command.TheVariants.{ReportStatus, ReportError, ReportConfiguration, ReportRom}
use Rattle.qic117_commands.specs.declared.command.Command.TheVariants.{LogicalForward, PhysicalReverse, PhysicalForward, SeekTrack}
use Rattle.qic117_commands.specs.declared.command.Command.TheVariants.{SeekLoadPoint, EnterFormat, WriteReference, EnterVerify, StopTape}
use Rattle.qic117_commands.specs.declared.command.Command.TheVariants.{MicroStepUp, MicroStepDown, SoftSelect, SoftDeselect, SkipReverse}
use Rattle.qic117_commands.specs.declared.command.Command.TheVariants.{SkipForward, SelectRate, Diagnostic1, Diagnostic2, EnterPrimary}
use Rattle.qic117_commands.specs.declared.command.Command.TheVariants.{VendorUnique, ReportVendor, ReportTapeStatus, ExtendedSkipReverse}
use Rattle.qic117_commands.specs.declared.command.Command.TheVariants.{ExtendedSkipForward, CalibrateLength, ReportFormatSegments}
use Rattle.qic117_commands.specs.declared.command.Command.TheVariants.{SetFormatSegments, PhantomSelect, PhantomDeselect}

-- how many step pulses call for a command (QIC-117)
abbrev pub number_of : Command → ℕ
number_of Reset = 1
number_of ReportNextBit = 2
number_of Pause = 3
number_of MicroStepPause = 4
number_of AlternateTimeout = 5
number_of ReportStatus = 6
number_of ReportError = 7
number_of ReportConfiguration = 8
number_of ReportRom = 9
number_of LogicalForward = 10
number_of PhysicalReverse = 11
number_of PhysicalForward = 12
number_of SeekTrack = 13
number_of SeekLoadPoint = 14
number_of EnterFormat = 15
number_of WriteReference = 16
number_of EnterVerify = 17
number_of StopTape = 18
number_of MicroStepUp = 21
number_of MicroStepDown = 22
number_of SoftSelect = 23
number_of SoftDeselect = 24
number_of SkipReverse = 25
number_of SkipForward = 26
number_of SelectRate = 27
number_of Diagnostic1 = 28
number_of Diagnostic2 = 29
number_of EnterPrimary = 30
number_of VendorUnique = 31
number_of ReportVendor = 32
number_of ReportTapeStatus = 33
number_of ExtendedSkipReverse = 34
number_of ExtendedSkipForward = 35
number_of CalibrateLength = 36
number_of ReportFormatSegments = 37
number_of SetFormatSegments = 38
number_of PhantomSelect = 46
number_of PhantomDeselect = 47

-- every command, by ascending number (QIC-117)
unfoldable pub commands : List Command
commands =
    Reset ∷ ReportNextBit ∷ Pause ∷ MicroStepPause ∷ AlternateTimeout ∷ ReportStatus ∷ ReportError ∷ ReportConfiguration ∷ ReportRom
    ∷ LogicalForward ∷ PhysicalReverse ∷ PhysicalForward ∷ SeekTrack ∷ SeekLoadPoint ∷ EnterFormat ∷ WriteReference ∷ EnterVerify
    ∷ StopTape ∷ MicroStepUp ∷ MicroStepDown ∷ SoftSelect ∷ SoftDeselect ∷ SkipReverse ∷ SkipForward ∷ SelectRate ∷ Diagnostic1
    ∷ Diagnostic2 ∷ EnterPrimary ∷ VendorUnique ∷ ReportVendor ∷ ReportTapeStatus ∷ ExtendedSkipReverse ∷ ExtendedSkipForward
    ∷ CalibrateLength ∷ ReportFormatSegments ∷ SetFormatSegments ∷ PhantomSelect ∷ PhantomDeselect ∷ []

-- the command of a number (QIC-117)
unfoldable pub command_at : ℕ → Option Command
command_at pulses = find (λ command. number_of command == pulses) commands
