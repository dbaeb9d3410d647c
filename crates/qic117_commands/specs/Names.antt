-- The names of commands, and the words for codes, as they are printed (this project's own).
use Rattle.std.specs.Prelude.{ℕ, List, codes}
use Rattle.qic117_commands.specs.declared.command.Command.{Command}
use Rattle.qic117_commands.specs.declared.command.Command.TheVariants.{Reset, ReportNextBit, Pause, MicroStepPause, AlternateTimeout}
use Rattle.qic117_commands.specs.declared.command.Command.TheVariants.{ReportStatus, ReportError, ReportConfiguration, ReportRom}
use Rattle.qic117_commands.specs.declared.command.Command.TheVariants.{LogicalForward, PhysicalReverse, PhysicalForward, SeekTrack}
use Rattle.qic117_commands.specs.declared.command.Command.TheVariants.{SeekLoadPoint, EnterFormat, WriteReference, EnterVerify, StopTape}
use Rattle.qic117_commands.specs.declared.command.Command.TheVariants.{MicroStepUp, MicroStepDown, SoftSelect, SoftDeselect, SkipReverse}
use Rattle.qic117_commands.specs.declared.command.Command.TheVariants.{SkipForward, SelectRate, Diagnostic1, Diagnostic2, EnterPrimary}
use Rattle.qic117_commands.specs.declared.command.Command.TheVariants.{VendorUnique, ReportVendor, ReportTapeStatus, ExtendedSkipReverse}
use Rattle.qic117_commands.specs.declared.command.Command.TheVariants.{ExtendedSkipForward, CalibrateLength, ReportFormatSegments}
use Rattle.qic117_commands.specs.declared.command.Command.TheVariants.{SetFormatSegments, PhantomSelect, PhantomDeselect}
use Rattle.qic117_commands.specs.declared.error_code.ErrorCode.{ErrorCode}
use Rattle.qic117_commands.specs.declared.error_code.ErrorCode.TheVariants.{NoError, NotReady, NoCartridge, WriteProtected}
use Rattle.qic117_commands.specs.declared.error_code.ErrorCode.TheVariants.{UndefinedCommand, IllegalTrack, IllegalInReport}
use Rattle.qic117_commands.specs.declared.error_code.ErrorCode.TheVariants.{IllegalDiagnostic, NewCartridge, IllegalInPrimary}
use Rattle.qic117_commands.specs.declared.error_code.ErrorCode.TheVariants.{IllegalInFormat, IllegalInVerify, NotAtLogicalBot, LogicalEot}
use Rattle.qic117_commands.specs.declared.error_code.ErrorCode.TheVariants.{NotReferenced, SoftwareReset}

-- the name of a command, as it is printed (this project's profile)
abbrev pub name_of : Command → List ℕ
name_of Reset = codes "Reset"
name_of ReportNextBit = codes "ReportNextBit"
name_of Pause = codes "Pause"
name_of MicroStepPause = codes "MicroStepPause"
name_of AlternateTimeout = codes "AlternateTimeout"
name_of ReportStatus = codes "ReportStatus"
name_of ReportError = codes "ReportError"
name_of ReportConfiguration = codes "ReportConfiguration"
name_of ReportRom = codes "ReportRom"
name_of LogicalForward = codes "LogicalForward"
name_of PhysicalReverse = codes "PhysicalReverse"
name_of PhysicalForward = codes "PhysicalForward"
name_of SeekTrack = codes "SeekTrack"
name_of SeekLoadPoint = codes "SeekLoadPoint"
name_of EnterFormat = codes "EnterFormat"
name_of WriteReference = codes "WriteReference"
name_of EnterVerify = codes "EnterVerify"
name_of StopTape = codes "StopTape"
name_of MicroStepUp = codes "MicroStepUp"
name_of MicroStepDown = codes "MicroStepDown"
name_of SoftSelect = codes "SoftSelect"
name_of SoftDeselect = codes "SoftDeselect"
name_of SkipReverse = codes "SkipReverse"
name_of SkipForward = codes "SkipForward"
name_of SelectRate = codes "SelectRate"
name_of Diagnostic1 = codes "Diagnostic1"
name_of Diagnostic2 = codes "Diagnostic2"
name_of EnterPrimary = codes "EnterPrimary"
name_of VendorUnique = codes "VendorUnique"
name_of ReportVendor = codes "ReportVendor"
name_of ReportTapeStatus = codes "ReportTapeStatus"
name_of ExtendedSkipReverse = codes "ExtendedSkipReverse"
name_of ExtendedSkipForward = codes "ExtendedSkipForward"
name_of CalibrateLength = codes "CalibrateLength"
name_of ReportFormatSegments = codes "ReportFormatSegments"
name_of SetFormatSegments = codes "SetFormatSegments"
name_of PhantomSelect = codes "PhantomSelect"
name_of PhantomDeselect = codes "PhantomDeselect"

-- the words for a code (this project's own)
abbrev pub text_of : ErrorCode → List ℕ
text_of NoError = codes "no error"
text_of NotReady = codes "not ready"
text_of NoCartridge = codes "no cartridge"
text_of WriteProtected = codes "write protected"
text_of UndefinedCommand = codes "undefined or reserved command"
text_of IllegalTrack = codes "illegal track"
text_of IllegalInReport = codes "illegal command in report subcontext"
text_of IllegalDiagnostic = codes "illegal entry into a diagnostic mode"
text_of NewCartridge = codes "new cartridge pending"
text_of IllegalInPrimary = codes "illegal in primary mode"
text_of IllegalInFormat = codes "illegal in format mode"
text_of IllegalInVerify = codes "illegal in verify mode"
text_of NotAtLogicalBot = codes "logical forward not at logical BOT in format mode"
text_of LogicalEot = codes "logical EOT before all segments generated"
text_of NotReferenced = codes "cartridge not referenced"
text_of SoftwareReset = codes "software reset occurred"
