-- Which commands a drive refuses. Standard: this project's profile of QIC-117.
use Rattle.std.specs.Prelude.{Bool, true, ◌&&◌, not, ◌==◌, List, [], ◌∷◌, Option, find, option_map}
use Rattle.std.specs.List.{list_any}
use Rattle.qic117_commands.specs.declared.command.Command.{Command}
use Rattle.qic117_commands.specs.declared.command.Command.TheVariants.{Reset, ReportNextBit, Pause, MicroStepPause, AlternateTimeout}
use Rattle.qic117_commands.specs.declared.command.Command.TheVariants.{ReportStatus, ReportError, LogicalForward, PhysicalReverse}
use Rattle.qic117_commands.specs.declared.command.Command.TheVariants.{PhysicalForward, SeekTrack, SeekLoadPoint, EnterFormat}
use Rattle.qic117_commands.specs.declared.command.Command.TheVariants.{WriteReference, EnterVerify, StopTape, MicroStepUp, MicroStepDown}
use Rattle.qic117_commands.specs.declared.command.Command.TheVariants.{SoftSelect, SoftDeselect, SkipReverse, SkipForward, SelectRate}
use Rattle.qic117_commands.specs.declared.command.Command.TheVariants.{Diagnostic1, Diagnostic2, EnterPrimary, VendorUnique}
use Rattle.qic117_commands.specs.declared.command.Command.TheVariants.{ReportTapeStatus, ExtendedSkipReverse, ExtendedSkipForward}
use Rattle.qic117_commands.specs.declared.command.Command.TheVariants.{CalibrateLength, ReportFormatSegments, SetFormatSegments}
use Rattle.qic117_commands.specs.declared.command.Command.TheVariants.{PhantomSelect, PhantomDeselect}
use Rattle.qic117_commands.specs.declared.error_code.ErrorCode.{ErrorCode}
use Rattle.qic117_commands.specs.declared.error_code.ErrorCode.TheVariants.{NotReady, NoCartridge, WriteProtected, UndefinedCommand}
use Rattle.qic117_commands.specs.declared.error_code.ErrorCode.TheVariants.{IllegalDiagnostic, NewCartridge, IllegalInPrimary}
use Rattle.qic117_commands.specs.declared.error_code.ErrorCode.TheVariants.{IllegalInFormat, IllegalInVerify, NotAtLogicalBot}
use Rattle.qic117_commands.specs.declared.error_code.ErrorCode.TheVariants.{NotReferenced}
use Rattle.qic117_commands.specs.declared.view.DriveView.{DriveView}
use Rattle.qic117_commands.specs.Commands.{number_of}
use Rattle.qic117_commands.specs.Views.{is_stopped, is_streaming, is_seeking, is_primary, is_format, is_verify}

-- a row of the table: the code that it refuses with, the commands that it speaks of, and where it holds
pub record Row : Type 0 where
  pub code : ErrorCode
  pub covers : Command → Bool
  pub holds : DriveView → Bool

-- the commands of a list
abbrev pub among : List Command → Command → Bool
among commands command = list_any (λ listed. number_of listed == number_of command) commands

-- no drive of this profile has them: they are refused like a number that no command has
unfoldable pub is_unsupported : Command → Bool
is_unsupported = among (Pause ∷ MicroStepPause ∷ AlternateTimeout ∷ PhysicalReverse ∷ PhysicalForward ∷ MicroStepUp ∷ MicroStepDown
    ∷ SoftSelect ∷ SoftDeselect ∷ SelectRate ∷ VendorUnique ∷ ExtendedSkipReverse ∷ ExtendedSkipForward
    ∷ CalibrateLength ∷ PhantomSelect ∷ PhantomDeselect ∷ [])

-- they would enter a diagnostic mode
unfoldable pub is_diagnostic : Command → Bool
is_diagnostic = among (Diagnostic1 ∷ Diagnostic2 ∷ [])

-- they ask for a cartridge in the drive
unfoldable pub needs_cartridge : Command → Bool
needs_cartridge = among (LogicalForward ∷ SeekTrack ∷ SeekLoadPoint ∷ EnterFormat ∷ WriteReference ∷ EnterVerify ∷ StopTape
    ∷ SkipReverse ∷ SkipForward ∷ EnterPrimary ∷ ReportTapeStatus ∷ ReportFormatSegments ∷ SetFormatSegments ∷ [])

-- they wait until a seek is over
unfoldable pub waits_for_seek : Command → Bool
waits_for_seek command = not (among (Reset ∷ ReportNextBit ∷ ReportStatus ∷ ReportError ∷ []) command)

-- they wait until the tape stands
unfoldable pub waits_for_stop : Command → Bool
waits_for_stop command = not (among (Reset ∷ ReportNextBit ∷ ReportStatus ∷ ReportError ∷ LogicalForward ∷ StopTape ∷ []) command)

-- what each mode forbids
unfoldable pub illegal_in_primary : Command → Bool
illegal_in_primary = among (WriteReference ∷ SetFormatSegments ∷ [])

unfoldable pub illegal_in_format : Command → Bool
illegal_in_format = among (EnterFormat ∷ SkipReverse ∷ SkipForward ∷ [])

unfoldable pub illegal_in_verify : Command → Bool
illegal_in_verify = among (EnterFormat ∷ WriteReference ∷ EnterVerify ∷ SetFormatSegments ∷ [])

-- they prepare for writing, which a protected cartridge forbids
unfoldable pub needs_writable : Command → Bool
needs_writable = among (EnterFormat ∷ [])

-- they wait until the host has read the error word since the cartridge was put in
unfoldable pub needs_known_cartridge : Command → Bool
needs_known_cartridge =
    among (LogicalForward ∷ SeekTrack ∷ SeekLoadPoint ∷ EnterFormat ∷ EnterVerify ∷ SkipReverse ∷ SkipForward ∷ [])

-- they find their place by the reference bursts
unfoldable pub needs_reference : Command → Bool
needs_reference = among (LogicalForward ∷ SeekTrack ∷ EnterVerify ∷ SkipReverse ∷ SkipForward ∷ [])

-- in Format mode they begin at the start of a track
unfoldable pub needs_logical_bot : Command → Bool
needs_logical_bot = among (LogicalForward ∷ [])

abbrev pub row : ErrorCode → (covers : Command → Bool) → (holds : DriveView → Bool) → Row
row code covers holds = record { code = code; covers = covers; holds = holds }

-- the rows, in order (this project's profile)
abbrev pub refusal_rows : List Row
refusal_rows =
    row UndefinedCommand is_unsupported (λ view. true)
    ∷ row IllegalDiagnostic is_diagnostic (λ view. true)
    ∷ row NoCartridge needs_cartridge (λ view. not view.present)
    ∷ row NotReady waits_for_seek (λ view. is_seeking view.motion)
    ∷ row NotReady waits_for_stop (λ view. is_streaming view.motion)
    ∷ row IllegalInPrimary illegal_in_primary (λ view. is_primary view.mode)
    ∷ row IllegalInFormat illegal_in_format (λ view. is_format view.mode)
    ∷ row IllegalInVerify illegal_in_verify (λ view. is_verify view.mode)
    ∷ row WriteProtected needs_writable (λ view. view.protected)
    ∷ row NewCartridge needs_known_cartridge (λ view. view.fresh)
    ∷ row NotReferenced needs_reference (λ view. not view.referenced)
    ∷ row NotAtLogicalBot needs_logical_bot (λ view. is_format view.mode && not (view.offset == 0) && is_stopped view.motion) ∷ []

-- the code of the first row that speaks of the command and holds of the drive (this project's profile)
unfoldable pub first_refusal : DriveView → Command → Option ErrorCode
first_refusal view command = option_map (λ row. row.code) (find (λ row. row.covers command && row.holds view) refusal_rows)
