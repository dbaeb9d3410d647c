-- The error codes of the drive (QIC-117, the table of error codes).
use Rattle.std.specs.Prelude.{ℕ}
use Rattle.qic117_commands.specs.declared.error_code.ErrorCode.{ErrorCode}
use Rattle.qic117_commands.specs.declared.error_code.ErrorCode.TheVariants.{NoError, NotReady, NoCartridge, WriteProtected}
use Rattle.qic117_commands.specs.declared.error_code.ErrorCode.TheVariants.{UndefinedCommand, IllegalTrack, IllegalInReport}
use Rattle.qic117_commands.specs.declared.error_code.ErrorCode.TheVariants.{IllegalDiagnostic, NewCartridge, IllegalInPrimary}
use Rattle.qic117_commands.specs.declared.error_code.ErrorCode.TheVariants.{IllegalInFormat, IllegalInVerify, NotAtLogicalBot, LogicalEot}
use Rattle.qic117_commands.specs.declared.error_code.ErrorCode.TheVariants.{NotReferenced, SoftwareReset}

-- the number of a code (QIC-117)
abbrev pub code_of : ErrorCode → ℕ
code_of NoError = 0
code_of NotReady = 1
code_of NoCartridge = 2
code_of WriteProtected = 5
code_of UndefinedCommand = 6
code_of IllegalTrack = 7
code_of IllegalInReport = 8
code_of IllegalDiagnostic = 9
code_of NewCartridge = 13
code_of IllegalInPrimary = 14
code_of IllegalInFormat = 15
code_of IllegalInVerify = 16
code_of NotAtLogicalBot = 17
code_of LogicalEot = 18
code_of NotReferenced = 19
code_of SoftwareReset = 27
