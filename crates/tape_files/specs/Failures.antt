-- What is known of a call that failed (this project's own).
use Rattle.std.specs.Prelude.{◌&&◌, ℤ, nat_le, unsigned_abs, Option, Some, None, if◌then◌else◌}
use Rattle.std.specs.IoError.{error_kind, raw_os_error}
use Rattle.std.specs.declared.io.Error.{Error as IoError}
use Rattle.std.specs.declared.io.ErrorKind.{ErrorKind}
use Rattle.std.specs.declared.io.ErrorKind.TheVariants.{UnexpectedEof}
use Rattle.tape_files.specs.Edge.{FileState}
use Rattle.tape_files.specs.ReadAlone.{is_read_alone}
use Rattle.tape_files.specs.declared.failure.Failure.{Failure}
use Rattle.tape_files.specs.declared.failure.Failure.TheVariants.{ReadAlone, Number, Shorter, Untold}
use Rattle.tape_files.specs.declared.file.ImageFile.{ImageFile}

-- an error without a number of the system: only one of this project's own says that a file got shorter
abbrev pub unnumbered : ErrorKind → Failure
unnumbered UnexpectedEof = Shorter
unnumbered kind = Untold

abbrev pub failure_told : Option ℤ → ErrorKind → Failure
failure_told (Some number) kind = Number (unsigned_abs number)
failure_told None kind = unnumbered kind

-- what the system said
abbrev pub failure_by : IoError → Failure
failure_by error = failure_told (raw_os_error error) (error_kind error)

-- why the last call that failed did: a file that is opened for reading alone is not to be written
abbrev pub last_failure : FileState ImageFile → Option Failure
last_failure disk = if is_read_alone disk && nat_le 1 disk.failed_changes then Some ReadAlone else disk.failure
