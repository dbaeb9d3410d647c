-- The answers of the system that an opening goes by (this project's own).
use Rattle.std.specs.Prelude.{◌≡◌, ◌⊎◌, ◌≤◌, ℕ, Bool, IsTrue, Result, Ok, Err}
use Rattle.std.specs.IoError.{error_kind}
use Rattle.std.specs.declared.io.Error.{Error as IoError}
use Rattle.std.specs.declared.io.ErrorKind.TheVariants.{InvalidInput, NotFound, PermissionDenied, ReadOnlyFilesystem}

-- Nothing of the file waits for the disk: a file system that is never written knows no sync (EINVAL of Linux).
abbrev pub IsSynced : Bool → Result (Unit {0}) IoError → Type 0
IsSynced reads_only (Ok synced) = Unit {0}
IsSynced reads_only (Err error) = IsTrue reads_only × (error_kind error ≡ InvalidInput)

-- the file may not be written: EPERM, EACCES and EROFS of Linux
abbrev pub ForbidsWriting : IoError → Type 0
ForbidsWriting error = (error_kind error ≡ PermissionDenied) ⊎ (error_kind error ≡ ReadOnlyFilesystem)

-- there is no file: ENOENT of Linux
abbrev pub TellsNone : IoError → Type 0
TellsNone error = error_kind error ≡ NotFound

-- a path that can't be read as a link is none: it is another file (EINVAL of Linux), or there is none
abbrev pub TellsNoLink : IoError → Type 0
TellsNoLink error = (error_kind error ≡ InvalidInput) ⊎ TellsNone error

-- a read gave at least so many bytes
abbrev pub GaveAll : (least : ℕ) → Result ℕ IoError → Type 0
GaveAll least (Ok n) = least ≤ n
GaveAll least (Err error) = ⊥
