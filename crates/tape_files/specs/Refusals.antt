-- What is answered of a lock that failed, and of a stream that can't be looked at (this project's own).
use Rattle.std.specs.Prelude.{◌≡◌, Result, Ok, Err}
use Rattle.std.specs.declared.fs.Metadata.{Metadata}
use Rattle.std.specs.declared.fs.TryLockError.{TryLockError}
use Rattle.std.specs.declared.fs.TryLockError.TheVariants.{Error, WouldBlock}
use Rattle.std.specs.declared.io.Error.{Error as IoError}
use Rattle.tape_files.specs.Failures.{failure_by}
use Rattle.tape_files.specs.declared.image.NoImage.{NoImage}
use Rattle.tape_files.specs.declared.image.NoImage.TheVariants.{Locked, NotLocked, StreamsUnseen}

-- another run has the file, or the system said why it can't be locked
abbrev pub IsLockRefusal : Result (Unit {0}) TryLockError → NoImage → Type 0
IsLockRefusal (Ok locked) cause = ⊥
IsLockRefusal (Err WouldBlock) cause = cause ≡ Locked
IsLockRefusal (Err (Error error)) cause = cause ≡ NotLocked (failure_by error)

-- the system said why a stream can't be looked at
abbrev pub IsUnseen : Result Metadata IoError → NoImage → Type 0
IsUnseen (Ok metadata) cause = ⊥
IsUnseen (Err error) cause = cause ≡ StreamsUnseen (failure_by error)
