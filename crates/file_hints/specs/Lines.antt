-- The lines: why a file is not an image, and why a call failed (this project's own).
use Rattle.std.specs.Prelude.{ℕ, List, [], ◌∷◌, ◌++◌, chars, codes, decimal, Option, Some, None}
use Rattle.file_hints.specs.Errors.{error_name}
use Rattle.message_text.specs.Printable.{printed}
use Rattle.tape_files.specs.declared.failure.Failure.{Failure}
use Rattle.tape_files.specs.declared.failure.Failure.TheVariants as failures
use Rattle.tape_files.specs.declared.image.NoImage.{NoImage}
use Rattle.tape_files.specs.declared.image.NoImage.TheVariants as causes

-- ---- what is known of a failure

-- an error by what it is called, or by its number
abbrev pub called : (name : List ℕ) (number : ℕ) → List ℕ
called [] number = codes "system error " ++ decimal number
called (byte ∷ bytes) number = byte ∷ bytes

abbrev pub error_words : (number : ℕ) → List ℕ
error_words number = called (error_name number) number

abbrev pub failure_words : Failure → List ℕ
failure_words failures.ReadAlone = codes "the file is read-only"
failure_words (failures.Number number) = error_words number
failure_words failures.Shorter = codes "the file got shorter under the run"
failure_words failures.Untold = codes "the system gives no reason"

-- ---- why a file is no image

-- the path as it can be printed
abbrev pub name_of : (path : List ℕ) → List ℕ
name_of path = printed 300 (chars path)

-- a line of a program that names a file
abbrev pub named : (program path : List ℕ) → List ℕ
named program path = program ++ codes ": " ++ name_of path

abbrev pub plain_words : NoImage → List ℕ
plain_words (causes.NotOpened failure) = codes " can't be opened: "
plain_words (causes.NotMade failure) = codes " can't be made: "
plain_words causes.Moved = codes " was replaced or removed while it was opened; try again"
plain_words causes.NotRegular = codes " is not a regular file"
plain_words causes.IsStream = codes " is also standard input or output of this command"
plain_words causes.IsErrorStream = codes " is also standard error of this command"
plain_words causes.Locked = codes " is in use by another process, or named twice in this command"
plain_words (causes.NotLocked failure) = codes " can't be locked: "
plain_words (causes.NotSynced failure) = codes " or its directory can't be synced: "
plain_words causes.NoMemory = codes " can't be opened: out of memory"
plain_words causes.Missing = codes " does not exist"
plain_words (causes.NotSeen failure) = codes " can't be looked at: "
plain_words (causes.StreamsUnseen failure) = codes ": the standard streams can't be looked at: "
plain_words causes.HoldsOther = codes " is not a tape image; for a dump use tape_import or tape_salvage"

-- what the system said
abbrev pub failure_of : NoImage → Option Failure
failure_of (causes.NotOpened failure) = Some failure
failure_of (causes.NotMade failure) = Some failure
failure_of (causes.NotLocked failure) = Some failure
failure_of (causes.NotSynced failure) = Some failure
failure_of (causes.NotSeen failure) = Some failure
failure_of (causes.StreamsUnseen failure) = Some failure
failure_of cause = None

abbrev pub said : Option Failure → List ℕ
said None = []
said (Some failure) = failure_words failure

-- ---- the lines, each of a program

-- why a call of the file at a path failed
abbrev pub failure_text : (program path : List ℕ) → Failure → List ℕ
failure_text program path failure = named program path ++ codes ": " ++ failure_words failure ++ codes "\n"

-- why the file at a path is not an image
abbrev pub refusal_text : (program : List ℕ) → NoImage → (path : List ℕ) → List ℕ
refusal_text program cause path = named program path ++ plain_words cause ++ said (failure_of cause) ++ codes "\n"
