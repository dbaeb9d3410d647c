-- The lines after that of a status (this project's own).
use Rattle.std.specs.Prelude.{ℕ, Bool, false, List, [], ◌++◌, codes, decimal, Option, Some, None, if◌then◌else◌}
use Rattle.command_spec.specs.declared.status.Status.{Status}
use Rattle.command_spec.specs.declared.status.Status.TheVariants as status
use Rattle.command_spec.specs.declared.copy_status.CopyStatus.{CopyStatus}
use Rattle.command_spec.specs.declared.copy_status.CopyStatus.TheVariants as copies
use Rattle.command_spec.specs.declared.words.Words.{Words}
use Rattle.command_spec.specs.declared.words.Words.TheVariants as words
use Rattle.file_hints.specs.Lines.{failure_words, named}
use Rattle.qic_base.specs.declared.store_fault.StoreFault.{StoreFault}
use Rattle.qic_base.specs.declared.store_fault.StoreFault.TheVariants as faults
use Rattle.status_hints.specs.Advice.{advice, advised}
use Rattle.tape_files.specs.declared.failure.Failure.{Failure}

abbrev pub IsRestore : Words → Type 0
IsRestore (words.Restore number) = Unit {0}
IsRestore other = ⊥

-- ---- the line of a run

-- the reason of the system, if it gave one for a tape that failed; else what is advised
abbrev pub why : Status → (restores : Bool) → Option Failure → List ℕ
why status.TapeFault restores (Some failure) = failure_words failure
why status restores failure = advised (advice status restores)

-- what a restore adds if the tape failed
abbrev pub ending : Status → (restores : Bool) → List ℕ
ending status.TapeFault restores = if restores then codes "; the output is incomplete" else []
ending status restores = []

abbrev pub status_text : (program image : List ℕ) → Status → (restores : Bool) → Option Failure → List ℕ
status_text program image status restores failure =
    named program image ++ codes ": " ++ why status restores failure ++ ending status restores ++ codes "\n"

-- ---- the line of a copy

-- the status of a run that is refused for the same cause; a volume that ends early is as an input that can't be read
abbrev pub refused : StoreFault → Status
refused faults.NotFormatted = status.NotFormatted
refused (faults.Foreign field value) = status.Foreign field value
refused faults.TableMismatch = status.TableMismatch
refused (faults.Full need have) = status.Full need have
refused (faults.NoVolume number count) = status.NoVolume number count
refused (faults.Lost segment lost) = status.Lost segment lost
refused (faults.Mismatch segment) = status.Mismatch segment
refused faults.Protected = status.Protected
refused (faults.Short promised read) = status.SourceFault
refused faults.Source = status.SourceFault
refused faults.Sink = status.SinkFault
refused faults.Tape = status.TapeFault

abbrev pub program : List ℕ
program = codes "tape_dup"

abbrev pub refused_text : (image : List ℕ) → Status → Option Failure → List ℕ
refused_text image status failure = status_text program image status false failure

-- a volume of the target that is another one
abbrev pub differs_text : (image : List ℕ) (number : ℕ) → List ℕ
differs_text image number =
    named program image ++ codes ": volume " ++ decimal number ++ codes " is not a copy: the other image has another one, or none\n"

abbrev pub copy_text : (from to : List ℕ) → CopyStatus → (from_failure to_failure : Option Failure) → List ℕ
copy_text from to copies.Done from_failure to_failure = []
copy_text from to copies.Usage from_failure to_failure = codes "usage: tape_dup FROM TO\n"
copy_text from to copies.NoMemory from_failure to_failure = codes "tape_dup: out of memory\n"
copy_text from to copies.SinkFault from_failure to_failure = codes "tape_dup: the output can't be written\n"
copy_text from to copies.FromAbsent from_failure to_failure = refused_text from status.NoCartridge None
copy_text from to copies.ToAbsent from_failure to_failure = refused_text to status.NoCartridge None
copy_text from to (copies.From fault) from_failure to_failure = refused_text from (refused fault) from_failure
copy_text from to (copies.To fault) from_failure to_failure = refused_text to (refused fault) to_failure
copy_text from to (copies.Differs number) from_failure to_failure = differs_text to number
