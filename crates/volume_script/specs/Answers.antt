-- How a script is answered by what ended its items, as the code says it (this project's own).
use Rattle.std.specs.Prelude.{ℕ}
use Rattle.command_spec.specs.Input.{Ending, AtEnd, AtStop, AtFault}
use Rattle.command_spec.specs.declared.status.Status.{Status}
use Rattle.command_spec.specs.declared.status.Status.TheVariants as status

-- all was carried out; or this line, counted from 1, is at fault, with so many bytes before it
pub data Answer : Type 0 where
  AllDone : Answer
  FaultIn : (number place : ℕ) → Answer

abbrev pub script_answer : Ending → Answer
script_answer AtEnd = AllDone
script_answer AtStop = AllDone
script_answer (AtFault number place) = FaultIn number place

-- as the answer of the command
abbrev pub script_status : Answer → Status
script_status AllDone = status.Done
script_status (FaultIn number place) = status.ScriptFault number place
