-- How the commands over a dump end (this project's own).
use Rattle.std.specs.Prelude.{◌≡◌, Bool, true, false, [], Result, Ok, Err}
use Rattle.qic_base.specs.Acts.{TookFront}
use Rattle.qic_base.specs.Sink as sinks
use Rattle.qic_base.specs.Sink.{Wrote}
use Rattle.dump_opening.specs.declared.opened.OpenError.{OpenError}
use Rattle.dump_opening.specs.declared.opened.OpenError.TheVariants as error
use Rattle.dump_output.specs.declared.fault.PutFault.{PutFault}
use Rattle.dump_output.specs.declared.fault.PutFault.TheVariants as faults
use Rattle.dump_spec.specs.Answers.{Answer}
use Rattle.dump_spec.specs.declared.status.Status.{Status}
use Rattle.dump_answers.specs.declared.ending.Cut.{Cut}
use Rattle.dump_answers.specs.declared.ending.Ending.{Ending}

-- a status or a fault, where it is known whether the table is not sure
abbrev pub ended_by : (warned : Bool) → Result Status PutFault → Result Ending Cut
ended_by warned (Ok status) = Ok (record { status = status; warned = warned })
ended_by warned (Err fault) = Err (record { fault = fault; warned = warned })

-- a write that failed is a fault of the output
abbrev pub by_output : {E : Type 0} → Result Status E → Result Status PutFault
by_output (Ok status) = Ok status
by_output (Err e) = Err faults.Output

-- how a run ends whose dump was not opened
abbrev pub refusal_of : OpenError → Result Ending Cut
refusal_of (error.Refused status) = Ok (record { status = status; warned = false })
refusal_of error.Input = Err (record { fault = faults.Input; warned = false })

-- ---- commands that print alone

-- it is the answer that was printed, and no map was written
pub record IsPrinted {K : Type 0} (k : sinks.Meaning K) (Answers : Answer → Type 0) (old new : K) (ending : Ending) : Type 0 where
  pub answer : Answer
  pub answers : Answers answer
  pub status : ending.status ≡ answer.status
  pub warned : ending.warned ≡ answer.warned
  pub wrote : Wrote k old new answer.printed
  pub no_map : answer.sure ≡ []

-- a front of each answer was
pub record IsPrintCut {K : Type 0} (k : sinks.Meaning K) (old new : K) (cut : Cut) (answer : Answer) : Type 0 where
  pub took : TookFront k old new answer.printed
  pub warned : cut.warned ≡ true → answer.warned ≡ true

abbrev pub Prints : {K : Type 0} → sinks.Meaning K → (Answer → Type 0) → (old new : K) → Result Ending Cut → Type 0
Prints k Answers old new (Ok ending) = IsPrinted k Answers old new ending
Prints k Answers old new (Err cut) = (answer : Answer) → Answers answer → IsPrintCut k old new cut answer
