-- How a command over a dump ends: what it wrote, and which objects of the outside failed (this project's own).
use Rattle.std.specs.Prelude.{ℕ, ◌≡◌, true, List, Result, Ok, Err}
use Rattle.qic_base.specs.Acts.{TookFront}
use Rattle.qic_base.specs.Sink as sinks
use Rattle.qic_base.specs.Sink.{Wrote}
use Rattle.dump_opening.specs.Counts.{OneRose}
use Rattle.dump_output.specs.declared.fault.PutFault.{PutFault}
use Rattle.dump_output.specs.declared.fault.PutFault.TheVariants as faults
use Rattle.dump_spec.specs.Answers.{Answer}
use Rattle.dump_spec.specs.declared.status.Status.{Status}
use Rattle.dump_answers.specs.declared.ending.Cut.{Cut}
use Rattle.dump_answers.specs.declared.ending.Ending.{Ending}

-- ---- counts of faults

-- A read that failed raised the count of one of the objects that are read, and a write that failed that of one that is written;
-- all others stand.
abbrev pub CountsByFault : {T : Type 0} → (read read_now written written_now : List ℕ) → Result T PutFault → Type 0
CountsByFault read read_now written written_now (Ok x) = (read_now ≡ read) × (written_now ≡ written)
CountsByFault read read_now written written_now (Err faults.Input) = OneRose read read_now × (written_now ≡ written)
CountsByFault read read_now written written_now (Err faults.Output) = (read_now ≡ read) × OneRose written written_now

-- by the fault of a run that was cut off
abbrev pub fault_of : {T : Type 0} → Result T Cut → Result (Unit {0}) PutFault
fault_of (Ok x) = Ok tt
fault_of (Err cut) = Err cut.fault

-- ---- answers

-- the sink of the output, and that of its map
pub record Sinks (K M : Type 0) : Type 0 where
  pub output : K
  pub sure : M

-- an answer was written, all of it
pub record WroteAnswer {K M : Type 0} (k : sinks.Meaning K) (m : sinks.Meaning M) (old new : Sinks K M) (answer : Answer) : Type 0 where
  pub printed : Wrote k old.output new.output answer.printed
  pub mapped : Wrote m old.sure new.sure answer.sure

-- a front of its output and a front of its map were
pub record TookFronts {K M : Type 0} (k : sinks.Meaning K) (m : sinks.Meaning M) (old new : Sinks K M) (answer : Answer) : Type 0 where
  pub printed : TookFront k old.output new.output answer.printed
  pub mapped : TookFront m old.sure new.sure answer.sure

-- it is the answer that was written
pub record IsAnswered {K M : Type 0} (k : sinks.Meaning K) (m : sinks.Meaning M) (Answers : Answer → Type 0) (old new : Sinks K M)
    (ending : Ending) : Type 0 where
  pub answer : Answer
  pub answers : Answers answer
  pub status : ending.status ≡ answer.status
  pub warned : ending.warned ≡ answer.warned
  pub wrote : WroteAnswer k m old new answer

-- a front of each answer was
pub record IsCut {K M : Type 0} (k : sinks.Meaning K) (m : sinks.Meaning M) (old new : Sinks K M) (cut : Cut) (answer : Answer) : Type 0
  where
    pub took : TookFronts k m old new answer
    pub warned : cut.warned ≡ true → answer.warned ≡ true

-- how it went: it was answered, or a fault cut that off
abbrev pub Ends : {K M : Type 0} → sinks.Meaning K → sinks.Meaning M → (Answer → Type 0) → (old new : Sinks K M) → Result Ending Cut →
    Type 0
Ends k m Answers old new (Ok ending) = IsAnswered k m Answers old new ending
Ends k m Answers old new (Err cut) = (answer : Answer) → Answers answer → IsCut k m old new cut answer

-- the same of one whose warning is known: its status
abbrev pub StatusEnds : {K M : Type 0} → sinks.Meaning K → sinks.Meaning M → (Answer → Type 0) → (old new : Sinks K M) →
    Result Status PutFault → Type 0
StatusEnds k m Answers old new (Ok status) =
    (answer : Answer) × Answers answer × (status ≡ answer.status) × WroteAnswer k m old new answer
StatusEnds k m Answers old new (Err fault) = (answer : Answer) → Answers answer → TookFronts k m old new answer
