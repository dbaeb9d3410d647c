-- What a check found of the segments of a dump, one after the other (this project's own).
use Rattle.std.specs.Prelude.{ℕ, ◌≡◌, ◌⊎◌, ◌≤◌, ◌&&◌, nat_le, length, Bool, true, false, List, [], ◌∷◌, ◌++◌, Option, Some, None, Result}
use Rattle.std.specs.Prelude.{Ok, Err}
use Rattle.cartridge_spec.specs.Shape.{usable_count}
use Rattle.qic_base.specs.Acts.{TookFront}
use Rattle.qic_base.specs.Sink as sinks
use Rattle.qic_base.specs.Sink.{Wrote}
use Rattle.qic_base.specs.SinkCalls.{BrokeOff}
use Rattle.dump_output.specs.declared.fault.PutFault.{PutFault}
use Rattle.dump_output.specs.declared.fault.PutFault.TheVariants as faults
use Rattle.dump_spec.specs.Answers.{Known, Answer, AnswersTo}
use Rattle.dump_spec.specs.Cells.{cells_in}
use Rattle.dump_spec.specs.Check.{Finds, finding_line}
use Rattle.dump_spec.specs.Check as checks
use Rattle.dump_spec.specs.Pieces.{has_piece}
use Rattle.dump_spec.specs.declared.asked.Command.TheVariants as commands
use Rattle.dump_spec.specs.declared.status.Status.{Status}
use Rattle.dump_volumes.specs.Counts.{HasCounted}
use Rattle.dump_volumes.specs.declared.checking.CheckCounts.{CheckCounts}
use Rattle.segment_salvage.specs.Finding.{told}
use Rattle.segment_salvage.specs.declared.finding.Finding.{Finding}

-- the segment has a piece, and carries data
abbrev pub is_looked_at : Known → (segment : ℕ) → Bool
is_looked_at known segment = has_piece known.dump known.layout segment && nat_le 4 (usable_count (known.layout.masks segment))

-- it was looked at, and this is found of it; or not
abbrev pub LooksAt : Known → (segment : ℕ) → Option Finding → Type 0
LooksAt known segment (Some finding) =
    (is_looked_at known segment ≡ true)
    × Finds known.layout.form known.zero_lost (known.layout.masks segment) (cells_in known.dump known.layout segment) (told finding)
LooksAt known segment None = is_looked_at known segment ≡ false

-- so many segments were counted, at most
abbrev pub HasFew : CheckCounts → (most : ℕ) → Type 0
HasFew counts most = (findings : List checks.Finding) × HasCounted counts findings × (length findings ≤ most)

-- this is found of it
pub record IsFound (known : Known) (segment : ℕ) (finding : checks.Finding) : Type 0 where
  pub looked_at : is_looked_at known segment ≡ true
  pub finds : Finds known.layout.form known.zero_lost (known.layout.masks segment) (cells_in known.dump known.layout segment) finding

-- it was counted, and its line was written
pub record Stepped {K : Type 0} (k : sinks.Meaning K) (known : Known) (segment : ℕ) (before after : CheckCounts)
    (old new : K) : Type 0 where
  pub finding : checks.Finding
  pub is : IsFound known segment finding
  pub counted : (findings : List checks.Finding) → HasCounted before findings → HasCounted after (findings ++ finding ∷ [])
  pub wrote : Wrote k old new (finding_line segment finding)

-- it is not to be looked at
pub record Passed {K : Type 0} (known : Known) (segment : ℕ) (before after : CheckCounts) (old new : K) : Type 0 where
  pub passed : is_looked_at known segment ≡ false
  pub counts : after ≡ before
  pub output : new ≡ old

-- a write failed in its line
pub record LineBroke {K : Type 0} (k : sinks.Meaning K) (known : Known) (segment : ℕ) (old new : K) : Type 0 where
  pub finding : checks.Finding
  pub is : IsFound known segment finding
  pub broke : BrokeOff k old new (finding_line segment finding)

-- how a segment went
abbrev pub Steps : {K : Type 0} → sinks.Meaning K → Known → (segment : ℕ) → (before after : CheckCounts) → (old new : K) →
    Result (Unit {0}) PutFault → Type 0
Steps k known segment before after old new (Ok done) =
    Stepped k known segment before after old new ⊎ Passed known segment before after old new
Steps k known segment before after old new (Err faults.Input) = new ≡ old
Steps k known segment before after old new (Err faults.Output) = LineBroke k known segment old new

-- whether a read failed
abbrev pub input_of : {T : Type 0} → Result T PutFault → Result (Unit {0}) (Unit {0})
input_of (Ok x) = Ok tt
input_of (Err faults.Input) = Err tt
input_of (Err faults.Output) = Ok tt

-- all were checked, and that was printed; or a fault cut it off
abbrev pub Checks : {K : Type 0} → sinks.Meaning K → Known → (old new : K) → Result Status PutFault → Type 0
Checks k known old new (Ok status) =
    (answer : Answer) × AnswersTo known commands.Check answer × (status ≡ answer.status) × Wrote k old new answer.printed
Checks k known old new (Err fault) = (answer : Answer) → AnswersTo known commands.Check answer → TookFront k old new answer.printed
