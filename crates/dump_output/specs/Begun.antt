-- The begin of a map (this project's own).
use Rattle.std.specs.Prelude.{ℕ, ◌≡◌, List, [], Result, Ok, Err}
use Rattle.dump_spec.specs.Output.{sure_text}
use Rattle.dump_spec.specs.declared.mark.Mark.{Mark}
use Rattle.dump_output.specs.SoFar.{MapSoFar}
use Rattle.dump_output.specs.declared.progress.Progress.{Progress}
use Rattle.qic_base.specs.Sink.{Meaning}
use Rattle.qic_base.specs.SinkCalls.{BrokeOff}

-- before the first of so many bytes it is written as far as it is known; or a fault broke it off, whatever bytes come
abbrev pub Begins : {M E : Type 0} → Meaning M → (old new : M) → (size : ℕ) → Result Progress E → Type 0
Begins s old new size (Ok progress) = MapSoFar s old new progress.map [] × (progress.left ≡ size)
Begins s old new size (Err e) = (marks : List Mark) → BrokeOff s old new (sure_text marks)
