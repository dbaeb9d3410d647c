-- What a sink in memory shows: the bytes written, its room in bytes, and its chosen failures (this project's profile).
use Rattle.std.specs.Prelude.{◌≡◌, ℕ, List, ◌++◌, Some, None}
use Rattle.qic_base.specs.Sink.{Meaning}
use Rattle.qic_mem.specs.Plan.{Plan}
use Rattle.qic_mem.specs.declared.sure_sink.SureSink.{SureSink}

pub record SinkState : Type 0 where
  pub bytes : List ℕ
  pub room : ℕ
  pub plan : Plan

-- it tells its bytes, and takes a list by having it at their end
abbrev pub sink_means : Meaning SinkState
sink_means = record { written = λ k. Some k.bytes; took = λ old taken new. new.bytes ≡ old.bytes ++ taken; faults = λ k. k.plan.faults }

-- one that keeps nothing tells no bytes, and counts no faults; it may have taken any list
abbrev pub sure_sink_means : Meaning SureSink
sure_sink_means = record { written = λ k. None; took = λ old taken new. Unit {0}; faults = λ k. 0 }
