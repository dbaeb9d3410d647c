-- The bytes of the volumes that `make` appends, and their sums (this project's own).
use Rattle.std.specs.Prelude.{ℕ, List, Some, ◌≡◌, ◌+◌, ◌%◌, ◌^◌, sum, None}
use Rattle.qic_base.specs.Source as sources
use Rattle.qic_base.specs.Sink as sinks

-- a source of made bytes is seen as the bytes that are left: it tells them, keeps nothing and never fails
abbrev pub made_means : sources.Meaning (List ℕ)
made_means = record { left = λ bytes. Some bytes; keeps = λ _ _. Unit {0}; faults = λ _. 0 }

-- ---- its sum

-- a sink that sums is seen as its sum modulo 2^32: it tells no bytes, and what it took is said by its sum
abbrev pub sum_means : sinks.Meaning ℕ
sum_means = record {
  written = λ _. None;
  took = λ old bytes new. new % 2 ^ 32 ≡ (old + sum bytes) % 2 ^ 32;
  faults = λ _. 0;
}
