-- The bytes of a made volume from one on (this project's own).
use Rattle.std.specs.Prelude.{ℕ, ◌+◌, ◌%◌, List, map}
use Rattle.std.specs.List.{range_with_len}

-- so many bytes that count on from a byte, modulo 251
unfoldable pub made_from : (first count : ℕ) → List ℕ
made_from first count = map (λ i. (first + i) % 251) (range_with_len 0 count)
