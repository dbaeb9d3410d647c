-- The segments that a dump does not lack, by the set of those that it lacks (this project's own).
use Rattle.std.specs.Prelude.{ℕ, ◌-◌, not, List, count_by}
use Rattle.std.specs.List.{range_with_len}
use Rattle.dump_reader.specs.Piece.{is_marked}

-- how many there are from one on
abbrev pub there_from : (missing : List ℕ) → (first : ℕ) → ℕ
there_from missing first = count_by (λ segment. not (is_marked missing segment)) (range_with_len first (65536 - first))
