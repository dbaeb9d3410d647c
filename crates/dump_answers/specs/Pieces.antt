-- The pieces of a dump, counted (this project's own).
use Rattle.std.specs.Prelude.{ℕ, ◌≡◌, Bool, List, length, filter}
use Rattle.std.specs.List.{range_with_len}
use Rattle.dump_spec.specs.Dump.{Dump}
use Rattle.dump_spec.specs.Lines.{bad_count}
use Rattle.dump_spec.specs.Pieces.{Layout, has_piece, pieces}
use Rattle.dump_answers.specs.declared.pieces.PieceCounts.{PieceCounts}

-- how many there are, and how many sectors the masks of their segments leave out
pub record HasPieces (dump : Dump) (layout : Layout) (counts : PieceCounts) : Type 0 where
  pub pieces_are : counts.pieces ≡ length (pieces dump layout)
  pub bad : counts.bad ≡ bad_count layout.masks (pieces dump layout)

-- the segments below one that pass a test
unfoldable pub below : (ℕ → Bool) → (segment : ℕ) → List ℕ
below test segment = filter test (range_with_len 0 segment)

-- the same of the segments below one
pub record CountsTo (dump : Dump) (layout : Layout) (counts : PieceCounts) (segment : ℕ) : Type 0 where
  pub pieces_are : counts.pieces ≡ length (below (has_piece dump layout) segment)
  pub bad : counts.bad ≡ bad_count layout.masks (below (has_piece dump layout) segment)
