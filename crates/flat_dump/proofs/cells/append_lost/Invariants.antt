use Rattle.std.proofs.Common.{◌≡◌, ℕ, ◌+◌, ◌*◌, ◌≤◌, ◌++◌, List, length, replicate}
use Rattle.cart_image.specs.Layout.{cells_len, head_len}
use Rattle.flat_dump.specs.Cells.{lost_cell}
use Rattle.flat_dump.specs.Importing.{Unfinished, lost_cells}
use Rattle.flat_dump.proofs.cells.append_lost.Given as goal

abbrev pub invariant-loop-segment : goal.invariant-loop-segment
invariant-loop-segment g l = record {
  order : l.from ≤ l.segment;
  seen : head_len ≤ g.D.Disk.means.seen_len l.disk;
  cells : l.cells ≡ replicate 32 lost_cell;
  goes : (first : g.row.D.Denot) (file : List ℕ) (more : ℕ) → length file ≡ head_len + cells_len * l.from → l.from + more ≡ l.segment →
      Unfinished g.D.Disk.means first l.initial.disk file → Unfinished g.D.Disk.means first l.disk (file ++ lost_cells more);
}
