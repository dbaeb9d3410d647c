use Rattle.std.proofs.Common.{◌≡◌, ◌≤◌, length, map, take}
use Rattle.std.specs.List.{range_with_len}
use Rattle.flat_dump.specs.Cells.{cell_in, view_in}
use Rattle.flat_dump.specs.Import.{lost_count}
use Rattle.flat_dump.proofs.cells.fill_cells.Given as goal

abbrev pub invariant-loop-index : goal.invariant-loop-index
invariant-loop-index l = record {
  size : length l.cells ≡ 32;
  cells : take l.index l.cells ≡ map (cell_in l.word l.len l.sectors) (range_with_len 0 l.index);
  lost : l.lost ≡ lost_count (map (view_in l.word l.len l.sectors) (range_with_len 0 l.index));
  few : l.lost ≤ l.index;
}
