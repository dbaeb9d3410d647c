use Rattle.std.proofs.Common.{◌≡◌}
use Rattle.cart_image.specs.Layout.{cell_with, cells_by}
use Rattle.cart_image.specs.Run.{Ran}
use Rattle.cart_image.proofs.upgrading.write_cells.Given as goal

abbrev pub invariant-loop-i : goal.invariant-loop-i
invariant-loop-i g l = record {
  ran : Ran g.D.Disk.means l.fn.disk l.disk
      (cells_by l.segments_per_track l.first
      (cell_with l.marks.gates l.marks.formed l.marks.defects l.block) l.i);
  seen : g.D.Disk.means.seen_len l.disk ≡ g.D.Disk.means.seen_len l.fn.disk;
}
