use Rattle.std.proofs.Common.{◌≡◌}
use Rattle.cart_image.proofs.Copies.{Copying}
use Rattle.cart_image.proofs.upgrading.copy_all.Given as goal

abbrev pub invariant-loop-segment : goal.invariant-loop-segment
invariant-loop-segment g l = record {
  copying : Copying g.D.Disk.means l.fn.disk l.disk l.segments_per_track l.segment;
  seen : g.D.Disk.means.seen_len l.disk ≡ g.D.Disk.means.seen_len l.fn.disk;
}
