use Rattle.std.proofs.Common.{◌≡◌, ◌*◌, ◌≤◌, length}
use Rattle.cart_image.specs.Layout.{head_len}
use Rattle.flat_dump.proofs.Copying.{CopiedSoFar}
use Rattle.flat_dump.proofs.importing.copy_segments.Given as goal

abbrev pub invariant-loop-segment : goal.invariant-loop-segment
invariant-loop-segment g l = record {
  seen : head_len ≤ g.D.Disk.means.seen_len l.disk;
  kept : g.S.Source.means.keeps l.initial.source l.source;
  stood : g.S.Source.means.faults l.source ≡ g.S.Source.means.faults l.initial.source;
  room : length l.sectors ≡ 32;
  segments : l.copied.segments ≡ l.segment;
  bytes : l.copied.bytes ≡ 32768 * l.segment;
  few : l.copied.lost ≤ 32 * l.segment;
  so_far : CopiedSoFar g.S.Source.means g.D.Disk.means l.initial.source l.source l.initial.disk l.disk l.mask l.segment l.copied.lost
      (32768 * l.segment);
}
