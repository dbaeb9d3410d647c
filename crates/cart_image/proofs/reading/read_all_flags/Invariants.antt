use Rattle.std.proofs.Common.{◌≡◌}
use Rattle.cart_image.specs.Run.{Looks}
use Rattle.cart_image.proofs.Known.{ReadSo}
use Rattle.cart_image.proofs.reading.read_all_flags.Given as goal

abbrev pub invariant-loop-i : goal.invariant-loop-i
invariant-loop-i g l = record {
  looks : Looks g.D.Disk.means l.fn.disk l.disk;
  seen : g.D.Disk.means.seen_len l.disk ≡ g.D.Disk.means.seen_len l.fn.disk;
  so : ReadSo (g.D.Disk.means.told l.fn.disk) l.layout l.segment l.gates l.formed l.defects l.i;
}
