use Rattle.std.proofs.Common.{◌≡◌}
use Rattle.cart_image.proofs.Loops.{Goes}
use Rattle.cart_image.proofs.filling.write_chosen.Given as goal

abbrev pub invariant-loop-i : goal.invariant-loop-i
invariant-loop-i g l = record {
  goes : Goes g.D.Disk.means l.fn.disk l.disk l.layout l.part l.values l.first l.chosen l.i l.under;
  seen : g.D.Disk.means.seen_len l.disk ≡ g.D.Disk.means.seen_len l.fn.disk;
}
