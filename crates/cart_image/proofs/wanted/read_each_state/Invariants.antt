use Rattle.std.proofs.Common.{◌≡◌}
use Rattle.cart_image.specs.Run.{Looks}
use Rattle.cart_image.proofs.Asked.{StatesSeen}
use Rattle.cart_image.proofs.wanted.read_each_state.Given as goal

abbrev pub invariant-loop-i : goal.invariant-loop-i
invariant-loop-i g l = record {
  looks : Looks g.D.Disk.means l.fn.disk l.disk;
  seen : g.D.Disk.means.seen_len l.disk ≡ g.D.Disk.means.seen_len l.fn.disk;
  so : StatesSeen (g.D.Disk.means.told l.fn.disk) l.layout l.segment l.wanted l.states l.i;
}
