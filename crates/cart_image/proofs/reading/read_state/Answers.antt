use Rattle.std.proofs.Common.{arith}
use Rattle.cart_image.proofs.States.{cell-state}
use Rattle.cart_image.proofs.reading.read_state.Goals as goal

pub returns-clause-state : goal.returns-clause-state
returns-clause-state g c =
    cell-state (g.D.Disk.means.told c.args.disk.now) c.args.layout c.args.sector c.place.result 3 c.in_ok-flags.flags _ c.requires.cells
    c.requires.place c.place.ensures (omega arith) (omega arith) c.in_ok-flags.ensures.bytes c.state_by.ensures
