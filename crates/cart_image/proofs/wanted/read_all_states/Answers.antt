use Rattle.cart_image.proofs.Asked.{states-marked}
use Rattle.cart_image.proofs.wanted.read_all_states.Goals as goal

pub returns-in-Some-clause-states : goal.returns-in-Some-clause-states
returns-in-Some-clause-states g c = λ wanted.
    states-marked (g.D.Disk.means.told c.args.disk.now) c.args.layout c.args.segment wanted c.in-Some.marks c.states_by.result
    c.in-Some.ensures.marks c.states_by.ensures
