use Rattle.std.proofs.Common.{◌≤◌, length}
use Rattle.cart_image.specs.Layout.{end_of}
use Rattle.cart_image.specs.State.{AreStatesOf}
use Rattle.cart_image.proofs.Exits.{Looked-after}
use Rattle.cart_image.proofs.FailedLooks.{ok-behind}
use Rattle.cart_image.proofs.wanted.read_states.Goals as goal

pub returns-in-Some-clause-states : goal.returns-in-Some-clause-states
returns-in-Some-clause-states g c = c.in-Some.ensures.states c.args.wanted

pub returns-in-None-clause-looked : goal.returns-in-None-clause-looked
returns-in-None-clause-looked g c =
    Looked-after g.D.Disk.means _ _ _ c.read_each_state-in-None.result
    c.read_all_states.ensures.looks c.read_each_state-in-None.ensures.looked

pub returns-in-None-clause-states : goal.returns-in-None-clause-states
returns-in-None-clause-states g c =
    ok-behind c.read_each_state-in-None.result (g.D.Disk.means.told c.args.disk.now) _
    (λ states bytes. end_of c.args.layout ≤ length bytes → AreStatesOf c.args.layout c.args.segment c.args.wanted bytes states)
    c.read_all_states.ensures.looks.told c.read_each_state-in-None.ensures.states
