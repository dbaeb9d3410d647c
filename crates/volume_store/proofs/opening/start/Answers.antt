use Rattle.volume_store.proofs.Started.{start_ends}
use Rattle.volume_store.proofs.opening.start.Goals as goal

pub returns : goal.returns
returns g c =
    start_ends g.T.Tape.means c.args.unit.now c.start.new.unit c.start.result c.start.ensures.did c.start.ensures.ready
    c.start.ensures.absent c.start.ensures.told c.start.ensures.agrees
