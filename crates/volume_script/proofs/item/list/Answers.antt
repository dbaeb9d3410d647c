use Rattle.std.proofs.Common.{refl}
use Rattle.volume_script.proofs.Quiet.{listed}
use Rattle.volume_script.proofs.item.list.Goals as goal

pub returns-clause-ends : goal.returns-clause-ends
returns-clause-ends g c =
    rw c.replied.ensures
    (listed g.T.Tape.means g.S.Source.means g.K.Sink.means c.args.store.now c.args.store.now c.args.unit.now.tape c.args.source.now
    c.args.sink.now c.write_list.new.sink
    g.met.K.Sink.took_both g.met.K.Sink.took_nothing c.write_list.result refl c.write_list.ensures)
