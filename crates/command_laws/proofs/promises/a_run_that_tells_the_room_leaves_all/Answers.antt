use Rattle.command_laws.proofs.PromiseFollowing.{room_leaves_all}
use Rattle.command_laws.proofs.promises.a_run_that_tells_the_room_leaves_all.Goals as goal

pub returns : goal.returns
returns g c = room_leaves_all g.T.Tape.means g.S.Source.means g.K.Sink.means
