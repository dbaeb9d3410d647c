use Rattle.command_laws.proofs.PromiseFollowing.{check_leaves_all}
use Rattle.command_laws.proofs.promises.a_run_that_checks_leaves_all.Goals as goal

pub returns : goal.returns
returns g c = check_leaves_all g.T.Tape.means g.S.Source.means g.K.Sink.means
