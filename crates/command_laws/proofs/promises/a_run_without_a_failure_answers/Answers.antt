use Rattle.command_laws.proofs.PromiseFollowing.{answers_where_none_rose}
use Rattle.command_laws.proofs.promises.a_run_without_a_failure_answers.Goals as goal

pub returns : goal.returns
returns g c = answers_where_none_rose g.T.Tape.means g.S.Source.means g.K.Sink.means
