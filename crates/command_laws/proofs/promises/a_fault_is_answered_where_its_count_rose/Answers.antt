use Rattle.command_laws.proofs.PromiseFollowing.{faults_where_counts_rose}
use Rattle.command_laws.proofs.promises.a_fault_is_answered_where_its_count_rose.Goals as goal

pub returns : goal.returns
returns g c = faults_where_counts_rose g.T.Tape.means g.S.Source.means g.K.Sink.means
