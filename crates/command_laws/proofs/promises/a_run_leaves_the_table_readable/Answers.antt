use Rattle.command_laws.proofs.ReadableRuns.{runs_keep_readable}
use Rattle.command_laws.proofs.promises.a_run_leaves_the_table_readable.Goals as goal

pub returns : goal.returns
returns g c = runs_keep_readable g.T.Tape.means g.S.Source.means g.K.Sink.means
