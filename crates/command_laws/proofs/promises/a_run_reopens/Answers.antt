use Rattle.command_laws.proofs.CutRuns.{runs_reopen}
use Rattle.command_laws.proofs.promises.a_run_reopens.Goals as goal

pub returns : goal.returns
returns g c = runs_reopen g.T.Tape.means g.S.Source.means g.K.Sink.means
