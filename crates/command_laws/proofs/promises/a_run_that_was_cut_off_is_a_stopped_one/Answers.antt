use Rattle.command_laws.proofs.CutRuns.{cut_runs_are_stopped}
use Rattle.command_laws.proofs.promises.a_run_that_was_cut_off_is_a_stopped_one.Goals as goal

pub returns : goal.returns
returns g c = cut_runs_are_stopped g.T.Tape.means g.S.Source.means g.K.Sink.means
