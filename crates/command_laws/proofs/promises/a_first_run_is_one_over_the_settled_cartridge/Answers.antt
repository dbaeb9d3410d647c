use Rattle.command_laws.proofs.FirstRuns.{first_runs_over_settled}
use Rattle.command_laws.proofs.promises.a_first_run_is_one_over_the_settled_cartridge.Goals as goal

pub returns : goal.returns
returns g c = first_runs_over_settled g.T.Tape.means g.S.Source.means g.K.Sink.means
