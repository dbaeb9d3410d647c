use Rattle.command_laws.proofs.PromiseFollowing.{scripts_untold}
use Rattle.command_laws.proofs.promises.a_script_over_nothing_told.Goals as goal

pub returns : goal.returns
returns g c = scripts_untold g.T.Tape.means g.S.Source.means g.K.Sink.means
