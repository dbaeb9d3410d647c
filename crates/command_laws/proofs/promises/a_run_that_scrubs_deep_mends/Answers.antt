use Rattle.command_laws.proofs.DeepScrubEnds.{deep_scrub_run_mends}
use Rattle.command_laws.proofs.promises.a_run_that_scrubs_deep_mends.Goals as goal

pub returns : goal.returns
returns g c = deep_scrub_run_mends g.T.Tape.means g.S.Source.means g.K.Sink.means
