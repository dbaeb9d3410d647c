use Rattle.command_laws.proofs.CopyAgain.{copy_run_again, stopped_copy_can_be_read}
use Rattle.command_laws.proofs.CopyRest.{copy_run_again_is_done}
use Rattle.command_laws.proofs.copying.a_copy_run_again.Goals as goal

pub returns-clause-reads : goal.returns-clause-reads
returns-clause-reads g c = stopped_copy_can_be_read

pub returns-clause-done : goal.returns-clause-done
returns-clause-done g c = copy_run_again g.A.Tape.means g.B.Tape.means g.K.Sink.means

pub returns-clause-complete : goal.returns-clause-complete
returns-clause-complete g c = copy_run_again_is_done g.A.Tape.means g.B.Tape.means g.K.Sink.means
