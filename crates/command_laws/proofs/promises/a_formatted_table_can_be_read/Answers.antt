use Rattle.command_laws.proofs.ReadableRuns.{formats_leave_readable, formatted_can_be_read}
use Rattle.command_laws.proofs.promises.a_formatted_table_can_be_read.Goals as goal

pub returns-clause-done : goal.returns-clause-done
returns-clause-done g c = formatted_can_be_read g.T.Tape.means g.S.Source.means g.K.Sink.means

pub returns-clause-stopped : goal.returns-clause-stopped
returns-clause-stopped g c = formats_leave_readable g.T.Tape.means g.S.Source.means g.K.Sink.means
