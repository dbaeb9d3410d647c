use Rattle.std.proofs.Common.{sym, ◌∙◌}
use Rattle.pulse_trace.proofs.Endings.{Runs-told, Runs-refused, told_source, told_sink, refused_source, refused_sink}
use Rattle.pulse_trace.proofs.run.run_trace.Goals as goal

pub returns-in-Ok-clause-runs : goal.returns-in-Ok-clause-runs
returns-in-Ok-clause-runs g c =
    rw c.told.ensures (Runs-told g.S.Source.means g.K.Sink.means _ _ _ c.in-Ok.gap c.tell_recording.result c.in-Ok.ensures
    c.tell_recording.ensures.tells)

pub returns-in-Ok-clause-source_fault : goal.returns-in-Ok-clause-source_fault
returns-in-Ok-clause-source_fault g c fault = c.tell_recording.ensures.source_fault (told_source _ (sym c.told.ensures ∙ fault))

pub returns-in-Ok-clause-sink_fault : goal.returns-in-Ok-clause-sink_fault
returns-in-Ok-clause-sink_fault g c fault = c.tell_recording.ensures.sink_fault (told_sink _ (sym c.told.ensures ∙ fault))

pub returns-in-Err-clause-runs : goal.returns-in-Err-clause-runs
returns-in-Err-clause-runs g c =
    rw c.refused.ensures (Runs-refused g.S.Source.means g.K.Sink.means _ _ c.in-Err.bad c.in-Err.ensures)

pub returns-in-Err-clause-source_fault : goal.returns-in-Err-clause-source_fault
returns-in-Err-clause-source_fault g c fault = absurd (refused_source _ (sym c.refused.ensures ∙ fault))

pub returns-in-Err-clause-sink_fault : goal.returns-in-Err-clause-sink_fault
returns-in-Err-clause-sink_fault g c fault = absurd (refused_sink _ (sym c.refused.ensures ∙ fault))
