-- The ends of a run by those of its telling, or by its words.
use Rattle.std.proofs.Common.{◌≡◌, ◌≢◌, ℕ, List, Result, Ok, Err, refl}
use Rattle.qic_base.specs.Sink as sinks
use Rattle.qic_base.specs.Source as sources
use Rattle.pulse_dialogue.specs.declared.fault.TraceFault.{TraceFault as Fault}
use Rattle.pulse_dialogue.specs.declared.fault.TraceFault.TheVariants as fault
use Rattle.pulse_dialogue.specs.Runs.{Streams, Tells}
use Rattle.program_words.specs.TraceWords.{HasGap, IsRefusedBy}
use Rattle.program_words.specs.declared.gap.BadGap.{BadGap}
use Rattle.program_words.specs.declared.gap.BadGap.TheVariants as bad
use Rattle.pulse_trace.specs.declared.status.TraceStatus.TheVariants.{SourceFault, SinkFault}
use Rattle.pulse_trace.specs.Runs.{Runs, status_told, status_refused}

pub Runs-told : {S K : Type 0} (s : sources.Meaning S) (k : sinks.Meaning K) (words : List (List ℕ)) (old new : Streams S K) (gap : ℕ)
    (answer : Result (Unit {0}) Fault) →
    HasGap words gap → Tells s k gap old new answer → Runs s k words old new (status_told answer)
Runs-told s k words old new gap (Ok done) has told = (gap, has, told)
Runs-told s k words old new gap (Err (fault.Line line place)) has told = (gap, has, told)
Runs-told s k words old new gap (Err fault.Source) has told = (gap, has, told)
Runs-told s k words old new gap (Err fault.Sink) has told = (gap, has, told)

pub Runs-refused : {S K : Type 0} (s : sources.Meaning S) (k : sinks.Meaning K) (words : List (List ℕ)) (streams : Streams S K)
    (why : BadGap) →
    IsRefusedBy words why → Runs s k words streams streams (status_refused why)
Runs-refused s k words streams bad.Refused refused = (refused, refl)
Runs-refused s k words streams bad.NoMemory refused = refl

pub told_source : (answer : Result (Unit {0}) Fault) → status_told answer ≡ SourceFault → answer ≡ Err fault.Source
told_source (Ok done) e = cc
told_source (Err (fault.Line line place)) e = cc
told_source (Err fault.Source) e = refl
told_source (Err fault.Sink) e = cc

pub told_sink : (answer : Result (Unit {0}) Fault) → status_told answer ≡ SinkFault → answer ≡ Err fault.Sink
told_sink (Ok done) e = cc
told_sink (Err (fault.Line line place)) e = cc
told_sink (Err fault.Source) e = cc
told_sink (Err fault.Sink) e = refl

-- words refuse before any call of the outside
pub refused_source : (why : BadGap) → status_refused why ≢ SourceFault
refused_source bad.Refused e = cc
refused_source bad.NoMemory e = cc

pub refused_sink : (why : BadGap) → status_refused why ≢ SinkFault
refused_sink bad.Refused e = cc
refused_sink bad.NoMemory e = cc
