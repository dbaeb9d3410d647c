-- How a run of the program ends (this project's own).
use Rattle.std.specs.Prelude.{◌≡◌, ℕ, List, Result, Ok, Err}
use Rattle.qic_base.specs.Sink as sinks
use Rattle.qic_base.specs.Source as sources
use Rattle.pulse_dialogue.specs.declared.fault.TraceFault.{TraceFault as Fault}
use Rattle.pulse_dialogue.specs.declared.fault.TraceFault.TheVariants as fault
use Rattle.pulse_dialogue.specs.Lines.{AtEnd, AtFault}
use Rattle.pulse_dialogue.specs.Runs.{Streams, Ended, Unread, Unwritten}
use Rattle.program_words.specs.TraceWords.{HasGap, IsRefused}
use Rattle.program_words.specs.declared.gap.BadGap.{BadGap}
use Rattle.program_words.specs.declared.gap.BadGap.TheVariants as bad
use Rattle.pulse_trace.specs.declared.status.TraceStatus.{TraceStatus}
use Rattle.pulse_trace.specs.declared.status.TraceStatus.TheVariants.{Done, Usage, TraceFault, SourceFault, SinkFault, NoMemory}

-- the exit status
abbrev pub status_code : TraceStatus → ℕ
status_code Done = 0
status_code Usage = 2
status_code (TraceFault line place) = 3
status_code SourceFault = 16
status_code SinkFault = 17
status_code NoMemory = 19

-- the status of a run whose telling ended so
abbrev pub status_told : Result (Unit {0}) Fault → TraceStatus
status_told (Ok done) = Done
status_told (Err (fault.Line line place)) = TraceFault line place
status_told (Err fault.Source) = SourceFault
status_told (Err fault.Sink) = SinkFault

-- the status of a run whose words gave no gap
abbrev pub status_refused : BadGap → TraceStatus
status_refused bad.Refused = Usage
status_refused bad.NoMemory = NoMemory

-- with the gap that the words give
abbrev pub WithGap : List (List ℕ) → (ℕ → Type 0) → Type 0
WithGap words P = (gap : ℕ) × HasGap words gap × P gap

-- How a run ended: the words were refused, or there was no memory for them, and nothing was done; or the recording was
-- told with their gap, to its end, to a line at fault, or so far as a fault of the outside let it.
abbrev pub Runs : {S K : Type 0} (s : sources.Meaning S) (k : sinks.Meaning K) → List (List ℕ) → (old new : Streams S K) → TraceStatus →
    Type 0
Runs s k words old new Done = WithGap words (λ gap. Ended s k gap old new AtEnd)
Runs s k words old new (TraceFault line place) = WithGap words (λ gap. Ended s k gap old new (AtFault line place))
Runs s k words old new SourceFault = WithGap words (λ gap. Unread s k gap old new)
Runs s k words old new SinkFault = WithGap words (λ gap. Unwritten s k gap old new)
Runs s k words old new Usage = IsRefused words × (new ≡ old)
Runs s k words old new NoMemory = new ≡ old
