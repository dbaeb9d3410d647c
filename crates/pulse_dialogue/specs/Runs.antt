-- What the telling of a recording did to the outside (this project's own).
use Rattle.std.specs.Prelude.{◌≡◌, ℕ, List, ◌++◌, length, drop, Result, Ok, Err}
use Rattle.std.specs.Option.{option_map}
use Rattle.qic_base.specs.Sink as sinks
use Rattle.qic_base.specs.SinkCalls as sink_calls
use Rattle.qic_base.specs.Source as sources
use Rattle.tape_script.specs.Reading.{LeftFromLine}
use Rattle.pulse_dialogue.specs.declared.fault.TraceFault.{TraceFault}
use Rattle.pulse_dialogue.specs.declared.fault.TraceFault.TheVariants as fault
use Rattle.pulse_dialogue.specs.declared.line.Line.{Line}
use Rattle.pulse_dialogue.specs.Lines.{Ending, AtEnd, AtFault, IsRecording}
use Rattle.pulse_dialogue.specs.Dialogue.{dialogue}
use Rattle.qic_base.specs.Source.{IsInput}

-- the source and the sink, before a call or after it
pub record Streams (S K : Type 0) : Type 0 where
  pub source : S
  pub sink : K

-- what is left of the source: nothing of the input; or an end of it from the line at fault on
abbrev pub Leaves : {S : Type 0} (s : sources.Meaning S) (old new : S) → (input : List ℕ) → Ending → Type 0
Leaves s old new input AtEnd = s.left new ≡ option_map (drop (length input)) (s.left old)
Leaves s old new input (AtFault line place) = LeftFromLine s old new place

-- the input was read so far that its ending is known, and its dialogue was written
pub record Ended {S K : Type 0} (s : sources.Meaning S) (k : sinks.Meaning K) (gap : ℕ) (old new : Streams S K)
    (ending : Ending) : Type 0 where
  pub input : List ℕ
  pub whole : IsInput (s.left old.source) input
  pub lines : List Line
  pub recording : IsRecording input lines ending
  pub wrote : sinks.Wrote k old.sink new.sink (dialogue gap lines ending)
  pub left : Leaves s old.source new.source input ending

-- a fault of the source broke it off: a front of the dialogue was written
pub record Unread {S K : Type 0} (s : sources.Meaning S) (k : sinks.Meaning K) (gap : ℕ) (old new : Streams S K) : Type 0 where
  pub input : List ℕ
  pub whole : IsInput (s.left old.source) input
  pub lines : List Line
  pub ending : Ending
  pub recording : IsRecording input lines ending
  pub front : List ℕ
  pub rest : List ℕ
  pub parts : front ++ rest ≡ dialogue gap lines ending
  pub wrote : sinks.Wrote k old.sink new.sink front

-- a fault of the sink broke the dialogue off
pub record Unwritten {S K : Type 0} (s : sources.Meaning S) (k : sinks.Meaning K) (gap : ℕ) (old new : Streams S K) : Type 0 where
  pub input : List ℕ
  pub whole : IsInput (s.left old.source) input
  pub lines : List Line
  pub ending : Ending
  pub recording : IsRecording input lines ending
  pub broke : sink_calls.BrokeOff k old.sink new.sink (dialogue gap lines ending)

-- how a telling ended
abbrev pub Tells : {S K : Type 0} (s : sources.Meaning S) (k : sinks.Meaning K) (gap : ℕ) (old new : Streams S K) →
    Result (Unit {0}) TraceFault → Type 0
Tells s k gap old new (Ok done) = Ended s k gap old new AtEnd
Tells s k gap old new (Err (fault.Line line place)) = Ended s k gap old new (AtFault line place)
Tells s k gap old new (Err fault.Source) = Unread s k gap old new
Tells s k gap old new (Err fault.Sink) = Unwritten s k gap old new
