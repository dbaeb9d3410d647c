-- What the line did behind the last that may be an item, and the last reply (this project's own).
use Rattle.std.specs.Prelude.{◌≡◌, ℕ, Result, Ok, Err}
use Rattle.qic_base.specs.Tape.{Rose}
use Rattle.qic_base.specs.Sink as sinks
use Rattle.qic_base.specs.SinkCalls as sink_calls
use Rattle.qic_base.specs.Source as sources
use Rattle.tape_script.specs.Reading.{GaveEnd, GaveFront, GaveNoEnd}
use Rattle.command_spec.specs.declared.status.Status.{Status}
use Rattle.command_spec.specs.declared.status.Status.TheVariants as status
use Rattle.command_spec.specs.Script.{end_line}

abbrev pub HearsEnd : {S : Type 0} (s : sources.Meaning S) (old new : S) (number place : ℕ) → Result (Unit {0}) Status → Type 0
HearsEnd s old new number place (Ok done) = GaveEnd s old new
HearsEnd s old new number place (Err (status.ScriptFault line at)) = (line ≡ number) × (at ≡ place) × GaveNoEnd s old new
HearsEnd s old new number place (Err status.SourceFault) = Rose (s.faults old) (s.faults new) × GaveFront s old new
HearsEnd s old new number place (Err other) = ⊥

abbrev pub RepliesEnd : {K : Type 0} (k : sinks.Meaning K) (old new : K) → Result (Unit {0}) Status → Type 0
RepliesEnd k old new (Ok done) = sinks.Wrote k old new end_line
RepliesEnd k old new (Err status.SinkFault) = sink_calls.BrokeOff k old new end_line
RepliesEnd k old new (Err other) = ⊥
