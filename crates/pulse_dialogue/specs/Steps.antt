-- What one line of the input did to a teller and to the outside (this project's own).
use Rattle.std.specs.Prelude.{◌≡◌, ◌⊎◌, ℕ, ◌≤◌, [], length, Option, Some, None, Result, Ok, Err}
use Rattle.qic_base.specs.Sink as sinks
use Rattle.qic_base.specs.SinkCalls as sink_calls
use Rattle.qic_base.specs.Source as sources
use Rattle.qic_base.specs.SourceCalls.{Gave, HasEnded}
use Rattle.tape_script.specs.Reading.{BeginsWithNo}
use Rattle.pulse_dialogue.specs.declared.fault.TraceFault.{TraceFault}
use Rattle.pulse_dialogue.specs.declared.fault.TraceFault.TheVariants as fault
use Rattle.pulse_dialogue.specs.declared.line.Line.{Line}
use Rattle.pulse_dialogue.specs.declared.teller.Teller.{Teller}
use Rattle.pulse_dialogue.specs.Lines.{line_bytes, Follows}
use Rattle.pulse_dialogue.specs.Dialogue.{IsSound}
use Rattle.pulse_dialogue.specs.Reading.{GaveBytes}
use Rattle.pulse_dialogue.specs.Telling.{told_at, after_line, ended_text}

-- a teller, the source and the sink
pub record Scene (S K : Type 0) : Type 0 where
  pub teller : Teller
  pub source : S
  pub sink : K

-- a line was read, of so many bytes, and may stand there
pub record Read {S : Type 0} (s : sources.Meaning S) (teller : Teller) (old new : S) (line : Line) : Type 0 where
  pub follows : Follows teller.time line
  pub gave : Gave s old new (line_bytes line)
  pub short : length (line_bytes line) ≤ 128

-- it was told
pub record Told {S K : Type 0} (s : sources.Meaning S) (k : sinks.Meaning K) (old new : Scene S K) (n : ℕ) : Type 0 where
  pub line : Line
  pub read : Read s old.teller old.source new.source line
  pub long : length (line_bytes line) ≡ n
  pub teller : new.teller ≡ after_line old.teller line
  pub wrote : sinks.Wrote k old.sink new.sink (told_at old.teller line)
  pub sound : IsSound new.teller.context

-- the input is over, and what the open train says was told
pub record ToldEnd {S K : Type 0} (s : sources.Meaning S) (k : sinks.Meaning K) (old new : Scene S K) : Type 0 where
  pub ended : HasEnded s old.source
  pub gave : Gave s old.source new.source []
  pub wrote : sinks.Wrote k old.sink new.sink (ended_text old.teller.context old.teller.open_train)

-- no line that may stand there begins what is left
abbrev pub HasNoLine : {S : Type 0} (s : sources.Meaning S) → Teller → S → Type 0
HasNoLine s teller old = (line : Line) → Follows teller.time line → BeginsWithNo s old (λ text. text ≡ line_bytes line)

-- a fault of the sink broke off what a line says
pub record LineBroke {S K : Type 0} (s : sources.Meaning S) (k : sinks.Meaning K) (old new : Scene S K) : Type 0 where
  pub line : Line
  pub read : Read s old.teller old.source new.source line
  pub broke : sink_calls.BrokeOff k old.sink new.sink (told_at old.teller line)

-- or what the end says
pub record EndBroke {S K : Type 0} (s : sources.Meaning S) (k : sinks.Meaning K) (old new : Scene S K) : Type 0 where
  pub ended : HasEnded s old.source
  pub broke : sink_calls.BrokeOff k old.sink new.sink (ended_text old.teller.context old.teller.open_train)

-- What a reading did where a line may stand, with this number and so many bytes before it.
abbrev pub Hears : {S K : Type 0} (s : sources.Meaning S) (k : sinks.Meaning K) (old new : Scene S K) (line place : ℕ) →
    Result (Option ℕ) TraceFault → Type 0
Hears s k old new line place (Ok (Some n)) = Told s k old new n
Hears s k old new line place (Ok None) = ToldEnd s k old new
Hears s k old new line place (Err (fault.Line number before)) =
    (number ≡ line) × (before ≡ place) × (new.sink ≡ old.sink) × GaveBytes s old.source new.source
    × HasNoLine s old.teller old.source
Hears s k old new line place (Err fault.Source) = new.sink ≡ old.sink
Hears s k old new line place (Err fault.Sink) = LineBroke s k old new ⊎ EndBroke s k old new

-- What it did behind the last line that may stand.
abbrev pub HearsEnd : {S K : Type 0} (s : sources.Meaning S) (k : sinks.Meaning K) (old new : Scene S K) (line place : ℕ) →
    Result (Unit {0}) TraceFault → Type 0
HearsEnd s k old new line place (Ok done) = ToldEnd s k old new
HearsEnd s k old new line place (Err (fault.Line number before)) =
    (number ≡ line) × (before ≡ place) × (new.sink ≡ old.sink) × GaveBytes s old.source new.source
HearsEnd s k old new line place (Err fault.Source) = new.sink ≡ old.sink
HearsEnd s k old new line place (Err fault.Sink) = EndBroke s k old new
