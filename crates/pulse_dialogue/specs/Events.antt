-- Trains of pulses, and the samples between them (this project's own: the gap that parts trains is chosen).
use Rattle.std.specs.Prelude.{ℕ, ◌+◌, Bool, List, [], ◌∷◌, if◌then◌else◌, nat_le}
use Rattle.pulse_dialogue.specs.declared.line.Line.{Line}
use Rattle.pulse_dialogue.specs.declared.line.Line.TheVariants.{Pulse, Sample}
use Rattle.pulse_dialogue.specs.Lines.{Ending, AtEnd, AtFault}

-- a train, with the time of its first pulse and the number of its pulses; or a sample, with its time and level
pub data Event : Type 0 where
  Train : ℕ → ℕ → Event
  Sampled : ℕ → Bool → Event

-- A pulse in front of the events behind it: it belongs to the train that begins at most the gap later, and else is a
-- train of its own.
abbrev pub with_pulse : (gap time : ℕ) → List Event → List Event
with_pulse gap time [] = Train time 1 ∷ []
with_pulse gap time (Train first count ∷ events) =
    if nat_le first (time + gap) then Train time (count + 1) ∷ events
    else Train time 1 ∷ Train first count ∷ events
with_pulse gap time (Sampled at level ∷ events) = Train time 1 ∷ Sampled at level ∷ events

-- the trains and samples of lines
abbrev pub events_of : (gap : ℕ) → List Line → List Event
events_of gap [] = []
events_of gap (Pulse time ∷ lines) = with_pulse gap time (events_of gap lines)
events_of gap (Sample time level ∷ lines) = Sampled time level ∷ events_of gap lines

-- without a train at their end, which a further line might have continued
abbrev pub without_open : List Event → List Event
without_open [] = []
without_open (Sampled time level ∷ events) = Sampled time level ∷ without_open events
without_open (Train first count ∷ []) = []
without_open (Train first count ∷ event ∷ events) = Train first count ∷ without_open (event ∷ events)

-- the end of the input ends a train, and a fault doesn't
abbrev pub ended_by : Ending → List Event → List Event
ended_by AtEnd events = events
ended_by (AtFault line place) events = without_open events
