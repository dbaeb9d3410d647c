-- What is told at once and what is told later make up the dialogue.
use Rattle.std.proofs.Common.{◌≡◌, ◌≢◌, ℕ, ◌+◌, Bool, true, false, List, [], ◌∷◌, ◌++◌, Option, Some, None, if◌then◌else◌, nat_le, refl}
use Rattle.std.proofs.Common.{sym, ap, ◌∙◌, arith, append_assoc, append-nil}
use Rattle.pulse_dialogue.specs.declared.context.Context.{Context}
use Rattle.pulse_dialogue.specs.declared.line.Line.{Line}
use Rattle.pulse_dialogue.specs.declared.line.Line.TheVariants.{Pulse, Sample}
use Rattle.pulse_dialogue.specs.declared.teller.OpenTrain.{OpenTrain}
use Rattle.pulse_dialogue.specs.declared.teller.Teller.{Teller}
use Rattle.pulse_dialogue.specs.Lines.{Ending, AtEnd, AtFault}
use Rattle.pulse_dialogue.specs.Events.{Event, Train, Sampled, with_pulse, events_of, without_open, ended_by}
use Rattle.pulse_dialogue.specs.Dialogue.{told_from, sample_line, heard_level}
use Rattle.pulse_dialogue.specs.Telling.{continues, continued, begun, ended_text, ended_context, told_at, after_line}

-- an open train in front of the events behind it
abbrev pub joined : (gap : ℕ) → Option OpenTrain → List Event → List Event
joined gap None events = events
joined gap (Some o) [] = Train o.first o.count ∷ []
joined gap (Some o) (Train first count ∷ events) =
    if nat_le first (o.last + gap) then Train o.first (o.count + count) ∷ events
    else Train o.first o.count ∷ Train first count ∷ events
joined gap (Some o) (Sampled time level ∷ events) = Train o.first o.count ∷ Sampled time level ∷ events

-- an open train that ends in front of them
abbrev pub closed : Option OpenTrain → List Event → List Event
closed None events = events
closed (Some o) events = Train o.first o.count ∷ events

-- what is told from a teller on
abbrev pub to_tell : Teller → Ending → List Line → List ℕ
to_tell t ending lines = told_from t.context (ended_by ending (joined t.gap t.open_train (events_of t.gap lines)))

-- ---- pulses

one_more : (first count more : ℕ) (events : List Event) → Train first (count + (more + 1)) ∷ events ≡ Train first
    (count + 1 + more) ∷ events
one_more first count more events = ap (λ (n : ℕ). Train first n ∷ events) (let e : count + (more + 1) ≡ count + 1 + more = omega arith in e)

goes_on : (gap : ℕ) (o : OpenTrain) (time : ℕ) (events : List Event) → nat_le time (o.last + gap) ≡ true →
    joined gap (Some o) (with_pulse gap time events) ≡ joined gap (Some (record { first = o.first; last = time; count = o.count + 1 }))
    events
goes_on gap o time [] near = rw near refl
goes_on gap o time (Train first count ∷ events) near = go (nat_le first (time + gap)) refl where
  go : (b : Bool) → nat_le first (time + gap) ≡ b →
      joined gap (Some o) (with_pulse gap time (Train first count ∷ events)) ≡ joined gap
      (Some (record { first = o.first; last = time; count = o.count + 1 })) (Train first count ∷ events)
  go true e = rw (e, near) (one_more o.first o.count count events)
  go false e = rw (e, near) refl
goes_on gap o time (Sampled at level ∷ events) near = rw near refl

begins : (gap : ℕ) (time : ℕ) (events : List Event) → with_pulse gap time events ≡ joined gap (Some (begun time)) events
begins gap time [] = refl
begins gap time (Train first count ∷ events) = go (nat_le first (time + gap)) refl where
  go : (b : Bool) → nat_le first (time + gap) ≡ b → with_pulse gap time (Train first count ∷ events) ≡ joined gap (Some (begun time))
      (Train first count ∷ events)
  go true e = rw e (ap (λ (n : ℕ). Train time n ∷ events) (let s : count + 1 ≡ 1 + count = omega arith in s))
  go false e = rw e refl
begins gap time (Sampled at level ∷ events) = refl

-- a pulse that doesn't continue the open train ends it
ends : (gap : ℕ) (o : OpenTrain) (time : ℕ) (events : List Event) → nat_le time (o.last + gap) ≡ false →
    joined gap (Some o) (with_pulse gap time events) ≡ Train o.first o.count ∷ with_pulse gap time events
ends gap o time [] far = rw far refl
ends gap o time (Train first count ∷ events) far = go (nat_le first (time + gap)) refl where
  go : (b : Bool) → nat_le first (time + gap) ≡ b →
      joined gap (Some o) (with_pulse gap time (Train first count ∷ events)) ≡ Train o.first o.count ∷ with_pulse gap time
      (Train first count ∷ events)
  go true e = rw (e, far) refl
  go false e = rw (e, far) refl
ends gap o time (Sampled at level ∷ events) far = rw far refl

some_event : (gap : ℕ) (o : OpenTrain) (events : List Event) → joined gap (Some o) events ≢ []
some_event gap o [] e = cc
some_event gap o (Train first count ∷ events) e = go (nat_le first (o.last + gap)) e where
  go : (b : Bool) → (if b then Train o.first (o.count + count) ∷ events else Train o.first o.count ∷ Train first count ∷ events) ≡ [] → ⊥
  go true e = cc
  go false e = cc
some_event gap o (Sampled at level ∷ events) e = cc

-- ---- what is told

-- the open train, and what is behind it
closed_tells : (context : Context) (o : Option OpenTrain) (ending : Ending) (events : List Event) → events ≢ [] →
    told_from context (ended_by ending (closed o events)) ≡ ended_text context o ++ told_from (ended_context context o)
    (ended_by ending events)
closed_tells context None ending events some = refl
closed_tells context (Some o) ending [] some = absurd (some refl)
closed_tells context (Some o) AtEnd (event ∷ events) some = refl
closed_tells context (Some o) (AtFault line place) (event ∷ events) some = refl

sample_tells : (context : Context) (ending : Ending) (time : ℕ) (level : Bool) (events : List Event) →
    told_from context (ended_by ending (Sampled time level ∷ events))
    ≡ sample_line time (heard_level context level).text ++ told_from (heard_level context level).context (ended_by ending events)
sample_tells context AtEnd time level events = refl
sample_tells context (AtFault line place) time level events = refl

sample_closes : (gap : ℕ) (o : Option OpenTrain) (time : ℕ) (level : Bool) (events : List Event) →
    joined gap o (Sampled time level ∷ events) ≡ closed o (Sampled time level ∷ events)
sample_closes gap None time level events = refl
sample_closes gap (Some o) time level events = refl

pulse_closes : (gap : ℕ) (o : Option OpenTrain) (time : ℕ) (events : List Event) → continues gap o time ≡ false →
    joined gap o (with_pulse gap time events) ≡ closed o (joined gap (Some (begun time)) events)
pulse_closes gap None time events far = begins gap time events
pulse_closes gap (Some o) time events far = ends gap o time events far ∙ ap (λ (es : List Event). Train o.first o.count ∷ es)
    (begins gap time events)

pulse_goes_on : (gap : ℕ) (o : Option OpenTrain) (time : ℕ) (events : List Event) → continues gap o time ≡ true →
    joined gap o (with_pulse gap time events) ≡ joined gap (continued o time) events
pulse_goes_on gap None time events near = cc
pulse_goes_on gap (Some o) time events near = goes_on gap o time events near

-- a line more: what it tells at once, and what is told from then on
pub one_line_more : (t : Teller) (ending : Ending) (line : Line) (rest : List Line) →
    to_tell t ending (line ∷ rest) ≡ told_at t line ++ to_tell (after_line t line) ending rest
one_line_more t ending (Pulse time) rest = go (continues t.gap t.open_train time) refl where
  go : (b : Bool) → continues t.gap t.open_train time ≡ b →
      to_tell t ending (Pulse time ∷ rest) ≡ told_at t (Pulse time) ++ to_tell (after_line t (Pulse time)) ending rest
  go true near =
      rw near (ap (λ (es : List Event). told_from t.context (ended_by ending es))
      (pulse_goes_on t.gap t.open_train time (events_of t.gap rest) near))
  go false far =
      rw far
      (ap (λ (es : List Event). told_from t.context (ended_by ending es)) (pulse_closes t.gap t.open_train time (events_of t.gap rest) far)
      ∙ closed_tells t.context t.open_train ending (joined t.gap (Some (begun time)) (events_of t.gap rest))
      (some_event t.gap (begun time) (events_of t.gap rest)))
one_line_more t ending (Sample time level) rest =
    let context : Context = ended_context t.context t.open_train in
    let events : List Event = events_of t.gap rest in
    ap (λ (es : List Event). told_from t.context (ended_by ending es)) (sample_closes t.gap t.open_train time level events)
    ∙ closed_tells t.context t.open_train ending (Sampled time level ∷ events) (λ e. cc)
    ∙ ap (λ text. ended_text t.context t.open_train ++ text) (sample_tells context ending time level events)
    ∙ sym (append_assoc (ended_text t.context t.open_train) (sample_line time (heard_level context level).text)
    (told_from (heard_level context level).context (ended_by ending events)))

-- at the end of the input the open train is told
pub told_at_end : (t : Teller) → to_tell t AtEnd [] ≡ ended_text t.context t.open_train
told_at_end t = go t.open_train where
  go : (o : Option OpenTrain) → told_from t.context (joined t.gap o []) ≡ ended_text t.context o
  go None = refl
  go (Some o) = append-nil (ended_text t.context (Some o))

-- at a fault it isn't
pub told_at_fault : (t : Teller) (line place : ℕ) → to_tell t (AtFault line place) [] ≡ []
told_at_fault t line place = go t.open_train where
  go : (o : Option OpenTrain) → told_from t.context (without_open (joined t.gap o [])) ≡ []
  go None = refl
  go (Some o) = refl
