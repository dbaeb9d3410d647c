-- A telling, line after line: what was written so far and what is told from then on are the dialogue.
use Rattle.std.proofs.Common.{◌≡◌, ◌⊎◌, inl, inr, ℕ, ◌+◌, ◌≤◌, ◌<◌, Bool, true, false, List, [], ◌∷◌, ◌++◌, length, Option, Some, None}
use Rattle.std.proofs.Common.{IfSome, Result, Ok, Err, refl, sym, ap, ◌∙◌, subst, arith, append-nil, append_assoc}
use Rattle.std.proofs.lemmas.List.{length-append, length_push}
use Rattle.qic_base.specs.Tape.{Rose}
use Rattle.qic_base.specs.declared.sink.SinkFailed.{SinkFailed}
use Rattle.qic_base.specs.Sink as sinks
use Rattle.qic_base.specs.SinkCalls as sink_calls
use Rattle.qic_base.specs.Source as sources
use Rattle.qic_base.proofs.Writing.{TakesBoth, Wrote-Wrote, Wrote-BrokeOff, BrokeOff-longer}
use Rattle.qic_base.specs.SourceCalls.{Gave}
use Rattle.qic_base.proofs.Giving.{Gave-Gave, Gave-end, Gave-nothing}
use Rattle.tape_script.proofs.Rests.{any_rest, ended_rest, whole_told, left_behind}
use Rattle.pulse_dialogue.specs.declared.context.Context.TheVariants.{Nothing}
use Rattle.pulse_dialogue.specs.declared.fault.TraceFault.{TraceFault}
use Rattle.pulse_dialogue.specs.declared.fault.TraceFault.TheVariants as fault
use Rattle.pulse_dialogue.specs.declared.line.Line.{Line}
use Rattle.pulse_dialogue.specs.declared.line.Line.TheVariants.{Pulse, Sample}
use Rattle.pulse_dialogue.specs.declared.teller.OpenTrain.{OpenTrain}
use Rattle.pulse_dialogue.specs.declared.teller.Teller.{Teller}
use Rattle.pulse_dialogue.specs.Lines.{time_of, line_bytes, most_lines, Ending, AtEnd, AtFault, Follows, HasLines}
use Rattle.pulse_dialogue.specs.Dialogue.{dialogue, IsSound}
use Rattle.pulse_dialogue.specs.Telling.{HasRoom, continues, continued, told_at, after_line}
use Rattle.pulse_dialogue.specs.Steps.{Scene, Told, ToldEnd, LineBroke, EndBroke, HasNoLine, Hears, HearsEnd}
use Rattle.pulse_dialogue.specs.Reading.{GaveBytes}
use Rattle.pulse_dialogue.specs.Runs.{Streams, Ended, Unread, Unwritten, Tells}
use Rattle.pulse_dialogue.proofs.Inputs.{lined_from, AreLines, AreLines-push, last_time, last_time-push, lines_bytes, lines_bytes-push}
use Rattle.pulse_dialogue.proofs.Inputs.{push, read_behind, fault_rest}
use Rattle.pulse_dialogue.proofs.Tellings.{to_tell, one_line_more, told_at_end, told_at_fault}
use Rattle.qic_base.specs.Source.{IsInput}

-- the open train has no more pulses than lines were read
abbrev pub Counts : Option OpenTrain → ℕ → Type 0
Counts open_train lines = IfSome open_train (λ o. o.count ≤ lines)

pub has_room : (o : Option OpenTrain) (lines : ℕ) → Counts o lines → lines < most_lines → HasRoom o
has_room None lines counts few = tt
has_room (Some o) lines counts few = omega arith

time_after : (t : Teller) (line : Line) → (after_line t line).time ≡ time_of line
time_after t (Pulse time) = go (continues t.gap t.open_train time) refl where
  go : (b : Bool) → continues t.gap t.open_train time ≡ b → (after_line t (Pulse time)).time ≡ time
  go true e = rw e refl
  go false e = rw e refl
time_after t (Sample time level) = refl

counts_after : (t : Teller) (line : Line) (lines : ℕ) → Counts t.open_train lines → Counts (after_line t line).open_train (lines + 1)
counts_after t (Pulse time) lines counts = choose (continues t.gap t.open_train time) refl where
  joined_count : (o : Option OpenTrain) → Counts o lines → Counts (continued o time) (lines + 1)
  joined_count None counts = tt
  joined_count (Some o) counts = omega arith

  choose : (b : Bool) → continues t.gap t.open_train time ≡ b → Counts (after_line t (Pulse time)).open_train (lines + 1)
  choose true e = rw e (joined_count t.open_train counts)
  choose false e = rw e (omega arith)
counts_after t (Sample time level) lines counts = tt

-- ---- so far

-- so many lines were read, of so many bytes; this was written for them, and from then on the rest is told
pub record SoFar {S K : Type 0} (s : sources.Meaning S) (k : sinks.Meaning K) (gap : ℕ) (start : Streams S K) (now : Scene S K)
    (count place : ℕ) : Type 0 where
  pub lines : List Line
  pub are : AreLines 0 lines
  pub number : length lines ≡ count
  pub bytes : place ≡ length (lines_bytes lines)
  pub time : now.teller.time ≡ last_time 0 lines
  pub gave : Gave s start.source now.source (lines_bytes lines)
  pub written : List ℕ
  pub wrote : sinks.Wrote k start.sink now.sink written
  pub tells : (ending : Ending) (rest : List Line) → dialogue gap (lines ++ rest) ending ≡ written ++ to_tell now.teller ending rest
  pub sound : IsSound now.teller.context
  pub counts : Counts now.teller.open_train count

module _ {S K : Type 0} (s : sources.Meaning S) (k : sinks.Meaning K) (gap : ℕ) where
  pub begin : (source : S) (sink : K) → sinks.Wrote k sink sink [] →
      SoFar s k gap (record { source = source; sink = sink })
      (record { teller = record { gap = gap; time = 0; open_train = None; context = Nothing }; source = source; sink = sink }) 0 0
  begin source sink wrote = record {
    lines = [];
    are = tt;
    number = refl;
    bytes = refl;
    time = refl;
    gave = Gave-nothing s source source refl;
    written = [];
    wrote = wrote;
    tells = λ ending rest. refl;
    sound = tt;
    counts = tt;
  }

  module _ (start : Streams S K) (now new : Scene S K) (count place : ℕ) (far : SoFar s k gap start now count place) where
    follows_last : (line : Line) → Follows now.teller.time line → Follows (last_time 0 far.lines) line
    follows_last line follows = subst (λ (t : ℕ). Follows t line) far.time follows

    gave_line : (line : Line) → Gave s now.source new.source (line_bytes line) →
        Gave s start.source new.source (lines_bytes (push far.lines line))
    gave_line line gave =
        subst (Gave s start.source new.source) (lines_bytes-push far.lines line)
        (Gave-Gave s start.source now.source new.source (lines_bytes far.lines) (line_bytes line) far.gave gave)

    tells_line : (line : Line) (ending : Ending) (rest : List Line) →
        dialogue gap (push far.lines line ++ rest) ending ≡ (far.written ++ told_at now.teller line) ++ to_tell
        (after_line now.teller line) ending rest
    tells_line line ending rest =
        ap (λ (xs : List Line). dialogue gap xs ending) (append_assoc far.lines (line ∷ []) rest)
        ∙ far.tells ending (line ∷ rest)
        ∙ ap (λ text. far.written ++ text) (one_line_more now.teller ending line rest)
        ∙ sym (append_assoc far.written (told_at now.teller line) (to_tell (after_line now.teller line) ending rest))

    -- a line more
    pub next : (n : ℕ) → TakesBoth k → Told s k now new n → SoFar s k gap start new (count + 1) (place + n)
    next n two told = record {
      lines = push far.lines told.line;
      are = AreLines-push 0 far.lines told.line far.are (follows_last told.line told.read.follows);
      number = length_push far.lines told.line ∙ ap (λ (m : ℕ). m + 1) far.number;
      bytes = (let b = far.bytes in let l = told.long in let m = length-append (lines_bytes far.lines) (line_bytes told.line) in
          let p = ap length (lines_bytes-push far.lines told.line) in omega arith);
      time = ap (λ (t : Teller). t.time) told.teller ∙ time_after now.teller told.line ∙ sym (last_time-push 0 far.lines told.line);
      gave = gave_line told.line told.read.gave;
      written = far.written ++ told_at now.teller told.line;
      wrote = Wrote-Wrote two far.wrote told.wrote;
      tells = λ ending rest. tells_line told.line ending rest
          ∙ ap (λ (t : Teller). (far.written ++ told_at now.teller told.line) ++ to_tell t ending rest) (sym told.teller);
      sound = told.sound;
      counts = subst (λ (t : Teller). Counts t.open_train (count + 1)) (sym told.teller)
          (counts_after now.teller told.line count far.counts);
    }

    -- ---- an end

    -- how the input goes on behind the lines is how it goes on
    whole : (rest : List ℕ) → IfSome (s.left now.source) (λ bytes. bytes ≡ rest) →
        IsInput (s.left start.source) (lines_bytes far.lines ++ rest)
    whole rest told = whole_told (s.left start.source) (s.left now.source) (lines_bytes far.lines) rest far.gave told

    recording : (rest : List ℕ) (ys : List Line) (ending : Ending) → count ≤ most_lines →
        HasLines now.teller.time (count + 1) place rest ys ending →
        HasLines 0 1 0 (lines_bytes far.lines ++ rest) (far.lines ++ ys) ending
    recording rest ys ending few has =
        read_behind far.lines ys rest 0 1 0 (count + 1) place ending far.are (let n = far.number in omega arith)
        (let n = far.number in omega arith)
        (let b = far.bytes in omega arith) (subst (λ (t : ℕ). HasLines t (count + 1) place rest ys ending) far.time has)

    -- the input is over
    pub over : count ≤ most_lines → TakesBoth k → ToldEnd s k now new →
        Ended s k gap start (record { source = new.source; sink = new.sink }) AtEnd
    over few two end =
        let behind = ended_rest (s.left now.source) end.ended in
        record {
          input = lines_bytes far.lines ++ behind.rest;
          whole = whole behind.rest behind.told;
          lines = far.lines ++ [];
          recording = recording behind.rest [] AtEnd few behind.has;
          wrote = subst (sinks.Wrote k start.sink new.sink)
              (sym (far.tells AtEnd [] ∙ ap (λ text. far.written ++ text) (told_at_end now.teller)))
              (Wrote-Wrote two far.wrote end.wrote);
          left = left_behind (s.left start.source) (s.left new.source) (lines_bytes far.lines)
              (length (lines_bytes far.lines ++ behind.rest))
              (Gave-end s start.source now.source new.source (lines_bytes far.lines) far.gave end.gave)
              (ap (λ rest. length (lines_bytes far.lines ++ rest)) behind.has ∙ ap length (append-nil (lines_bytes far.lines)));
        }

    -- a line is none
    pub faulty : (number before : ℕ) → count ≤ most_lines → number ≡ count + 1 → before ≡ place → new.sink ≡ now.sink →
        GaveBytes s now.source new.source →
        (count + 1 ≤ most_lines → HasNoLine s now.teller now.source) → Ended s k gap start (record { source = new.source; sink = new.sink })
        (AtFault number before)
    faulty number before few same equal sink on none =
        let n = on.0 in
        let some = on.3 in
        let behind = fault_rest (s.left now.source) (s.left new.source) now.teller.time (count + 1) n some.0 on.1 some.1 some.2 none in
        record {
          input = lines_bytes far.lines ++ behind.rest;
          whole = whole behind.rest behind.told;
          lines = far.lines ++ [];
          recording = recording behind.rest [] (AtFault number before) few (behind.has, same, equal);
          wrote = subst (sinks.Wrote k start.sink new.sink)
              (sym (far.tells (AtFault number before) [] ∙ ap (λ text. far.written ++ text) (told_at_fault now.teller number before)
              ∙ append-nil far.written))
              (subst (λ (x : K). sinks.Wrote k start.sink x far.written) (sym sink) far.wrote);
          left = (
            n,
            on.2,
            left_behind (s.left start.source) (s.left new.source) (lines_bytes far.lines ++ some.0) (before + n)
                (Gave-Gave s start.source now.source new.source (lines_bytes far.lines) some.0 far.gave some.2)
                (let b = far.bytes in let l = length-append (lines_bytes far.lines) some.0 in let g = some.1 in omega arith),
          );
        }

    -- the source failed
    pub source_failed : count ≤ most_lines → new.sink ≡ now.sink → Unread s k gap start (record { source = new.source; sink = new.sink })
    source_failed few sink =
        let behind = any_rest (s.left now.source) in
        let reading = lined_from now.teller.time (count + 1) place behind.rest in
        record {
          input = lines_bytes far.lines ++ behind.rest;
          whole = whole behind.rest behind.told;
          lines = far.lines ++ reading.lines;
          ending = reading.ending;
          recording = recording behind.rest reading.lines reading.ending few reading.has;
          front = far.written;
          rest = to_tell now.teller reading.ending reading.lines;
          parts = sym (far.tells reading.ending reading.lines);
          wrote = subst (λ (x : K). sinks.Wrote k start.sink x far.written) (sym sink) far.wrote;
        }

    -- the sink failed, at the end
    end_broke : count ≤ most_lines → TakesBoth k → EndBroke s k now new →
        Unwritten s k gap start (record { source = new.source; sink = new.sink })
    end_broke few two end =
        let behind = ended_rest (s.left now.source) end.ended in
        record {
          input = lines_bytes far.lines ++ behind.rest;
          whole = whole behind.rest behind.told;
          lines = far.lines ++ [];
          ending = AtEnd;
          recording = recording behind.rest [] AtEnd few behind.has;
          broke = subst (sink_calls.BrokeOff k start.sink new.sink)
              (sym (far.tells AtEnd [] ∙ ap (λ text. far.written ++ text) (told_at_end now.teller)))
              (Wrote-BrokeOff two far.wrote end.broke);
        }

    -- or at a line
    line_broke : count < most_lines → TakesBoth k → LineBroke s k now new →
        Unwritten s k gap start (record { source = new.source; sink = new.sink })
    line_broke few two line =
        let behind = any_rest (s.left new.source) in
        let x = line.line in
        let xs = push far.lines x in
        let reading = lined_from (time_of x) (count + 1 + 1) (place + length (line_bytes x)) behind.rest in
        record {
          input = lines_bytes xs ++ behind.rest;
          whole = whole_told (s.left start.source) (s.left new.source) (lines_bytes xs) behind.rest
              (gave_line x line.read.gave) behind.told;
          lines = xs ++ reading.lines;
          ending = reading.ending;
          recording = read_behind xs reading.lines behind.rest 0 1 0 (count + 1 + 1) (place + length (line_bytes x)) reading.ending
              (AreLines-push 0 far.lines x far.are (follows_last x line.read.follows))
              (let n = far.number in let l = length_push far.lines x in omega arith)
              (let n = far.number in let l = length_push far.lines x in omega arith)
              (let b = far.bytes in let m = length-append (lines_bytes far.lines) (line_bytes x) in
              let p = ap length (lines_bytes-push far.lines x) in omega arith)
              (subst (λ (t : ℕ). HasLines t (count + 1 + 1) (place + length (line_bytes x)) behind.rest reading.lines reading.ending)
              (sym (last_time-push 0 far.lines x)) reading.has);
          broke = BrokeOff-longer (to_tell (after_line now.teller x) reading.ending reading.lines)
              (dialogue gap (xs ++ reading.lines) reading.ending)
              (sym (tells_line x reading.ending reading.lines)) (Wrote-BrokeOff two far.wrote line.broke);
        }

    sink_failed : count < most_lines → TakesBoth k → (LineBroke s k now new ⊎ EndBroke s k now new) →
        Unwritten s k gap start (record { source = new.source; sink = new.sink })
    sink_failed few two (inl line) = line_broke few two line
    sink_failed few two (inr end) = end_broke (omega arith) two end

    -- how a line ended it
    pub line_failed : TakesBoth k → count < most_lines → (why : TraceFault) → Hears s k now new (count + 1) place (Err why) →
        Tells s k gap start (record { source = new.source; sink = new.sink }) (Err why)
    line_failed two few (fault.Line number before) hears = faulty number before (omega arith) hears.0 hears.1 hears.2 hears.3
        (λ within. hears.4)
    line_failed two few fault.Source hears = source_failed (omega arith) hears
    line_failed two few fault.Sink hears = sink_failed few two hears

    -- how it ended behind the last line
    pub end_came : TakesBoth k → count ≡ most_lines → (result : Result (Unit {0}) TraceFault) →
        HearsEnd s k now new (most_lines + 1) place result →
        Tells s k gap start (record { source = new.source; sink = new.sink }) result
    end_came two all (Ok done) hears = over (omega arith) two hears
    end_came two all (Err (fault.Line number before)) hears =
        faulty number before (omega arith) (hears.0 ∙ ap (λ (n : ℕ). n + 1) (sym all)) hears.1 hears.2 hears.3
        (λ within. absurd (omega arith))
    end_came two all (Err fault.Source) hears = source_failed (omega arith) hears
    end_came two all (Err fault.Sink) hears = end_broke (omega arith) two hears

module _ {S K : Type 0} (s : sources.Meaning S) (k : sinks.Meaning K) (gap : ℕ) (old new : Streams S K) where
  -- what a telling says of the sink's faults
  pub sink_rose : (result : Result (Unit {0}) TraceFault) → Tells s k gap old new result → result ≡ Err fault.Sink →
      Rose (k.faults old.sink) (k.faults new.sink)
  sink_rose (Ok done) tells e = cc
  sink_rose (Err (fault.Line line place)) tells e = cc
  sink_rose (Err fault.Source) tells e = cc
  sink_rose (Err fault.Sink) tells e = tells.broke.cause

  pub sink_later : (result : Result (Unit {0}) TraceFault) → Tells s k gap old new result → k.faults old.sink ≤ k.faults new.sink
  sink_later (Ok done) tells = let e = tells.wrote.later in omega arith
  sink_later (Err (fault.Line line place)) tells = let e = tells.wrote.later in omega arith
  sink_later (Err fault.Source) tells = let e = tells.wrote.later in omega arith
  sink_later (Err fault.Sink) tells = tells.broke.later

-- a text written behind another
pub writes_both : {K : Type 0} (k : sinks.Meaning K) (a b c : K) (xs ys : List ℕ) → TakesBoth k → sinks.Wrote k a b xs →
    (result : Result (Unit {0}) SinkFailed) → sink_calls.Writes k b c ys result → sink_calls.Writes k a c (xs ++ ys) result
writes_both k a b c xs ys two first (Ok done) next = Wrote-Wrote two first next
writes_both k a b c xs ys two first (Err e) next = Wrote-BrokeOff two first next
