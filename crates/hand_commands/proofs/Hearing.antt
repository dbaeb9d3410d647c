-- What one line did.
use Rattle.std.proofs.Common.{◌≡◌, ℕ, zero, suc, Bool, ◌<◌, ◌≤◌, List, [], ◌∷◌, ◌++◌, length, Option, Some, None, IfSome, codes, refl, sym}
use Rattle.std.proofs.Common.{ap, ◌∙◌, subst, arith, append-nil, inl}
use Rattle.std.specs.Option.{option_map}
use Rattle.std.proofs.lemmas.List.{nil_from_length}
use Rattle.qic_base.specs.Tape.{Rose}
use Rattle.qic_base.proofs.Steps.{Done-nothing}
use Rattle.qic_base.proofs.Joins.{sink_cut_one}
use Rattle.qic_base.specs.Acts.{Act, Outside, next_steps, TapeFails, SourceFails, SinkFails, Went, TapeCut, Cut}
use Rattle.drive_spec.specs.Record.{Record}
use Rattle.command_spec.specs.Input.{IsPulse}
use Rattle.command_laws.specs.Inputs.{IsTrain}
use Rattle.qic_base.specs.SourceCalls.{Gave}
use Rattle.tape_script.proofs.Lined.{IsLined-one_newline}
use Rattle.command_spec.specs.Pulses.{train_line}
use Rattle.command_laws.specs.PulseRuns.{train_act, level_line}
use Rattle.tape_script.specs.Reading.{GaveNoEnd}
use Rattle.hand_commands.specs.PulseLines.{Heard}
use Rattle.command_laws.proofs.PulseTrains.{pulse_line, pulse_short}
use Rattle.drive_spec.specs.Row.{pulsed_row}
use Rattle.drive_spec.specs.Steps.{train_changes}
use Rattle.qic_base.specs.Sink as sinks
use Rattle.qic_base.specs.SinkCalls as sink_calls
use Rattle.qic_base.specs.Source as sources
use Rattle.qic_base.specs.Tape as tapes
use Rattle.command_laws.proofs.TextInputs as inputs

-- the source gave the text of a train, of so many bytes
abbrev GaveTrain : {S : Type 0} (s : sources.Meaning S) (old new : S) (train n : ℕ) → Type 0
GaveTrain s old new train n = (text : List ℕ) × IsPulse text train × (length text ≡ n) × Gave s old new text

-- what stands behind the text of a train begins with no line `end`
no_stop_there : (o p : Option (List ℕ)) (text : List ℕ) (train : ℕ) → IsPulse text train → o ≡ option_map (λ rest. text ++ rest) p →
    IfSome o (λ all. (t rest : List ℕ) → all ≡ t ++ rest → ¬ (t ≡ codes "end\n"))
no_stop_there None p text train pulse e = tt
no_stop_there (Some all) None text train pulse e = absurd (cc)
no_stop_there (Some all) (Some behind) text train pulse e = λ t rest parts stop.
    let same : all ≡ text ++ behind = cc in
    inputs.pulses.no_stop text behind train pulse (rest, sym same ∙ parts ∙ ap (λ x. x ++ rest) stop)

some_bytes : (text : List ℕ) (train n : ℕ) → IsPulse text train → length text ≡ n → 0 < n
some_bytes text train zero pulse none = absurd (inputs.pulses.some text train pulse (nil_from_length text none))
some_bytes text train (suc n) pulse more = omega arith

-- a train, where no more may come
pub gave_on : {S : Type 0} (s : sources.Meaning S) (old new : S) (train n : ℕ) → GaveTrain s old new train n → GaveNoEnd s old new
gave_on s old new train n read = record {
  n = n;
  some = some_bytes read.0 train n read.1 read.2;
  few = let short = pulse_short read.0 train read.1 in let long = read.2 in omega arith;
  gave = (
    read.0,
    read.2,
    read.3,
    IsLined-one_newline (λ before. IsTrain before train) read.0 n read.2 read.1,
    inl (read.1.before, read.1.whole),
  );
  no_stop = no_stop_there (s.left old) (s.left new) read.0 train read.1 read.3;
}

-- ---- acts

module _ {T S K : Type 0} {t : tapes.Meaning T} {s : sources.Meaning S} {k : sinks.Meaning K} where
  -- nothing was sent, and nothing written
  pub rests : (now : Outside T S K) (source : S) → k.took now.sink [] now.sink → s.faults source ≡ s.faults now.source →
      Went t s k now (record now { source = source }) []
  rests now source nothing later = record {
    did = Done-nothing t now.tape;
    wrote = record { took = nothing; later = omega arith };
    source_later = later;
  }

  -- the source failed, and nothing was sent
  pub source_cut : (now : Outside T S K) (source : S) → k.took now.sink [] now.sink → s.faults now.source ≤ s.faults source →
      Rose (s.faults now.source) (s.faults source) → Cut t s k now (record now { source = source }) [] SourceFails
  source_cut now source nothing later rose =
      let wrote : sinks.Wrote k now.sink now.sink [] = record { took = nothing; later = refl } in
      record { front = []; rest = []; parts = refl; did = Done-nothing t now.tape; wrote = wrote; cause = rose; source_later = later }

  -- the tape failed in the steps of the first act, or where there is none
  pub steps_cut : (a b : Outside T S K) (acts : List Act) → s.faults b.source ≡ s.faults a.source →
      tapes.Broke t a.tape b.tape (next_steps acts) →
      sinks.Wrote k a.sink b.sink [] → TapeCut t s k a b acts
  steps_cut a b acts later broke wrote =
      record { front = []; rest = acts; parts = refl; broke = broke; here = broke.torn; wrote = wrote; source_later = later }

-- ---- a train

-- the level that was written is the one behind the train
level_is : (line : Bool) (now after : Record) (text : List ℕ) → text ≡ level_line line → line ≡ now.line → now ≡ after →
    text ≡ level_line after.line
level_is line now after text text_is line_is now_is = text_is ∙ ap level_line line_is ∙ ap (λ (r : Record). level_line r.line) now_is

module _ {T S K : Type 0} (t : tapes.Meaning T) (s : sources.Meaning S) (k : sinks.Meaning K) (a b : Outside T S K) (r : Record)
    (train n : ℕ) (read : GaveTrain s a.source b.source train n) (later : s.faults b.source ≡ s.faults a.source) where
  -- what was read is its line
  heard : (Came : ℕ → Type 0) → Came train → Heard s a.source b.source Came
  heard Came came =
      let line = pulse_line read.0 train read.1 in record {
        train = train;
        pulse = subst (λ text. IsPulse text train) line read.1;
        gave = subst (Gave s a.source b.source) line read.3;
        came = came;
      }

  -- it was not sent
  pub unsent : k.took a.sink [] b.sink → k.faults b.sink ≡ k.faults a.sink → tapes.Broke t a.tape b.tape (train_changes r train) →
      Heard s a.source b.source (λ p. Cut t s k a b (train_act r p ∷ []) TapeFails)
  unsent nothing sink_later broke =
      heard (λ p. Cut t s k a b (train_act r p ∷ []) TapeFails)
      (steps_cut a b (train_act r train ∷ []) later broke (record { took = nothing; later = sink_later }))

  module _ (line : Bool) (now : Record) (text : List ℕ) (text_is : text ≡ level_line line) (line_is : line ≡ now.line)
      (now_is : now ≡ pulsed_row r train) (did : tapes.Done t a.tape b.tape (train_changes r train)) where
    -- it was sent, and its level not written
    pub unshown : sink_calls.BrokeOff k a.sink b.sink text → Heard s a.source b.source (λ p. Cut t s k a b (train_act r p ∷ []) SinkFails)
    unshown broke =
        let level = level_is line now (pulsed_row r train) text text_is line_is now_is in
        heard (λ p. Cut t s k a b (train_act r p ∷ []) SinkFails)
        (sink_cut_one t s k a b (train_act r train) did (subst (sink_calls.BrokeOff k a.sink b.sink) level broke) later)

    -- its level was written, too
    pub shown : sinks.Wrote k a.sink b.sink text →
        Heard s a.source b.source (λ p. (n ≡ length (train_line p)) × (now ≡ pulsed_row r p) × Went t s k a b (train_act r p ∷ []))
    shown wrote =
        let level = level_is line now (pulsed_row r train) text text_is line_is now_is in
        heard (λ p. (n ≡ length (train_line p)) × (now ≡ pulsed_row r p) × Went t s k a b (train_act r p ∷ [])) (
          sym read.2 ∙ ap length (pulse_line read.0 train read.1),
          now_is,
          record {
            did = subst (tapes.Done t a.tape b.tape) (sym (append-nil (train_changes r train))) did;
            wrote = subst (sinks.Wrote k a.sink b.sink) (level ∙ sym (append-nil (level_line (pulsed_row r train).line))) wrote;
            source_later = later;
          },
        )
