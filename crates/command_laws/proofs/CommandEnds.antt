-- What follows of how a command ended, whatever the command is.
use Rattle.std.proofs.Common.{◌≡◌, arith, ℕ, Option, Some, None, IfSome, subst, List, refl, false, true, ◌≢◌, ◌⊎◌, inl, inr, [], ◌++◌}
use Rattle.std.proofs.Common.{IsSomeAnd, ap, ◌∙◌, sym}
use Rattle.std.specs.Option.{option_map}
use Rattle.std.specs.Prelude.{is_some}
use Rattle.command_laws.proofs.CommandEndings.{refused_front, shorter_front, text_front}
use Rattle.command_laws.proofs.CommandTable.{plain_answers}
use Rattle.command_spec.specs.Commands.{traits_of}
use Rattle.command_spec.specs.Headline.{EachLeft, Stepped, NoneRose, IsCut, WordsLeave, Joins}
use Rattle.command_laws.specs.RunTerms.{Answers}
use Rattle.command_spec.specs.Machine.{HasValues, Spells, fault_of, may_come_from, is_fault, is_outcome, InputLeft, Finished, CommandEnds}
use Rattle.command_spec.specs.Machine.{IsCutOff}
use Rattle.command_laws.specs.CommandFields.{Yields, FrontPrints}
use Rattle.command_spec.specs.Outcome.{CommandOutcome, output_of}
use Rattle.command_spec.specs.declared.status.Status.{Status}
use Rattle.command_spec.specs.declared.words.Words.{Words}
use Rattle.qic_base.proofs.Outcomes.{cut_is_torn, cut_stops, cut_took_front, cut_fell_none, cut_others_stood, cut_rose}
use Rattle.qic_base.proofs.Steps.{Torn-all, Stops-left, is_some-option_map}
use Rattle.qic_base.specs.Acts.{Failing, TapeFails, SourceFails, SinkFails, Outside, Act, steps_of, text_of, Cut, FailingRose, OthersStood}
use Rattle.qic_base.specs.Acts.{NoneFailed}
use Rattle.qic_base.specs.Cartridge.{Cartridge}
use Rattle.qic_base.specs.CartridgeTerms.{IsCartridge}
use Rattle.qic_base.specs.Step.{Step as TapeStep, effects, Torn}
use Rattle.command_laws.proofs.MadeMachineLaws.{done_or_not}
use Rattle.qic_base.specs.Source.{IsInput}
use Rattle.qic_base.specs.Tape as tapes
use Rattle.qic_base.specs.TapeCalls as tape_calls
use Rattle.command_spec.specs.declared.status.Status.TheVariants as status
use Rattle.qic_base.specs.Sink as sinks
use Rattle.qic_base.specs.Source as sources

-- ---- answers

-- no fault of the outside is an answer of a command to what it finds
no_fault_comes : (command : Words) (failing : Failing) → may_come_from (fault_of failing) command ≡ false
no_fault_comes command TapeFails = refl
no_fault_comes command SourceFails = refl
no_fault_comes command SinkFails = refl

same_failing : (one other : Failing) → fault_of one ≡ fault_of other → one ≡ other
same_failing TapeFails TapeFails same = refl
same_failing TapeFails SourceFails same = cc
same_failing TapeFails SinkFails same = cc
same_failing SourceFails TapeFails same = cc
same_failing SourceFails SourceFails same = refl
same_failing SourceFails SinkFails same = cc
same_failing SinkFails TapeFails same = cc
same_failing SinkFails SourceFails same = cc
same_failing SinkFails SinkFails same = refl

pub is_a_fault : (failing : Failing) → is_fault (fault_of failing) ≡ true
is_a_fault TapeFails = refl
is_a_fault SourceFails = refl
is_a_fault SinkFails = refl

fault_no_outcome : (failing : Failing) → is_outcome (fault_of failing) ≡ false
fault_no_outcome TapeFails = refl
fault_no_outcome SourceFails = refl
fault_no_outcome SinkFails = refl

-- ---- what is told

-- what the laws of the objects give, before a run and after it
pub record Laws {T S K : Type 0} (t : tapes.Meaning T) (s : sources.Meaning S) (k : sinks.Meaning K)
    (old new : Outside T S K) : Type 0 where
  pub nothing : (x : K) → k.took x [] x
  pub told : (x y : K) (text : List ℕ) → k.took x text y → k.written y ≡ option_map (λ bytes. bytes ++ text) (k.written x)
  pub right : tape_calls.IsToldRight (t.told old.tape) (t.size old.tape)
  pub before : tape_calls.IsLeftNow t old.tape

-- what is told is a whole cartridge, or none
pub told_whole : (held : Option Cartridge) (told : Option (Option Cartridge)) (size : Option ℕ) → tape_calls.IsToldRight told size →
    told ≡ Some held → IfSome held IsCartridge
told_whole held None size right told = cc
told_whole None (Some other) size right told = tt
told_whole (Some c) (Some None) size right told = cc
told_whole (Some c) (Some (Some d)) size right told =
    let same : d ≡ c = cc in subst IsCartridge same right.0

pub over_map : {A : Type 0} (held : Option A) (left : Option (List ℕ)) (P R : A → List ℕ → Type 0) →
    IfSome held (λ a. (input : List ℕ) × IsInput left input × P a input) →
    ((a : A) (input : List ℕ) → held ≡ Some a → P a input → R a input) →
    IfSome held (λ a. (input : List ℕ) × IsInput left input × R a input)
over_map None left P R known follows = tt
over_map (Some a) left P R known follows = (known.0, known.1, follows a known.0 refl known.2)

-- a fact over what is told, at what is told
pub over_at : {A : Type 0} (held : Option A) (P : A → Type 0) (a : A) → IfSome held P → held ≡ Some a → P a
over_at None P a known told = absurd (cc)
over_at (Some x) P a known told =
    let same : x ≡ a = cc in
    subst P same known

pub told_weaker : {P Q : Option Cartridge → Type 0} (o : Option (Option Cartridge)) → ((left : Option Cartridge) → P left → Q left) →
    IsSomeAnd o P → IsSomeAnd o Q
told_weaker None follows holds = absurd holds
told_weaker (Some left) follows holds = follows left holds

-- what was told, and what it is after the steps
pub after_steps : {T : Type 0} (t : tapes.Meaning T) (a b : T) (steps : List TapeStep) (held : Option Cartridge) → tapes.Done t a b steps →
    t.told a ≡ Some held → t.told b ≡ Some (effects steps held)
after_steps t a b steps held did told = did.told ∙ ap (option_map (effects steps)) told

done_torn : {T : Type 0} (t : tapes.Meaning T) (a b : T) (steps : List TapeStep) (held : Option Cartridge) → tapes.Done t a b steps →
    t.told a ≡ Some held →
    IsSomeAnd (t.told b) (λ left. Torn steps held left)
done_torn t a b steps held did told =
    subst (λ (o : Option (Option Cartridge)). IsSomeAnd o (λ left. Torn steps held left)) (sym (after_steps t a b steps held did told))
    (Torn-all steps held)

-- ---- stops

-- over what the tape told, the run did steps, and this is what a stop in them leaves
pub record LeftBy {T : Type 0} (t : tapes.Meaning T) (a b : T) (held : Option Cartridge) (P : Option Cartridge → Type 0) : Type 0 where
  pub steps : List TapeStep
  pub stops : tapes.Stops t a b steps
  pub torn : IsSomeAnd (t.told b) (λ left. Torn steps held left)
  pub leaves : (left : Option Cartridge) → Torn steps held left → P left

pub each_left : {T : Type 0} (t : tapes.Meaning T) (a b : T) (P : (held left : Option Cartridge) → Type 0) → tape_calls.IsLeftNow t a →
    ((held : Option Cartridge) → t.told a ≡ Some held → LeftBy t a b held (P held)) → EachLeft t a b P
each_left t a b P before by = record {
  told = λ held told. let l = by held told in told_weaker (t.told b) l.leaves l.torn;
  since = λ held left telling told is. let l = by held told in l.leaves left (Stops-left held left before telling told l.stops is);
}

-- ---- runs

module _ {T S K : Type 0} (t : tapes.Meaning T) (s : sources.Meaning S) (k : sinks.Meaning K) (words : List (List ℕ)) (command : Words)
    (old new : Outside T S K) (answer : Status) where
  stepped : Laws t s k old new → Spells words command → (finished : Finished t s k command old new answer) →
      (held : Option Cartridge) (input : List ℕ) →
      t.told old.tape ≡ Some held → Yields command held input finished.outcome → Stepped t s k words held input old new answer
  stepped laws spelled finished held input told plain = record {
    held' = effects (steps_of finished.outcome.acts) held;
    output = output_of finished.outcome;
    taken = finished.outcome.taken;
    step = inr (command, spelled, (finished.outcome, plain, refl, refl, refl, finished.answered));
    tape = after_steps t old.tape new.tape (steps_of finished.outcome.acts) held finished.went.did told;
    source = finished.left;
    took = finished.went.wrote.took;
    written = laws.told old.sink new.sink (output_of finished.outcome) finished.went.wrote.took;
  }

  finished_answers : Laws t s k old new → Spells words command → Finished t s k command old new answer → Answers t s k words old new answer
  finished_answers laws spelled finished =
      over_map (t.told old.tape) (s.left old.source) _ _ finished.told (λ held input told plain.
      inr (stepped laws spelled finished held input told plain.1))

  pub ends_cause : CommandEnds t s k command old new answer → (failing : Failing) → answer ≡ fault_of failing →
      FailingRose t s k old new failing
  ends_cause (inl finished) failing is =
      let no = no_fault_comes command failing in let sound = ap (λ (a : Status). may_come_from a command) (sym is) ∙ finished.sound in
      absurd (cc)
  ends_cause (inr (other, was, stopped)) failing is =
      subst (FailingRose t s k old new) (same_failing other failing (sym was ∙ is)) (cut_rose t s k old new stopped.acts other stopped.cut)

  pub ends_others : CommandEnds t s k command old new answer → (failing : Failing) → answer ≡ fault_of failing →
      OthersStood t s k old new failing
  ends_others (inl finished) failing is =
      let no = no_fault_comes command failing in let sound = ap (λ (a : Status). may_come_from a command) (sym is) ∙ finished.sound in
      absurd (cc)
  ends_others (inr (other, was, stopped)) failing is =
      subst (OthersStood t s k old new) (same_failing other failing (sym was ∙ is))
      (cut_others_stood t s k old new stopped.acts other stopped.cut)

  pub ends_stood : CommandEnds t s k command old new answer → is_fault answer ≡ false → NoneFailed t s k old new
  ends_stood (inl finished) sound =
      record { tape = finished.went.did.later; source = finished.went.source_later; sink = finished.went.wrote.later }
  ends_stood (inr (failing, is, stopped)) sound =
      let fault : is_fault answer ≡ true = ap is_fault is ∙ is_a_fault failing in absurd (cc)

  pub ends_asked : CommandEnds t s k command old new answer → answer ≡ status.SourceFault → (traits_of command).reads ≡ true
  ends_asked (inl finished) is = let no = ap (λ (a : Status). may_come_from a command) is in let sound = finished.sound in absurd (cc)
  ends_asked (inr (failing, was, stopped)) is = stopped.reads (same_failing failing SourceFails (sym was ∙ is))

  pub ends_answers : Laws t s k old new → Spells words command → CommandEnds t s k command old new answer → NoneRose t s k old new →
      Answers t s k words old new answer
  ends_answers laws spelled (inl finished) none = finished_answers laws spelled finished
  ends_answers laws spelled (inr (failing, is, stopped)) none =
      absurd (none failing (cut_rose t s k old new stopped.acts failing stopped.cut))

  pub ends_carried : Laws t s k old new → Spells words command → CommandEnds t s k command old new answer → is_fault answer ≡ false →
      Answers t s k words old new answer
  ends_carried laws spelled (inl finished) sound = finished_answers laws spelled finished
  ends_carried laws spelled (inr (failing, is, stopped)) sound =
      let fault : is_fault answer ≡ true = ap is_fault is ∙ is_a_fault failing in absurd (cc)

  -- over what is told there is an outcome
  has_outcome : Laws t s k old new → Spells words command → HasValues command → (held : Option Cartridge) (input : List ℕ) →
      t.told old.tape ≡ Some held →
      (outcome : CommandOutcome) × Yields command held input outcome
  has_outcome laws spelled values held input told =
      plain_answers command held input values (told_whole held (t.told old.tape) (t.size old.tape) laws.right told)

  pub ends_cut : Laws t s k old new → Spells words command → HasValues command → CommandEnds t s k command old new answer →
      (failing : Failing) → answer ≡ fault_of failing →
      IsCut t s k words old new failing
  ends_cut laws spelled values (inl finished) failing is =
      let no = no_fault_comes command failing in let sound = ap (λ (a : Status). may_come_from a command) (sym is) ∙ finished.sound in
      absurd (cc)
  ends_cut laws spelled values (inr (other, was, stopped)) failing is = (
    command,
    spelled,
    over_map (t.told old.tape) (s.left old.source) _ _ stopped.told (λ held input told off.
        let some = has_outcome laws spelled values held input told in (
          some.0,
          some.1,
          subst (λ (f : Failing). IsCutOff t s k command held input old new f some.0) (same_failing other failing (sym was ∙ is))
              (off.1 some.0 some.1),
        )),
  )

  -- what a run did, over what the tape told
  left_by : Laws t s k old new → Spells words command → HasValues command → CommandEnds t s k command old new answer →
      (held : Option Cartridge) → t.told old.tape ≡ Some held →
      LeftBy t old.tape new.tape held (WordsLeave (s.left old.source) words held)
  left_by laws spelled values (inl finished) held told =
      let over = over_at (t.told old.tape) _ held finished.told told in record {
        steps = steps_of finished.outcome.acts;
        stops = finished.went.did.stops;
        torn = done_torn t old.tape new.tape (steps_of finished.outcome.acts) held finished.went.did told;
        leaves = λ left torn.
            inr (
              command,
              spelled,
              record {
                input = over.0;
                is_told = over.1;
                bytes = over.2.0;
                outcome = finished.outcome;
                plain = over.2.1;
                torn = torn;
              },
            );
      }
  left_by laws spelled values (inr (failing, is, stopped)) held told =
      let over = over_at (t.told old.tape) _ held stopped.told told in
      let some = has_outcome laws spelled values held over.0 told in
      let off = over.2.1 some.0 some.1 in record {
        steps = steps_of some.0.acts;
        stops = cut_stops t s k old new some.0.acts failing off.cut;
        torn = cut_is_torn t s k old new some.0.acts failing held off.cut told;
        leaves = λ left torn.
            inr (
              command,
              spelled,
              record {
                input = over.0;
                is_told = over.1;
                bytes = over.2.0;
                outcome = some.0;
                plain = some.1;
                torn = torn;
              },
            );
      }

  pub ends_stops : Laws t s k old new → Spells words command → HasValues command → CommandEnds t s k command old new answer →
      EachLeft t old.tape new.tape (WordsLeave (s.left old.source) words)
  ends_stops laws spelled values ends =
      each_left t old.tape new.tape (WordsLeave (s.left old.source) words) laws.before (left_by laws spelled values ends)

  -- ---- runs one after the other

  input_tells : (why : Status) (taken : ℕ) (before after : Option (List ℕ)) → InputLeft why taken before after →
      is_some after ≡ is_some before
  input_tells (status.ScriptFault line place) taken before after left = ap is_some left.1 ∙ is_some-option_map _ before
  input_tells why taken before after left = ap is_some left ∙ is_some-option_map _ before

  sink_tells : Laws t s k old new → (text : List ℕ) → k.took old.sink text new.sink → is_some (k.written new.sink) ≡ is_some
      (k.written old.sink)
  sink_tells laws text took = ap is_some (laws.told old.sink new.sink text took) ∙ is_some-option_map (λ bytes. bytes ++ text)
      (k.written old.sink)

  tape_tells : (acts : List Act) (failing : Failing) → Cut t s k old new acts failing → is_some (t.told new.tape) ≡ is_some
      (t.told old.tape)
  tape_tells acts TapeFails cut = cut.broke.tells
  tape_tells acts SourceFails cut = ap is_some cut.did.told ∙ is_some-option_map (effects (steps_of cut.front)) (t.told old.tape)
  tape_tells acts SinkFails cut = ap is_some cut.did.told ∙ is_some-option_map (effects (steps_of cut.at.front ++ cut.at.act.steps))
      (t.told old.tape)

  pub ends_joins : Laws t s k old new → CommandEnds t s k command old new answer → Joins t s k old new
  ends_joins laws (inl finished) = record {
    counts = record {
      tape = let e = finished.went.did.later in omega arith;
      source = let e = finished.went.source_later in omega arith;
      sink = let e = finished.went.wrote.later in omega arith;
    };
    tape = ap is_some finished.went.did.told ∙ is_some-option_map (effects (steps_of finished.outcome.acts)) (t.told old.tape);
    source = input_tells answer finished.outcome.taken (s.left old.source) (s.left new.source) finished.left;
    sink = sink_tells laws (output_of finished.outcome) finished.went.wrote.took;
    stops = (steps_of finished.outcome.acts, finished.went.did.stops);
  }
  ends_joins laws (inr (failing, is, stopped)) =
      let took = cut_took_front t s k old new stopped.acts failing stopped.cut in record {
        counts = cut_fell_none t s k old new stopped.acts failing stopped.cut;
        tape = tape_tells stopped.acts failing stopped.cut;
        source = stopped.source_tells;
        sink = sink_tells laws took.front took.took;
        stops = (steps_of stopped.acts, cut_stops t s k old new stopped.acts failing stopped.cut);
      }

  -- ---- over any tape, source and sink

  -- it ends so, and not otherwise
  pub ends_otherwise : CommandEnds t s k command old new answer → (answer ≡ status.Usage) ⊎ (answer ≡ status.NoMemory) → ⊥
  ends_otherwise (inl finished) (inl is) = let no = ap (λ (a : Status). may_come_from a command) is in let sound = finished.sound in cc
  ends_otherwise (inl finished) (inr is) = let no = ap (λ (a : Status). may_come_from a command) is in let sound = finished.sound in cc
  ends_otherwise (inr (failing, was, stopped)) (inl is) =
      let no = ap is_fault (sym was ∙ is) in let fault = is_a_fault failing in cc
  ends_otherwise (inr (failing, was, stopped)) (inr is) =
      let no = ap is_fault (sym was ∙ is) in let fault = is_a_fault failing in cc

  pub ends_named : CommandEnds t s k command old new answer → is_outcome answer ≡ true → may_come_from answer command ≡ true
  ends_named (inl finished) outcome = finished.sound
  ends_named (inr (failing, is, stopped)) outcome =
      let no : is_outcome answer ≡ false = ap is_outcome is ∙ fault_no_outcome failing in absurd (cc)

  pub ends_finished : CommandEnds t s k command old new answer → is_fault answer ≡ false → Finished t s k command old new answer
  ends_finished (inl finished) sound = finished
  ends_finished (inr (failing, is, stopped)) sound =
      let fault : is_fault answer ≡ true = ap is_fault is ∙ is_a_fault failing in absurd (cc)

  pub ends_begun : Laws t s k old new → Spells words command → CommandEnds t s k command old new answer → (text : List ℕ)
      × FrontPrints command text × k.took old.sink text new.sink
  ends_begun laws spelled (inl finished) = by_answer (done_or_not answer)
    where
      by_answer : (answer ≡ status.Done) ⊎ (answer ≢ status.Done) → (text : List ℕ) × FrontPrints command text
          × k.took old.sink text new.sink
      by_answer (inl is) = (
        output_of finished.outcome,
        text_front command (output_of finished.outcome) (finished.prints.0 is),
        finished.went.wrote.took,
      )
      by_answer (inr other) = (
        output_of finished.outcome,
        refused_front command answer (output_of finished.outcome) (finished.prints.1 other),
        finished.went.wrote.took,
      )
  ends_begun laws spelled (inr (failing, is, stopped)) =
      let took = cut_took_front t s k old new stopped.acts failing stopped.cut in
      (took.front, shorter_front command took.front took.rest (text_of stopped.acts) took.parts stopped.front, took.took)

  pub ends_silent : CommandEnds t s k command old new answer → (traits_of command).goes ≡ false → answer ≢ status.Done →
      answer ≢ status.SinkFault → new.sink ≡ old.sink
  ends_silent (inl finished) still other fault = finished.silent still other
  ends_silent (inr (failing, is, stopped)) still other fault = stopped.silent still (λ same. fault (is ∙ ap fault_of same))
