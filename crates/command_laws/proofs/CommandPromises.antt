-- What a run promises, by how its command ended.
use Rattle.std.proofs.Common.{[], ◌≡◌, ℕ, ◌+◌, ◌&&◌, nat_le, List, Option, Some, None, IfSome, false, refl, true, ap, arith, inl, inr, sym}
use Rattle.std.proofs.Common.{◌∙◌, subst, Bool, ◌↔◌, IsSomeAnd}
use Rattle.std.proofs.lemmas.Bool.{and_parts}
use Rattle.cartridge_spec.specs.Table.{Entry}
use Rattle.command_laws.proofs.CommandCompleting.{completes}
use Rattle.command_laws.proofs.CommandEndings.{appends_none, any_input, none_reached, nothing_front, none_printed}
use Rattle.command_laws.proofs.CommandEnds.{Laws, ends_asked, ends_cause, ends_others, ends_stood, ends_answers, ends_carried, ends_cut}
use Rattle.command_laws.proofs.CommandEnds.{ends_stops, ends_joins, ends_otherwise, ends_named, ends_finished, ends_begun, ends_silent}
use Rattle.command_laws.proofs.CommandEnds.{is_a_fault, each_left}
use Rattle.command_laws.proofs.CommandGivenBack.{gives_back}
use Rattle.command_laws.proofs.CommandListing.{lists_appends, none_listed}
use Rattle.command_laws.proofs.CommandMachineLaws.{machine_is_function_where, machine_answers_where}
use Rattle.command_laws.proofs.CommandScripted.{carries_out_lines, none_scripted, scripts_stop}
use Rattle.command_laws.proofs.CommandSeveral.{makes_volumes, none_made, makes_stop}
use Rattle.command_laws.proofs.CommandSurvives.{survives_one_loss, none_survives}
use Rattle.command_laws.proofs.CommandTable.{laws_of, has_values}
use Rattle.command_laws.proofs.CommandTold.{input_told}
use Rattle.command_laws.proofs.CommandVolumes.{volumes_stay, list_stays, stays_live, stays_clean, stops_format, stops_append, is_changed}
use Rattle.command_laws.proofs.CommandVolumes.{may_change, none_changed, stays_bare}
use Rattle.command_laws.proofs.TextWords.{one_command, each_words}
use Rattle.command_laws.specs.CommandLaws.{MachineIsFunction, MachineAnswers}
use Rattle.command_spec.specs.Commands.{traits_of}
use Rattle.command_spec.specs.Headline.{WordsLeave, EachLeft, Stepped}
use Rattle.command_spec.specs.Input.{most_items}
use Rattle.command_laws.specs.RunTerms.{Answers, EndsBlind}
use Rattle.command_spec.specs.Several.{IsHeard}
use Rattle.command_laws.specs.MadeTerms.{AppendedFrom}
use Rattle.command_laws.specs.CommandRecord.{is_unsound}
use Rattle.command_laws.specs.CommandFields.{HasInputFault, FrontPrints, RefusedPrints}
use Rattle.command_spec.specs.Machine.{HasValues, Spells, SpellsNone, may_come_from, NamesFault, InputLeft, IsCutOff, CommandEnds, is_fault}
use Rattle.command_spec.specs.Machine.{Finished, is_outcome}
use Rattle.command_spec.specs.Outcome.{CommandOutcome, output_of}
use Rattle.command_spec.specs.Promises.{Promises}
use Rattle.command_spec.specs.Volumes.{IsCarriedOut}
use Rattle.command_spec.specs.declared.status.Status.{Status}
use Rattle.command_spec.specs.declared.words.Words.{Words}
use Rattle.qic_base.proofs.Steps.{Stops-nothing}
use Rattle.qic_base.specs.Acts.{Act, Outside, Failing, TapeFails, SourceFails, SinkFails, Went, Cut}
use Rattle.qic_base.specs.Alone.{no_source, around}
use Rattle.qic_base.specs.Cartridge.{Cartridge}
use Rattle.qic_base.specs.Tape.{Rose}
use Rattle.qic_base.specs.Source.{IsInput}
use Rattle.qic_base.specs.SourceCalls.{input_of}
use Rattle.command_spec.specs.declared.status.Status.TheVariants as status
use Rattle.qic_base.specs.Sink as sinks
use Rattle.qic_base.specs.Source as sources
use Rattle.qic_base.specs.Tape as tapes

pub machine_is_function : MachineIsFunction
machine_is_function = machine_is_function_where one_command

pub machine_answers : MachineAnswers
machine_answers = machine_answers_where one_command each_words

-- ---- a command that reads no input, over any source

over_left : {A : Type 0} (held : Option A) (left : Option (List ℕ)) (P R : A → List ℕ → Type 0) →
    IfSome held (λ a. (input : List ℕ) × Unit {0} × P a input) →
    ((a : A) (input other : List ℕ) → P a input → R a other) → IfSome held (λ a. (input : List ℕ) × IsInput left input × R a input)
over_left None left P R known follows = tt
over_left (Some a) left P R known follows = (input_of left, input_told left, follows a known.0 (input_of left) known.2)

-- a fault of the input is named by a command that reads lines of it
has_lines : (command : Words) (answer : Status) (line place : ℕ) → answer ≡ status.ScriptFault line place →
    may_come_from answer command ≡ true → (traits_of command).lines ≡ true
has_lines command answer line place is sound =
    (and_parts (traits_of command).lines (nat_le 1 line && nat_le line (most_items + 1))
    (sym (ap (λ (a : Status). may_come_from a command) is) ∙ sound)).0

no_fault_named : (command : Words) (answer : Status) (left : Option (List ℕ)) → (traits_of command).reads ≡ false →
    may_come_from answer command ≡ true →
    IfSome left (λ input. NamesFault command input answer)
no_fault_named command answer None blind sound = tt
no_fault_named command answer (Some input) blind sound = record {
  named = λ line place is.
      let lines = has_lines command answer line place is sound in
      let lineless = ((laws_of command).blind blind).no_lines in
      absurd (cc);
  none = λ done line place fault. ((laws_of command).blind blind).no_fault input line place fault;
}

all_left : (left : Option (List ℕ)) → InputLeft status.Usage 0 left left
all_left None = refl
all_left (Some bytes) = refl

nothing_taken : (command : Words) (answer : Status) (taken : ℕ) (left : Option (List ℕ)) → (traits_of command).reads ≡ false →
    may_come_from answer command ≡ true → taken ≡ 0 →
    InputLeft answer taken left left
nothing_taken command (status.ScriptFault line place) taken left blind sound none =
    let lines = has_lines command (status.ScriptFault line place) line place refl sound in
    let lineless = ((laws_of command).blind blind).no_lines in absurd (cc)
nothing_taken command answer taken left blind sound none = rw none (all_left left)

never_rose : Rose 0 0 → ⊥
never_rose rose = omega arith

module _ {T S K : Type 0} (t : tapes.Meaning T) (s : sources.Meaning S) (k : sinks.Meaning K) (command : Words) (a b : T) (i : S)
    (x y : K) where
  abbrev before : Outside T S K
  before = record { tape = a; source = i; sink = x }

  abbrev behind : Outside T S K
  behind = record { tape = b; source = i; sink = y }

  went_over : (acts : List Act) → Went t no_source k (around a x) (around b y) acts → Went t s k before behind acts
  went_over acts went = record { did = went.did; wrote = went.wrote; source_later = omega arith }

  abbrev cut_over : (acts : List Act) (failing : Failing) → Cut t no_source k (around a x) (around b y) acts failing →
      Cut t s k before behind acts failing
  cut_over acts TapeFails cut = record {
    front = cut.front;
    rest = cut.rest;
    parts = cut.parts;
    broke = cut.broke;
    here = cut.here;
    wrote = cut.wrote;
    source_later = omega arith;
  }
  cut_over acts SourceFails cut = absurd (never_rose cut.cause)
  cut_over acts SinkFails cut = record { at = cut.at; did = cut.did; broke = cut.broke; source_later = omega arith }

  off_over : (failing : Failing) (held : Option Cartridge) (input other : List ℕ) (outcome : CommandOutcome) →
      IsCutOff t no_source k command held other (around a x) (around b y) failing outcome →
      IsCutOff t s k command held input before behind failing outcome
  off_over TapeFails held input other outcome off = record {
    cut = cut_over outcome.acts TapeFails off.cut;
    taken = 0;
    left = all_left (s.left i);
    reaches = none_reached command held input outcome off.cut.front;
    done = off.done;
    silent = off.silent;
  }
  off_over SourceFails held input other outcome off = let cut = off.cut in absurd (never_rose cut.cause)
  off_over SinkFails held input other outcome off = record {
    cut = cut_over outcome.acts SinkFails off.cut;
    taken = 0;
    left = all_left (s.left i);
    reaches = none_reached command held input outcome off.cut.at.front;
    done = off.done;
    silent = off.silent;
  }

  pub ends_over : (answer : Status) → (traits_of command).reads ≡ false → EndsBlind t k command a b x y answer →
      CommandEnds t s k command before behind answer
  ends_over answer blind (inl finished) = inl (record {
    outcome = finished.outcome;
    answered = finished.answered;
    told = over_left (t.told a) (s.left i) _ _ finished.told
        (λ held input other plain. (
          appends_none command (s.left i) other blind,
          any_input command held input finished.outcome blind plain.1 other,
        ));
    went = went_over finished.outcome.acts finished.went;
    left = nothing_taken command answer finished.outcome.taken (s.left i) blind finished.sound (finished.none_taken blind);
    sound = finished.sound;
    none_taken = finished.none_taken;
    prints = finished.prints;
    silent = finished.silent;
    fault = no_fault_named command answer (s.left i) blind finished.sound;
  })
  ends_over answer blind (inr (failing, is, stopped)) = inr (
    failing,
    is,
    record {
      told = over_left (t.told a) (s.left i) _ _ stopped.told (λ held input other off. (
        appends_none command (s.left i) other blind,
        λ outcome plain. off_over failing held other input outcome
            (off.1 outcome (any_input command held other outcome blind plain input)),
      ));
      acts = stopped.acts;
      cut = cut_over stopped.acts failing stopped.cut;
      front = stopped.front;
      silent = stopped.silent;
      reads = stopped.reads;
      source_tells = refl;
    },
  )

-- ---- a run whose words are those of a command

named_at : (command : Words) (answer : Status) (left : Option (List ℕ)) (line place : ℕ) → answer ≡ status.ScriptFault line place →
    IfSome left (λ input. NamesFault command input answer) → IfSome left (λ input. HasInputFault command input line place)
named_at command answer None line place is fault = tt
named_at command answer (Some input) line place is fault = fault.named line place is

none_at : (command : Words) (answer : Status) (left : Option (List ℕ)) → answer ≡ status.Done →
    IfSome left (λ input. NamesFault command input answer) →
    IfSome left (λ input. (line place : ℕ) → ¬ (HasInputFault command input line place))
none_at command answer None is fault = tt
none_at command answer (Some input) is fault = fault.none is

module _ {T S K : Type 0} (t : tapes.Meaning T) (s : sources.Meaning S) (k : sinks.Meaning K) (words : List (List ℕ)) (command : Words)
    (old new : Outside T S K) (answer : Status) where
  -- the words are those of no other command
  same_command : Spells words command → (other : Words) → Spells words other → command ≡ other
  same_command spelled other spells = one_command words command other spelled spells

  pub promises : Laws t s k old new → Spells words command → HasValues command →
      ((traits_of command).reads ≡ false → new.source ≡ old.source) → s.keeps old.source new.source →
      CommandEnds t s k command old new answer → Promises t s k words old new answer
  promises laws spelled values source kept ends =
      let stops : EachLeft t old.tape new.tape (WordsLeave (s.left old.source) words) =
      ends_stops t s k words command old new answer laws spelled values ends in
      let finished : is_fault answer ≡ false → Finished t s k command old new answer =
      ends_finished t s k words command old new answer ends in
      record {
        carried = ends_carried t s k words command old new answer laws spelled ends;
        complete = λ none. completes t s k words old new answer laws.right (λ other spells. has_values words other spells)
            (ends_answers t s k words command old new answer laws spelled ends none);
        cut = ends_cut t s k words command old new answer laws spelled values ends;
        cause = ends_cause t s k words command old new answer ends;
        others = ends_others t s k words command old new answer ends;
        stood = ends_stood t s k words command old new answer ends;
        asked = λ is. (command, spelled, ends_asked t s k words command old new answer ends is);
        stops = stops;
        volumes = volumes_stay t (s.left old.source) words old.tape new.tape laws.right stops;
        lists = list_stays t (s.left old.source) words old.tape new.tape laws.right stops;
        live = stays_live t (s.left old.source) words old.tape new.tape laws.right stops;
        clean = stays_clean t (s.left old.source) words old.tape new.tape laws.right stops;
        bare = stays_bare t (s.left old.source) words old.tape new.tape laws.right stops;
        formats = stops_format t (s.left old.source) words old.tape new.tape laws.right stops;
        appends = stops_append t (s.left old.source) words old.tape new.tape laws.right
            (λ other spells. has_values words other spells) stops;
        makes = makes_stop t (s.left old.source) words old.tape new.tape laws.right (λ other spells. has_values words other spells) stops;
        scripts = scripts_stop t (s.left old.source) words old.tape new.tape laws.right stops;
        changed = is_changed t s k words command old new answer laws spelled values ends;
        survives = survives_one_loss t s k words command old new answer laws spelled values
            (λ other spells. has_values words other spells) ends stops;
        made = makes_volumes t s k words command old new answer laws spelled (λ other spells. has_values words other spells) ends;
        scripted = carries_out_lines t s k words command old new answer laws spelled ends;
        listed = lists_appends t s k words command old new answer laws spelled (λ other spells. has_values words other spells) ends;
        restores =
            gives_back t s k words old new answer (ends_carried t s k words command old new answer laws spelled ends)
            (ends_cut t s k words command old new answer laws spelled values ends);
        joins = ends_joins t s k words command old new answer laws ends;
        usage = ((λ is. absurd (ends_otherwise t s k words command old new answer ends (inl is))), (λ none. absurd (none command spelled)));
        memory = λ is. absurd (ends_otherwise t s k words command old new answer ends (inr is));
        named = λ outcome. (command, spelled, ends_named t s k words command old new answer ends outcome);
        fault = λ line place is.
            let f : Finished t s k command old new answer = finished (ap is_fault is) in (
              command,
              spelled,
              has_lines command answer line place is f.sound,
              named_at command answer (s.left old.source) line place is f.fault,
            );
        no_fault = λ done other spells.
            subst (λ (w : Words). IfSome (s.left old.source) (λ input. (line place : ℕ) → ¬ (HasInputFault w input line place)))
            (same_command spelled other spells)
            (none_at command answer (s.left old.source) done (finished (ap is_fault done)).fault);
        silent = λ none done fault. ends_silent t s k words command old new answer ends (none command spelled) done fault;
        source = λ none. source (none command spelled);
        kept = kept;
        text = record {
          done = λ done.
              let f : Finished t s k command old new answer = finished (ap is_fault done) in
              (command, spelled, (output_of f.outcome, f.prints.0 done, f.went.wrote.took));
          refused = λ other spells sound unlike.
              let f : Finished t s k command old new answer = finished sound in
              subst (λ (w : Words). (text : List ℕ) × RefusedPrints w answer text × k.took old.sink text new.sink)
              (same_command spelled other spells)
              (output_of f.outcome, f.prints.1 unlike, f.went.wrote.took);
          begun = λ other spells.
              subst (λ (w : Words). (text : List ℕ) × FrontPrints w text × k.took old.sink text new.sink)
              (same_command spelled other spells)
              (ends_begun t s k words command old new answer laws spelled ends);
        };
      }

-- ---- a run that touched nothing

-- the answer tells of nothing that was done
abbrev is_idle : Status → Bool
is_idle status.Usage = true
is_idle status.NoMemory = true
is_idle answer = false

idle_changes_nothing : (answer : Status) → is_idle answer ≡ true → (is_fault answer ≡ false) × (may_change answer ≡ false)
    × (is_outcome answer ≡ false)
idle_changes_nothing status.Usage is = (refl, refl, refl)
idle_changes_nothing status.NoMemory is = (refl, refl, refl)
idle_changes_nothing answer is = absurd (cc)

idle_is_sound : (answer : Status) → is_idle answer ≡ true → is_unsound answer ≡ false
idle_is_sound status.Usage is = refl
idle_is_sound status.NoMemory is = refl
idle_is_sound answer is = absurd (cc)

idle_carries_nothing : (answer : Status) → is_idle answer ≡ true → (IsCarriedOut answer → ⊥) × (IsHeard answer → ⊥)
idle_carries_nothing answer is =
    let nothing = idle_changes_nothing answer is in (
      (λ which. elim which [
        | inl done ↦ let may : may_change answer ≡ true = ap may_change done in let no = nothing.1 in cc
        | inr sink ↦ let fault : is_fault answer ≡ true = ap is_fault sink in let no = nothing.0 in cc
      ]),
      (λ heard. elim heard [
        | inl done ↦ let may : is_outcome answer ≡ true = ap is_outcome done in let no = nothing.2 in cc
        | inr (line, place, named) ↦ let may : is_outcome answer ≡ true = ap is_outcome named in let no = nothing.2 in cc
      ]),
    )

idle_appends_none : (seed count : ℕ) (words : List ℕ) (es : List Entry) (answer : Status) → is_idle answer ≡ true →
    AppendedFrom seed 1 count words es answer 0
idle_appends_none seed count words es status.Usage is = tt
idle_appends_none seed count words es status.NoMemory is = tt
idle_appends_none seed count words es answer is = absurd (cc)

over_any : (o : Option (Option Cartridge)) (left : Option (List ℕ)) (R : Option Cartridge → List ℕ → Type 0) →
    ((held : Option Cartridge) (input : List ℕ) → o ≡ Some held → R held input) →
    IfSome o (λ held. (input : List ℕ) × IsInput left input × R held input)
over_any None left R follows = tt
over_any (Some held) left R follows = (input_of left, input_told left, follows held (input_of left) refl)

module _ {T S K : Type 0} (t : tapes.Meaning T) (s : sources.Meaning S) (k : sinks.Meaning K) (words : List (List ℕ))
    (old : Outside T S K) where
  untouched_stops : Laws t s k old old → EachLeft t old.tape old.tape (WordsLeave (s.left old.source) words)
  untouched_stops laws =
      each_left t old.tape old.tape (WordsLeave (s.left old.source) words) laws.before (λ held told. record {
        steps = [];
        stops = Stops-nothing t old.tape;
        torn = subst (λ (o : Option (Option Cartridge)). IsSomeAnd o (λ left. left ≡ held)) (sym told) refl;
        leaves = λ left same. inl same;
      })

  idle : (answer : Status) → Laws t s k old old → is_idle answer ≡ true → s.keeps old.source old.source →
      Answers t s k words old old answer →
      (answer ≡ status.Usage) ↔ SpellsNone words →
      (answer ≡ status.NoMemory → (command : Words) × Spells words command × ((traits_of command).memory ≡ true)) →
      ((command : Words) → Spells words command → (text : List ℕ) × FrontPrints command text × k.took old.sink text old.sink) →
      Promises t s k words old old answer
  idle answer laws is kept answers usage memory begun =
      let stops : EachLeft t old.tape old.tape (WordsLeave (s.left old.source) words) = untouched_stops laws in
      let nothing = idle_changes_nothing answer is in
      let ends = idle_carries_nothing answer is in record {
        carried = λ sound. answers;
        complete = λ none. completes t s k words old old answer laws.right (λ other spells. has_values words other spells) answers;
        cut = λ failing same. let fault = ap is_fault same ∙ is_a_fault failing in let no = nothing.0 in absurd (cc);
        cause = λ failing same. let fault = ap is_fault same ∙ is_a_fault failing in let no = nothing.0 in absurd (cc);
        others = λ failing same. let fault = ap is_fault same ∙ is_a_fault failing in let no = nothing.0 in absurd (cc);
        stood = λ sound. record { tape = refl; source = refl; sink = refl };
        asked = λ same. let fault = ap is_fault same in let no = nothing.0 in absurd (cc);
        stops = stops;
        volumes = volumes_stay t (s.left old.source) words old.tape old.tape laws.right stops;
        lists = list_stays t (s.left old.source) words old.tape old.tape laws.right stops;
        live = stays_live t (s.left old.source) words old.tape old.tape laws.right stops;
        clean = stays_clean t (s.left old.source) words old.tape old.tape laws.right stops;
        bare = stays_bare t (s.left old.source) words old.tape old.tape laws.right stops;
        formats = stops_format t (s.left old.source) words old.tape old.tape laws.right stops;
        appends = stops_append t (s.left old.source) words old.tape old.tape laws.right
            (λ other spells. has_values words other spells) stops;
        makes = makes_stop t (s.left old.source) words old.tape old.tape laws.right (λ other spells. has_values words other spells) stops;
        scripts = scripts_stop t (s.left old.source) words old.tape old.tape laws.right stops;
        changed = none_changed t (s.left old.source) words old.tape answer nothing.0 nothing.1;
        survives = none_survives t k (s.left old.source) words old.tape old.sink answer laws.right (laws.nothing old.sink) ends.0 ends.1
            (λ other spells. has_values words other spells) stops;
        made = none_made t k words old.tape old.sink answer (laws.nothing old.sink) ends.0
            (λ seed count map_words es. idle_appends_none seed count map_words es answer is);
        scripted = none_scripted t k (s.left old.source) words old.tape old.sink answer (laws.nothing old.sink) ends.1;
        listed = λ c header map_words table entries told mounts other.
            none_listed t k (s.left old.source) words old.tape old.sink answer laws.right (laws.nothing old.sink) ends.0 ends.1
            (λ seed count map_words es. idle_appends_none seed count map_words es answer is) c header map_words table entries told mounts;
        restores = gives_back t s k words old old answer (λ sound. answers)
            (λ failing same. let fault = ap is_fault same ∙ is_a_fault failing in let no = nothing.0 in absurd (cc));
        joins = record {
          counts = record { tape = omega arith; source = omega arith; sink = omega arith };
          tape = refl;
          source = refl;
          sink = refl;
          stops = ([], Stops-nothing t old.tape);
        };
        usage = usage;
        memory = memory;
        named = λ outcome. let no = nothing.2 in absurd (cc);
        fault = λ line place same. let no = ap is_idle same in absurd (cc);
        no_fault = λ done. let no = ap is_idle done in absurd (cc);
        silent = λ none done fault. refl;
        source = λ none. refl;
        kept = kept;
        text = record {
          done = λ done. let no = ap is_idle done in absurd (cc);
          refused = λ command spells sound unlike. ([], none_printed command answer (idle_is_sound answer is), laws.nothing old.sink);
          begun = begun;
        };
      }

  usage_step : Laws t s k old old → SpellsNone words → (held : Option Cartridge) (input : List ℕ) → t.told old.tape ≡ Some held →
      Stepped t s k words held input old old status.Usage
  usage_step laws none held input told = record {
    held' = held;
    output = [];
    taken = 0;
    step = inl (none, refl, refl, refl, refl);
    tape = told;
    source = all_left (s.left old.source);
    took = laws.nothing old.sink;
    written = laws.told old.sink old.sink [] (laws.nothing old.sink);
  }

  -- words of no command
  pub usage_promises : Laws t s k old old → s.keeps old.source old.source → SpellsNone words → Promises t s k words old old status.Usage
  usage_promises laws kept none =
      idle status.Usage laws refl kept
      (over_any (t.told old.tape) (s.left old.source) _ (λ held input told. inr (usage_step laws none held input told)))
      ((λ is. none), (λ again. refl)) (λ is. absurd (cc)) (λ command spells. absurd (none command spells))

  -- want of memory
  pub memory_promises : (command : Words) → Laws t s k old old → s.keeps old.source old.source → Spells words command →
      (traits_of command).memory ≡ true →
      Promises t s k words old old status.NoMemory
  memory_promises command laws kept spelled takes =
      idle status.NoMemory laws refl kept
      (over_any (t.told old.tape) (s.left old.source) _ (λ held input told. inl refl))
      ((λ is. absurd (cc)), (λ none. absurd (none command spelled))) (λ is. (command, spelled, takes))
      (λ other spells. ([], nothing_front other, laws.nothing old.sink))
