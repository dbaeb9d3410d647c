-- How a script ends.
use Rattle.std.proofs.Common.{◌≡◌, ◌≢◌, ℕ, true, List, [], ◌∷◌, ◌++◌, Option, Some, None, IfSome, Ok, Err, refl, sym, ap, ◌∙◌}
use Rattle.std.proofs.Common.{subst, inl, inr, arith}
use Rattle.std.specs.Prelude.{is_some, false}
use Rattle.qic_base.specs.Cartridge.{Cartridge}
use Rattle.qic_base.specs.Step.{Step as TapeStep}
use Rattle.qic_base.proofs.Writing.{TakesBoth}
use Rattle.qic_base.specs.Acts.{Act, text_of, Failing, TapeFails, SourceFails, SinkFails, Went}
use Rattle.cartridge_spec.specs.Mounting.{Mounting}
use Rattle.drive_states.specs.Unit.{UnitView}
use Rattle.cartridge_laws.proofs.MountOnce.{mounts_is_function}
use Rattle.command_spec.specs.Input.{Item, IsItem, Ending, AtEnd, AtStop, AtFault, IsScript}
use Rattle.command_spec.specs.Script.{AreDone, Did, ItemsDo, ScriptDoes, Scripting, acts_of, end_line}
use Rattle.cartridge_spec.specs.Header.{Header}
use Rattle.cartridge_spec.specs.Table.{Entry}
use Rattle.command_laws.proofs.CutFronts.{CutBehind, cut_then}
use Rattle.qic_base.proofs.Steps.{Done-nothing}
use Rattle.volume_script.specs.Answers.{Answer, AllDone, FaultIn, script_answer, script_status}
use Rattle.volume_store.specs.Mounting.{StoreView, IsOpened}
use Rattle.command_spec.specs.declared.status.Status.{Status}
use Rattle.command_spec.specs.Outcome.{Opened, CommandOutcome, refused, settling_act}
use Rattle.volume_store.specs.Opening.{HasOpened}
use Rattle.command_spec.specs.Machine.{CommandEnds, InputLeft, NamesFault, fault_of, may_come_from}
use Rattle.tape_cmd.proofs.Printing.{Prints}
use Rattle.volume_store.proofs.Opened.{went_behind, cut_behind, settled_told}
use Rattle.command_laws.proofs.CommandOpened.{quiet}
use Rattle.command_laws.proofs.CommandTold.{input_told, input_bytes}
use Rattle.command_laws.specs.Outcomes.{ScriptOutcome}
use Rattle.host_commands.specs.Opening.{OpeningEnds, is_opening}
use Rattle.hand_commands.specs.Outcome.{first_steps}
use Rattle.hand_commands.proofs.Endings.{told_map}
use Rattle.host_commands.proofs.Mounted.{BeginsSettling, no_outcome, begins_is, refused_is, table_lost, input_unread}
use Rattle.qic_base.specs.Sink as sinks
use Rattle.qic_base.specs.Source as sources
use Rattle.qic_base.specs.Tape as tapes
use Rattle.cartridge_spec.specs.Mounting as mounting
use Rattle.command_spec.specs.declared.words.Words.TheVariants as words
use Rattle.command_laws.proofs.TextFaults.{fault_line}
use Rattle.command_laws.proofs.CommandTold.{told_input}
use Rattle.volume_store.proofs.Ending.{none_left}
use Rattle.host_commands.proofs.Added.{no_script, left_by_opening}
use Rattle.qic_base.specs.SourceCalls.{input_of}
use Rattle.qic_base.specs.Alone.{outside}
use Rattle.command_laws.proofs.TextInputs as inputs
use Rattle.volume_script.specs.Runs as runs
use Rattle.command_spec.specs.declared.status.Status.TheVariants as status

-- ---- the fault of an input

fault_ended : (ending : Ending) (line place : ℕ) → script_answer ending ≡ FaultIn line place → ending ≡ AtFault line place
fault_ended AtEnd line place is = cc
fault_ended AtStop line place is = cc
fault_ended (AtFault number before) line place is = cc

answer_named : (answer : Answer) (line place : ℕ) → script_status answer ≡ status.ScriptFault line place → answer ≡ FaultIn line place
answer_named AllDone line place is = cc
answer_named (FaultIn number before) line place is = cc

answer_done : (answer : Answer) → script_status answer ≡ status.Done → answer ≡ AllDone
answer_done AllDone is = refl
answer_done (FaultIn number before) is = cc

names_fault : (input : List ℕ) (items : List Item) (ending : Ending) (answer : Answer) → IsScript input items ending →
    answer ≡ script_answer ending → NamesFault words.Script input (script_status answer)
names_fault input items ending answer read is = record {
  named = λ line place same. (
    items,
    subst (IsScript input items)
        (fault_ended ending line place (sym is ∙ answer_named answer line place same)) read,
  );
  none = λ done line place fault.
      let same = inputs.one_reading IsItem inputs.items 1 0 input items fault.0 ending (AtFault line place) read fault.1 in
      let other : script_answer ending ≡ FaultIn line place = ap script_answer same.1 in
      let all : answer ≡ AllDone = answer_done answer done in
      cc;
}

-- an answer that names no fault of the input, and is not that all was done
names_none : (answer : Status) (left : Option (List ℕ)) → ((line place : ℕ) → answer ≢ status.ScriptFault line place) →
    answer ≢ status.Done → IfSome left (λ input. NamesFault words.Script input answer)
names_none answer None none other = tt
names_none answer (Some input) none other =
    record { named = λ line place is. absurd (none line place is); none = λ done. absurd (other done) }

-- ---- the opening

found_by_script : (why : Status) → is_opening why ≡ true → may_come_from why words.Script ≡ true
found_by_script status.NoCartridge sound = refl
found_by_script status.NotFormatted sound = refl
found_by_script (status.Foreign field value) sound = sound
found_by_script (status.Lost segment lost) sound = table_lost segment lost false sound
found_by_script status.TableMismatch sound = refl
found_by_script why sound = cc

scripting_first : (input : List ℕ) → BeginsSettling (Scripting input)
scripting_first input c header ws table entries outcome found = ap (λ (o : CommandOutcome). first_steps o) found.is

-- nothing was printed
none_said : (why : Status) → is_opening why ≡ true → Prints words.Script why []
none_said status.NoCartridge sound = ((λ is. absurd (cc)), (λ other. refl))
none_said status.NotFormatted sound = ((λ is. absurd (cc)), (λ other. refl))
none_said (status.Foreign field value) sound = ((λ is. absurd (cc)), (λ other. refl))
none_said (status.Lost segment lost) sound = ((λ is. absurd (cc)), (λ other. refl))
none_said status.TableMismatch sound = ((λ is. absurd (cc)), (λ other. tt))
none_said why sound = absurd (cc)

-- a front of a script's text is anything
said : (text : List ℕ) → (rest : List ℕ) × ((replies : List ℕ) × (text ++ rest ≡ replies ++ end_line))
said text = (end_line, (text, refl))

-- items were carried out on the cartridge as it was mounted and settled
are_done : (d : Cartridge) (items : List Item) (done : List Act) (header : Header) (words : List ℕ) (table : List (List ℕ))
    (entries : List Entry) (dids : List Did) (rest : List Act) → mounting.Mounts d (mounting.Mounted header words table entries) →
    ItemsDo (mounting.settled table d) words entries items dids → done ≡ (settling_act table d ∷ acts_of dids) ++ rest →
    AreDone (Some d) done items
are_done d [] done header words table entries dids rest mounts does is = tt
are_done d (item ∷ items) done header words table entries dids rest mounts does is =
    (header, (words, (table, (entries, (dids, (rest, (mounts, does, is)))))))

module _ {T S K : Type 0} (t : tapes.Meaning T) (s : sources.Meaning S) (k : sinks.Meaning K) (a : T) (i : S) (x : K) where
  -- the opening was refused, or cut off
  pub script_unopened : (b : UnitView T) (why : Status) → ((z : K) → k.took z [] z) → OpeningEnds t a b (Err why) →
      CommandEnds t s k words.Script (outside a i x) (outside b.tape i x) why
  script_unopened b why nothing (inl turned) = inl (record {
    outcome = refused why;
    answered = refl;
    told = told_map (t.told a) _ _ turned.told
        (λ held is. (
          input_of (s.left i),
          input_told (s.left i),
          ((λ is. input_bytes (s.left i)), refused_is (Scripting (input_of (s.left i))) why held is),
        ));
    went = record { did = turned.did; wrote = record { took = nothing x; later = omega arith }; source_later = omega arith };
    left = left_by_opening why 0 (s.left i) (s.left i) (no_script why turned.sound) (none_left (s.left i));
    sound = found_by_script why turned.sound;
    none_taken = λ blind. refl;
    prints = none_said why turned.sound;
    silent = λ still other. refl;
    fault = names_none why (s.left i) (no_script why turned.sound) (no_outcome why turned.sound);
  })
  script_unopened b why nothing (inr (is, cut)) =
      rw is (input_unread t s k words.Script a b.tape i x cut nothing
      (told_map (t.told a) _ _ cut.front
      (λ held front. begins_is (Scripting (input_of (s.left i))) (scripting_first (input_of (s.left i))) cut.steps held front)))

  module _ (b : UnitView T) (store : StoreView) (opening : HasOpened t a b store) (c : T) (j : S) (y : K) (both : TakesBoth k)
      (nothing : (z : K) → k.took z [] z) where
    -- the machine's outcome over the cartridge that was opened
    is_plain : (input : List ℕ) (came : CommandOutcome) (d : Cartridge) (is : IsOpened d store opening.steps) →
        ScriptDoes (mounting.settled is.table d) store.words store.entries input came →
        ScriptOutcome (Some d) input (record { acts = quiet opening.steps ∷ came.acts; taken = came.taken; status = came.status })
    is_plain input came d is does = (
      mounting.Mounted store.header store.words is.table store.entries,
      is.mounts,
      record {
        came = came;
        does = does;
        is = ap (λ (ss : List TapeStep). record { acts = quiet ss ∷ came.acts; taken = came.taken; status = came.status }) is.settles;
      },
    )

    left_so : (taken : ℕ) (answer : Answer) → runs.Leaves s i j taken answer → InputLeft (script_status answer) taken (s.left i) (s.left j)
    left_so taken AllDone left = left
    left_so taken (FaultIn line place) left = left

    -- a line at fault is one of those that a script may have
    sound_so : (input : List ℕ) (items : List Item) (ending : Ending) (answer : Answer) → IsScript input items ending →
        answer ≡ script_answer ending →
        may_come_from (script_status answer) words.Script ≡ true
    sound_so input items ending AllDone read is = refl
    sound_so input items ending (FaultIn line place) read is =
        fault_line IsItem 0 input items line place (subst (IsScript input items) (fault_ended ending line place (sym is)) read)

    prints_so : (answer : Answer) (text : List ℕ) → (answer ≡ AllDone → (replies : List ℕ) × (text ≡ replies ++ end_line)) →
        Prints words.Script (script_status answer) text
    prints_so AllDone text replied = ((λ is. replied refl), (λ other. absurd (other refl)))
    prints_so (FaultIn line place) text replied = ((λ is. absurd (cc)), (λ other. tt))

    ended : (answer : Answer) → runs.Ended t s k store (outside b.tape i x) (outside c j y) answer →
        CommandEnds t s k words.Script (outside a i x) (outside c j y) (script_status answer)
    ended answer run =
        let came : CommandOutcome = run.outcome in
        inl (record {
          outcome = record { acts = quiet opening.steps ∷ came.acts; taken = came.taken; status = came.status };
          answered = sym run.answered;
          told = settled_told t a b store opening (λ d. ScriptDoes d store.words store.entries run.input came) _ run.told
              (λ d is does. (run.input, run.is_told, ((λ is. run.content), is_plain run.input came d is does)));
          went = went_behind t s k both nothing a b.tape i x (outside c j y) opening.steps came.acts opening.did run.went;
          left = left_so came.taken answer run.left;
          sound = sound_so run.input run.items run.ending answer run.read run.by_ending;
          none_taken = λ blind. absurd (cc);
          prints = prints_so answer (text_of came.acts) run.replied;
          silent = λ still. absurd (cc);
          fault = told_input (s.left i) run.input (λ input. NamesFault words.Script input (script_status answer)) run.is_told
              (names_fault run.input run.items run.ending answer run.read run.by_ending);
        })

    -- the table did not show the list: over no cartridge that is told
    mismatched : runs.Mismatched t s k (outside b.tape i x) (outside c j y) → CommandEnds t s k words.Script (outside a i x)
        (outside c j y) status.TableMismatch
    mismatched run = inl (record {
      outcome = record { acts = quiet opening.steps ∷ run.acts; taken = run.taken; status = status.TableMismatch };
      answered = refl;
      told = settled_told t a b store opening (λ d. ⊥) _ run.told (λ d is none. absurd none);
      went = went_behind t s k both nothing a b.tape i x (outside c j y) opening.steps run.acts opening.did run.went;
      left = run.left;
      sound = refl;
      none_taken = λ blind. absurd (cc);
      prints = ((λ is. absurd (cc)), (λ other. tt));
      silent = λ still. absurd (cc);
      fault = names_none status.TableMismatch (s.left i) (λ line place is. cc) (λ is. cc);
    })

    -- the opening went
    opening_went : Went t s k (outside a i x) (outside b.tape i x) (quiet opening.steps ∷ [])
    opening_went = went_behind t s k both nothing a b.tape i x (outside b.tape i x) opening.steps [] opening.did (record {
      did = Done-nothing t b.tape;
      wrote = record { took = nothing x; later = omega arith };
      source_later = omega arith;
    })

    -- over a mounted cartridge the acts of the outcome were cut off, behind those of the items that were carried out
    scripting_cut : (failing : Failing) (input : List ℕ) (items : List Item) (d : Cartridge) → (is : IsOpened d store opening.steps) →
        runs.CutItems t s k store (outside b.tape i x) (outside c j y) failing input items (mounting.settled is.table d) →
        (outcome : CommandOutcome) → ScriptOutcome (Some d) input outcome →
        CutBehind t s k (outside a i x) (outside c j y) outcome.acts failing (λ done. AreDone (Some d) done items)
    scripting_cut failing input items d is each outcome (m, mounts, does) =
        let same : m ≡ mounting.Mounted store.header store.words is.table store.entries = mounts_is_function d m _ mounts is.mounts in
        by_acts (subst (λ (n : Mounting). Opened (Scripting input) d n outcome) same does)
      where
        by_acts : Scripting input d store.header store.words is.table store.entries outcome →
            CutBehind t s k (outside a i x) (outside c j y) outcome.acts failing (λ done. AreDone (Some d) done items)
        by_acts found =
            let came : CommandOutcome = found.came in
            let all : quiet opening.steps ∷ came.acts ≡ outcome.acts =
            ap (λ (ss : List TapeStep). quiet ss ∷ came.acts) is.settles ∙ sym (ap (λ (o : CommandOutcome). o.acts) found.is) in
            subst (λ (acts : List Act). CutBehind t s k (outside a i x) (outside c j y) acts failing (λ done. AreDone (Some d) done items))
            all
            (cut_then t s k both (outside a i x) (outside b.tape i x) (outside c j y) (quiet opening.steps ∷ []) came.acts failing
            (runs.ItemsFirst store (mounting.settled is.table d) items) (λ done. AreDone (Some d) done items) opening_went
            (each came found.does)
            (λ done first.
            are_done d items (quiet opening.steps ∷ done) store.header store.words is.table store.entries first.0 first.1.0 is.mounts
            first.1.1.0
            (ap (λ (acts : List Act). quiet opening.steps ∷ acts) first.1.1.1
            ∙ ap (λ (ss : List TapeStep). quiet ss ∷ (acts_of first.0 ++ first.1.0)) is.settles)))

    -- a fault cut that off
    cut_so : (failing : Failing) → is_some (s.left j) ≡ is_some (s.left i) → runs.CutOff t s k store (outside b.tape i x)
        (outside c j y) failing →
        CommandEnds t s k words.Script (outside a i x) (outside c j y) (fault_of failing)
    cut_so failing tells run = inr (
      failing,
      refl,
      record {
        told = settled_told t a b store opening
            (runs.CutItems t s k store (outside b.tape i x) (outside c j y) failing run.input run.reaches.items) _ run.reaches.did
            (λ d is each. (
              run.input,
              run.is_told,
              (
                (λ is. run.content),
                λ outcome plain.
                    let off = scripting_cut failing run.input run.reaches.items d is each outcome plain in record {
                      cut = off.0;
                      taken = run.taken;
                      left = run.left;
                      reaches = record {
                        front = run.reaches.front;
                        back = run.reaches.back;
                        parts = run.reaches.parts;
                        items = run.reaches.items;
                        read = run.reaches.read;
                        did = off.1;
                        more = run.reaches.more;
                        count = run.reaches.count;
                        into = run.reaches.into;
                      };
                      done = λ sink still. absurd (cc);
                      silent = λ still. absurd (cc);
                    },
              ),
            ));
        acts = quiet opening.steps ∷ run.acts;
        cut = cut_behind t s k both nothing a b.tape i x (outside c j y) opening.steps run.acts failing opening.did run.cut;
        front = said (text_of run.acts);
        silent = λ still. absurd (cc);
        reads = λ same. refl;
        source_tells = tells;
      },
    )

    -- by the answer of the call
    pub script_done : runs.ScriptEnds t s k store (outside b.tape i x) (outside c j y) (Ok tt) →
        CommandEnds t s k words.Script (outside a i x) (outside c j y) status.Done
    script_done run = ended AllDone run

    pub script_failed : (why : Status) → is_some (s.left j) ≡ is_some (s.left i) →
        runs.ScriptEnds t s k store (outside b.tape i x) (outside c j y) (Err why) →
        CommandEnds t s k words.Script (outside a i x) (outside c j y) why
    script_failed (status.ScriptFault line place) tells run = ended (FaultIn line place) run
    script_failed status.TableMismatch tells run = mismatched run
    script_failed status.SourceFault tells run = cut_so SourceFails tells run
    script_failed status.SinkFault tells run = cut_so SinkFails tells run
    script_failed status.TapeFault tells run = cut_so TapeFails tells run
    script_failed other tells never = absurd never
