-- What a cartridge is mounted with when a run is over that adds volumes.
use Rattle.std.proofs.Common.{◌≡◌, ◌≢◌, ◌⊎◌, inl, inr, ℕ, ◌+◌, ◌<◌, ◌^◌, ◌&&◌, nat_le, min, Bool, true, false, cond, List, [], ◌∷◌, ◌++◌}
use Rattle.std.proofs.Common.{length, Option, Some, None, IsSomeAnd, refl, sym, ap, ◌∙◌, subst, append-nil, arith, append_assoc, ◌≤◌}
use Rattle.std.proofs.lemmas.List.{length-append}
use Rattle.cartridge_laws.proofs.FormatWriting.{effects-some, some_and}
use Rattle.cartridge_laws.proofs.MountOnce.{mounts_is_function}
use Rattle.cartridge_laws.proofs.MountSettled.{settled_keeps_table}
use Rattle.cartridge_laws.proofs.MountWhole.{settling_effects}
use Rattle.cartridge_spec.specs.Formatting.{IsLabel}
use Rattle.cartridge_spec.specs.Header.{Header}
use Rattle.cartridge_spec.specs.TableSegment.{TableIs}
use Rattle.cartridge_spec.specs.Mounting.{Mounting, Mounted, Mounts, settled, Lists}
use Rattle.cartridge_spec.specs.Settling.{changed_by, settling_steps}
use Rattle.cartridge_spec.specs.Table.{Entry}
use Rattle.command_laws.proofs.MadeCounting.{appended_by}
use Rattle.command_laws.proofs.CommandAdded.{replied_text, status_fits}
use Rattle.command_laws.proofs.CommandAppends.{appended_line_is_some}
use Rattle.command_laws.proofs.CommandEnds.{Laws, over_at, told_whole}
use Rattle.command_laws.proofs.CommandOpened.{quiet}
use Rattle.command_laws.proofs.CommandSeveral.{heard_fault, never_sink, some_long, none_left}
use Rattle.command_laws.proofs.CommandTable.{plain_answers}
use Rattle.command_laws.proofs.CommandTold.{input_told}
use Rattle.command_laws.proofs.CommandVolumes.{done_now, Did, carried_out_did, now_weaker}
use Rattle.command_laws.proofs.MadeLeaving.{made_are_listed, make_lists}
use Rattle.command_laws.proofs.MountedListed.{mounted_listed}
use Rattle.command_laws.proofs.MountedListing.{append_front_lists, append_lists, settled_lists}
use Rattle.command_laws.proofs.ScriptListing.{listed_behind_act, listed_between, listed_done, listed_none, no_rest}
use Rattle.command_laws.proofs.ScriptMachineLaws.{one_outcome as one_script}
use Rattle.command_laws.proofs.TextWords.{one_command}
use Rattle.command_laws.specs.MountedListed.{IsListed, listed_behind}
use Rattle.command_laws.specs.MountedListing.{AddsNone}
use Rattle.cartridge_spec.specs.Appending.{entry_behind}
use Rattle.command_spec.specs.Append.{Kept, Taking, Fits, TooLong, append_acts, room_in, taking, AppendOutcome, appended, kept_over}
use Rattle.command_laws.specs.MadeTerms.{Makes, AppendedFrom}
use Rattle.command_laws.specs.AppendTerms.{entry_for, status_by_room}
use Rattle.command_laws.specs.Outcomes.{Appends, ScriptOutcome, MakeOutcome}
use Rattle.command_laws.specs.CommandFields.{Yields}
use Rattle.command_spec.specs.Headline.{ToldNow}
use Rattle.command_spec.specs.Lines.{reply_behind}
use Rattle.command_spec.specs.Several.{IsHeard, NowLists, ListsAppends}
use Rattle.command_spec.specs.Machine.{HasValues, Spells, CommandEnds, IsCutOff, fault_of, is_fault}
use Rattle.command_spec.specs.Make.{AppendedBy, made_list, Making}
use Rattle.command_spec.specs.Outcome.{Going, Opened, OpenOutcome, CommandOutcome}
use Rattle.command_spec.specs.Script.{ScriptDoes, entries_behind, Scripting}
use Rattle.command_spec.specs.ScriptLists.{ItemsWearBehind, ListsAnswered, ListsBroken}
use Rattle.command_spec.specs.Volumes.{IsCarriedOut}
use Rattle.qic_base.specs.Source.{IsInput}
use Rattle.command_laws.specs.RunTerms.{WasNotDone}
use Rattle.command_spec.specs.declared.status.Status.{Status}
use Rattle.command_spec.specs.declared.words.Words.{Words}
use Rattle.qic_base.proofs.Joins.{steps_of-append}
use Rattle.qic_base.proofs.Steps.{effects-append}
use Rattle.qic_base.specs.Acts.{Act, steps_of, text_of, Outside, TapeFails, SourceFails, SinkFails}
use Rattle.qic_base.specs.Cartridge.{Cartridge}
use Rattle.qic_base.specs.CartridgeTerms.{IsCartridge}
use Rattle.qic_base.specs.Step.{effects, Step as TapeStep}
use Rattle.qic_base.specs.declared.tape.TapeInfo.{TapeInfo}
use Rattle.qic_base.specs.SourceCalls.{input_of}
use Rattle.command_spec.specs.declared.status.Status.TheVariants as status
use Rattle.qic_base.specs.Sink as sinks
use Rattle.qic_base.specs.Source as sources
use Rattle.qic_base.specs.Tape as tapes
use Rattle.qic_base.specs.TapeCalls as tape_calls
use Rattle.command_spec.specs.declared.words.Words.TheVariants as commands

-- ---- a cartridge as it was mounted

module _ (c : Cartridge) (header : Header) (words : List ℕ) (table : List (List ℕ)) (entries : List Entry) (whole : IsCartridge c)
    (mounts : Mounts c (Mounted header words table entries)) where
  abbrev still : Cartridge
  still = settled table c

  abbrev settling : Act
  settling = quiet (settling_steps table c)

  -- what a command does on it
  went_on : (goes : Going) (outcome : CommandOutcome) → OpenOutcome goes (Some c) outcome → goes c header words table entries outcome
  went_on goes outcome (m, is, opened) =
      subst (λ (n : Mounting). Opened goes c n outcome) (mounts_is_function c m (Mounted header words table entries) is mounts) opened

  now_settled : effects (settling_steps table c) (Some c) ≡ Some still
  now_settled = settling_effects c table mounts.reads

  listed : IsListed still words entries
  listed = mounted_listed c header words table entries whole mounts

  lists_still : Lists still header words entries
  lists_still = settled_lists c header words table entries mounts

  reads_still : TableIs still table
  reads_still = (settled_keeps_table c table mounts.reads).table

  same_info : still.info ≡ c.info
  same_info = (settled_keeps_table c table mounts.reads).info

  -- behind the settling and a front of other acts
  behind_acts : (more : List Act) → effects (steps_of (settling ∷ more)) (Some c) ≡ Some (changed_by (steps_of more) still)
  behind_acts more = effects-append (settling_steps table c) (steps_of more) (Some c) ∙ ap (effects (steps_of more)) now_settled
      ∙ effects-some (steps_of more) still

  abbrev ListsNow : List Entry → Option Cartridge → Type 0
  ListsNow es left = IsSomeAnd left (λ d. Lists d header words es)

  lists_as : (es : List Entry) (d : Cartridge) (left : Option Cartridge) → Lists d header words es → left ≡ Some d → ListsNow es left
  lists_as es d left is same = some_and (λ e. Lists e header words es) d left is same

  -- before anything was done
  lists_before : (left : Option Cartridge) → left ≡ Some c → ListsNow entries left
  lists_before left same = lists_as entries c left (table, mounts) same

  -- ---- an append

  module _ (name : List ℕ) (date : ℕ) (label : IsLabel name) (word : date < 2 ^ 32) where
    -- what an append does
    abbrev acts_by : Kept → (input : List ℕ) → List Act
    acts_by kept input = append_acts kept name date None (reply_behind (length entries)) input

    fits_where_done : (have : ℕ) (input : List ℕ) → status_by_room have input ≡ status.Done → taking have None input ≡ Fits input
    fits_where_done have input done = by_flag (nat_le 1 have && nat_le (length input) have) done
      where
        by_flag : (flag : Bool) → cond flag status.Done (status.Full (min (length input) (have + 1)) have) ≡ status.Done →
            cond flag (Fits input) (TooLong (min (length input) (have + 1)) have) ≡ Fits input
        by_flag true is = refl
        by_flag false is = absurd (cc)

    -- carried out, it leaves the list with the volume
    lists_with : (input : List ℕ) (outcome : CommandOutcome) → AppendOutcome name date (Some c) input outcome →
        outcome.status ≡ status.Done →
        ListsNow (entries ++ entry_behind words entries name date input ∷ []) (effects (steps_of outcome.acts) (Some c))
    lists_with input outcome (inl (locked, is)) done = let other = ap (λ (o : CommandOutcome). o.status) is in absurd (cc)
    lists_with input outcome (inr (free, opened)) done =
        let is : outcome ≡ appended name date input c words table entries = went_on (Appends name date input) outcome opened in
        let took : taking (room_in (kept_over still words entries table)) None input ≡ Fits input =
        fits_where_done (room_in (kept_over still words entries table)) input (sym (ap (λ (o : CommandOutcome). o.status) is) ∙ done) in
        let all : Lists (changed_by (steps_of (acts_by (kept_over still words entries table) input)) still) header words
        (listed_behind (kept_over still words entries table) name date (taking (room_in (kept_over still words entries table)) None input))
        =
        append_lists still header words entries table name date None (reply_behind (length entries)) input lists_still listed
        (ap (λ (i : TapeInfo). i.protected) same_info ∙ free) reads_still label word in
        lists_as (entries ++ entry_behind words entries name date input ∷ [])
        (changed_by (steps_of (acts_by (kept_over still words entries table) input)) still)
        (effects (steps_of outcome.acts) (Some c))
        (subst (λ (became : Taking). Lists (changed_by (steps_of (acts_by (kept_over still words entries table) input)) still) header words
        (listed_behind (kept_over still words entries table) name date became)) took all)
        (ap (λ (o : CommandOutcome). effects (steps_of o.acts) (Some c)) is
        ∙ behind_acts (acts_by (kept_over still words entries table) input))

    -- and before its reply it leaves the list as it was
    lists_without : (input : List ℕ) (outcome : CommandOutcome) (front rest : List Act) → AppendOutcome name date (Some c) input outcome →
        front ++ rest ≡ outcome.acts →
        (outcome.status ≢ status.Done) ⊎ (text_of front ≡ []) → ListsNow entries (effects (steps_of front) (Some c))
    lists_without input outcome front rest (inl (locked, is)) parts before =
        lists_before (effects (steps_of front) (Some c))
        (ap (λ (xs : List Act). effects (steps_of xs) (Some c)) (no_acts front rest (parts ∙ ap (λ (o : CommandOutcome). o.acts) is)))
      where
        no_acts : (xs ys : List Act) → xs ++ ys ≡ [] → xs ≡ []
        no_acts [] ys none = refl
        no_acts (x ∷ xs) ys none = cc
    lists_without input outcome front rest (inr (free, opened)) parts before =
        let is : outcome ≡ appended name date input c words table entries = went_on (Appends name date input) outcome opened in
        by_front front (parts ∙ ap (λ (o : CommandOutcome). o.acts) is)
        (elim before [ inl other ↦ inl (λ done. other (ap (λ (o : CommandOutcome). o.status) is ∙ done)) | inr quiet ↦ inr quiet ])
      where
        -- an entry is written by the last act, which prints
        none_added : (front rest : List Act) → front ++ rest ≡ settling ∷ acts_by (kept_over still words entries table) input →
            (status_by_room (room_in (kept_over still words entries table)) input ≢ status.Done) ⊎ (text_of front ≡ []) →
            AddsNone rest (taking (room_in (kept_over still words entries table)) None input)
        none_added front (y ∷ ys) parts before = inl (λ none. cc)
        none_added front [] parts (inl other) =
            inr (λ bytes took. other (status_fits (room_in (kept_over still words entries table)) input bytes took))
        none_added front [] parts (inr quiet) = inr (λ bytes took.
            let kept : Kept = kept_over still words entries table in
            let e : Entry = entry_for kept name date bytes in
            appended_line_is_some (length entries + 1) e.size e.start e.end
            (sym (replied_text kept name date (reply_behind (length entries)) input bytes took) ∙ ap text_of (sym parts ∙ append-nil front)
            ∙ quiet))

        by_front : (xs : List Act) → xs ++ rest ≡ settling ∷ acts_by (kept_over still words entries table) input →
            (status_by_room (room_in (kept_over still words entries table)) input ≢ status.Done) ⊎ (text_of xs ≡ []) →
            ListsNow entries (effects (steps_of xs) (Some c))
        by_front [] parts before = lists_before (Some c) refl
        by_front (x ∷ more) parts before =
            let first : x ≡ settling = cc in
            let behind : more ++ rest ≡ acts_by (kept_over still words entries table) input = cc in
            lists_as entries (changed_by (steps_of more) still) (effects (steps_of (x ∷ more)) (Some c))
            (append_front_lists still header words entries table name date None (reply_behind (length entries)) input more rest lists_still
            listed
            (ap (λ (i : TapeInfo). i.protected) same_info ∙ free) reads_still behind (none_added (x ∷ more) rest parts before))
            (ap (λ (a : Act). effects (steps_of (a ∷ more)) (Some c)) first ∙ behind_acts more)

-- ---- how acts went that no fault of the tape ended

-- a front of them was done and written
pub record WholeFront (acts : List Act) (text : List ℕ) : Type 0 where
  pub front : List Act
  pub rest : List Act
  pub parts : front ++ rest ≡ acts
  pub is_text : text ≡ text_of front

-- .. and the steps of the next one, with a part of its text, and not the whole
pub record PartFront (acts : List Act) (text : List ℕ) : Type 0 where
  pub front : List Act
  pub act : Act
  pub rest : List Act
  pub parts : front ++ act ∷ rest ≡ acts
  pub some : List ℕ
  pub more : List ℕ
  pub written : some ++ more ≡ act.text
  pub lacks : more ≢ []
  pub is_text : text ≡ text_of front ++ some

abbrev FrontDone : List Act → List ℕ → Type 0
FrontDone acts text = WholeFront acts text ⊎ PartFront acts text

abbrev done_of : (acts : List Act) (text : List ℕ) → FrontDone acts text → List TapeStep
done_of acts text (inl w) = steps_of w.front
done_of acts text (inr p) = steps_of p.front ++ p.act.steps

abbrev IsPart : (acts : List Act) (text : List ℕ) → FrontDone acts text → Type 0
IsPart acts text (inl w) = ⊥
IsPart acts text (inr p) = Unit {0}

abbrev IsWhole : (acts : List Act) (text : List ℕ) → FrontDone acts text → Type 0
IsWhole acts text (inl w) = Unit {0}
IsWhole acts text (inr p) = ⊥

-- over what is told of a command: some input and its outcome, and the acts that were done
pub record RanDone {T S K : Type 0} (t : tapes.Meaning T) (s : sources.Meaning S) (k : sinks.Meaning K) (command : Words)
    (old new : Outside T S K) (answer : Status) (c : Cartridge) : Type 0 where
  pub input : List ℕ
  pub is_told : IsInput (s.left old.source) input
  pub outcome : CommandOutcome
  pub plain : Yields command (Some c) input outcome
  pub text : List ℕ
  pub took : k.took old.sink text new.sink
  pub at : FrontDone outcome.acts text
  pub now : ToldNow t new.tape (λ left. left ≡ effects (done_of outcome.acts text at) (Some c))
  -- where no fault ended it, and where the input was carried out, all of them
  pub sound : is_fault answer ≡ false → (outcome.status ≡ answer) × (done_of outcome.acts text at ≡ steps_of outcome.acts)
  pub heard : IsHeard answer → (outcome.status ≡ answer) × (done_of outcome.acts text at ≡ steps_of outcome.acts)
  -- the sink broke a text off where it failed, and just there
  pub broke : answer ≡ status.SinkFault → IsPart outcome.acts text at
  pub whole : answer ≢ status.SinkFault → IsWhole outcome.acts text at

ends_done : {T S K : Type 0} (t : tapes.Meaning T) (s : sources.Meaning S) (k : sinks.Meaning K) (command : Words) (old new : Outside T S K)
    (answer : Status) → Laws t s k old new → HasValues command →
    CommandEnds t s k command old new answer → (c : Cartridge) → t.told old.tape ≡ Some (Some c) → answer ≢ status.TapeFault →
    RanDone t s k command old new answer c
ends_done t s k command old new answer laws values (inl finished) c told other =
    let over = over_at (t.told old.tape) _ (Some c) finished.told told in record {
      input = over.0;
      is_told = over.1;
      outcome = finished.outcome;
      plain = over.2.1;
      text = text_of finished.outcome.acts;
      took = finished.went.wrote.took;
      at = inl (record { front = finished.outcome.acts; rest = []; parts = append-nil finished.outcome.acts; is_text = refl });
      now = done_now t old.tape new.tape (steps_of finished.outcome.acts) (Some c) finished.went.did told;
      sound = λ none. (sym finished.answered, refl);
      heard = λ which. (sym finished.answered, refl);
      broke = λ is. absurd (never_sink answer command finished.sound is);
      whole = λ other. tt;
    }
ends_done t s k command old new answer laws values (inr (TapeFails, is, stopped)) c told other = absurd (other is)
ends_done t s k command old new answer laws values (inr (SourceFails, is, stopped)) c told other =
    let over = over_at (t.told old.tape) _ (Some c) stopped.told told in
    let some = plain_answers command (Some c) over.0 values (told_whole (Some c) (t.told old.tape) (t.size old.tape) laws.right told) in
    let off : IsCutOff t s k command (Some c) over.0 old new SourceFails some.0 = over.2.1 some.0 some.1 in
    let cut = off.cut in record {
      input = over.0;
      is_told = over.1;
      outcome = some.0;
      plain = some.1;
      text = text_of cut.front;
      took = cut.wrote.took;
      at = inl (record { front = cut.front; rest = cut.rest; parts = cut.parts; is_text = refl });
      now = done_now t old.tape new.tape (steps_of cut.front) (Some c) cut.did told;
      sound = λ none. absurd (let fault : is_fault answer ≡ true = ap is_fault is in cc);
      heard = λ which. absurd (heard_fault SourceFails answer is which);
      broke = λ sink. let other : fault_of SourceFails ≡ status.SinkFault = sym is ∙ sink in absurd (cc);
      whole = λ other. tt;
    }
ends_done t s k command old new answer laws values (inr (SinkFails, is, stopped)) c told other =
    let over = over_at (t.told old.tape) _ (Some c) stopped.told told in
    let some = plain_answers command (Some c) over.0 values (told_whole (Some c) (t.told old.tape) (t.size old.tape) laws.right told) in
    let off : IsCutOff t s k command (Some c) over.0 old new SinkFails some.0 = over.2.1 some.0 some.1 in
    let cut = off.cut in
    let at = cut.at in
    let broke = cut.broke in record {
      input = over.0;
      is_told = over.1;
      outcome = some.0;
      plain = some.1;
      text = text_of at.front ++ broke.part;
      took = broke.took;
      at = inr (record {
        front = at.front;
        act = at.act;
        rest = at.rest;
        parts = at.parts;
        some = broke.part;
        more = broke.rest;
        written = broke.parts;
        lacks = broke.some;
        is_text = refl;
      });
      now = done_now t old.tape new.tape (steps_of at.front ++ at.act.steps) (Some c) cut.did told;
      sound = λ none. absurd (let fault : is_fault answer ≡ true = ap is_fault is in cc);
      heard = λ which. absurd (heard_fault SinkFails answer is which);
      broke = λ sink. tt;
      whole = λ other. absurd (other is);
    }

-- ---- `append`

module _ {T S K : Type 0} (t : tapes.Meaning T) (s : sources.Meaning S) (k : sinks.Meaning K) (name : List ℕ) (date : ℕ)
    (old new : Outside T S K) (answer : Status) (laws : Laws t s k old new) (values : HasValues (commands.Append name date))
    (ends : CommandEnds t s k (commands.Append name date) old new answer) (c : Cartridge) (header : Header) (words : List ℕ)
    (table : List (List ℕ)) (entries : List Entry) (told : t.told old.tape ≡ Some (Some c))
    (mounts : Mounts c (Mounted header words table entries)) where
  abbrev command : Words
  command = commands.Append name date

  abbrev whole : IsCartridge c
  whole = told_whole (Some c) (t.told old.tape) (t.size old.tape) laws.right told

  append_lists_volume : IsCarriedOut answer → (input : List ℕ) × IsInput (s.left old.source) input
      × NowLists t new.tape header words (entries ++ entry_behind words entries name date input ∷ [])
  append_lists_volume which =
      let d : Did t (s.left old.source) command old.tape new.tape (Some c) status.Done = carried_out_did t s k command old new answer
      (Some c) whole values refl told which ends in
      let with : List Entry = entries ++ entry_behind words entries name date d.input ∷ [] in (
        d.input,
        d.is_told,
        now_weaker t old.tape new.tape
            (λ left is. subst (λ (o : Option Cartridge). IsSomeAnd o (λ e. Lists e header words with)) (sym is)
            (lists_with c header words table entries whole mounts name date values.0 values.1 d.input d.outcome d.plain d.sound))
            (done_now t old.tape new.tape (steps_of d.outcome.acts) (Some c) d.did told),
      )

  append_lists_none : WasNotDone answer → NowLists t new.tape header words entries
  append_lists_none not = by_end ends
    where
      by_end : CommandEnds t s k command old new answer → NowLists t new.tape header words entries
      by_end (inl finished) =
          let over = over_at (t.told old.tape) _ (Some c) finished.told told in
          now_weaker t old.tape new.tape
          (λ left is. subst (λ (o : Option Cartridge). IsSomeAnd o (λ e. Lists e header words entries)) (sym is)
          (lists_without c header words table entries whole mounts name date values.0 values.1 over.0 finished.outcome finished.outcome.acts
          [] over.2.1 (append-nil finished.outcome.acts)
          (inl (λ same. not.0 (finished.answered ∙ same)))))
          (done_now t old.tape new.tape (steps_of finished.outcome.acts) (Some c) finished.went.did told)
      by_end (inr (TapeFails, is, stopped)) = absurd (not.2 is)
      by_end (inr (SinkFails, is, stopped)) = absurd (not.1 is)
      by_end (inr (SourceFails, is, stopped)) =
          let over = over_at (t.told old.tape) _ (Some c) stopped.told told in
          let some = plain_answers command (Some c) over.0 values whole in
          let off : IsCutOff t s k command (Some c) over.0 old new SourceFails some.0 = over.2.1 some.0 some.1 in
          let cut = off.cut in
          now_weaker t old.tape new.tape
          (λ left is. subst (λ (o : Option Cartridge). IsSomeAnd o (λ e. Lists e header words entries)) (sym is)
          (lists_without c header words table entries whole mounts name date values.0 values.1 over.0 some.0 cut.front cut.rest some.1
          cut.parts (inr (off.silent refl))))
          (done_now t old.tape new.tape (steps_of cut.front) (Some c) cut.did told)

-- ---- `script`

module _ (c : Cartridge) (header : Header) (words : List ℕ) (table : List (List ℕ)) (entries : List Entry) (whole : IsCartridge c)
    (mounts : Mounts c (Mounted header words table entries))
    (input : List ℕ) (came : CommandOutcome) (does : ScriptDoes (settled table c) words entries input came) where
  abbrev Answered : (text : List ℕ) → Option Cartridge → Type 0
  Answered text left = ListsAnswered header words entries does.items does.dids (length text) left

  abbrev Broken : (text : List ℕ) → Option Cartridge → Type 0
  Broken text left = ListsBroken header words entries does.items does.dids (length text) left

  module _ (outcome : CommandOutcome) (opened : ScriptOutcome (Some c) input outcome) where
    did : Scripting input c header words table entries outcome
    did = went_on c header words table entries whole mounts (Scripting input) outcome opened

    acts : outcome.acts ≡ quiet (settling_steps table c) ∷ came.acts
    acts =
        ap (λ (o : CommandOutcome). o.acts) did.is
        ∙ ap (λ (o : CommandOutcome). quiet (settling_steps table c) ∷ o.acts)
        (one_script (settled table c) words entries input did.came came did.does does)

    -- once it was carried out those of all lines are there
    script_lists_all : ItemsWearBehind does.items → IsSomeAnd (effects (steps_of outcome.acts) (Some c))
        (λ d. Lists d header words (entries_behind entries does.dids))
    script_lists_all behind =
        listed_done (settled table c) header words entries input came (effects (steps_of outcome.acts) (Some c))
        (lists_still c header words table entries whole mounts) (listed c header words table entries whole mounts) does behind
        (ap (λ (xs : List Act). effects (steps_of xs) (Some c)) acts ∙ behind_acts c header words table entries whole mounts came.acts)

    -- a front of the acts went
    script_answered : (text : List ℕ) (at : FrontDone outcome.acts text) → IsWhole outcome.acts text at →
        Answered text (effects (done_of outcome.acts text at) (Some c))
    script_answered text (inr p) part = absurd part
    script_answered text (inl w) is_whole = by_front w.front w.rest (w.parts ∙ acts) w.is_text
      where
        by_front : (front rest : List Act) → front ++ rest ≡ quiet (settling_steps table c) ∷ came.acts → text ≡ text_of front →
            Answered text (effects (steps_of front) (Some c))
        by_front [] rest parts is =
            subst (λ (xs : List ℕ). Answered xs (Some c)) (sym is)
            (listed_none (settled table c) c header words entries input came does (table, mounts))
        by_front (x ∷ more) rest parts is =
            let first : x ≡ quiet (settling_steps table c) = cc in
            let behind : more ++ rest ≡ came.acts = cc in
            subst (λ (xs : List ℕ). Answered xs (effects (steps_of (x ∷ more)) (Some c)))
            (sym (is ∙ ap (λ (a : Act). text_of (a ∷ more)) first))
            (listed_between (settled table c) header words entries input came more rest (effects (steps_of (x ∷ more)) (Some c))
            (lists_still c header words table entries whole mounts)
            (listed c header words table entries whole mounts) does behind
            (ap (λ (a : Act). effects (steps_of (a ∷ more)) (Some c)) first ∙ behind_acts c header words table entries whole mounts more))

    -- the text of the act behind them broke off
    script_broken : (text : List ℕ) (at : FrontDone outcome.acts text) → IsPart outcome.acts text at →
        Broken text (effects (done_of outcome.acts text at) (Some c))
    script_broken text (inl w) is_whole = absurd is_whole
    script_broken text (inr p) part = by_front p.front p.act p.rest p.some p.more (p.parts ∙ acts) p.written p.lacks p.is_text
      where
        by_front : (front : List Act) (act : Act) (rest : List Act) (some unsaid : List ℕ) →
            front ++ act ∷ rest ≡ quiet (settling_steps table c) ∷ came.acts → some ++ unsaid ≡ act.text → unsaid ≢ [] →
            text ≡ text_of front ++ some → Broken text (effects (steps_of front ++ act.steps) (Some c))
        by_front [] act rest some unsaid parts written lacks is =
            let first : act ≡ quiet (settling_steps table c) = cc in
            absurd (lacks (no_rest some unsaid (written ∙ ap (λ (a : Act). a.text) first)))
        by_front (x ∷ more) act rest some unsaid parts written lacks is =
            let first : x ≡ quiet (settling_steps table c) = cc in
            let behind : more ++ act ∷ rest ≡ came.acts = cc in
            let texts : length text ≡ length (text_of more) + length some =
            ap length (is ∙ ap (λ (a : Act). text_of (a ∷ more) ++ some) first) ∙ length-append (text_of more) some in
            let act_text : length act.text ≡ length some + length unsaid = ap length (sym written) ∙ length-append some unsaid in
            let long : 0 < length unsaid = some_long unsaid lacks in
            listed_behind_act (settled table c) header words entries input came more act rest
            (effects (steps_of (x ∷ more) ++ act.steps) (Some c)) (length text)
            (lists_still c header words table entries whole mounts) (listed c header words table entries whole mounts) does behind
            (ap (λ (a : Act). effects (steps_of (a ∷ more) ++ act.steps) (Some c)) first
            ∙ ap (λ (ss : List TapeStep). effects ss (Some c)) (append_assoc (settling_steps table c) (steps_of more) act.steps)
            ∙ effects-append (settling_steps table c) (steps_of more ++ act.steps) (Some c)
            ∙ ap (effects (steps_of more ++ act.steps)) (now_settled c header words table entries whole mounts)
            ∙ effects-some (steps_of more ++ act.steps) (settled table c))
            (omega arith) (omega arith)

-- ---- `make`

module _ (seed count : ℕ) (few : count ≤ 200) (c : Cartridge) (header : Header) (words : List ℕ) (table : List (List ℕ))
    (entries : List Entry) (whole : IsCartridge c)
    (mounts : Mounts c (Mounted header words table entries)) where
  abbrev HasMade : (n : ℕ) → Option Cartridge → Type 0
  HasMade n left = IsSomeAnd left (λ d. Lists d header words (made_list seed n words entries))

  abbrev HasSome : Option Cartridge → Type 0
  HasSome left = (n : ℕ) × (n ≤ count) × HasMade n left

  before_any : (d : Cartridge) (left : Option Cartridge) → Lists d header words entries → left ≡ Some d → HasSome left
  before_any d left lists is = (0, omega arith, some_and (λ e. Lists e header words entries) d left lists is)

  -- a front of the acts behind the settling
  behind_some : (acts : List Act) (answer : Status) (more rest : List Act) → Makes seed count (settled table c) words entries acts answer →
      more ++ rest ≡ acts →
      HasSome (effects (steps_of (quiet (settling_steps table c) ∷ more)) (Some c))
  behind_some acts answer more rest makes parts =
      let l = make_lists seed count (settled table c) header words entries acts more rest answer
      (effects (steps_of (quiet (settling_steps table c) ∷ more)) (Some c)) few
      (lists_still c header words table entries whole mounts) (listed c header words table entries whole mounts) makes parts
      (behind_acts c header words table entries whole mounts more) in
      (l.appended, l.within, l.lists)

  behind_all : (acts : List Act) (answer : Status) (more rest : List Act) → Makes seed count (settled table c) words entries acts answer →
      more ++ rest ≡ acts →
      ((rest ≡ []) × (answer ≡ status.Done)) ⊎ (text_of more ≢ []) →
      HasMade count (effects (steps_of (quiet (settling_steps table c) ∷ more)) (Some c))
  behind_all acts answer more rest makes parts which =
      made_are_listed seed count (settled table c) header words entries acts more rest answer
      (effects (steps_of (quiet (settling_steps table c) ∷ more)) (Some c)) few
      (lists_still c header words table entries whole mounts) (listed c header words table entries whole mounts) makes parts
      (behind_acts c header words table entries whole mounts more) which

  -- the steps of a front and of the act behind it
  with_act : (x : Act) (more : List Act) (act : Act) → x ≡ quiet (settling_steps table c) →
      steps_of (x ∷ more) ++ act.steps ≡ steps_of (quiet (settling_steps table c) ∷ (more ++ act ∷ []))
  with_act x more act first =
      ap (λ (a : Act). steps_of (a ∷ more) ++ act.steps) first ∙ append_assoc (settling_steps table c) (steps_of more) act.steps
      ∙ ap (λ (ss : List TapeStep). settling_steps table c ++ ss)
      (ap (λ (ss : List TapeStep). steps_of more ++ ss) (sym (append-nil act.steps)) ∙ sym (steps_of-append more (act ∷ [])))

  make_lists_so : (outcome : CommandOutcome) (text : List ℕ) (at : FrontDone outcome.acts text) → MakeOutcome seed count (Some c) outcome →
      HasSome (effects (done_of outcome.acts text at) (Some c))
      × ((text ≢ []) ⊎ IsPart outcome.acts text at → HasMade count (effects (done_of outcome.acts text at) (Some c)))
  make_lists_so outcome text at (inl (locked, is)) = by_none at (ap (λ (o : CommandOutcome). o.acts) is)
    where
      by_none : (at : FrontDone outcome.acts text) → outcome.acts ≡ [] →
          HasSome (effects (done_of outcome.acts text at) (Some c))
          × ((text ≢ []) ⊎ IsPart outcome.acts text at → HasMade count (effects (done_of outcome.acts text at) (Some c)))
      by_none (inl w) none = by_front w.front w.rest (w.parts ∙ none) w.is_text
        where
          by_front : (front rest : List Act) → front ++ rest ≡ [] → text ≡ text_of front → HasSome (effects (steps_of front) (Some c))
              × ((text ≢ []) ⊎ ⊥ → HasMade count (effects (steps_of front) (Some c)))
          by_front [] rest parts is_text = (
            before_any c (Some c) (table, mounts) refl,
            λ shown. elim shown [ inl some ↦ absurd (some is_text) | inr part ↦ absurd part ],
          )
          by_front (x ∷ xs) rest parts is_text = cc
      by_none (inr p) none = by_front p.front p.act p.rest (p.parts ∙ none)
        where
          by_front : (front : List Act) (act : Act) (rest : List Act) → front ++ act ∷ rest ≡ [] →
              HasSome (effects (steps_of front ++ act.steps) (Some c))
              × ((text ≢ []) ⊎ Unit {0} → HasMade count (effects (steps_of front ++ act.steps) (Some c)))
          by_front [] act rest parts = cc
          by_front (x ∷ xs) act rest parts = cc
  make_lists_so outcome text at (inr (free, opened)) = by_at at
    where
      did : Making seed count c header words table entries outcome
      did = went_on c header words table entries whole mounts (Making seed count) outcome opened

      acts : outcome.acts ≡ quiet (settling_steps table c) ∷ did.acts
      acts = ap (λ (o : CommandOutcome). o.acts) did.is

      by_whole : (front rest : List Act) → front ++ rest ≡ quiet (settling_steps table c) ∷ did.acts → text ≡ text_of front →
          HasSome (effects (steps_of front) (Some c)) × ((text ≢ []) ⊎ ⊥ → HasMade count (effects (steps_of front) (Some c)))
      by_whole [] rest parts is_text = (
        before_any c (Some c) (table, mounts) refl,
        λ shown. elim shown [ inl some ↦ absurd (some is_text) | inr part ↦ absurd part ],
      )
      by_whole (x ∷ more) rest parts is_text =
          let first : x ≡ quiet (settling_steps table c) = cc in
          let behind : more ++ rest ≡ did.acts = cc in
          let same : effects (steps_of (quiet (settling_steps table c) ∷ more)) (Some c) ≡ effects (steps_of (x ∷ more)) (Some c) =
          ap (λ (a : Act). effects (steps_of (a ∷ more)) (Some c)) (sym first) in (
            subst HasSome same (behind_some did.acts did.answer more rest did.makes behind),
            λ shown. elim shown [
              | inl some ↦ subst (HasMade count) same (behind_all did.acts did.answer more rest did.makes behind
                  (inr (λ none. some (is_text ∙ ap (λ (a : Act). text_of (a ∷ more)) first ∙ none))))
              | inr part ↦ absurd part
            ],
          )

      by_part : (front : List Act) (act : Act) (rest : List Act) (said unsaid : List ℕ) →
          front ++ act ∷ rest ≡ quiet (settling_steps table c) ∷ did.acts → said ++ unsaid ≡ act.text → unsaid ≢ [] →
          HasSome (effects (steps_of front ++ act.steps) (Some c)) × HasMade count (effects (steps_of front ++ act.steps) (Some c))
      by_part [] act rest said unsaid parts written lacks =
          let first : act ≡ quiet (settling_steps table c) = cc in
          absurd (lacks (no_rest said unsaid (written ∙ ap (λ (a : Act). a.text) first)))
      by_part (x ∷ more) act rest said unsaid parts written lacks =
          let first : x ≡ quiet (settling_steps table c) = cc in
          let behind : more ++ act ∷ rest ≡ did.acts = cc in
          let next : List Act = more ++ act ∷ [] in
          let all : next ++ rest ≡ did.acts = append_assoc more (act ∷ []) rest ∙ behind in
          let same : effects (steps_of (quiet (settling_steps table c) ∷ next)) (Some c) ≡ effects (steps_of (x ∷ more) ++ act.steps)
          (Some c) =
          ap (λ (ss : List TapeStep). effects ss (Some c)) (sym (with_act x more act first)) in (
            subst HasSome same (behind_some did.acts did.answer next rest did.makes all),
            subst (HasMade count) same (behind_all did.acts did.answer next rest did.makes all
                (inr (λ none. lacks (none_left more act said unsaid written none)))),
          )

      by_at : (at : FrontDone outcome.acts text) →
          HasSome (effects (done_of outcome.acts text at) (Some c))
          × ((text ≢ []) ⊎ IsPart outcome.acts text at → HasMade count (effects (done_of outcome.acts text at) (Some c)))
      by_at (inl w) = by_whole w.front w.rest (w.parts ∙ acts) w.is_text
      by_at (inr p) = let so = by_part p.front p.act p.rest p.some p.more (p.parts ∙ acts) p.written p.lacks in (so.0, λ shown. so.1)

  -- where all acts went, those are there that were appended by the answer, ..
  make_lists_answered : (outcome : CommandOutcome) → MakeOutcome seed count (Some c) outcome →
      (n : ℕ) × AppendedBy seed count words entries outcome.status n × HasMade n (effects (steps_of outcome.acts) (Some c))
  make_lists_answered outcome (inl (locked, is)) = (
    0,
    appended_by seed count words entries outcome.status 0 (omega arith)
        (subst (λ (why : Status). AppendedFrom seed 1 count words entries why 0) (sym (ap (λ (o : CommandOutcome). o.status) is)) tt),
    some_and (λ e. Lists e header words entries) c (effects (steps_of outcome.acts) (Some c)) (table, mounts)
        (ap (λ (o : CommandOutcome). effects (steps_of o.acts) (Some c)) is),
  )
  make_lists_answered outcome (inr (free, opened)) =
      let did : Making seed count c header words table entries outcome = went_on c header words table entries whole mounts
      (Making seed count) outcome opened in
      let l = make_lists seed count (settled table c) header words entries did.acts did.acts [] did.answer
      (effects (steps_of (quiet (settling_steps table c) ∷ did.acts)) (Some c)) few
      (lists_still c header words table entries whole mounts) (listed c header words table entries whole mounts) did.makes
      (append-nil did.acts)
      (behind_acts c header words table entries whole mounts did.acts) in (
        l.appended,
        appended_by seed count words entries outcome.status l.appended l.within
            (subst (λ (why : Status). AppendedFrom seed 1 count words entries why l.appended)
            (sym (ap (λ (o : CommandOutcome). o.status) did.is)) (l.answered refl)),
        subst (HasMade l.appended) (sym (ap (λ (o : CommandOutcome). effects (steps_of o.acts) (Some c)) did.is)) l.lists,
      )

  -- .. and once it was carried out all of them
  make_lists_all : (outcome : CommandOutcome) → MakeOutcome seed count (Some c) outcome → outcome.status ≡ status.Done →
      HasMade count (effects (steps_of outcome.acts) (Some c))
  make_lists_all outcome does done =
      let made = make_lists_answered outcome does in
      subst (λ (n : ℕ). HasMade n (effects (steps_of outcome.acts) (Some c)))
      (subst (λ (why : Status). AppendedBy seed count words entries why made.0) done made.1) made.2

-- ---- all of them

pub lists_appends : {T S K : Type 0} (t : tapes.Meaning T) (s : sources.Meaning S) (k : sinks.Meaning K) (words : List (List ℕ))
    (command : Words) (old new : Outside T S K) (answer : Status) →
    Laws t s k old new → Spells words command → ((other : Words) → Spells words other → HasValues other) →
    CommandEnds t s k command old new answer →
    (c : Cartridge) (header : Header) (map_words : List ℕ) (table : List (List ℕ)) (entries : List Entry) →
    t.told old.tape ≡ Some (Some c) →
    Mounts c (Mounted header map_words table entries) → answer ≢ status.TapeFault →
    ListsAppends t k (s.left old.source) words new.tape old.sink new.sink answer c header map_words table entries
lists_appends t s k words command old new answer laws spelled values ends c header map_words table entries told mounts other = record {
  appended = λ name date spells which.
      append_lists_volume t s k name date old new answer laws (values (commands.Append name date) spells)
      (subst (λ (w : Words). CommandEnds t s k w old new answer) (one_command words command (commands.Append name date) spelled spells)
      ends) c header map_words table entries told mounts which;
  unchanged = λ name date spells not_done no_sink.
      append_lists_none t s k name date old new answer laws (values (commands.Append name date) spells)
      (subst (λ (w : Words). CommandEnds t s k w old new answer) (one_command words command (commands.Append name date) spelled spells)
      ends) c header map_words table entries told mounts (not_done, no_sink, other);
  made = λ seed count spells.
      let which : Words = commands.Make seed count in
      let few : count ≤ 200 = values which spells in
      let ran = ends_done t s k which old new answer laws few
      (subst (λ (w : Words). CommandEnds t s k w old new answer) (one_command words command which spelled spells) ends) c told other in
      let whole : IsCartridge c = told_whole (Some c) (t.told old.tape) (t.size old.tape) laws.right told in
      let so = make_lists_so seed count few c header map_words table entries whole mounts ran.outcome ran.text ran.at ran.plain in
      let Made : ℕ → Option Cartridge → Type 0 = λ n left. IsSomeAnd left
      (λ d. Lists d header map_words (made_list seed n map_words entries)) in record {
        text = ran.text;
        took = ran.took;
        some = (so.0.0, so.0.1, now_weaker t old.tape new.tape (λ left is. subst (Made so.0.0) (sym is) so.0.2) ran.now);
        answered = λ sound.
            let all = ran.sound sound in
            let made = make_lists_answered seed count few c header map_words table entries whole mounts ran.outcome ran.plain in (
              made.0,
              subst (λ (why : Status). AppendedBy seed count map_words entries why made.0) all.0 made.1,
              now_weaker t old.tape new.tape
                  (λ left is. subst (Made made.0) (sym (is ∙ ap (λ (ss : List TapeStep). effects ss (Some c)) all.1)) made.2) ran.now,
            );
        all = λ either. elim either [
          | inl some ↦ now_weaker t old.tape new.tape (λ left is. subst (Made count) (sym is) (so.1 (inl some))) ran.now
          | inr (inl done) ↦
              let all = ran.heard (inl done) in
              now_weaker t old.tape new.tape
              (λ left is. subst (Made count) (sym (is ∙ ap (λ (ss : List TapeStep). effects ss (Some c)) all.1))
              (make_lists_all seed count few c header map_words table entries whole mounts ran.outcome ran.plain (all.0 ∙ done))) ran.now
          | inr (inr sink) ↦ now_weaker t old.tape new.tape (λ left is. subst (Made count) (sym is) (so.1 (inr (ran.broke sink)))) ran.now
        ];
      };
  scripted = λ spells.
      let ran = ends_done t s k commands.Script old new answer laws tt
      (subst (λ (w : Words). CommandEnds t s k w old new answer) (one_command words command commands.Script spelled spells) ends) c told
      other in
      let whole : IsCartridge c = told_whole (Some c) (t.told old.tape) (t.size old.tape) laws.right told in (
        ran.input,
        ran.is_told,
        λ came does. record {
          text = ran.text;
          took = ran.took;
          answered = λ other. now_weaker t old.tape new.tape
              (λ left is. subst (ListsAnswered header map_words entries does.items does.dids (length ran.text)) (sym is)
              (script_answered c header map_words table entries whole mounts ran.input came does ran.outcome ran.plain ran.text ran.at
              (ran.whole other))) ran.now;
          broken = λ sink. now_weaker t old.tape new.tape
              (λ left is. subst (ListsBroken header map_words entries does.items does.dids (length ran.text)) (sym is)
              (script_broken c header map_words table entries whole mounts ran.input came does ran.outcome ran.plain ran.text ran.at
              (ran.broke sink))) ran.now;
          all = λ heard behind. now_weaker t old.tape new.tape
              (λ left is. subst (λ (o : Option Cartridge). IsSomeAnd o (λ d. Lists d header map_words (entries_behind entries does.dids)))
              (sym (is ∙ ap (λ (ss : List TapeStep). effects ss (Some c)) (ran.heard heard).1))
              (script_lists_all c header map_words table entries whole mounts ran.input came does ran.outcome ran.plain behind)) ran.now;
        },
      );
}

-- ---- a run that touched nothing

pub none_listed : {T K : Type 0} (t : tapes.Meaning T) (k : sinks.Meaning K) (told : Option (List ℕ)) (words : List (List ℕ)) (a : T)
    (x : K) (answer : Status) → tape_calls.IsToldRight (t.told a) (t.size a) →
    k.took x [] x → (IsCarriedOut answer → ⊥) → (IsHeard answer → ⊥) →
    ((seed count : ℕ) (words : List ℕ) (es : List Entry) → AppendedFrom seed 1 count words es answer 0) →
    (c : Cartridge) (header : Header) (map_words : List ℕ) (table : List (List ℕ)) (entries : List Entry) → t.told a ≡ Some (Some c) →
    Mounts c (Mounted header map_words table entries) → ListsAppends t k told words a x x answer c header map_words table entries
none_listed t k told words a x answer right nothing never unheard unmade c header map_words table entries held mounts = record {
  appended = λ name date spells which. absurd (never which);
  unchanged = λ name date spells not_done no_sink. as_before;
  made = λ seed count spells. record {
    text = [];
    took = nothing;
    some = (0, omega arith, as_before);
    answered = λ sound. (
      0,
      appended_by seed count map_words entries answer 0 (omega arith) (unmade seed count map_words entries),
      as_before,
    );
    all = λ either. elim either [ inl some ↦ absurd (some refl) | inr done ↦ absurd (never done) ];
  };
  scripted = λ spells. (
    input_of told,
    input_told told,
    λ came does. record {
      text = [];
      took = nothing;
      answered = λ other.
          (subst (λ (o : Option (Option Cartridge)). IsSomeAnd o (ListsAnswered header map_words entries does.items does.dids 0)) (sym held)
          (listed_none (settled table c) c header map_words entries (input_of told) came does (table, mounts)));
      broken = λ sink. absurd (never (inr sink));
      all = λ heard behind. absurd (unheard heard);
    },
  );
}
  where
    as_before : NowLists t a header map_words entries
    as_before = subst (λ (o : Option (Option Cartridge)). IsSomeAnd o (λ left. IsSomeAnd left (λ d. Lists d header map_words entries)))
        (sym held) (table, mounts)
