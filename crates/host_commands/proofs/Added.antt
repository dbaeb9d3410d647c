-- How an append ends.
use Rattle.std.proofs.Common.{ℕ, List, Option, Some, None, ◌≡◌, drop, refl, ◌≢◌, true, IfSome, length, ap, ◌∙◌, ◌+◌, ◌++◌, sym, ◌∷◌}
use Rattle.std.proofs.Common.{append-nil, ◌&&◌, nat_le, min, Bool, false, subst, inl, inr, [], Result, Ok, Err, arith, append_assoc}
use Rattle.std.specs.Prelude.{if◌then◌else◌, ◌≤◌, ◌↔◌, is_some, ◌==◌, ◌||◌}
use Rattle.std.specs.Option.{option_map}
use Rattle.std.proofs.Math.Nat.{min-eq_left}
use Rattle.std.proofs.lemmas.Bool.{leb-true, cases_lt, or_left, or_right, and_cases, leb-false, eq-eqb}
use Rattle.cartridge_laws.proofs.MountOnce.{one_table, not_lost}
use Rattle.cartridge_laws.proofs.MountSettled.{settled_keeps_table}
use Rattle.cartridge_spec.specs.Appending.{room, table_writes}
use Rattle.cartridge_spec.specs.TableSegment.{TableIs, table_cells}
use Rattle.cartridge_spec.specs.Mounting.{settled}
use Rattle.cartridge_spec.specs.Says.{LostSectors, ByCode, TableSays}
use Rattle.cartridge_spec.specs.Settling.{settling_steps}
use Rattle.cartridge_spec.specs.Table.{Entry, table_with}
use Rattle.cartridge_laws.specs.Slots.{slot_sector}
use Rattle.command_laws.proofs.CommandAdded.{status_by, replied_text, status_fits}
use Rattle.command_laws.proofs.ScriptActs.{input_texts}
use Rattle.command_laws.proofs.CommandEndings.{nothing_front}
use Rattle.command_laws.proofs.CommandOpened.{quiet}
use Rattle.command_laws.proofs.CommandTable.{plain_is_function}
use Rattle.command_laws.proofs.CommandTold.{input_told, input_bytes}
use Rattle.command_laws.proofs.StoreTaking.{both_true}
use Rattle.command_spec.specs.Append.{Kept, Taking, Fits, TooLong, TooShort, entry_acts, taking, room_in, input_writes, append_acts}
use Rattle.command_spec.specs.Append.{appended, AppendOutcome, kept_over}
use Rattle.command_laws.specs.AppendTerms.{entry_for, silently, status_by_room, bytes_taken}
use Rattle.command_laws.specs.Outcomes.{Appends}
use Rattle.command_laws.specs.CommandFields.{CommandPrints, FrontPrints}
use Rattle.command_spec.specs.Lines.{reply_behind, appended_line}
use Rattle.command_spec.specs.Outcome.{CommandOutcome, refused, refused_behind}
use Rattle.command_laws.proofs.CommandNumbers.{too_many}
use Rattle.command_spec.specs.Numbers.{are_too_many}
use Rattle.command_spec.specs.Machine.{NamesFault, may_come_from, InputLeft, CommandEnds, IsOfBytes, IsCutOff}
use Rattle.command_spec.specs.declared.status.Status.{Status}
use Rattle.drive_spec.specs.Terms.{is_protected}
use Rattle.drive_states.specs.Unit.{UnitView}
use Rattle.qic_base.proofs.Joins.{steps_of-append, text_of-append, broke_behind}
use Rattle.qic_base.proofs.Steps.{Done-nothing, Done-Done, Done-Broke, effects-append, is_some-option_map, tells_two}
use Rattle.qic_base.proofs.Writing.{TakesBoth}
use Rattle.qic_base.specs.Acts.{steps_of, Act, text_of, next_steps, Failing, TapeFails, SourceFails, SinkFails, Went, Cut, TapeCut}
use Rattle.qic_base.specs.Acts.{SourceCut, SinkCut}
use Rattle.qic_base.specs.Alone.{no_sink, reading, outside}
use Rattle.qic_base.specs.Cartridge.{Cartridge}
use Rattle.qic_base.specs.Step.{Step as TapeStep, effects, Torn}
use Rattle.qic_base.specs.declared.sink.SinkFailed.{SinkFailed}
use Rattle.volume_store.proofs.Ending.{none_left}
use Rattle.volume_store.proofs.Opened.{IsKnown, went_behind, settled_told, opened_known, known_before, found_locked, never_both, unlocked}
use Rattle.volume_store.specs.Opening.{HasOpened}
use Rattle.volume_store.specs.Appending.{kept_by, AppendRan, HasAppended, TableRefused, AppendCut, AppendEnds}
use Rattle.volume_store.specs.Mounting.{StoreView, IsOpened}
use Rattle.volume_store.specs.declared.appended.Appended.{Appended}
use Rattle.qic_base.specs.declared.store_fault.StoreFault.{StoreFault}
use Rattle.hand_commands.proofs.Endings.{told_map, told_both}
use Rattle.host_commands.proofs.Mounted.{BeginsSettling, locked_is, unlocked_refused_is, writable_begins, table_lost, input_unread}
use Rattle.host_commands.proofs.Mounted.{no_outcome}
use Rattle.host_commands.specs.Opening.{is_opening, IsUnlocked, WritableEnds}
use Rattle.host_commands.specs.Statuses.{store_status}
use Rattle.hand_commands.specs.Outcome.{first_steps}
use Rattle.hand_commands.specs.Writing.{printed_status}
use Rattle.qic_base.specs.Source.{IsInput}
use Rattle.qic_base.specs.SourceCalls.{input_of}
use Rattle.command_spec.specs.declared.words.Words.TheVariants as words
use Rattle.command_spec.specs.declared.status.Status.TheVariants as status
use Rattle.qic_base.specs.Sink as sinks
use Rattle.qic_base.specs.SinkCalls as sink_calls
use Rattle.qic_base.specs.Source as sources
use Rattle.qic_base.specs.Tape as tapes
use Rattle.qic_base.specs.TapeCalls as tape_calls
use Rattle.cartridge_spec.specs.Mounting as mounting
use Rattle.qic_base.specs.declared.store_fault.StoreFault.TheVariants as fault

-- ---- the input

-- an answer that names no fault of the input
names_none : (name : List ℕ) (date : ℕ) (answer : Status) (told : Option (List ℕ)) → may_come_from answer (words.Append name date) ≡ true →
    ((line place : ℕ) → answer ≢ status.ScriptFault line place) →
    IfSome told (λ input. NamesFault (words.Append name date) input answer)
names_none name date answer None sound none = tt
names_none name date answer (Some input) sound none =
    record { named = λ line place is. none line place is; none = λ done line place fault. fault }

-- ---- what an append goes by

same_kept : (c : Cartridge) (store : StoreView) (steps : List TapeStep) (is : IsOpened c store steps) (table : List (List ℕ))
    (settling : List TapeStep) →
    TableIs (settled is.table c) table → settling ≡ settling_steps table (settled is.table c) → kept_by store table settling ≡ kept_over
    (settled is.table c) store.words store.entries is.table
same_kept c store steps is table settling reads settles =
    let one : table ≡ is.table = one_table (settled is.table c) table is.table reads
    (settled_keeps_table c is.table is.mounts.reads).table in
    ap (λ (ss : List TapeStep). kept_by store table ss)
    (settles ∙ ap (λ (area : List (List ℕ)). settling_steps area (settled is.table c)) one)
    ∙ ap (λ (area : List (List ℕ)). kept_by store area (settling_steps is.table (settled is.table c))) one

entry_steps : (kept : Kept) (name : List ℕ) (date : ℕ) (reply : Entry → List ℕ) (became : Taking) →
    steps_of (entry_acts kept name date silently became) ≡ steps_of (entry_acts kept name date reply became)
entry_steps kept name date reply (Fits bytes) = refl
entry_steps kept name date reply (TooLong need have) = refl
entry_steps kept name date reply (TooShort promised read) = refl

-- the reply changes no step
replied_steps : (kept : Kept) (name : List ℕ) (date : ℕ) (reply : Entry → List ℕ) (input : List ℕ) →
    steps_of (append_acts kept name date None silently input) ≡ steps_of (append_acts kept name date None reply input)
replied_steps kept name date reply input =
    let became : Taking = taking (room_in kept) None input in
    let ws : List Act = input_writes kept.words kept.entries None input in
    ap (λ (ss : List TapeStep). kept.settling ++ ss)
    (steps_of-append ws (entry_acts kept name date silently became)
    ∙ ap (λ (ss : List TapeStep). steps_of ws ++ ss) (entry_steps kept name date reply became)
    ∙ sym (steps_of-append ws (entry_acts kept name date reply became)))

-- without one there is none
silent_text : (kept : Kept) (name : List ℕ) (date : ℕ) (reply : Entry → List ℕ) (input : List ℕ) (need have : ℕ) →
    taking (room_in kept) None input ≡ TooLong need have →
    append_acts kept name date None reply input ≡ quiet kept.settling ∷ input_writes kept.words kept.entries None input
silent_text kept name date reply input need have took =
    ap (λ (acts : List Act). quiet kept.settling ∷ (input_writes kept.words kept.entries None input ++ acts))
    (ap (λ (became : Taking). entry_acts kept name date reply became) took)
    ∙ ap (λ (acts : List Act). quiet kept.settling ∷ acts) (append-nil (input_writes kept.words kept.entries None input))

status_full : (have : ℕ) (input : List ℕ) (need most : ℕ) → taking have None input ≡ TooLong need most →
    status_by_room have input ≡ status.Full need most
status_full have input need most took = (status_by (nat_le 1 have && nat_le (length input) have) have input (taking have None input) refl).1
    need most took

-- what is taken: all that has room, and else one byte more than has
taken_is : (have : ℕ) (input : List ℕ) → bytes_taken None (taking have None input) ≡ min (length input) (have + 1)
taken_is have input = by_flag (nat_le 1 have && nat_le (length input) have) refl
  where
    second : (a b : Bool) → (a && b) ≡ true → b ≡ true
    second true b is = is
    second false b is = cc

    by_flag : (flag : Bool) → (nat_le 1 have && nat_le (length input) have) ≡ flag →
        bytes_taken None (if flag then Fits input else TooLong (min (length input) (have + 1)) have) ≡ min (length input) (have + 1)
    by_flag true is =
        let fits : length input ≤ have = leb-true (length input) have (second (nat_le 1 have) (nat_le (length input) have) is) in
        sym (min-eq_left (omega (arith, fits)))
    by_flag false is = refl

-- one byte more than has room is asked for; or none, where there is no room and no byte
full_numbers : (have : ℕ) (input : List ℕ) (need most : ℕ) → taking have None input ≡ TooLong need most →
    ((need == most + 1) || ((need == 0) && (most == 0))) ≡ true
full_numbers have input need most took = by_flag (nat_le 1 have && nat_le (length input) have) refl took
  where
    by_flag : (flag : Bool) → (nat_le 1 have && nat_le (length input) have) ≡ flag →
        (if flag then Fits input else TooLong (min (length input) (have + 1)) have) ≡ TooLong need most →
        ((need == most + 1) || ((need == 0) && (most == 0))) ≡ true
    by_flag true small is = absurd (cc)
    by_flag false small is =
        let n : min (length input) (have + 1) ≡ need = cc in
        let m : have ≡ most = cc in
        elim (cases_lt have (length input)) [
          | inl over ↦ or_left (need == most + 1) ((need == 0) && (most == 0)) (eq-eqb need (most + 1) (omega arith))
          | inr within ↦ elim (and_cases (nat_le 1 have) (nat_le (length input) have) small) [
            | inl none ↦
                let no_room = leb-false 1 have none in
                or_right (need == most + 1) ((need == 0) && (most == 0))
                (both_true (need == 0) (most == 0) (eq-eqb need 0 (omega arith)) (eq-eqb most 0 (omega arith)))
            | inr long ↦ let more = leb-false (length input) have long in absurd (omega arith)
          ]
        ]

-- with nothing promised no input ends too early
never_short : (have : ℕ) (input : List ℕ) (asked read : ℕ) → taking have None input ≡ TooShort asked read → ⊥
never_short have input asked read took = by_flag (nat_le 1 have && nat_le (length input) have) took
  where
    by_flag : (flag : Bool) → (if flag then Fits input else TooLong (min (length input) (have + 1)) have) ≡ TooShort asked read → ⊥
    by_flag true is = cc
    by_flag false is = cc

-- ---- the opening

found_by_append : (name : List ℕ) (date : ℕ) (why : Status) → is_opening why ≡ true → may_come_from why (words.Append name date) ≡ true
found_by_append name date status.NoCartridge sound = refl
found_by_append name date status.NotFormatted sound = refl
found_by_append name date (status.Foreign field value) sound = sound
found_by_append name date (status.Lost segment lost) sound = table_lost segment lost false sound
found_by_append name date status.TableMismatch sound = refl
found_by_append name date why sound = cc

pub no_script : (why : Status) → is_opening why ≡ true → (line place : ℕ) → why ≢ status.ScriptFault line place
no_script why sound line place is = let no = ap is_opening is in cc

pub left_by_opening : (why : Status) (taken : ℕ) (before after : Option (List ℕ)) →
    ((line place : ℕ) → why ≢ status.ScriptFault line place) → after ≡ option_map (drop taken) before → InputLeft why taken before after
left_by_opening (status.ScriptFault line place) taken before after none left = absurd (none line place refl)
left_by_opening why taken before after none left = left

appends_first : (name : List ℕ) (date : ℕ) (input : List ℕ) → BeginsSettling (Appends name date input)
appends_first name date input c header ws table entries outcome is = ap (λ (o : CommandOutcome). first_steps o) is

-- the outcome of acts
abbrev with_acts : List Act → (taken : ℕ) → Status → CommandOutcome
with_acts acts taken answer = record { acts = acts; taken = taken; status = answer }

-- what an append does that goes by this
abbrev going_by : Act → Kept → (name : List ℕ) (date : ℕ) (input : List ℕ) → CommandOutcome
going_by first kept name date input =
    with_acts (first ∷ append_acts kept name date None (reply_behind (length kept.entries)) input)
    (bytes_taken None (taking (room_in kept) None input)) (status_by_room (room_in kept) input)

module _ {T S K : Type 0} (t : tapes.Meaning T) (s : sources.Meaning S) (k : sinks.Meaning K) (name : List ℕ) (date : ℕ) (a : T) (i : S)
    (x : K) where
  -- refused with some acts that print nothing
  turned : (b : T) (j : S) (why : Status) (acts : List Act) (taken : ℕ) → ((z : K) → k.took z [] z) →
      may_come_from why (words.Append name date) ≡ true → ((line place : ℕ) → why ≢ status.ScriptFault line place) → why ≢ status.Done →
      text_of acts ≡ [] → s.left j ≡ option_map (drop taken) (s.left i) →
      IfSome (t.told a) (λ held. (input : List ℕ) × IsInput (s.left i) input
      × (IsOfBytes (words.Append name date) (s.left i) input × AppendOutcome name date held input (with_acts acts taken why))) →
      Went t s k (outside a i x) (outside b j x) acts → CommandEnds t s k (words.Append name date) (outside a i x) (outside b j x) why
  turned b j why acts taken nothing sound script other silent left told went = inl (record {
    outcome = with_acts acts taken why;
    answered = refl;
    told = told;
    went = went;
    left = left_by_opening why taken (s.left i) (s.left j) script left;
    sound = sound;
    none_taken = λ blind. absurd (cc);
    prints = ((λ is. absurd (other is)), (λ unlike. silent));
    silent = λ still unlike. refl;
    fault = names_none name date why (s.left i) sound script;
  })

  -- with the input that is told, or none, whatever it is
  whatever : (outcome : CommandOutcome) → IfSome (t.told a) (λ held. (input : List ℕ) → AppendOutcome name date held input outcome) →
      IfSome (t.told a) (λ held. (input : List ℕ) × IsInput (s.left i) input
      × (IsOfBytes (words.Append name date) (s.left i) input × AppendOutcome name date held input outcome))
  whatever outcome told =
      told_map (t.told a) _ _ told (λ held each. (
        input_of (s.left i),
        input_told (s.left i),
        ((λ is. input_bytes (s.left i)), each (input_of (s.left i))),
      ))

  -- the opening was refused, or cut off
  pub append_unopened : (b : UnitView T) (why : Status) → ((z : K) → k.took z [] z) → WritableEnds t a b (Err why) →
      CommandEnds t s k (words.Append name date) (outside a i x) (outside b.tape i x) why
  append_unopened b why nothing (inl locked) =
      rw locked.answered (turned b.tape i status.Protected [] 0 nothing refl (λ line place is. cc) (λ is. cc) refl (none_left (s.left i))
      (whatever (refused status.Protected)
      (told_map (t.told a) _ _ locked.told (λ held is input. locked_is (Appends name date input) held is)))
      (record { did = locked.did; wrote = record { took = nothing x; later = omega arith }; source_later = omega arith }))
  append_unopened b why nothing (inr (inl (free, refusal))) =
      turned b.tape i why [] 0 nothing (found_by_append name date why refusal.sound) (no_script why refusal.sound)
      (no_outcome why refusal.sound) refl (none_left (s.left i))
      (whatever (refused why) (told_map (t.told a) _ _ (told_both (t.told a) _ _ free refusal.told)
      (λ held is input. unlocked_refused_is (Appends name date input) why held is.0 is.1)))
      (record { did = refusal.did; wrote = record { took = nothing x; later = omega arith }; source_later = omega arith })
  append_unopened b why nothing (inr (inr (is, cut))) =
      rw is (input_unread t s k (words.Append name date) a b.tape i x cut nothing
      (told_map (t.told a) _ _ cut.front
      (λ held front. writable_begins (Appends name date (input_of (s.left i)))
      (appends_first name date (input_of (s.left i))) cut.steps held front)))

  module _ (b : UnitView T) (store : StoreView) (opening : HasOpened t a b store) where
    -- a protected one is none that is told
    pub append_locked : ((z : K) → k.took z [] z) → TakesBoth k → IsUnlocked t a → is_protected b.drive.deck ≡ true →
        CommandEnds t s k (words.Append name date) (outside a i x) (outside b.tape i x) status.Protected
    append_locked nothing both free locked =
        turned b.tape i status.Protected (quiet opening.steps ∷ []) 0 nothing refl (λ line place is. cc) (λ is. cc) refl
        (none_left (s.left i))
        (whatever (refused_behind opening.steps status.Protected)
        (told_map (t.told a) _ _ (told_both (t.told a) _ _ free (found_locked t a b store opening locked))
        (λ held is. absurd (never_both held is.0 is.1))))
        (went_behind t s k both nothing a b.tape i x (outside b.tape i x) opening.steps [] opening.did
        (record { did = Done-nothing t b.tape; wrote = record { took = nothing x; later = omega arith }; source_later = omega arith }))

    -- what an append found of the table, beside what was learnt of the cartridge
    record Found (table : List (List ℕ)) (settling : List TapeStep) (d : Cartridge) : Type 0 where
      known : IsKnown d store false
      reads : TableIs d table
      settles : settling ≡ settling_steps table d

    found : (table : List (List ℕ)) (settling : List TapeStep) → is_protected b.drive.deck ≡ false →
        tape_calls.Tells t b.tape (λ d. TableIs d table × (settling ≡ settling_steps table d)) →
        tape_calls.Tells t b.tape (Found table settling)
    found table settling free told =
        tells_two t b.tape (λ d. IsKnown d store false) (λ d. TableIs d table × (settling ≡ settling_steps table d)) (Found table settling)
        (λ d known is. record { known = known; reads = is.0; settles = is.1 }) (opened_known t a b store opening false free) told

    -- the bytes that are taken, said in two ways
    taken_so : (c : Cartridge) (table : List (List ℕ)) (words : List ℕ) (entries : List Entry) (input : List ℕ) →
        going_by (quiet (settling_steps table c)) (kept_over (settled table c) words entries table) name date input ≡ appended name date
        input c words table entries
    taken_so c table words entries input =
        ap (λ (taken : ℕ). with_acts
        (quiet (settling_steps table c) ∷ append_acts (kept_over (settled table c) words entries table) name date None
        (reply_behind (length entries)) input)
        taken (status_by_room (room words entries) input))
        (taken_is (room words entries) input)

    -- it is the machine's over what is told
    is_plain : (table : List (List ℕ)) (settling : List TapeStep) (input : List ℕ) (c : Cartridge) → (is : IsOpened c store opening.steps) →
        Found table settling (settled is.table c) →
        AppendOutcome name date (Some c) input (going_by (quiet opening.steps) (kept_by store table settling) name date input)
    is_plain table settling input c is f =
        let known : IsKnown c store false = known_before c store false opening.steps is f.known in inr (
          known.protected,
          (
            mounting.Mounted store.header store.words is.table store.entries,
            is.mounts,
            ap (λ (kept : Kept). going_by (quiet opening.steps) kept name date input)
                (same_kept c store opening.steps is table settling f.reads f.settles)
                ∙ ap (λ (ss : List TapeStep). going_by (quiet ss) (kept_over (settled is.table c) store.words store.entries is.table) name
                date input) is.settles
                ∙ taken_so c is.table store.words store.entries input,
          ),
        )

    -- what is told of an append that ran
    told_ran : (j : S) (c : T) (became : Taking) → is_protected b.drive.deck ≡ false →
        (ran : AppendRan t s (reading b.tape i) (reading c j) store name date None became) →
        IfSome (t.told a) (λ held. (input : List ℕ) × IsInput (s.left i) input
        × (IsOfBytes (words.Append name date) (s.left i) input × AppendOutcome name date held input
        (going_by (quiet opening.steps) (kept_by store ran.table ran.settling) name date ran.input)))
    told_ran j c became free ran =
        settled_told t a b store opening (Found ran.table ran.settling) _ (found ran.table ran.settling free ran.known)
        (λ d is f. (ran.input, ran.is_told, ((λ no. ran.content), is_plain ran.table ran.settling ran.input d is f)))

    -- there was no room for all of the input
    pub append_full : (c : T) (j : S) (need have : ℕ) → ((z : K) → k.took z [] z) → TakesBoth k → is_protected b.drive.deck ≡ false →
        AppendRan t s (reading b.tape i) (reading c j) store name date None (TooLong need have) →
        CommandEnds t s k (words.Append name date) (outside a i x) (outside c j x) (status.Full need have)
    append_full c j need have nothing both free ran =
        let kept : Kept = kept_by store ran.table ran.settling in
        let reply : Entry → List ℕ = reply_behind (length store.entries) in
        let acts : List Act = append_acts kept name date None reply ran.input in
        let plain : acts ≡ quiet ran.settling ∷ input_writes kept.words kept.entries None ran.input =
        silent_text kept name date reply ran.input need have ran.took in
        let quietly : append_acts kept name date None silently ran.input ≡ quiet ran.settling ∷ input_writes kept.words kept.entries None
        ran.input = silent_text kept name date silently ran.input need have ran.took in
        let went : Went t s k (outside b.tape i x) (outside c j x) acts =
        subst (Went t s k (outside b.tape i x) (outside c j x)) (sym plain) (record {
          did = subst (λ (xs : List Act). tapes.Done t b.tape c (steps_of xs)) quietly ran.went.did;
          wrote = subst (sinks.Wrote k x x) (sym (input_texts kept None ran.input)) (record { took = nothing x; later = omega arith });
          source_later = ran.went.source_later;
        }) in
        let answer : status_by_room (room_in kept) ran.input ≡ status.Full need have =
        status_full (room_in kept) ran.input need have ran.took in
        let taken : bytes_taken None (taking (room_in kept) None ran.input) ≡ need = ap (bytes_taken None) ran.took in
        turned c j (status.Full need have) (quiet opening.steps ∷ acts) need nothing
        (full_numbers (room_in kept) ran.input need have ran.took) (λ line place is. cc) (λ is. cc)
        (ap (λ (xs : List Act). text_of xs) plain ∙ input_texts kept None ran.input) ran.left
        (told_map (t.told a) _ _ (told_ran j c (TooLong need have) free ran) (λ held o. (
          o.0,
          o.1,
          (
            o.2.0,
            subst (λ (w : CommandOutcome). AppendOutcome name date held o.0 w)
                (ap (λ (n : ℕ). with_acts (quiet opening.steps ∷ acts) n (status_by_room (room_in kept) ran.input)) taken
                ∙ ap (λ (why : Status). with_acts (quiet opening.steps ∷ acts) need why) answer) o.2.1,
          ),
        )))
        (went_behind t s k both nothing a b.tape i x (outside c j x) opening.steps acts opening.did went)

    -- ---- with a reply

    module _ (c : T) (j : S) (after : StoreView) (added : Appended) (free : is_protected b.drive.deck ≡ false)
        (has : HasAppended t s (reading b.tape i) (reading c j) store after name date None added) where
      abbrev ran : AppendRan t s (reading b.tape i) (reading c j) store name date None (Fits has.bytes)
      ran = has.ran

      abbrev kept : Kept
      kept = kept_by store ran.table ran.settling

      abbrev reply : Entry → List ℕ
      reply = reply_behind (length store.entries)

      abbrev entry : Entry
      entry = entry_for kept name date has.bytes

      abbrev acts : List Act
      acts = append_acts kept name date None reply ran.input

      abbrev writes : List Act
      writes = input_writes kept.words kept.entries None ran.input

      abbrev last_act : Act
      last_act = record {
        steps = table_writes (slot_sector (length store.entries)) (table_with kept.table (length kept.entries) entry);
        text = reply entry;
      }

      abbrev outcome : CommandOutcome
      outcome = going_by (quiet opening.steps) kept name date ran.input

      line_is : appended_line added.number added.bytes added.start added.end ≡ reply entry
      line_is =
          ap (λ (n : ℕ). appended_line n added.bytes added.start added.end) has.number
          ∙ ap (λ (n : ℕ). appended_line (length store.entries + 1) n added.start added.end) has.count
          ∙ ap (λ (n : ℕ). appended_line (length store.entries + 1) (length has.bytes) n added.end)
          (has.start ∙ ap (λ (e : Entry). e.start) has.is_entry)
          ∙ ap (λ (n : ℕ). appended_line (length store.entries + 1) (length has.bytes) entry.start n)
          (has.end ∙ ap (λ (e : Entry). e.end) has.is_entry)

      is_done : outcome.status ≡ status.Done
      is_done = status_fits (room_in kept) ran.input has.bytes ran.took

      all_did : tapes.Done t a c (steps_of outcome.acts)
      all_did = Done-Done opening.did (subst (tapes.Done t b.tape c) (replied_steps kept name date reply ran.input) ran.went.did)

      text_is : text_of acts ≡ reply entry
      text_is = replied_text kept name date reply ran.input has.bytes ran.took

      replied : (y : K) → sinks.Wrote k x y (reply entry) → Went t s k (outside a i x) (outside c j y) outcome.acts
      replied y wrote = record {
        did = all_did;
        wrote = subst (sinks.Wrote k x y) (sym text_is) wrote;
        source_later = ran.went.source_later;
      }

      -- the acts before the last one, and that one
      parted : quiet opening.steps ∷ (quiet ran.settling ∷ writes) ++ last_act ∷ [] ≡ outcome.acts
      parted = ap (λ (es : List Act). quiet opening.steps ∷ (quiet ran.settling ∷ (writes ++ es)))
          (sym (ap (entry_acts kept name date reply) ran.took))

      steps_before : steps_of (quiet opening.steps ∷ (quiet ran.settling ∷ writes)) ++ last_act.steps ≡ steps_of outcome.acts
      steps_before =
          ap (λ (ss : List TapeStep). steps_of (quiet opening.steps ∷ (quiet ran.settling ∷ writes)) ++ ss)
          (sym (append-nil last_act.steps))
          ∙ sym (steps_of-append (quiet opening.steps ∷ (quiet ran.settling ∷ writes)) (last_act ∷ []))
          ∙ ap (λ (xs : List Act). steps_of xs) parted

      none_before : text_of (quiet opening.steps ∷ (quiet ran.settling ∷ writes)) ≡ []
      none_before = input_texts kept None ran.input

      abbrev broken : (y : K) → sink_calls.BrokeOff k x y (reply entry) → SinkCut t s k (outside a i x) (outside c j y) outcome.acts
      broken y broke = record {
        at = record { front = quiet opening.steps ∷ (quiet ran.settling ∷ writes); act = last_act; rest = []; parts = parted };
        did = subst (tapes.Done t a c) (sym steps_before) all_did;
        broke = broke_behind (text_of (quiet opening.steps ∷ (quiet ran.settling ∷ writes))) none_before broke;
        source_later = ran.went.source_later;
      }

      prints_line : CommandPrints (words.Append name date) (text_of acts)
      prints_line = (length store.entries + 1, (entry.size, (entry.start, (entry.end, text_is))))

      left_behind : s.left j ≡ option_map (drop outcome.taken) (s.left i)
      left_behind = subst (λ (n : ℕ). s.left j ≡ option_map (drop n) (s.left i)) (sym (ap (bytes_taken None) ran.took)) ran.left

      -- the reply was written, ..
      pub append_done : (y : K) → sinks.Wrote k x y (reply entry) → CommandEnds t s k (words.Append name date) (outside a i x)
          (outside c j y) status.Done
      append_done y wrote = inl (record {
        outcome = outcome;
        answered = sym is_done;
        told = told_ran j c (Fits has.bytes) free ran;
        went = replied y wrote;
        left = left_behind;
        sound = refl;
        none_taken = λ blind. absurd (cc);
        prints = ((λ is. prints_line), (λ other. absurd (other refl)));
        silent = λ still other. absurd (other refl);
        fault = names_none name date status.Done (s.left i) refl (λ line place is. cc);
      })

      -- .. or broken off
      pub append_unsaid : (y : K) → sink_calls.BrokeOff k x y (reply entry) → CommandEnds t s k (words.Append name date) (outside a i x)
          (outside c j y) status.SinkFault
      append_unsaid y broke =
          let off : (d : Cartridge) → IsCutOff t s k (words.Append name date) (Some d) ran.input (outside a i x) (outside c j y) SinkFails
          outcome = λ d. record {
            cut = broken y broke;
            taken = outcome.taken;
            left = left_behind;
            reaches = omega arith;
            done = λ same still. (is_done, all_did);
            silent = λ still. none_before;
          } in
          inr (
            SinkFails,
            refl,
            record {
              told = settled_told t a b store opening (Found ran.table ran.settling) _ (found ran.table ran.settling free ran.known)
                  (λ d is f. (
                    ran.input,
                    ran.is_told,
                    (
                      (λ no. ran.content),
                      λ other plain.
                          subst (IsCutOff t s k (words.Append name date) (Some d) ran.input (outside a i x) (outside c j y) SinkFails)
                          (plain_is_function (words.Append name date) (Some d) ran.input outcome other
                          (is_plain ran.table ran.settling ran.input d is f) plain) (off d),
                    ),
                  ));
              acts = outcome.acts;
              cut = broken y broke;
              front = ([], subst (CommandPrints (words.Append name date)) (sym (append-nil (text_of acts))) prints_line);
              silent = λ still other. absurd (other refl);
              reads = λ same. absurd (cc);
              source_tells = ap is_some ran.left ∙ is_some-option_map (drop (length has.bytes)) (s.left i);
            },
          )

      pub append_replied : (y : K) (r : Result (Unit {0}) SinkFailed) →
          sink_calls.Writes k x y (appended_line added.number added.bytes added.start added.end) r →
          CommandEnds t s k (words.Append name date) (outside a i x) (outside c j y) (printed_status r)
      append_replied y (Ok all) wrote = append_done y (subst (sinks.Wrote k x y) line_is wrote)
      append_replied y (Err failed) broke = append_unsaid y (subst (sink_calls.BrokeOff k x y) line_is broke)

    -- ---- cut off

    -- the acts of an append were cut off by the tape, which printed nothing
    abbrev tape_behind : (c : T) (j : S) (acts : List Act) → ((z : K) → k.took z [] z) →
        (cut : TapeCut t s no_sink (reading b.tape i) (reading c j) acts) →
        (all : List Act) → quiet opening.steps ∷ (cut.front ++ cut.rest) ≡ all → TapeCut t s k (outside a i x) (outside c j x) all
    tape_behind c j acts nothing cut all parts = record {
      front = quiet opening.steps ∷ cut.front;
      rest = cut.rest;
      parts = parts;
      broke = subst (tapes.Broke t a c) (sym (append_assoc opening.steps (steps_of cut.front) (next_steps cut.rest)))
          (Done-Broke opening.did cut.broke);
      here = λ held left told now.
          subst (λ (h : Option Cartridge). Torn (next_steps cut.rest) h left) (sym (effects-append opening.steps (steps_of cut.front) held))
          (cut.here (effects opening.steps held) left
          (opening.did.told ∙ ap (λ (o : Option (Option Cartridge)). option_map (effects opening.steps) o) told) now);
      wrote = record { took = subst (λ (text : List ℕ). k.took x text x) (sym cut.wrote.took) (nothing x); later = omega arith };
      source_later = cut.source_later;
    }

    abbrev source_behind : (c : T) (j : S) (acts : List Act) → ((z : K) → k.took z [] z) →
        (cut : SourceCut t s no_sink (reading b.tape i) (reading c j) acts) →
        (all : List Act) (rest : List Act) → quiet opening.steps ∷ (cut.front ++ rest) ≡ all →
        SourceCut t s k (outside a i x) (outside c j x) all
    source_behind c j acts nothing cut all rest parts = record {
      front = quiet opening.steps ∷ cut.front;
      rest = rest;
      parts = parts;
      did = Done-Done opening.did cut.did;
      wrote = record { took = subst (λ (text : List ℕ). k.took x text x) (sym cut.wrote.took) (nothing x); later = omega arith };
      cause = cut.cause;
      source_later = cut.source_later;
    }

    -- what the plain machine does over a cartridge that was opened and is not protected
    plain_is : (c : Cartridge) (is : IsOpened c store opening.steps) → IsKnown (settled is.table c) store false →
        (input : List ℕ) (outcome : CommandOutcome) → AppendOutcome name date (Some c) input outcome →
        outcome ≡ going_by (quiet opening.steps) (kept_by store is.table (settling_steps is.table (settled is.table c))) name date input
    plain_is c is known input outcome plain =
        plain_is_function (words.Append name date) (Some c) input outcome _ plain
        (is_plain is.table (settling_steps is.table (settled is.table c)) input c is
        (record { known = known; reads = (settled_keeps_table c is.table is.mounts.reads).table; settles = refl }))

    -- no more was taken than that takes
    no_more_taken : (c : Cartridge) (is : IsOpened c store opening.steps) → IsKnown (settled is.table c) store false → (input : List ℕ)
        (outcome : CommandOutcome) → AppendOutcome name date (Some c) input outcome → (n : ℕ) → n ≤ length input →
        n ≤ room store.words store.entries + 1 → n ≤ outcome.taken
    no_more_taken c is known input outcome plain n there few =
        let all : outcome.taken ≡ min (length input) (room store.words store.entries + 1) =
        ap (λ (o : CommandOutcome). o.taken) (plain_is c is known input outcome plain)
        ∙ taken_is (room store.words store.entries) input in
        omega arith

    abbrev Cuts : (c : T) (j : S) (input : List ℕ) (failing : Failing) → Cartridge → Type 0
    Cuts c j input failing d =
        IsKnown d store false × ((table : List (List ℕ)) → TableIs d table → (reply : Entry → List ℕ) →
        Cut t s no_sink (reading b.tape i) (reading c j)
        (append_acts (kept_by store table (settling_steps table d)) name date None reply input) failing)

    cuts : (c : T) (j : S) (failing : Failing) → is_protected b.drive.deck ≡ false →
        (cut : AppendCut t s (reading b.tape i) (reading c j) store name date None failing) →
        tape_calls.Tells t b.tape (Cuts c j cut.input failing)
    cuts c j failing free cut =
        tells_two t b.tape (λ d. IsKnown d store false)
        (λ d. (table : List (List ℕ)) → TableIs d table → (reply : Entry → List ℕ) →
        Cut t s no_sink (reading b.tape i) (reading c j)
        (append_acts (kept_by store table (settling_steps table d)) name date None reply cut.input) failing)
        (Cuts c j cut.input failing) (λ d known each. (known, each)) (opened_known t a b store opening false free) cut.told

    pub append_tape : (c : T) (j : S) → ((z : K) → k.took z [] z) → is_protected b.drive.deck ≡ false →
        AppendCut t s (reading b.tape i) (reading c j) store name date None TapeFails →
        CommandEnds t s k (words.Append name date) (outside a i x) (outside c j x) status.TapeFault
    append_tape c j nothing free cut =
        let once : TapeCut t s no_sink (reading b.tape i) (reading c j) cut.acts = cut.cut in
        inr (
          TapeFails,
          refl,
          record {
            told = settled_told t a b store opening (Cuts c j cut.input TapeFails) _ (cuts c j TapeFails free cut)
                (λ d is each. (
                  cut.input,
                  cut.is_told,
                  (
                    (λ no. cut.content),
                    λ outcome plain.
                        let table = (settled_keeps_table d is.table is.mounts.reads).table in
                        let off : TapeCut t s no_sink (reading b.tape i) (reading c j)
                        (append_acts (kept_by store is.table (settling_steps is.table (settled is.table d))) name date None
                        (reply_behind (length store.entries)) cut.input) =
                        each.1 is.table table (reply_behind (length store.entries)) in
                        let same = plain_is d is each.0 cut.input outcome plain in
                        let all = ap (λ (xs : List Act). quiet opening.steps ∷ xs) off.parts
                        ∙ sym (ap (λ (o : CommandOutcome). o.acts) same) in record {
                          cut = tape_behind c j _ nothing off outcome.acts all;
                          taken = cut.taken;
                          left = cut.left;
                          reaches = no_more_taken d is each.0 cut.input outcome plain cut.taken cut.there cut.few;
                          done = λ sink still. absurd (cc);
                          silent = λ still. off.wrote.took;
                        },
                  ),
                ));
            acts = quiet opening.steps ∷ (once.front ++ quiet (next_steps once.rest) ∷ []);
            cut = tape_behind c j _ nothing
                (record {
                  front = once.front;
                  rest = quiet (next_steps once.rest) ∷ [];
                  parts = refl;
                  broke = once.broke;
                  here = once.here;
                  wrote = once.wrote;
                  source_later = once.source_later;
                }) _ refl;
            front = unsaid (text_of-append once.front (quiet (next_steps once.rest) ∷ []) ∙ append-nil (text_of once.front)
                ∙ once.wrote.took);
            silent = λ still unlike. refl;
            reads = λ same. absurd (cc);
            source_tells = ap is_some cut.left ∙ is_some-option_map (drop cut.taken) (s.left i);
          },
        )
      where
        unsaid : {text : List ℕ} → text ≡ [] → FrontPrints (words.Append name date) text
        unsaid none = subst (FrontPrints (words.Append name date)) (sym none) (nothing_front (words.Append name date))

    pub append_source : (c : T) (j : S) → ((z : K) → k.took z [] z) → is_protected b.drive.deck ≡ false →
        AppendCut t s (reading b.tape i) (reading c j) store name date None SourceFails →
        CommandEnds t s k (words.Append name date) (outside a i x) (outside c j x) status.SourceFault
    append_source c j nothing free cut =
        let once : SourceCut t s no_sink (reading b.tape i) (reading c j) cut.acts = cut.cut in
        inr (
          SourceFails,
          refl,
          record {
            told = settled_told t a b store opening (Cuts c j cut.input SourceFails) _ (cuts c j SourceFails free cut)
                (λ d is each. (
                  cut.input,
                  cut.is_told,
                  (
                    (λ no. cut.content),
                    λ outcome plain.
                        let table = (settled_keeps_table d is.table is.mounts.reads).table in
                        let off : SourceCut t s no_sink (reading b.tape i) (reading c j)
                        (append_acts (kept_by store is.table (settling_steps is.table (settled is.table d))) name date None
                        (reply_behind (length store.entries)) cut.input) =
                        each.1 is.table table (reply_behind (length store.entries)) in
                        let same = plain_is d is each.0 cut.input outcome plain in
                        let all = ap (λ (xs : List Act). quiet opening.steps ∷ xs) off.parts
                        ∙ sym (ap (λ (o : CommandOutcome). o.acts) same) in record {
                          cut = source_behind c j _ nothing off outcome.acts off.rest all;
                          taken = cut.taken;
                          left = cut.left;
                          reaches = no_more_taken d is each.0 cut.input outcome plain cut.taken cut.there cut.few;
                          done = λ sink still. absurd (cc);
                          silent = λ still. off.wrote.took;
                        },
                  ),
                ));
            acts = quiet opening.steps ∷ (once.front ++ []);
            cut = source_behind c j _ nothing once _ [] refl;
            front = unsaid (text_of-append once.front [] ∙ append-nil (text_of once.front) ∙ once.wrote.took);
            silent = λ still unlike. refl;
            reads = λ same. refl;
            source_tells = ap is_some cut.left ∙ is_some-option_map (drop cut.taken) (s.left i);
          },
        )
      where
        unsaid : {text : List ℕ} → text ≡ [] → FrontPrints (words.Append name date) text
        unsaid none = subst (FrontPrints (words.Append name date)) (sym none) (nothing_front (words.Append name date))

    -- ---- the table refused, which a told cartridge never is

    pub append_untabled : (c : T) (j : S) (why : Status) (Says : Cartridge → Type 0) → ((z : K) → k.took z [] z) → TakesBoth k →
        may_come_from why (words.Append name date) ≡ true →
        ((line place : ℕ) → why ≢ status.ScriptFault line place) → why ≢ status.Done →
        ((d : Cartridge) (table : List (List ℕ)) → TableIs d table → Says d → ⊥) →
        TableRefused t s (reading b.tape i) (reading c j) Says → CommandEnds t s k (words.Append name date) (outside a i x)
        (outside c j x) why
    append_untabled c j why Says nothing both sound script other never refusal =
        turned c j why (quiet opening.steps ∷ refusal.acts) refusal.taken nothing sound script other refusal.went.wrote.took refusal.left
        (settled_told t a b store opening (λ d. (refusal.acts ≡ []) × (j ≡ i) × Says d) _ refusal.told
        (λ d is says. absurd (never (settled is.table d) is.table (settled_keeps_table d is.table is.mounts.reads).table says.2)))
        (went_behind t s k both nothing a b.tape i x (outside c j x) opening.steps refusal.acts opening.did (record {
          did = refusal.went.did;
          wrote = record {
            took = subst (λ (text : List ℕ). k.took x text x) (sym refusal.went.wrote.took) (nothing x);
            later = omega arith;
          };
          source_later = refusal.went.source_later;
        }))

    -- ---- by the answer of the call

    pub append_failed : (c : T) (j : S) (after : StoreView) (f : StoreFault) → ((z : K) → k.took z [] z) → TakesBoth k → IsUnlocked t a →
        (f ≡ fault.Protected) ↔ (is_protected b.drive.deck ≡ true) →
        AppendEnds t s (reading b.tape i) (reading c j) store after name date None (Err f) → CommandEnds t s k (words.Append name date)
        (outside a i x) (outside c j x) (store_status f)
    append_failed c j after fault.Protected nothing both free mark same =
        subst (λ (z : S). CommandEnds t s k (words.Append name date) (outside a i x) (outside c z x) status.Protected) (sym same.1)
        (subst (λ (w : T). CommandEnds t s k (words.Append name date) (outside a i x) (outside w i x) status.Protected) (sym same.0)
        (append_locked nothing both free (mark.0 refl)))
    append_failed c j after (fault.Lost segment lost) nothing both free mark refusal =
        append_untabled c j (status.Lost segment lost) (λ d. TableSays (table_cells d) (ByCode (LostSectors lost))) nothing both
        (table_lost segment lost false
        (both_true (are_too_many lost) (segment == 2) (too_many lost refusal.1) (eq-eqb segment 2 refusal.0)))
        (λ line place is. cc) (λ is. cc)
        (λ d table is says. not_lost d table lost is says) refusal.2
    append_failed c j after fault.TableMismatch nothing both free mark refusal =
        append_untabled c j status.TableMismatch (λ d. ⊥) nothing both refl (λ line place is. cc) (λ is. cc)
        (λ d table is says. says) refusal
    append_failed c j after (fault.Full need have) nothing both free mark ran = append_full c j need have nothing both
        (unlocked b (fault.Full need have) mark (λ same. cc)) ran
    append_failed c j after (fault.Short asked read) nothing both free mark ran =
        absurd (never_short (room_in (kept_by store ran.table ran.settling)) ran.input asked read ran.took)
    append_failed c j after fault.Source nothing both free mark cut = append_source c j nothing
        (unlocked b fault.Source mark (λ same. cc)) cut
    append_failed c j after fault.Tape nothing both free mark cut = append_tape c j nothing (unlocked b fault.Tape mark (λ same. cc)) cut
    append_failed c j after f nothing both free mark never = absurd never

-- so an append of all of the input is never answered as short
pub never_short_told : {T S : Type 0} (t : tapes.Meaning T) (s : sources.Meaning S) (a : T) (i : S) (c : T) (j : S)
    (store after : StoreView) (name : List ℕ) (date : ℕ) (asked read : ℕ) →
    AppendRan t s (reading a i) (reading c j) store name date None (TooShort asked read) → ⊥
never_short_told t s a i c j store after name date asked read ran =
    never_short (room_in (kept_by store ran.table ran.settling)) ran.input asked read ran.took
