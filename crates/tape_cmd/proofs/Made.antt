-- How a generated run ends.
use Rattle.cartridge_spec.specs.Appending.{room}
use Rattle.std.proofs.Common.{◌≡◌, ◌≢◌, ℕ, ◌≤◌, ◌&&◌, nat_le, nat_lt, Bool, true, false, cond, List, [], ◌∷◌, Option, Some, None}
use Rattle.std.proofs.Common.{IfSome, Ok, Err, refl, sym, ap, ◌∙◌, subst, inl, inr, arith, length, ◌-◌}
use Rattle.command_laws.proofs.CommandClean.{made_order}
use Rattle.command_laws.proofs.CommandNumbers.{of_volume, too_many}
use Rattle.command_laws.proofs.MadeLengths.{IsOfRun, all_of_run, has_value}
use Rattle.command_laws.proofs.RestoreBehind.{piece_between}
use Rattle.cartridge_laws.specs.Table.{IsSoundList}
use Rattle.std.proofs.lemmas.Bool.{cases_Bool, eq-eqb, leb-false, lt-ltb, or_left, or_right}
use Rattle.std.proofs.lemmas.List.Elements.{All-head, All-tail}
use Rattle.std.specs.List.{range_with_len}
use Rattle.std.specs.Prelude.{◌==◌, ◌||◌, ◌*◌, All, IsSomeAnd, slice_get}
use Rattle.qic_base.specs.Cartridge.{Cartridge}
use Rattle.qic_base.specs.Step.{Step as TapeStep}
use Rattle.qic_base.proofs.Writing.{TakesBoth}
use Rattle.qic_base.specs.Acts.{Act, text_of, Failing, TapeFails, SourceFails, SinkFails, Cut}
use Rattle.qic_base.specs.Alone.{no_source, around}
use Rattle.cartridge_spec.specs.Mounting.{Mounting}
use Rattle.cartridge_spec.specs.Table.{Entry}
use Rattle.drive_states.specs.Unit.{UnitView}
use Rattle.cartridge_laws.proofs.MountOnce.{mounts_is_function}
use Rattle.command_spec.specs.Make.{made_length, MakeStep, AppendMade, WearSector, ScrubAll, SumVolume, after_item, making, made_answer}
use Rattle.command_spec.specs.Make.{MayDo, MayRun, Making}
use Rattle.command_spec.specs.Append.{has_promised_room}
use Rattle.command_spec.specs.Numbers.{AreTooMany, are_too_many, is_of_volume}
use Rattle.command_spec.specs.Restore.{pieces, volume_at}
use Rattle.qic_base.specs.declared.TheConstants.{LONGEST}
use Rattle.volume_store.proofs.Storing.{length_learnt}
use Rattle.command_laws.specs.MadeTerms.{Makes}
use Rattle.command_laws.specs.RunTerms.{EndsBlind}
use Rattle.volume_store.specs.Mounting.{StoreView, IsOpened}
use Rattle.command_laws.proofs.StoreTaking.{both_true}
use Rattle.qic_base.specs.declared.store_fault.StoreFault.{StoreFault}
use Rattle.made_volumes.specs.Runs.{HasRun, MakeEnds, RunCut}
use Rattle.command_spec.specs.declared.status.Status.{Status}
use Rattle.host_commands.specs.Statuses.{store_status}
use Rattle.command_spec.specs.Outcome.{Going, Opened, OpenOutcome, WritableOutcome, CommandOutcome}
use Rattle.volume_store.specs.Opening.{HasOpened}
use Rattle.command_spec.specs.Machine.{IsCutOff, fault_of, may_come_from}
use Rattle.tape_cmd.proofs.Printing.{Prints}
use Rattle.command_laws.proofs.CommandOpened.{quiet}
use Rattle.volume_store.proofs.Opened.{went_behind, cut_behind, settled_told}
use Rattle.host_commands.specs.Opening.{IsUnlocked, WritableEnds, is_opening}
use Rattle.hand_commands.specs.Outcome.{first_steps}
use Rattle.hand_commands.proofs.Endings.{IsBlind, none_taken, turned_down, cut_off, told_map, told_both}
use Rattle.host_commands.proofs.Mounted.{BeginsSettling, table_lost, no_counts, no_outcome, locked_is, unlocked_refused_is, writable_begins}
use Rattle.qic_base.specs.Sink as sinks
use Rattle.qic_base.specs.Tape as tapes
use Rattle.cartridge_spec.specs.Mounting as mounting
use Rattle.command_spec.specs.declared.words.Words.TheVariants as words
use Rattle.qic_base.specs.declared.store_fault.StoreFault.TheVariants as fault
use Rattle.command_spec.specs.declared.status.Status.TheVariants as status

-- ---- the answers of a run

-- a volume has more bytes than there is room for
full_more : (have n : ℕ) → 1 ≤ n → (nat_le 1 have && nat_le n have) ≡ false → nat_lt have n ≡ true
full_more have n some small =
    elim (cases_Bool (nat_le 1 have)) [
      | inl one ↦ by_enough (nat_le n have) refl one
      | inr none ↦ lt-ltb have n (let zero = leb-false 1 have none in omega arith)
    ]
  where
    by_enough : (b : Bool) → nat_le n have ≡ b → nat_le 1 have ≡ true → nat_lt have n ≡ true
    by_enough true enough one = let both = both_true (nat_le 1 have) (nat_le n have) one enough in absurd (cc)
    by_enough false few one = lt-ltb have n (leb-false n have few)

-- a volume has some bytes
some_bytes : (seed volume : ℕ) → 1 ≤ made_length seed volume
some_bytes seed volume = omega arith

-- an append is carried out, or full
append_sound : (seed count : ℕ) (ws : List ℕ) (es : List Entry) (volume : ℕ) (answer : Status) → IsOfRun seed count (AppendMade volume) →
    made_answer seed ws es volume ≡ answer → may_come_from answer (words.Make seed count) ≡ true
append_sound seed count ws es volume answer of_run is =
    by_room (has_promised_room (room ws es) (Some (made_length seed volume))) refl is
  where
    by_room : (b : Bool) → has_promised_room (room ws es) (Some (made_length seed volume)) ≡ b →
        cond b status.Done (status.Full (made_length seed volume) (room ws es)) ≡ answer →
        may_come_from answer (words.Make seed count) ≡ true
    by_room true there same = subst (λ (a : Status). may_come_from a (words.Make seed count) ≡ true) same refl
    by_room false none same =
        subst (λ (a : Status). may_come_from a (words.Make seed count) ≡ true) same
        (both_true (nat_lt (room ws es) (made_length seed volume)) (has_value (made_length seed) (range_with_len 1 count) volume)
        (full_more (room ws es) (made_length seed volume) (some_bytes seed volume) none) of_run)

-- a segment that lost too much is the table's, or a volume's
lost_sound : (seed count segment lost : ℕ) → AreTooMany lost → (segment == 2 || is_of_volume segment) ≡ true →
    may_come_from (status.Lost segment lost) (words.Make seed count) ≡ true
lost_sound seed count segment lost many which =
    both_true (are_too_many lost) (segment == 2 || is_of_volume segment) (too_many lost many) which

-- a piece of a volume in the list
sum_sound : (ws : List ℕ) (es : List Entry) (number : ℕ) (e : Entry) (read segment : ℕ) → length ws ≤ 28 * LONGEST →
    IsSoundList (length ws - 1) es → volume_at es number ≡ Some e →
    IsSomeAnd (slice_get (pieces ws e) read) (λ piece. piece.segment ≡ segment) → is_of_volume segment ≡ true
sum_sound ws es number e read segment few order there at =
    let between = piece_between ws (length ws - 1) es number e read segment order there at in
    of_volume segment between.0 (omega (arith, between.0, between.1))

-- each step is answered as a run may be, where the list is in order
do_sound : (seed count : ℕ) (ws : List ℕ) (es : List Entry) (item : MakeStep) (text : List ℕ) (answer : Status) →
    length ws ≤ 28 * LONGEST → IsOfRun seed count item → IsSoundList (length ws - 1) es → MayDo seed ws es item text answer →
    may_come_from answer (words.Make seed count) ≡ true
do_sound seed count ws es (AppendMade volume) text status.Protected few of_run order may = refl
do_sound seed count ws es (AppendMade volume) text status.TableMismatch few of_run order may = refl
do_sound seed count ws es (AppendMade volume) text (status.Lost segment lost) few of_run order may =
    lost_sound seed count segment lost may.1.1 (or_left (segment == 2) (is_of_volume segment) (eq-eqb segment 2 may.1.0))
do_sound seed count ws es (AppendMade volume) text answer few of_run order may =
    append_sound seed count ws es volume answer of_run may.1
do_sound seed count ws es (WearSector segment sector) text answer few of_run order may =
    subst (λ (a : Status). may_come_from a (words.Make seed count) ≡ true) (sym may.1) refl
do_sound seed count ws es ScrubAll text status.Done few of_run order may = refl
do_sound seed count ws es ScrubAll text status.Protected few of_run order may = refl
do_sound seed count ws es ScrubAll text answer few of_run order may = absurd may
do_sound seed count ws es (SumVolume number) text status.Done few of_run order may = refl
do_sound seed count ws es (SumVolume number) text (status.Lost segment lost) few of_run order may =
    let at = may.2.1.1 in
    lost_sound seed count segment lost at.0
    (or_right (segment == 2) (is_of_volume segment) (sum_sound ws es number may.0 may.2.1.0 segment few order may.1 at.1))
do_sound seed count ws es (SumVolume number) text (status.Mismatch segment) few of_run order may =
    sum_sound ws es number may.0 may.2.1.0 segment few order may.1 may.2.1.1
do_sound seed count ws es (SumVolume number) text answer few of_run order may = absurd may.2

-- a step that was carried out leaves a list in order
order_behind : (seed : ℕ) (ws : List ℕ) (es : List Entry) (item : MakeStep) (text : List ℕ) → IsSoundList (length ws - 1) es →
    MayDo seed ws es item text status.Done →
    IsSoundList (length ws - 1) (after_item seed ws es item)
order_behind seed ws es (AppendMade volume) text order may = made_order seed ws es volume order may.1
order_behind seed ws es (WearSector segment sector) text order may = order
order_behind seed ws es ScrubAll text order may = order
order_behind seed ws es (SumVolume number) text order may = order

-- .. and so is the run
run_sound : (seed count : ℕ) (ws : List ℕ) (items : List MakeStep) (es : List Entry) (text : List ℕ) (answer : Status) →
    length ws ≤ 28 * LONGEST → All (IsOfRun seed count) items → IsSoundList (length ws - 1) es → MayRun seed ws es items text answer →
    may_come_from answer (words.Make seed count) ≡ true
run_sound seed count ws [] es text answer few of_run order (none, done) =
    subst (λ (a : Status). may_come_from a (words.Make seed count) ≡ true) (sym done) refl
run_sound seed count ws (item ∷ items) es text answer few of_run order (inl (other, may)) =
    do_sound seed count ws es item text answer few (All-head (IsOfRun seed count) item items of_run) order may
run_sound seed count ws (item ∷ items) es text answer few of_run order (inr (first, rest, parts, may, more)) =
    run_sound seed count ws items (after_item seed ws es item) rest answer few (All-tail (IsOfRun seed count) item items of_run)
    (order_behind seed ws es item first order may) more

-- it printed what such a run may print
run_prints : (seed count : ℕ) (ws : List ℕ) (es : List Entry) (text : List ℕ) (answer : Status) →
    MayRun seed ws es (making seed count ws es) text answer →
    Prints (words.Make seed count) answer text
run_prints seed count ws es text answer may =
    ((λ is. (ws, (es, subst (MayRun seed ws es (making seed count ws es) text) is may))), (λ other. inr (ws, (es, may))))

-- ---- a cartridge that is not protected

unlocked_does : (goes : Going) (held : Option Cartridge) (outcome : CommandOutcome) → IfSome held (λ c. c.info.protected ≡ false) →
    OpenOutcome goes held outcome → WritableOutcome goes held outcome
unlocked_does goes None outcome free plain = plain
unlocked_does goes (Some c) outcome free plain = inr (free, plain)

does_unlocked : (goes : Going) (held : Option Cartridge) (outcome : CommandOutcome) → IfSome held (λ c. c.info.protected ≡ false) →
    WritableOutcome goes held outcome → OpenOutcome goes held outcome
does_unlocked goes None outcome free plain = plain
does_unlocked goes (Some c) outcome free (inl locked) = let is = locked.0 in absurd (cc)
does_unlocked goes (Some c) outcome free (inr plain) = plain.1

-- ---- the opening

making_first : (seed count : ℕ) → BeginsSettling (Making seed count)
making_first seed count c header ws table entries outcome found = ap (λ (o : CommandOutcome). first_steps o) found.is

found_by_make : (seed count : ℕ) (why : Status) → is_opening why ≡ true → may_come_from why (words.Make seed count) ≡ true
found_by_make seed count status.NoCartridge sound = refl
found_by_make seed count status.NotFormatted sound = refl
found_by_make seed count (status.Foreign field value) sound = sound
found_by_make seed count (status.Lost segment lost) sound = table_lost segment lost (is_of_volume segment) sound
found_by_make seed count status.TableMismatch sound = refl
found_by_make seed count why sound = cc

module _ {T K : Type 0} (t : tapes.Meaning T) (k : sinks.Meaning K) (seed count : ℕ) (a : T) where
  blind : IsBlind (words.Make seed count)
  blind = record { reads = refl }

  pub make_refused : (b : UnitView T) (x : K) (why : Status) → ((z : K) → k.took z [] z) → WritableEnds t a b (Err why) →
      EndsBlind t k (words.Make seed count) a b.tape x x why
  make_refused b x why nothing (inl locked) =
      rw locked.answered (turned_down t k (words.Make seed count) blind a b.tape x status.Protected nothing refl refl (λ is. cc)
      (told_map (t.told a) _ _ locked.told (λ held is input. locked_is (Making seed count) held is)) locked.did)
  make_refused b x why nothing (inr (inl (free, turned))) =
      turned_down t k (words.Make seed count) blind a b.tape x why nothing (found_by_make seed count why turned.sound)
      (no_counts why turned.sound) (no_outcome why turned.sound)
      (told_map (t.told a) _ _ (told_both (t.told a) _ _ free turned.told)
      (λ held is input. unlocked_refused_is (Making seed count) why held is.0 is.1)) turned.did
  make_refused b x why nothing (inr (inr (is, cut))) =
      rw is (cut_off t k (words.Make seed count) blind a b.tape x cut.steps nothing
      (told_map (t.told a) _ _ cut.front
      (λ held front outcome rules. writable_begins (Making seed count) (making_first seed count) cut.steps held front outcome
      (rules []))) cut.broke)

  module _ (b : UnitView T) (store : StoreView) (opening : HasOpened t a b store) (free : IsUnlocked t a) where
    few_words : length store.words ≤ 28 * LONGEST
    few_words =
        let all = opening.fits.words in
        let most = (length_learnt t store.host b opening.fits.host).longest in
        omega arith

    -- it came to its end, or to a refusal
    ran : (c : T) (x y : K) (answer : Status) → TakesBoth k → ((z : K) → k.took z [] z) →
        HasRun t k seed store.words store.entries (making seed count store.words store.entries) (around b.tape x) (around c y) answer →
        EndsBlind t k (words.Make seed count) a c x y answer
    ran c x y answer both nothing run =
        let outcome : CommandOutcome = record { acts = quiet opening.steps ∷ run.acts; taken = 0; status = answer } in
        inl (record {
          outcome = outcome;
          answered = refl;
          told = told_map (t.told a) _ _ (told_both (t.told a) _ _ free
              (settled_told t a b store opening (λ d. Makes seed count d store.words store.entries run.acts answer)
              (λ held. OpenOutcome (Making seed count) held outcome) run.told
              (λ d is makes. (
                mounting.Mounted store.header store.words is.table store.entries,
                is.mounts,
                record {
                  acts = run.acts;
                  answer = answer;
                  makes = makes;
                  is = ap (λ (ss : List TapeStep). record { acts = quiet ss ∷ run.acts; taken = 0; status = answer }) is.settles;
                },
              ))))
              (λ held is. ([], tt, ((λ no. absurd (cc)), unlocked_does (Making seed count) held outcome is.0 is.1)));
          went = went_behind t no_source k both nothing a b.tape tt x (around c y) opening.steps run.acts opening.did run.went;
          left = none_taken answer 0;
          sound = run_sound seed count store.words (making seed count store.words store.entries) store.entries (text_of run.acts) answer
              few_words (all_of_run seed count store.words store.entries)
              (subst (λ (n : ℕ). IsSoundList (n - 1) store.entries) (sym opening.fits.words) opening.fits.list) run.may;
          none_taken = λ no. refl;
          prints = run_prints seed count store.words store.entries (text_of run.acts) answer run.may;
          silent = λ still. absurd (cc);
          fault = tt;
        })

    -- over a mounted cartridge the acts of the outcome were cut off
    making_cut : (c : T) (x y : K) (failing : Failing) → TakesBoth k → ((z : K) → k.took z [] z) → (d : Cartridge) →
        (is : IsOpened d store opening.steps) →
        ((acts : List Act) (answer : Status) → Makes seed count (mounting.settled is.table d) store.words store.entries acts answer →
        Cut t no_source k (around b.tape x) (around c y) acts failing) →
        (outcome : CommandOutcome) → OpenOutcome (Making seed count) (Some d) outcome →
        IsCutOff t no_source k (words.Make seed count) (Some d) [] (around a x) (around c y) failing outcome
    making_cut c x y failing both nothing d is each outcome (m, mounts, does) =
        let same : m ≡ mounting.Mounted store.header store.words is.table store.entries = mounts_is_function d m _ mounts is.mounts in
        by_acts (subst (λ (n : Mounting). Opened (Making seed count) d n outcome) same does)
      where
        by_acts : Making seed count d store.header store.words is.table store.entries outcome →
            IsCutOff t no_source k (words.Make seed count) (Some d) [] (around a x) (around c y) failing outcome
        by_acts found =
            let all : quiet opening.steps ∷ found.acts ≡ outcome.acts =
            ap (λ (ss : List TapeStep). quiet ss ∷ found.acts) is.settles ∙ sym (ap (λ (o : CommandOutcome). o.acts) found.is) in record {
              cut = subst (λ (acts : List Act). Cut t no_source k (around a x) (around c y) acts failing) all
                  (cut_behind t no_source k both nothing a b.tape tt x (around c y) opening.steps found.acts failing opening.did
                  (each found.acts found.answer found.makes));
              taken = 0;
              left = refl;
              reaches = omega arith;
              done = λ sink still. absurd (cc);
              silent = λ still. absurd (cc);
            }

    -- a fault cut that off
    ran_cut : (c : T) (x y : K) (failing : Failing) → failing ≢ SourceFails → TakesBoth k → ((z : K) → k.took z [] z) →
        RunCut t k seed store.words store.entries (making seed count store.words store.entries) (around b.tape x) (around c y) failing →
        EndsBlind t k (words.Make seed count) a c x y (fault_of failing)
    ran_cut c x y failing other both nothing cut =
        let Cuts : Option Cartridge → Type 0 = λ held. (outcome : CommandOutcome) → OpenOutcome (Making seed count) held outcome →
        IsCutOff t no_source k (words.Make seed count) held [] (around a x) (around c y) failing outcome in
        inr (
          failing,
          refl,
          record {
            told = told_map (t.told a) _ _ (told_both (t.told a) _ Cuts free
                (settled_told t a b store opening
                (λ d. (acts : List Act) (answer : Status) → Makes seed count d store.words store.entries acts answer →
                Cut t no_source k (around b.tape x) (around c y) acts failing)
                Cuts cut.told (λ d is each outcome plain. making_cut c x y failing both nothing d is each outcome plain)))
                (λ held is. (
                  [],
                  tt,
                  (
                    (λ no. absurd (cc)),
                    λ outcome plain. is.1 outcome (does_unlocked (Making seed count) held outcome is.0 plain),
                  ),
                ));
            acts = quiet opening.steps ∷ cut.acts;
            cut = cut_behind t no_source k both nothing a b.tape tt x (around c y) opening.steps cut.acts failing opening.did cut.cut;
            front = tt;
            silent = λ still. absurd (cc);
            reads = λ same. absurd (other same);
            source_tells = refl;
          },
        )

    -- by the answer of the call
    pub make_done : (c : T) (x y : K) → TakesBoth k → ((z : K) → k.took z [] z) →
        MakeEnds t k store seed count (around b.tape x) (around c y) (Ok tt) → EndsBlind t k (words.Make seed count) a c x y status.Done
    make_done c x y both nothing run = ran c x y status.Done both nothing run

    pub make_failed : (c : T) (x y : K) (f : StoreFault) → TakesBoth k → ((z : K) → k.took z [] z) →
        MakeEnds t k store seed count (around b.tape x) (around c y) (Err f) →
        EndsBlind t k (words.Make seed count) a c x y (store_status f)
    make_failed c x y fault.Protected both nothing run = ran c x y status.Protected both nothing run
    make_failed c x y fault.TableMismatch both nothing run = ran c x y status.TableMismatch both nothing run
    make_failed c x y (fault.Full need have) both nothing run = ran c x y (status.Full need have) both nothing run
    make_failed c x y (fault.Lost segment lost) both nothing run = ran c x y (status.Lost segment lost) both nothing run
    make_failed c x y (fault.Mismatch segment) both nothing run = ran c x y (status.Mismatch segment) both nothing run
    make_failed c x y fault.Sink both nothing run = ran_cut c x y SinkFails (λ same. cc) both nothing run
    make_failed c x y fault.Tape both nothing run = ran_cut c x y TapeFails (λ same. cc) both nothing run
    make_failed c x y f both nothing run = absurd run
