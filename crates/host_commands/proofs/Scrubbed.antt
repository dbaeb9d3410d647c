-- How the scrubbing of a cartridge ends, in either form.
use Rattle.std.proofs.Common.{◌≡◌, ◌≢◌, ◌++◌, true, false, ℕ, List, [], ◌∷◌, Option, Some, Err, refl, sym, ap, ◌∙◌, subst, inl, inr}
use Rattle.qic_base.specs.Cartridge.{Cartridge}
use Rattle.qic_base.specs.Step.{Step as TapeStep}
use Rattle.qic_base.proofs.Writing.{TakesBoth}
use Rattle.qic_base.specs.Acts.{Act, Failing, TapeFails, SourceFails, SinkFails, Cut, Went, text_of}
use Rattle.qic_base.specs.Alone.{no_source, around}
use Rattle.cartridge_spec.specs.Mounting.{Mounting, settled}
use Rattle.cartridge_spec.specs.Table.{Entry}
use Rattle.drive_spec.specs.Terms.{is_protected}
use Rattle.drive_states.specs.Unit.{UnitView}
use Rattle.cartridge_laws.proofs.MountOnce.{mounts_is_function}
use Rattle.command_spec.specs.Commands.{traits_of}
use Rattle.command_laws.specs.CommandFields.{Yields, CommandPrints, FrontPrints}
use Rattle.command_laws.specs.RunTerms.{EndsBlind}
use Rattle.command_spec.specs.Scrub.{Counts, looked_at, IsTextFor, ScrubsAs, ScrubsBy}
use Rattle.command_laws.specs.ScrubTerms.{counts_for}
use Rattle.command_spec.specs.declared.depth.Depth.{Depth}
use Rattle.command_spec.specs.declared.depth.Depth.TheVariants.{Shallow, Deep}
use Rattle.segment_mending.specs.Mending.{HasScrubbed, ScrubCut, reported}
use Rattle.segment_mending.specs.declared.report.ScrubReport.{ScrubReport}
use Rattle.command_spec.specs.declared.words.Words.{Words}
use Rattle.std.specs.Prelude.{◌↔◌}
use Rattle.volume_store.specs.Mounting.{StoreView, IsOpened}
use Rattle.volume_store.specs.Scrubbing.{MendEnds}
use Rattle.command_spec.specs.declared.status.Status.{Status}
use Rattle.command_spec.specs.Outcome.{CommandOutcome, Opened, WritableOutcome}
use Rattle.volume_store.specs.Opening.{HasOpened}
use Rattle.command_spec.specs.Machine.{IsCutOff, acts_before, fault_of, may_come_from}
use Rattle.command_laws.proofs.CommandEndings.{none_reached}
use Rattle.volume_store.proofs.Opened.{IsKnown, went_behind, cut_behind, settled_told, opened_known, known_before, found_locked, never_both}
use Rattle.volume_store.proofs.Opened.{unlocked}
use Rattle.command_laws.proofs.CommandOpened.{quiet}
use Rattle.qic_base.specs.declared.store_fault.StoreFault.{StoreFault}
use Rattle.host_commands.specs.Opening.{IsUnlocked, WritableEnds, is_opening}
use Rattle.host_commands.specs.Statuses.{store_status}
use Rattle.hand_commands.specs.Outcome.{first_steps}
use Rattle.hand_commands.proofs.Endings.{IsBlind, turned_behind, turned_down, cut_off, told_map, told_both}
use Rattle.host_commands.proofs.Mounted.{BeginsSettling, no_counts, no_outcome, locked_is, unlocked_refused_is, writable_begins, table_lost}
use Rattle.qic_base.proofs.Steps.{tells_two}
use Rattle.qic_base.specs.Sink as sinks
use Rattle.qic_base.specs.Tape as tapes
use Rattle.qic_base.specs.TapeCalls as tape_calls
use Rattle.cartridge_spec.specs.Mounting as mounting
use Rattle.command_spec.specs.declared.words.Words.TheVariants as words
use Rattle.qic_base.specs.declared.store_fault.StoreFault.TheVariants as fault
use Rattle.command_spec.specs.declared.status.Status.TheVariants as status

-- the outcome of these acts
abbrev mended : List Act → CommandOutcome
mended acts = record { acts = acts; taken = 0; status = status.Done }

-- such a text is printed
abbrev ScrubShown : Depth → (words : List ℕ) → List Entry → (text : List ℕ) → Type 0
ScrubShown depth words entries text = (counts : Counts) × IsTextFor depth (looked_at words entries) counts text

found_by_scrub : (why : Status) → is_opening why ≡ true → may_come_from why words.Scrub ≡ true
found_by_scrub status.NoCartridge sound = refl
found_by_scrub status.NotFormatted sound = refl
found_by_scrub (status.Foreign field value) sound = sound
found_by_scrub (status.Lost segment lost) sound = table_lost segment lost false sound
found_by_scrub status.TableMismatch sound = refl
found_by_scrub why sound = cc

found_by_deep : (why : Status) → is_opening why ≡ true → may_come_from why words.ScrubDeep ≡ true
found_by_deep status.NoCartridge sound = refl
found_by_deep status.NotFormatted sound = refl
found_by_deep (status.Foreign field value) sound = sound
found_by_deep (status.Lost segment lost) sound = table_lost segment lost false sound
found_by_deep status.TableMismatch sound = refl
found_by_deep why sound = cc

-- What both forms have in common: a command that opens a cartridge that isn't protected, settles it, and does the acts of a scrub in
-- this form on it.
pub record IsForm (command : Words) (depth : Depth) : Type 0 where
  yields : (held : Option Cartridge) (input : List ℕ) (outcome : CommandOutcome) → WritableOutcome (ScrubsBy depth) held outcome →
      Yields command held input outcome
  opens : (held : Option Cartridge) (input : List ℕ) (outcome : CommandOutcome) → Yields command held input outcome →
      WritableOutcome (ScrubsBy depth) held outcome
  blind : IsBlind command
  appends : (traits_of command).appends ≡ false
  prints : (traits_of command).goes ≡ true
  locked : may_come_from status.Protected command ≡ true
  done : may_come_from status.Done command ≡ true
  found : (why : Status) → is_opening why ≡ true → may_come_from why command ≡ true
  shows : (words : List ℕ) (entries : List Entry) (text : List ℕ) → ScrubShown depth words entries text → CommandPrints command text
  fronts : (words : List ℕ) (entries : List Entry) (text rest : List ℕ) → ScrubShown depth words entries (text ++ rest) →
      FrontPrints command text

pub scrub_form : IsForm words.Scrub Shallow
scrub_form = record {
  yields = λ held input outcome opened. opened;
  opens = λ held input outcome plain. plain;
  blind = record { reads = refl };
  appends = refl;
  prints = refl;
  locked = refl;
  done = refl;
  found = found_by_scrub;
  shows = λ words entries text shown. (words, (entries, shown));
  fronts = λ words entries text rest shown. (rest, (words, (entries, shown)));
}

pub deep_form : IsForm words.ScrubDeep Deep
deep_form = record {
  yields = λ held input outcome opened. opened;
  opens = λ held input outcome plain. plain;
  blind = record { reads = refl };
  appends = refl;
  prints = refl;
  locked = refl;
  done = refl;
  found = found_by_deep;
  shows = λ words entries text shown. (words, (entries, shown));
  fronts = λ words entries text rest shown. (rest, (words, (entries, shown)));
}

begins : (depth : Depth) → BeginsSettling (ScrubsBy depth)
begins depth c header words table entries outcome on = ap (λ (o : CommandOutcome). first_steps o) on.is

module _ (command : Words) (depth : Depth) (form : IsForm command depth) where
  pub refused_form : {T K : Type 0} (t : tapes.Meaning T) (k : sinks.Meaning K) (a : T) (b : UnitView T) (x : K) (why : Status) →
      ((z : K) → k.took z [] z) →
      WritableEnds t a b (Err why) → EndsBlind t k command a b.tape x x why
  refused_form t k a b x why nothing (inl locked) =
      rw locked.answered (turned_down t k command form.blind a b.tape x status.Protected nothing form.locked refl (λ is. cc)
      (told_map (t.told a) _ _ locked.told (λ held is input. form.yields held input _ (locked_is (ScrubsBy depth) held is))) locked.did)
  refused_form t k a b x why nothing (inr (inl (free, turned))) =
      turned_down t k command form.blind a b.tape x why nothing (form.found why turned.sound)
      (no_counts why turned.sound) (no_outcome why turned.sound)
      (told_map (t.told a) _ _ (told_both (t.told a) _ _ free turned.told)
      (λ held is input. form.yields held input _ (unlocked_refused_is (ScrubsBy depth) why held is.0 is.1))) turned.did
  refused_form t k a b x why nothing (inr (inr (is, cut))) =
      rw is (cut_off t k command form.blind a b.tape x cut.steps nothing
      (told_map (t.told a) _ _ cut.front
      (λ held front outcome rules. writable_begins (ScrubsBy depth) (begins depth) cut.steps held front outcome
      (form.opens held [] outcome (rules [])))) cut.broke)

  module _ {T K : Type 0} (t : tapes.Meaning T) (k : sinks.Meaning K) (a : T) (b : UnitView T) (store : StoreView)
      (opening : HasOpened t a b store) where
    -- a protected one is none that is told
    locked_form : (x : K) → ((z : K) → k.took z [] z) → IsUnlocked t a → is_protected b.drive.deck ≡ true →
        EndsBlind t k command a b.tape x x status.Protected
    locked_form x nothing free locked =
        turned_behind t k command form.blind a b.tape x status.Protected opening.steps nothing form.locked refl (λ is. cc)
        (told_map (t.told a) _ _ (told_both (t.told a) _ _ free (found_locked t a b store opening locked))
        (λ held is. absurd (never_both held is.0 is.1))) opening.did

    -- what was learnt of the cartridge, beside what is told of its scrubbing
    abbrev Beside : (Cartridge → Type 0) → Cartridge → Type 0
    Beside P d = IsKnown d store false × P d

    beside : (P : Cartridge → Type 0) → is_protected b.drive.deck ≡ false → tape_calls.Tells t b.tape P →
        tape_calls.Tells t b.tape (Beside P)
    beside P free told = tells_two t b.tape (λ d. IsKnown d store false) P (Beside P) (λ d known is. (known, is))
        (opened_known t a b store opening false free) told

    -- it was scrubbed
    done_form : (c : T) (x y : K) (acts : List Act) → TakesBoth k → ((z : K) → k.took z [] z) → is_protected b.drive.deck ≡ false →
        Went t no_source k (around b.tape x) (around c y) acts →
        tape_calls.Tells t b.tape (λ d. ScrubsAs depth d store.words store.entries acts) →
        ScrubShown depth store.words store.entries (text_of acts) → EndsBlind t k command a c x y status.Done
    done_form c x y acts both nothing free went told text =
        let P : Cartridge → Type 0 = λ d. ScrubsAs depth d store.words store.entries acts in
        inl (record {
          outcome = mended (quiet opening.steps ∷ acts);
          answered = refl;
          told = settled_told t a b store opening (Beside P) _ (beside P free told)
              (λ d is known. (
                [],
                tt,
                (
                  λ no. let none = form.appends in absurd (cc),
                  form.yields (Some d) [] _ (inr (
                    (known_before d store false opening.steps is known.0).protected,
                    (
                      mounting.Mounted store.header store.words is.table store.entries,
                      is.mounts,
                      record { acts = acts; scrubs = known.1; is = ap (λ (ss : List TapeStep). mended (quiet ss ∷ acts)) is.settles },
                    ),
                  )),
                ),
              ));
          went = went_behind t no_source k both nothing a b.tape tt x (around c y) opening.steps acts opening.did went;
          left = refl;
          sound = form.done;
          none_taken = λ blind. refl;
          prints = ((λ done. form.shows store.words store.entries (text_of acts) text), (λ other. absurd (other refl)));
          silent = λ still. let loud = form.prints in absurd (cc);
          fault = tt;
        })

    -- over a mounted cartridge the acts of the outcome were cut off
    mounted_cut : (c : T) (x y : K) (failing : Failing) → TakesBoth k → ((z : K) → k.took z [] z) → (d : Cartridge) →
        (is : IsOpened d store opening.steps) → d.info.protected ≡ false →
        ((acts : List Act) → ScrubsAs depth (settled is.table d) store.words store.entries acts → Cut t no_source k (around b.tape x)
        (around c y) acts failing) →
        (outcome : CommandOutcome) → WritableOutcome (ScrubsBy depth) (Some d) outcome →
        IsCutOff t no_source k command (Some d) [] (around a x) (around c y) failing outcome
    mounted_cut c x y failing both nothing d is free each outcome (inl locked) = let p = locked.0 in absurd (cc)
    mounted_cut c x y failing both nothing d is free each outcome (inr (unlocked, (m, mounts, opened))) =
        let same : m ≡ mounting.Mounted store.header store.words is.table store.entries = mounts_is_function d m _ mounts is.mounts in
        by_acts (subst (λ (n : Mounting). Opened (ScrubsBy depth) d n outcome) same opened)
      where
        by_acts : ScrubsBy depth d store.header store.words is.table store.entries outcome →
            IsCutOff t no_source k command (Some d) [] (around a x) (around c y) failing outcome
        by_acts on =
            let acts : List Act = on.acts in
            let cut : Cut t no_source k (around a x) (around c y) (quiet opening.steps ∷ acts) failing =
            cut_behind t no_source k both nothing a b.tape tt x (around c y) opening.steps acts failing opening.did (each acts on.scrubs) in
            let all : List Act = quiet opening.steps ∷ acts in
            let off : IsCutOff t no_source k command (Some d) [] (around a x) (around c y) failing (mended all) = record {
              cut = cut;
              taken = 0;
              left = refl;
              reaches = none_reached command (Some d) [] (mended all) (acts_before t no_source k (around a x) (around c y) all failing cut);
              done = λ sink still. let loud = form.prints in absurd (cc);
              silent = λ still. let loud = form.prints in absurd (cc);
            } in
            subst (IsCutOff t no_source k command (Some d) [] (around a x) (around c y) failing)
            (ap (λ (ss : List TapeStep). mended (quiet ss ∷ acts)) is.settles ∙ sym on.is) off

    -- a fault cut that off, over any tape in such acts
    cut_form : (c : T) (x y : K) (failing : Failing) (acts : List Act) (rest : List ℕ) → failing ≢ SourceFails → TakesBoth k →
        ((z : K) → k.took z [] z) →
        is_protected b.drive.deck ≡ false →
        tape_calls.Tells t b.tape (λ d. (acts : List Act) → ScrubsAs depth d store.words store.entries acts →
        Cut t no_source k (around b.tape x) (around c y) acts failing) →
        Cut t no_source k (around b.tape x) (around c y) acts failing → ScrubShown depth store.words store.entries (text_of acts ++ rest) →
        EndsBlind t k command a c x y (fault_of failing)
    cut_form c x y failing acts rest other both nothing free told cut text =
        let P : Cartridge → Type 0 = λ d. (acts : List Act) → ScrubsAs depth d store.words store.entries acts →
        Cut t no_source k (around b.tape x) (around c y) acts failing in
        inr (
          failing,
          refl,
          record {
            told = settled_told t a b store opening (Beside P) _ (beside P free told)
                (λ d is each. (
                  [],
                  tt,
                  (
                    λ no. let none = form.appends in absurd (cc),
                    λ outcome plain.
                        mounted_cut c x y failing both nothing d is (known_before d store false opening.steps is each.0).protected each.1
                        outcome
                        (form.opens (Some d) [] outcome plain),
                  ),
                ));
            acts = quiet opening.steps ∷ acts;
            cut = cut_behind t no_source k both nothing a b.tape tt x (around c y) opening.steps acts failing opening.did cut;
            front = form.fronts store.words store.entries (text_of acts) rest text;
            silent = λ still. let loud = form.prints in absurd (cc);
            reads = λ same. absurd (other same);
            source_tells = refl;
          },
        )

    -- a protected cartridge was found
    held_form : (c : T) (x y : K) → ((z : K) → k.took z [] z) → IsUnlocked t a → is_protected b.drive.deck ≡ true → (c ≡ b.tape) × (y ≡ x) →
        EndsBlind t k command a c x y status.Protected
    held_form c x y nothing free locked same =
        subst (λ (z : K). EndsBlind t k command a c x z status.Protected) (sym same.1)
        (subst (λ (w : T). EndsBlind t k command a w x x status.Protected) (sym same.0) (locked_form x nothing free locked))

    -- by the answer of the call
    pub scrubbed : (c : T) (x y : K) (report : ScrubReport) → TakesBoth k → ((z : K) → k.took z [] z) → is_protected b.drive.deck ≡ false →
        HasScrubbed t k depth store.words store.entries (around b.tape x) (around c y) report → EndsBlind t k command a c x y status.Done
    scrubbed c x y report both nothing free did =
        let P : Cartridge → Type 0 = λ d. (scrubs : ScrubsAs depth d store.words store.entries did.acts)
        × (reported report ≡ counts_for d (looked_at store.words store.entries) scrubs.findings) in
        done_form c x y did.acts both nothing free did.went
        (tells_two t b.tape P P (λ d. ScrubsAs depth d store.words store.entries did.acts) (λ d is again. is.0) did.told did.told)
        (reported report, did.text)

    scrub_cut : (c : T) (x y : K) (failing : Failing) → failing ≢ SourceFails → TakesBoth k → ((z : K) → k.took z [] z) →
        is_protected b.drive.deck ≡ false →
        ScrubCut t k depth store.words store.entries (around b.tape x) (around c y) failing →
        EndsBlind t k command a c x y (fault_of failing)
    scrub_cut c x y failing other both nothing free cut =
        cut_form c x y failing cut.acts cut.front.0 other both nothing free cut.told cut.cut (cut.counts, cut.front.1)

    pub scrub_failed : (c : T) (x y : K) (f : StoreFault) → TakesBoth k → ((z : K) → k.took z [] z) → IsUnlocked t a →
        (f ≡ fault.Protected) ↔ (is_protected b.drive.deck ≡ true) →
        MendEnds t k depth store (around b.tape x) (around c y) (Err f) → EndsBlind t k command a c x y (store_status f)
    scrub_failed c x y fault.Protected both nothing free mark same = held_form c x y nothing free (mark.0 refl) same
    scrub_failed c x y fault.Sink both nothing free mark cut = scrub_cut c x y SinkFails (λ same. cc) both nothing
        (unlocked b fault.Sink mark (λ same. cc)) cut
    scrub_failed c x y fault.Tape both nothing free mark cut = scrub_cut c x y TapeFails (λ same. cc) both nothing
        (unlocked b fault.Tape mark (λ same. cc)) cut
    scrub_failed c x y f both nothing free mark never = absurd never
