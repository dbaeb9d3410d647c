-- How the restoring of a volume ends.
use Rattle.std.proofs.Common.{◌≡◌, ◌≢◌, ℕ, false, List, [], ◌∷◌, length, true, Some, None, Ok, Err, refl, sym, ap, ◌∙◌, subst, inl, inr}
use Rattle.std.proofs.Common.{arith}
use Rattle.command_laws.proofs.RestoreBehind.{piece_between}
use Rattle.cartridge_laws.specs.Table.{IsSoundList}
use Rattle.std.specs.Prelude.{◌==◌, ◌&&◌, nat_lt, zero, suc, ◌||◌, nat_le, ◌≤◌, ◌<◌, ◌*◌, ◌-◌}
use Rattle.std.proofs.lemmas.Bool.{lt-ltb, eq-eqb, le-leb, or_right}
use Rattle.std.proofs.lemmas.Option.{slice_get_cases, slice_get_within, none-some}
use Rattle.command_laws.proofs.CommandNumbers.{of_volume, too_many}
use Rattle.command_laws.proofs.StoreTaking.{both_true}
use Rattle.command_laws.specs.RestoreTerms.{EndsAt}
use Rattle.command_laws.specs.Outcomes.{RestoreOutcome}
use Rattle.command_laws.specs.CommandFields.{RefusedPrints}
use Rattle.command_laws.specs.RunTerms.{EndsBlind}
use Rattle.command_spec.specs.Restore.{Piece, GivingEnd, Restored, LostIn, MismatchIn, Restores, pieces, volume_at, Gives, ending_status}
use Rattle.qic_base.specs.Cartridge.{Cartridge}
use Rattle.qic_base.specs.Step.{Step as TapeStep}
use Rattle.qic_base.proofs.Writing.{TakesBoth}
use Rattle.qic_base.specs.Acts.{Act, text_of, Failing, TapeFails, SourceFails, SinkFails, Cut}
use Rattle.qic_base.specs.Alone.{no_source, around}
use Rattle.cartridge_spec.specs.Mounting.{Mounting}
use Rattle.cartridge_spec.specs.Table.{Entry}
use Rattle.drive_states.specs.Unit.{UnitView}
use Rattle.host_driver.specs.Fits.{segments_of}
use Rattle.qic_base.specs.declared.TheConstants.{LONGEST}
use Rattle.volume_store.proofs.Storing.{length_learnt}
use Rattle.cartridge_laws.proofs.MountOnce.{mounts_is_function}
use Rattle.volume_output.specs.Output.{GaveVolume, VolumeCut}
use Rattle.volume_store.specs.Mounting.{StoreView, IsOpened}
use Rattle.volume_store.specs.Restoring.{RestoreEnds}
use Rattle.command_spec.specs.declared.status.Status.{Status}
use Rattle.command_spec.specs.Outcome.{Opened, CommandOutcome, refused_behind}
use Rattle.volume_store.specs.Opening.{HasOpened}
use Rattle.command_spec.specs.Commands.{command_of}
use Rattle.command_spec.specs.Machine.{IsCutOff, fault_of, may_come_from}
use Rattle.command_spec.specs.Numbers.{are_too_many, is_of_volume, is_volume_count}
use Rattle.command_laws.proofs.CommandOpened.{quiet}
use Rattle.volume_store.proofs.Opened.{went_behind, cut_behind, settled_told}
use Rattle.qic_base.specs.declared.store_fault.StoreFault.{StoreFault}
use Rattle.host_commands.specs.Opening.{OpeningEnds, is_opening}
use Rattle.host_commands.specs.Statuses.{store_status}
use Rattle.hand_commands.specs.Outcome.{first_steps}
use Rattle.hand_commands.proofs.Endings.{none_taken, turned_behind, told_map}
use Rattle.host_commands.proofs.Mounted.{Follows, BeginsSettling, opened_is, refuses, table_lost}
use Rattle.cartridge_laws.proofs.OneLossAppend.{or_second}
use Rattle.qic_base.specs.Sink as sinks
use Rattle.qic_base.specs.Tape as tapes
use Rattle.cartridge_spec.specs.Mounting as mounting
use Rattle.command_spec.specs.declared.words.Words.TheVariants as words
use Rattle.qic_base.specs.declared.store_fault.StoreFault.TheVariants as fault
use Rattle.command_spec.specs.declared.status.Status.TheVariants as status

-- a restore begins with the settling
gives_first : (number : ℕ) → BeginsSettling (Gives number)
gives_first number c header ws table entries outcome (inl none) = ap (λ (o : CommandOutcome). first_steps o) none.1
gives_first number c header ws table entries outcome (inr found) = ap (λ (o : CommandOutcome). first_steps o) found.is

-- there is no volume of the number
none_sound : (entries : List Entry) (number : ℕ) → length entries ≤ 232 → volume_at entries number ≡ None →
    (command_of (words.Restore number)).is_no_volume number (length entries) ≡ true
none_sound entries zero few none = both_true (is_volume_count (length entries)) true (le-leb (length entries) 232 few) refl
none_sound entries (suc n) few none =
    elim (slice_get_cases entries n).1 [
      | inl there ↦ absurd (none-some there.0 (sym none ∙ there.2))
      | inr past ↦
          both_true (suc n == suc n) (is_volume_count (length entries) && (suc n == 0 || nat_lt (length entries) (suc n)))
          (eq-eqb (suc n) (suc n) refl)
          (both_true (is_volume_count (length entries)) (suc n == 0 || nat_lt (length entries) (suc n)) (le-leb (length entries) 232 few)
          (or_second (suc n == 0) (nat_lt (length entries) (suc n)) (lt-ltb (length entries) (suc n) (omega (arith, past.0)))))
    ]

-- there is one, so it has a number that there can be
there_sound : (entries : List Entry) (number : ℕ) (e : Entry) → length entries ≤ 232 → volume_at entries number ≡ Some e →
    (command_of (words.Restore number)).can_be ≡ true
there_sound entries zero e few there = absurd (cc)
there_sound entries (suc n) e few there =
    let below : n < length entries = slice_get_within entries n e there in
    both_true (nat_le 1 (suc n)) (is_volume_count (suc n)) (le-leb 1 (suc n) (omega arith)) (le-leb (suc n) 232 (omega arith))

found_by_restore : (number : ℕ) (why : Status) → is_opening why ≡ true → may_come_from why (words.Restore number) ≡ true
found_by_restore number status.NoCartridge sound = refl
found_by_restore number status.NotFormatted sound = refl
found_by_restore number (status.Foreign field value) sound = sound
found_by_restore number (status.Lost segment lost) sound = table_lost segment lost (is_of_volume segment) sound
found_by_restore number status.TableMismatch sound = refl
found_by_restore number why sound = cc

restore_follows : (number : ℕ) → Follows (words.Restore number) (Gives number)
restore_follows number = record {
  blind = record { reads = refl };
  rules = λ held outcome plain input. plain;
  plain = λ held outcome rules. rules [];
  first = gives_first number;
  found = found_by_restore number;
}

pub restore_refused : {T K : Type 0} (t : tapes.Meaning T) (k : sinks.Meaning K) (number : ℕ) (a : T) (b : UnitView T) (x : K)
    (why : Status) → ((z : K) → k.took z [] z) →
    OpeningEnds t a b (Err why) → EndsBlind t k (words.Restore number) a b.tape x x why
restore_refused t k number a b x why nothing ends = refuses t k (words.Restore number) (Gives number) a b x why
    (restore_follows number) nothing ends

-- a segment that ends a restore is one of the volume's
ending_sound : (number : ℕ) (ws : List ℕ) (last : ℕ) (entries : List Entry) (e : Entry) (done : ℕ) (ending : GivingEnd) →
    length entries ≤ 232 → last < 28 * LONGEST → IsSoundList last entries → volume_at entries number ≡ Some e →
    EndsAt (pieces ws e) done ending → may_come_from (ending_status ending) (words.Restore number) ≡ true
ending_sound number ws last entries e done Restored few most order there at = there_sound entries number e few there
ending_sound number ws last entries e done (LostIn segment lost) few most order there at =
    let between = piece_between ws last entries number e done segment order there at.1 in
    both_true (are_too_many lost) (segment == 2 || is_of_volume segment) (too_many lost at.0)
    (or_right (segment == 2) (is_of_volume segment) (of_volume segment between.0 (omega (arith, between.1))))
ending_sound number ws last entries e done (MismatchIn segment) few most order there at =
    let between = piece_between ws last entries number e done segment order there at in
    of_volume segment between.0 (omega (arith, between.1))

-- some of the bytes, where a segment doesn't read
refused_prints : (number : ℕ) (ending : GivingEnd) (text : List ℕ) → ending_status ending ≢ status.Done →
    RefusedPrints (words.Restore number) (ending_status ending) text
refused_prints number Restored text other = absurd (other refl)
refused_prints number (LostIn segment lost) text other = tt
refused_prints number (MismatchIn segment) text other = tt

-- the outcome of these acts
abbrev given : List Act → Status → CommandOutcome
given acts answer = record { acts = acts; taken = 0; status = answer }

module _ {T K : Type 0} (t : tapes.Meaning T) (k : sinks.Meaning K) (number : ℕ) (a : T) (b : UnitView T) (store : StoreView)
    (opening : HasOpened t a b store) (few : length store.entries ≤ 232) where
  abbrev needed : Entry → List Piece
  needed e = pieces store.words e

  last_there : 28 * segments_of store.host - 1 < 28 * LONGEST
  last_there =
      let long = length_learnt t store.host b opening.fits.host in
      let least = long.shortest in
      let most = long.longest in
      omega arith

  -- there is no such volume
  pub none_given : (x : K) → ((z : K) → k.took z [] z) → volume_at store.entries number ≡ None →
      EndsBlind t k (words.Restore number) a b.tape x x (status.NoVolume number (length store.entries))
  none_given x nothing none =
      turned_behind t k (words.Restore number) (restore_follows number).blind a b.tape x
      (status.NoVolume number (length store.entries)) opening.steps nothing (none_sound store.entries number few none) refl (λ is. cc)
      (told_map (t.told a) _ _ opening.told (λ held is input.
      opened_is (Gives number) (refused_behind opening.steps (status.NoVolume number (length store.entries))) store opening.steps held is
      (λ c table there mounts settles. inl
      (none, ap (λ (ss : List TapeStep). refused_behind ss (status.NoVolume number (length store.entries))) settles)))) opening.did

  -- its bytes were given, up to this ending
  pub restored : (c : T) (x y : K) (e : Entry) (ending : GivingEnd) → TakesBoth k → ((z : K) → k.took z [] z) →
      volume_at store.entries number ≡ Some e →
      GaveVolume t k store.words (needed e) false (around b.tape x) (around c y) ending → EndsBlind t k (words.Restore number) a c x y
      (ending_status ending)
  restored c x y e ending both nothing numbered gave =
      let outcome : CommandOutcome = given (quiet opening.steps ∷ gave.acts) (ending_status ending) in
      inl (record {
        outcome = outcome;
        answered = refl;
        told = settled_told t a b store opening (λ d. Restores d store.words (needed e) gave.acts ending) _ gave.told
            (λ d is restores. (
              [],
              tt,
              (
                λ no. absurd (cc),
                (
                  mounting.Mounted store.header store.words is.table store.entries,
                  is.mounts,
                  inr (record {
                    entry = e;
                    numbered = numbered;
                    acts = gave.acts;
                    ending = ending;
                    restores = restores;
                    is = ap (λ (ss : List TapeStep). given (quiet ss ∷ gave.acts) (ending_status ending)) is.settles;
                  }),
                ),
              ),
            ));
        went = went_behind t no_source k both nothing a b.tape tt x (around c y) opening.steps gave.acts opening.did gave.went;
        left = none_taken (ending_status ending) 0;
        sound = ending_sound number store.words _ store.entries e (length gave.acts) ending few last_there opening.fits.list numbered
            gave.ends;
        none_taken = λ blind. refl;
        prints = ((λ done. tt), (λ other. refused_prints number ending (text_of (quiet opening.steps ∷ gave.acts)) other));
        silent = λ still. absurd (cc);
        fault = tt;
      })

  -- over a mounted cartridge the acts of the outcome were cut off
  restoring_cut : (c : T) (x y : K) (e : Entry) (failing : Failing) → TakesBoth k → ((z : K) → k.took z [] z) →
      volume_at store.entries number ≡ Some e → (d : Cartridge) → (is : IsOpened d store opening.steps) →
      ((acts : List Act) (ending : GivingEnd) → Restores (mounting.settled is.table d) store.words (needed e) acts ending →
      Cut t no_source k (around b.tape x) (around c y) acts failing) →
      (outcome : CommandOutcome) → RestoreOutcome number (Some d) outcome →
      IsCutOff t no_source k (words.Restore number) (Some d) [] (around a x) (around c y) failing outcome
  restoring_cut c x y e failing both nothing numbered d is each outcome (m, mounts, does) =
      let same : m ≡ mounting.Mounted store.header store.words is.table store.entries = mounts_is_function d m _ mounts is.mounts in
      by_volume (subst (λ (n : Mounting). Opened (Gives number) d n outcome) same does)
    where
      by_volume : Gives number d store.header store.words is.table store.entries outcome →
          IsCutOff t no_source k (words.Restore number) (Some d) [] (around a x) (around c y) failing outcome
      by_volume (inl none) = let p = none.0 in absurd (cc)
      by_volume (inr found) =
          let p = found.numbered in
          let entry : found.entry ≡ e = cc in
          let acts : List Act = found.acts in
          let restores : Restores (mounting.settled is.table d) store.words (needed e) acts found.ending =
          subst (λ (f : Entry). Restores (mounting.settled is.table d) store.words (needed f) acts found.ending) entry found.restores in
          let cut : Cut t no_source k (around a x) (around c y) (quiet opening.steps ∷ acts) failing =
          cut_behind t no_source k both nothing a b.tape tt x (around c y) opening.steps acts failing opening.did
          (each acts found.ending restores) in
          let off : IsCutOff t no_source k (words.Restore number) (Some d) [] (around a x) (around c y) failing
          (given (quiet opening.steps ∷ acts) (ending_status found.ending)) = record {
            cut = cut;
            taken = 0;
            left = refl;
            reaches = omega arith;
            done = λ sink still. absurd (cc);
            silent = λ still. absurd (cc);
          } in
          subst (IsCutOff t no_source k (words.Restore number) (Some d) [] (around a x) (around c y) failing)
          (ap (λ (ss : List TapeStep). given (quiet ss ∷ acts) (ending_status found.ending)) is.settles ∙ sym found.is) off

  -- a fault cut that off
  pub restore_cut : (c : T) (x y : K) (e : Entry) (failing : Failing) → failing ≢ SourceFails → TakesBoth k → ((z : K) → k.took z [] z) →
      volume_at store.entries number ≡ Some e →
      VolumeCut t k store.words (needed e) false (around b.tape x) (around c y) failing → EndsBlind t k (words.Restore number) a c x y
      (fault_of failing)
  restore_cut c x y e failing other both nothing numbered cut = inr (
    failing,
    refl,
    record {
      told = settled_told t a b store opening
          (λ d. (acts : List Act) (ending : GivingEnd) → Restores d store.words (needed e) acts ending → Cut t no_source k (around b.tape x)
          (around c y) acts failing) _ cut.told
          (λ d is each. (
            [],
            tt,
            (λ no. absurd (cc), λ outcome plain. restoring_cut c x y e failing both nothing numbered d is each outcome plain),
          ));
      acts = quiet opening.steps ∷ cut.acts;
      cut = cut_behind t no_source k both nothing a b.tape tt x (around c y) opening.steps cut.acts failing opening.did cut.cut;
      front = ([], tt);
      silent = λ still. absurd (cc);
      reads = λ same. absurd (other same);
      source_tells = refl;
    },
  )

  -- by the answer of the call
  pub restore_done : (c : T) (x y : K) (bytes : ℕ) → TakesBoth k → ((z : K) → k.took z [] z) →
      RestoreEnds t k store number false (around b.tape x) (around c y) (Ok bytes) →
      EndsBlind t k (words.Restore number) a c x y status.Done
  restore_done c x y bytes both nothing (e, numbered, gave) = restored c x y e Restored both nothing numbered gave.1

  pub restore_failed : (c : T) (x y : K) (f : StoreFault) → TakesBoth k → ((z : K) → k.took z [] z) →
      RestoreEnds t k store number false (around b.tape x) (around c y) (Err f) →
      EndsBlind t k (words.Restore number) a c x y (store_status f)
  restore_failed c x y (fault.NoVolume asked count) both nothing none =
      subst (λ (why : Status). EndsBlind t k (words.Restore number) a c x y why)
      (ap (λ (n : ℕ). status.NoVolume n (length store.entries)) (sym none.named) ∙ ap (λ (n : ℕ). status.NoVolume asked n)
      (sym none.counted))
      (subst (λ (z : K). EndsBlind t k (words.Restore number) a c x z (status.NoVolume number (length store.entries))) (sym none.sink)
      (subst (λ (w : T). EndsBlind t k (words.Restore number) a w x x (status.NoVolume number (length store.entries))) (sym none.tape)
      (none_given x nothing none.none)))
  restore_failed c x y (fault.Lost segment lost) both nothing (e, numbered, gave) =
      restored c x y e (LostIn segment lost) both nothing numbered gave
  restore_failed c x y (fault.Mismatch segment) both nothing (e, numbered, gave) =
      restored c x y e (MismatchIn segment) both nothing numbered gave
  restore_failed c x y fault.Sink both nothing (e, numbered, cut) = restore_cut c x y e SinkFails (λ same. cc) both nothing numbered cut
  restore_failed c x y fault.Tape both nothing (e, numbered, cut) = restore_cut c x y e TapeFails (λ same. cc) both nothing numbered cut
  restore_failed c x y f both nothing never = absurd never
