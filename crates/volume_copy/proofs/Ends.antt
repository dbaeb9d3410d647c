-- What a copy comes to where both tapes tell: the plain machine's outcome, carried out or cut off.
use Rattle.std.proofs.Common.{◌≡◌, ℕ, Bool, true, false, List, [], ◌∷◌, All, Option, Some, None, IfSome, IsSomeAnd, refl, ap, sym, subst}
use Rattle.std.proofs.Common.{◌∙◌, arith, inl, inr, append-nil}
use Rattle.cartridge_laws.proofs.MountWhole.{table_is_area}
use Rattle.cartridge_spec.specs.Mounting.{settled}
use Rattle.command_laws.proofs.CommandEnds.{over_at, told_whole}
use Rattle.command_laws.proofs.CommandOpened.{quiet}
use Rattle.command_laws.proofs.CopyOutcomes.{IsTarget, copies_something}
use Rattle.command_laws.proofs.CopyValues.{HasValues, shown_values}
use Rattle.command_laws.proofs.MountedListed.{mounted_listed}
use Rattle.cartridge_laws.proofs.MountSettled.{settled_keeps_table, locked_steps}
use Rattle.command_spec.specs.CopyPromises.{CopyEnds, CopyWent, Decks, FromCut, IsUnasked, PrintingCut, ToCut}
use Rattle.command_spec.specs.Copying.{Compares, Copies, CopyOutcome, CopyYields, Side, ToDoes, ToMounted, copy_refused, missing}
use Rattle.command_spec.specs.declared.copy_status.CopyStatus.{CopyStatus}
use Rattle.drive_spec.specs.Terms.{is_protected}
use Rattle.drive_states.specs.Unit.{UnitView}
use Rattle.host_driver.specs.Fits.{deck_of}
use Rattle.qic_base.proofs.Steps.{Broke-before_reads, Broke-front, Broke-told, Done-before_reads, Done-nothing}
use Rattle.qic_base.proofs.Writing.{TakesBoth}
use Rattle.qic_base.specs.Acts.{Act, Outside, SinkFails, TapeCut, TapeFails, Went}
use Rattle.qic_base.specs.Alone.{around, no_source}
use Rattle.qic_base.specs.CartridgeTerms.{IsCartridge}
use Rattle.qic_base.specs.Cartridge.{Cartridge}
use Rattle.qic_base.specs.Step.{Step as TapeStep}
use Rattle.qic_base.specs.declared.tape.TapeInfo.{TapeInfo}
use Rattle.volume_store.proofs.Opened.{cut_behind, opening_cut, went_behind}
use Rattle.volume_store.specs.Opening.{HasOpened, OpenFails}
use Rattle.volume_copy.proofs.Appended.{side_over}
use Rattle.volume_copy.proofs.Carried.{Carried, Reached, carried, seen}
use Rattle.volume_copy.proofs.Goes.{ReadsFor, missing_goes}
use Rattle.volume_copy.proofs.Openings.{OpenedAt, RefusedAs, opened_at, opened_mark, refused_as, settles_first, source_begins}
use Rattle.volume_copy.proofs.Openings.{target_begins}
use Rattle.volume_copy.proofs.Volume.{is_outside}
use Rattle.volume_copy.specs.Runs.{AreOpened, BothRefused, CopyRuns, CopyView, HasRun, IsUnlike, RunEnds, Units, from_status, to_status}
use Rattle.cartridge_front.specs.Learning.{MountRefuses}
use Rattle.volume_store.specs.Mounting.{StoreView}
use Rattle.qic_base.specs.declared.store_fault.StoreFault.{StoreFault}
use Rattle.cartridge_spec.specs.Mounting as mounting
use Rattle.qic_base.specs.declared.store_fault.StoreFault.TheVariants as fault
use Rattle.command_spec.specs.declared.copy_status.CopyStatus.TheVariants as status
use Rattle.qic_base.specs.Sink as sinks
use Rattle.qic_base.specs.Tape as tapes
use Rattle.qic_base.specs.TapeCalls as tape_calls

-- the tapes and the sink of units
abbrev pub decks_of : {A B K : Type 0} → Units A B K → Decks A B K
decks_of units = record { from = units.from.tape; to = units.to.tape; sink = units.sink }

-- the laws of the tapes and the sink, at the start of a copy
pub record AtStart {A B K : Type 0} (a : tapes.Meaning A) (b : tapes.Meaning B) (k : sinks.Meaning K) (old : Decks A B K) : Type 0 where
  pub nothing : (z : K) → k.took z [] z
  pub both : TakesBoth k
  pub from_right : tape_calls.IsToldRight (a.told old.from) (a.size old.from)
  pub to_right : tape_calls.IsToldRight (b.told old.to) (b.size old.to)
  pub from_now : tape_calls.IsLeftNow a old.from
  pub to_now : tape_calls.IsLeftNow b old.to

pub at_start : {A B K : Type 0} {a : tapes.Meaning A} {b : tapes.Meaning B} {k : sinks.Meaning K} {old : Decks A B K} →
    ((z : K) → k.took z [] z) → TakesBoth k →
    tape_calls.IsToldRight (a.told old.from) (a.size old.from) → tape_calls.IsToldRight (b.told old.to) (b.size old.to) →
    tape_calls.IsLeftNow a old.from → tape_calls.IsLeftNow b old.to → AtStart a b k old
at_start nothing both from_right to_right from_now to_now = record {
  nothing = nothing;
  both = both;
  from_right = from_right;
  to_right = to_right;
  from_now = from_now;
  to_now = to_now;
}

module _ {A B K : Type 0} (a : tapes.Meaning A) (b : tapes.Meaning B) (k : sinks.Meaning K) where
  -- ---- an outcome that was carried out

  pub went_ends : (old new : Decks A B K) (answer : CopyStatus) (from to : Option Cartridge) → is_outside answer ≡ false →
      CopyWent a b k old new answer from to → CopyEnds a b k old new answer from to
  went_ends old new (status.From fault.Tape) from to plain went = absurd (cc)
  went_ends old new (status.To fault.Tape) from to plain went = absurd (cc)
  went_ends old new status.SinkFault from to plain went = absurd (cc)
  went_ends old new answer from to plain went = went

  pub from_ends : (old new : Decks A B K) (answer : CopyStatus) (from to : Option Cartridge) → answer ≡ status.From fault.Tape →
      FromCut a b k old new from to → CopyEnds a b k old new answer from to
  from_ends old new answer from to is cut = subst (λ (found : CopyStatus). CopyEnds a b k old new found from to) (sym is) cut

  pub to_ends : (old new : Decks A B K) (answer : CopyStatus) (from to : Option Cartridge) → answer ≡ status.To fault.Tape →
      ToCut a b k old new from to → CopyEnds a b k old new answer from to
  to_ends old new answer from to is cut = subst (λ (found : CopyStatus). CopyEnds a b k old new found from to) (sym is) cut

  pub sink_ends : (old new : Decks A B K) (answer : CopyStatus) (from to : Option Cartridge) → answer ≡ status.SinkFault → PrintingCut a b k
      old new from to → CopyEnds a b k old new answer from to
  sink_ends old new answer from to is cut = subst (λ (found : CopyStatus). CopyEnds a b k old new found from to) (sym is) cut

  -- ---- the target of a run

  nothing_done : (nothing : (z : K) → k.took z [] z) (x y : B) (z w : K) → w ≡ z → tapes.Done b x y [] → Went b no_source k (around x z)
      (around y w) []
  nothing_done nothing x y z w same did = record {
    did = did;
    wrote = subst (λ (v : K). sinks.Wrote k z v []) (sym same) (record { took = nothing z; later = omega arith });
    source_later = omega arith;
  }

  module _ (old new : Units A B K) (laws : AtStart a b k (decks_of old)) (from to : Option Cartridge) (from_told : a.told old.from.tape ≡
      Some from) (to_told : b.told old.to.tape ≡ Some to) where
    from_whole : IfSome from IsCartridge
    from_whole = told_whole from (a.told old.from.tape) (a.size old.from.tape) laws.from_right from_told

    to_whole : IfSome to IsCartridge
    to_whole = told_whole to (b.told old.to.tape) (b.size old.to.tape) laws.to_right to_told

    abbrev Ends : CopyStatus → Type 0
    Ends answer = CopyEnds a b k (decks_of old) (decks_of new) answer from to

    -- some outcome
    some_outcome : (outcome : CopyOutcome) × CopyYields from to outcome
    some_outcome = copies_something from to from_whole to_whole

    -- ---- the source can't be opened

    from_failed : (why : Option StoreFault) → OpenFails a old.from.tape new.from.tape why → new.to ≡ old.to → new.sink ≡ old.sink →
        Ends (from_status why)
    from_failed why fails still quiet_so = by_why why fails
      where
        untouched : Went b no_source k (around old.to.tape old.sink) (around new.to.tape new.sink) []
        untouched =
            nothing_done laws.nothing old.to.tape new.to.tape old.sink new.sink quiet_so
            (subst (λ (u : UnitView B). tapes.Done b old.to.tape u.tape []) (sym still) (Done-nothing b old.to.tape))

        refused : (f : StoreFault) → tapes.Done a old.from.tape new.from.tape [] → IfSome (a.told old.from.tape)
            (λ held. IsSomeAnd held (λ c. MountRefuses c f)) →
            CopyWent a b k (decks_of old) (decks_of new) (status.From f) from to
        refused f did told = by_held from (over_at (a.told old.from.tape) (λ held. IsSomeAnd held (λ c. MountRefuses c f)) from told
            from_told)
          where
            by_held : (held : Option Cartridge) → IsSomeAnd held (λ c. MountRefuses c f) → CopyWent a b k (decks_of old) (decks_of new)
                (status.From f) held to
            by_held None none = absurd none
            by_held (Some c) refuses =
                let how : RefusedAs c f = refused_as c f refuses in record {
                  outcome = copy_refused (status.From f);
                  plain = (how.mounting, how.mounts, how.from to);
                  answered = refl;
                  settling = did;
                  went = untouched;
                }

        by_why : (w : Option StoreFault) → OpenFails a old.from.tape new.from.tape w → Ends (from_status w)
        by_why None absent =
            let none : from ≡ None = over_at (a.told old.from.tape) (λ held. held ≡ None) from absent.1 from_told in record {
              outcome = copy_refused status.FromAbsent;
              plain = subst (λ (held : Option Cartridge). CopyYields held to (copy_refused status.FromAbsent)) (sym none) refl;
              answered = refl;
              settling = absent.0;
              went = untouched;
            }
        by_why (Some fault.Tape) cut =
            let some = some_outcome in
            let front = over_at (a.told old.from.tape) _ from cut.front from_told in
            let begins = source_begins from to cut.steps some.0 front some.1 in record {
              outcome = some.0;
              plain = some.1;
              front = [];
              rest = some.0.acts;
              broke = subst (tapes.Broke a old.from.tape new.from.tape) begins.1 (Broke-front begins.0 cut.broke);
              place = inl refl;
              parts = refl;
              went = untouched;
            }
        by_why (Some fault.NotFormatted) down = refused fault.NotFormatted down.did down.told
        by_why (Some (fault.Foreign field value)) down = refused (fault.Foreign field value) down.did down.told
        by_why (Some (fault.Lost segment lost)) down = refused (fault.Lost segment lost) down.did down.told
        by_why (Some fault.TableMismatch) down = refused fault.TableMismatch down.did down.told
        by_why (Some f) down = absurd (let kind = down.kind in cc)

    -- ---- the source was opened

    module _ (unit : UnitView A) (store : StoreView) (opened : HasOpened a old.from.tape unit store) where
      from_at : OpenedAt a from unit store opened.steps
      from_at = opened_at a old.from.tape unit store from opened from_told

      abbrev source : Side
      source = side_over store (settled from_at.at.table from_at.cartridge)

      -- it is settled, and this is done with the target
      abbrev with_acts : List Act → CopyStatus → CopyOutcome
      with_acts acts answer = record { settling = opened.steps; acts = acts; status = answer }

      yields : (acts : List Act) (answer : CopyStatus) → ToDoes source to acts answer → CopyYields from to (with_acts acts answer)
      yields acts answer does =
          subst (λ (held : Option Cartridge). CopyYields held to (with_acts acts answer)) (sym from_at.is)
          (mounting.Mounted store.header store.words from_at.at.table store.entries, from_at.at.mounts, (from_at.at.settles, does))

      went_with : (acts : List Act) (answer : CopyStatus) → ToDoes source to acts answer → tapes.Done a unit.tape new.from.tape [] →
          Went b no_source k (around old.to.tape old.sink) (around new.to.tape new.sink) acts →
          CopyWent a b k (decks_of old) (decks_of new) answer from to
      went_with acts answer does did went = record {
        outcome = with_acts acts answer;
        plain = yields acts answer does;
        answered = refl;
        settling = Done-before_reads opened.did did;
        went = went;
      }

      -- ---- the target can't be

      to_failed : (why : Option StoreFault) → OpenFails b old.to.tape new.to.tape why → new.from ≡ unit → new.sink ≡ old.sink →
          Ends (to_status why)
      to_failed why fails still quiet_so = by_why why fails
        where
          read_on : tapes.Done a unit.tape new.from.tape []
          read_on = subst (λ (u : UnitView A). tapes.Done a unit.tape u.tape []) (sym still) (Done-nothing a unit.tape)

          refused : (f : StoreFault) → tapes.Done b old.to.tape new.to.tape [] → IfSome (b.told old.to.tape)
              (λ held. IsSomeAnd held (λ c. MountRefuses c f)) →
              CopyWent a b k (decks_of old) (decks_of new) (status.To f) from to
          refused f did told =
              went_with [] (status.To f)
              (by_held to (over_at (b.told old.to.tape) (λ held. IsSomeAnd held (λ c. MountRefuses c f)) to told to_told)) read_on
              (nothing_done laws.nothing old.to.tape new.to.tape old.sink new.sink quiet_so did)
            where
              by_held : (held : Option Cartridge) → IsSomeAnd held (λ c. MountRefuses c f) → ToDoes source held []
                  (status.To f)
              by_held None none = absurd none
              by_held (Some c) refuses = let how : RefusedAs c f = refused_as c f refuses in (
                how.mounting,
                how.mounts,
                how.to source,
              )

          by_why : (w : Option StoreFault) → OpenFails b old.to.tape new.to.tape w → Ends (to_status w)
          by_why None absent =
              let none : to ≡ None = over_at (b.told old.to.tape) (λ held. held ≡ None) to absent.1 to_told in
              went_with [] status.ToAbsent (subst (λ (held : Option Cartridge). ToDoes source held [] status.ToAbsent) (sym none)
              (refl, refl)) read_on
              (nothing_done laws.nothing old.to.tape new.to.tape old.sink new.sink quiet_so absent.0)
          by_why (Some fault.Tape) cut =
              let some = some_outcome in
              let first = settles_first from_at.cartridge store.header store.words from_at.at.table store.entries to some.0
              from_at.at.mounts
              (subst (λ (held : Option Cartridge). CopyYields held to some.0) from_at.is some.1) in
              let front = over_at (b.told old.to.tape) _ to cut.front to_told in
              let begins = target_begins source to cut.steps some.0.acts some.0.status front first.1 in record {
                outcome = some.0;
                plain = some.1;
                settling = subst (tapes.Done a old.from.tape new.from.tape) (from_at.at.settles ∙ sym first.0)
                    (Done-before_reads opened.did read_on);
                cut = subst (λ (w : K). TapeCut b no_source k (around old.to.tape old.sink) (around new.to.tape w) some.0.acts)
                    (sym quiet_so)
                    (opening_cut b no_source k laws.nothing old.to.tape new.to.tape tt old.sink cut.steps some.0.acts begins.0 begins.1
                    cut.broke);
              }
          by_why (Some fault.NotFormatted) down = refused fault.NotFormatted down.did down.told
          by_why (Some (fault.Foreign field value)) down = refused (fault.Foreign field value) down.did down.told
          by_why (Some (fault.Lost segment lost)) down = refused (fault.Lost segment lost) down.did down.told
          by_why (Some fault.TableMismatch) down = refused fault.TableMismatch down.did down.told
          by_why (Some f) down = absurd (let kind = down.kind in cc)

      -- ---- both were

      module _ (to_unit : UnitView B) (to_store : StoreView) (to_opened : HasOpened b old.to.tape to_unit to_store) where
        to_at : OpenedAt b to to_unit to_store to_opened.steps
        to_at = opened_at b old.to.tape to_unit to_store to to_opened to_told

        abbrev target : Side
        target = side_over to_store (settled to_at.at.table to_at.cartridge)

        does_to : (acts : List Act) (answer : CopyStatus) → ToMounted source to_at.cartridge
            (mounting.Mounted to_store.header to_store.words to_at.at.table to_store.entries) acts answer → ToDoes source to acts answer
        does_to acts answer does =
            subst (λ (held : Option Cartridge). ToDoes source held acts answer) (sym to_at.is)
            (mounting.Mounted to_store.header to_store.words to_at.at.table to_store.entries, to_at.at.mounts, does)

        unlike : (answer : CopyStatus) → IsUnlike store to_store answer → new.from ≡ unit → new.to ≡ to_unit → new.sink ≡ old.sink →
            Ends answer
        unlike answer is still to_still quiet_so = by_case is
          where
            read_on : tapes.Done a unit.tape new.from.tape []
            read_on = subst (λ (u : UnitView A). tapes.Done a unit.tape u.tape []) (sym still) (Done-nothing a unit.tape)

            did : tapes.Done b old.to.tape new.to.tape to_opened.steps
            did = subst (λ (u : UnitView B). tapes.Done b old.to.tape u.tape to_opened.steps) (sym to_still) to_opened.did

            mark : (m : Bool) → is_protected (deck_of to_store.host) ≡ m → to_at.cartridge.info.protected ≡ m
            mark m host = opened_mark b old.to.tape to_unit to_store to to_opened to_at m (ap is_protected to_opened.fits.host.deck ∙ host)

            by_case : IsUnlike store to_store answer → Ends answer
            by_case (inl locked) =
                let protected : to_at.cartridge.info.protected ≡ true = mark true locked.0 in
                let none : to_opened.steps ≡ [] = to_at.at.settles ∙ locked_steps to_at.at.table to_at.cartridge protected in
                subst Ends (sym locked.1)
                (went_with [] (status.To fault.Protected) (does_to [] (status.To fault.Protected) (inl (protected, refl, refl))) read_on
                (nothing_done laws.nothing old.to.tape new.to.tape old.sink new.sink quiet_so (subst (tapes.Done b old.to.tape new.to.tape)
                none did)))
            by_case (inr (free, (number, differs, answered))) =
                let compares : Compares source target (Some number) [] (status.Differs number) = (refl, refl) in
                let acts : List Act = quiet to_opened.steps ∷ [] in
                subst Ends (sym answered)
                (went_with acts (status.Differs number)
                (does_to acts (status.Differs number) (inr (
                  mark false free,
                  (
                    [],
                    ap (λ (ss : List TapeStep). quiet ss ∷ []) to_at.at.settles,
                    subst (λ (o : Option ℕ). Compares source target o []
                        (status.Differs number)) (sym differs) compares,
                  ),
                ))) read_on
                (record {
                  did = subst (tapes.Done b old.to.tape new.to.tape) (sym (append-nil to_opened.steps)) did;
                  wrote = subst (λ (v : K). sinks.Wrote k old.sink v []) (sym quiet_so)
                      (record { took = laws.nothing old.sink; later = omega arith });
                  source_later = omega arith;
                }))

        -- ---- and the missing volumes copied

        module _ (like : AreOpened a b old.from.tape unit old.to.tape to_unit store to_store) where
          free_so : to_at.cartridge.info.protected ≡ false
          free_so = opened_mark b old.to.tape to_unit to_store to to_opened to_at false (ap is_protected to_opened.fits.host.deck ∙
              like.free)

          does_copy : (acts : List Act) (answer : CopyStatus) → Copies source (missing source target) target acts answer →
              ToDoes source to (quiet to_opened.steps ∷ acts) answer
          does_copy acts answer does =
              does_to (quiet to_opened.steps ∷ acts) answer (inr (
                free_so,
                (
                  acts,
                  ap (λ (ss : List TapeStep). quiet ss ∷ acts) to_at.at.settles,
                  subst (λ (o : Option ℕ). Compares source target o acts answer) (sym like.like) does,
                ),
              ))

          abbrev middle : Outside B (Unit {0}) K
          middle = around to_unit.tape old.sink

          abbrev last : Outside B (Unit {0}) K
          last = around new.to.tape new.sink

          -- no reading failed, where nothing of the outside did
          plain_reads : (answer : CopyStatus) → is_outside answer ≡ false → ReadsFor a unit.tape new.from.tape answer →
              tapes.Done a unit.tape new.from.tape []
          plain_reads (status.From fault.Tape) plain reads = absurd (cc)
          plain_reads answer plain reads = reads

          run_ends : (answer : CopyStatus) → ReadsFor a unit.tape new.from.tape answer →
              Carried b k source target middle last answer → Ends answer
          run_ends answer reads (inl all) =
              let acts : List Act = quiet to_opened.steps ∷ all.acts in
              went_ends (decks_of old) (decks_of new) answer from to all.plain
              (went_with acts answer (does_copy all.acts answer all.does) (plain_reads answer all.plain reads)
              (went_behind b no_source k laws.both laws.nothing old.to.tape to_unit.tape tt old.sink last to_opened.steps all.acts
              to_opened.did all.went))
          run_ends answer reads (inr (inl broke)) =
              let cut : tapes.Broke a unit.tape new.from.tape [] = subst (ReadsFor a unit.tape new.from.tape) broke.answered reads in
              from_ends (decks_of old) (decks_of new) answer from to broke.answered (record {
                outcome = with_acts (quiet to_opened.steps ∷ broke.acts) broke.ending;
                plain = yields (quiet to_opened.steps ∷ broke.acts) broke.ending (does_copy broke.acts broke.ending broke.does);
                front = quiet to_opened.steps ∷ broke.front;
                rest = broke.rest;
                broke = Broke-before_reads opened.did cut;
                place = inr (Broke-told cut ∙ opened.did.told);
                parts = ap (λ (zs : List Act). quiet to_opened.steps ∷ zs) broke.parts;
                went = went_behind b no_source k laws.both laws.nothing old.to.tape to_unit.tape tt old.sink last to_opened.steps
                    broke.front to_opened.did broke.went;
              })
          run_ends answer reads (inr (inr (inl broke))) =
              let read_on : tapes.Done a unit.tape new.from.tape [] = subst (ReadsFor a unit.tape new.from.tape) broke.answered reads in
              to_ends (decks_of old) (decks_of new) answer from to broke.answered (record {
                outcome = with_acts (quiet to_opened.steps ∷ broke.acts) broke.ending;
                plain = yields (quiet to_opened.steps ∷ broke.acts) broke.ending (does_copy broke.acts broke.ending broke.does);
                settling = Done-before_reads opened.did read_on;
                cut = cut_behind b no_source k laws.both laws.nothing old.to.tape to_unit.tape tt old.sink last to_opened.steps broke.acts
                    TapeFails to_opened.did broke.cut;
              })
          run_ends answer reads (inr (inr (inr broke))) =
              let read_on : tapes.Done a unit.tape new.from.tape [] = subst (ReadsFor a unit.tape new.from.tape) broke.answered reads in
              sink_ends (decks_of old) (decks_of new) answer from to broke.answered (record {
                outcome = with_acts (quiet to_opened.steps ∷ broke.acts) broke.ending;
                plain = yields (quiet to_opened.steps ∷ broke.acts) broke.ending (does_copy broke.acts broke.ending broke.does);
                settling = Done-before_reads opened.did read_on;
                cut = cut_behind b no_source k laws.both laws.nothing old.to.tape to_unit.tape tt old.sink last to_opened.steps broke.acts
                    SinkFails to_opened.did broke.cut;
              })

          -- the volumes that it lists can be appended, and the target takes them
          values : All HasValues store.entries
          values =
              let whole : IsCartridge from_at.cartridge = subst (λ (held : Option Cartridge). IfSome held IsCartridge) from_at.is from_whole
              in
              shown_values from_at.at.table store.entries (table_is_area from_at.cartridge from_at.at.table whole from_at.at.mounts.reads)
              from_at.at.mounts.shown

          takes : IsTarget target
          takes =
              let whole : IsCartridge to_at.cartridge = subst (λ (held : Option Cartridge). IfSome held IsCartridge) to_at.is to_whole in
              record {
                listed = mounted_listed to_at.cartridge to_store.header to_store.words to_at.at.table to_store.entries whole
                    to_at.at.mounts;
                unprotected = ap (λ (i : TapeInfo). i.protected) (settled_keeps_table to_at.cartridge to_at.at.table
                    to_at.at.mounts.reads).info ∙ free_so;
              }

    -- ---- a run

    refused_ends : (answer : CopyStatus) → BothRefused a b old.from.tape new.from old.to new.to answer → new.sink ≡ old.sink → Ends answer
    refused_ends answer (inl (why, fails, still, is)) quiet_so = subst Ends (sym is) (from_failed why fails still quiet_so)
    refused_ends answer (inr (inl (source, why, opened, fails, is))) quiet_so = subst Ends (sym is) (to_failed new.from source opened why
        fails refl quiet_so)
    refused_ends answer (inr (inr (source, target, opened, to_opened, unlike_so))) quiet_so =
        unlike new.from source opened new.to target to_opened answer unlike_so refl refl quiet_so

    run_is : (answer : CopyStatus) → HasRun a b k old new answer → Ends answer
    run_is answer run =
        let begun : CopyView A B K = run.begun in
        let ended : CopyView A B K = run.ended in
        let opened : AreOpened a b old.from.tape begun.from.unit old.to.tape begun.to.unit begun.from.store begun.to.store = run.opened in
        let one : OpenedAt a from begun.from.unit begun.from.store opened.opened_source.steps = from_at begun.from.unit begun.from.store
        opened.opened_source in
        let other : OpenedAt b to begun.to.unit begun.to.store opened.opened_target.steps =
        to_at begun.from.unit begun.from.store opened.opened_source begun.to.unit begun.to.store opened.opened_target in
        let from_side : Side = side_over begun.from.store (settled one.at.table one.cartridge) in
        let to_side : Side = side_over begun.to.store (settled other.at.table other.cartridge) in
        let values_so : All HasValues begun.from.store.entries =
        values begun.from.unit begun.from.store opened.opened_source begun.to.unit begun.to.store opened.opened_target opened in
        let start : Reached a b k from_side to_side begun begun = record {
          from_told = one.told;
          from_words = refl;
          from_entries = refl;
          cartridge = settled other.at.table other.cartridge;
          to_told = other.told;
          to_fits = opened.opened_target.fits;
          target = takes begun.from.unit begun.from.store opened.opened_source begun.to.unit begun.to.store opened.opened_target opened;
          acts = [];
          went = nothing_done laws.nothing begun.to.unit.tape begun.to.unit.tape begun.sink begun.sink refl
              (Done-nothing b begun.to.unit.tape);
          behind = λ rest found does. does;
        } in
        let all : Carried b k from_side to_side (seen begun) (seen ended) answer =
        carried a b k laws.both laws.nothing from_side to_side values_so begun ended answer start run.missing in
        let goes = missing_goes a b k laws.both laws.nothing begun ended answer opened.opened_source.fits opened.opened_target.fits
        run.missing in
        run_ends begun.from.unit begun.from.store opened.opened_source begun.to.unit begun.to.store opened.opened_target opened answer
        (subst (λ (units : Units A B K). ReadsFor a begun.from.unit.tape units.from.tape answer) (sym run.left) goes.from)
        (subst (λ (z : K). Carried b k from_side to_side (around begun.to.unit.tape z) (around new.to.tape new.sink) answer) run.sink
        (subst (λ (units : Units A B K). Carried b k from_side to_side (seen begun) (around units.to.tape units.sink) answer) (sym run.left)
        all))

    pub run_ended : (answer : CopyStatus) → RunEnds a b k old new answer → CopyEnds a b k (decks_of old) (decks_of new) answer from to
    run_ended answer (inl (refused, quiet_so)) = refused_ends answer refused quiet_so
    run_ended answer (inr run) = run_is answer run

-- it is no answer that is given unasked
pub runs_end : {A B K : Type 0} (a : tapes.Meaning A) (b : tapes.Meaning B) (k : sinks.Meaning K) (old new : Units A B K)
    (answer : CopyStatus) → CopyRuns a b k old new answer → (IsUnasked answer → ⊥) →
    RunEnds a b k old new answer
runs_end a b k old new status.Usage runs asked = absurd (asked (inl refl))
runs_end a b k old new status.NoMemory runs asked = absurd (asked (inr refl))
runs_end a b k old new answer runs asked = runs
