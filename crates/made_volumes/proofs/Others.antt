-- How the wearing of a sector and a scrub ended, as steps of a run.
use Rattle.std.proofs.Common.{◌≡◌, ◌↔◌, inl, inr, ℕ, true, false, List, [], ◌∷◌, Result, Ok, Err, refl, sym, ◌∙◌, subst, arith}
use Rattle.qic_base.specs.Step.{Wear}
use Rattle.qic_base.proofs.Steps.{Tells-map, Done-nothing, tells_two}
use Rattle.qic_base.specs.Acts.{Act, text_of, Failing, TapeFails, SinkFails, Cut}
use Rattle.qic_base.specs.Alone.{no_source, no_sink, around}
use Rattle.cartridge_spec.specs.Table.{Entry}
use Rattle.drive_spec.specs.Terms.{is_protected}
use Rattle.drive_states.specs.Unit.{UnitView}
use Rattle.command_spec.specs.Scrub.{looked_at, ScrubsAs}
use Rattle.command_laws.specs.ScrubTerms.{counts_for}
use Rattle.segment_io.proofs.Going.{tells_always}
use Rattle.segment_mending.specs.Mending.{reported, ScrubCut}
use Rattle.segment_mending.specs.declared.report.ScrubReport.{ScrubReport}
use Rattle.volume_store.specs.Mounting.{StoreView, StoreFits}
use Rattle.volume_store.specs.Scrubbing.{MendEnds}
use Rattle.command_spec.specs.Make.{WearSector, ScrubAll, Runs}
use Rattle.made_volumes.specs.Runs.{RunEnds, NeverFull}
use Rattle.command_laws.proofs.MadeMachineLaws.{run_of, done_of}
use Rattle.command_laws.proofs.MadeMayLaws.{may_of}
use Rattle.made_volumes.proofs.Appends.{not_marked}
use Rattle.command_spec.specs.declared.status.Status.{Status}
use Rattle.command_spec.specs.declared.depth.Depth.TheVariants.{Shallow}
use Rattle.qic_base.specs.declared.store_fault.StoreFault.{StoreFault}
use Rattle.volume_store.proofs.Fitting.{told_mark}
use Rattle.qic_base.specs.Sink as sinks
use Rattle.qic_base.specs.Tape as tapes
use Rattle.qic_base.specs.TapeCalls as tape_calls
use Rattle.qic_base.specs.declared.store_fault.StoreFault.TheVariants as fault
use Rattle.command_spec.specs.declared.status.Status.TheVariants as status

-- ---- a worn sector

module _ {T : Type 0} (t : tapes.Meaning T) (seed : ℕ) (words : List ℕ) (entries : List Entry) (segment sector : ℕ) (a b : T) where
  abbrev worn : List Act
  worn = record { steps = Wear segment sector ∷ []; text = [] } ∷ []

  pub wear_done : tapes.Done t a b (Wear segment sector ∷ []) →
      RunEnds t no_sink seed words entries (WearSector segment sector ∷ []) (around a tt) (around b tt) (Ok tt)
  wear_done done = record {
    acts = worn;
    went = record { did = done; wrote = record { took = refl; later = omega arith }; source_later = omega arith };
    told = tells_always t a (λ c. Runs seed c words entries (WearSector segment sector ∷ []) worn status.Done)
        (λ c. run_of seed c words entries (WearSector segment sector) worn status.Done (refl, refl));
    may = may_of seed words entries (WearSector segment sector) [] status.Done (refl, refl);
  }

  wear_cut : tapes.Broke t a b (Wear segment sector ∷ []) → Cut t no_source no_sink (around a tt) (around b tt) worn TapeFails
  wear_cut broke = record {
    front = [];
    rest = worn;
    parts = refl;
    broke = broke;
    here = λ held left told now. broke.torn held left told now;
    wrote = record { took = refl; later = omega arith };
    source_later = omega arith;
  }

  pub wear_broke : tapes.Broke t a b (Wear segment sector ∷ []) →
      RunEnds t no_sink seed words entries (WearSector segment sector ∷ []) (around a tt) (around b tt) (Err fault.Tape)
  wear_broke broke = record {
    told = tells_always t a
        (λ c. (acts : List Act) (answer : Status) → Runs seed c words entries (WearSector segment sector ∷ []) acts answer →
        Cut t no_source no_sink (around a tt) (around b tt) acts TapeFails)
        (λ c acts answer runs.
        let does = done_of seed c words entries (WearSector segment sector) acts answer runs in
        subst (λ (zs : List Act). Cut t no_source no_sink (around a tt) (around b tt) zs TapeFails) (sym does.0) (wear_cut broke));
    acts = worn;
    cut = wear_cut broke;
  }

-- ---- a scrub

module _ {T K : Type 0} (t : tapes.Meaning T) (k : sinks.Meaning K) (seed : ℕ) (before : StoreView) (u : UnitView T)
    (fits : StoreFits t before u) (b : T) (x y : K) where
  abbrev words : List ℕ
  words = before.words

  abbrev entries : List Entry
  entries = before.entries

  abbrev a : T
  a = u.tape

  abbrev Ends : Result ScrubReport StoreFault → Type 0
  Ends result = MendEnds t k Shallow before (around a x) (around b y) result

  pub scrub_done : (report : ScrubReport) → is_protected u.drive.deck ≡ false → Ends (Ok report) →
      RunEnds t k seed words entries (ScrubAll ∷ []) (around a x) (around b y) (Ok tt)
  scrub_done report free ends =
      record {
        acts = ends.acts;
        went = ends.went;
        told = tells_two t a (λ c. c.info.protected ≡ false)
            (λ c. (scrubs : ScrubsAs Shallow c words entries ends.acts)
            × (reported report ≡ counts_for c (looked_at words entries) scrubs.findings))
            (λ c. Runs seed c words entries (ScrubAll ∷ []) ends.acts status.Done)
            (λ c unlocked known. run_of seed c words entries ScrubAll ends.acts status.Done (inr (unlocked, (known.0, refl))))
            (told_mark t before u fits false free) ends.told;
        may = may_of seed words entries ScrubAll (text_of ends.acts) status.Done (reported report, ends.text);
      }

  scrub_cut : (failing : Failing) → is_protected u.drive.deck ≡ false → ScrubCut t k Shallow words entries (around a x)
      (around b y) failing →
      tape_calls.Tells t a (λ c. (acts : List Act) (answer : Status) → Runs seed c words entries (ScrubAll ∷ []) acts answer →
      Cut t no_source k (around a x) (around b y) acts failing)
  scrub_cut failing free cut =
      tells_two t a (λ c. c.info.protected ≡ false)
      (λ c. (acts : List Act) → ScrubsAs Shallow c words entries acts → Cut t no_source k (around a x) (around b y) acts failing)
      (λ c. (acts : List Act) (answer : Status) → Runs seed c words entries (ScrubAll ∷ []) acts answer →
      Cut t no_source k (around a x) (around b y) acts failing)
      (λ c unlocked known acts answer runs. elim (done_of seed c words entries ScrubAll acts answer runs) [
        | inl refused ↦ absurd (let same : true ≡ false = sym refused.0 ∙ unlocked in cc)
        | inr done ↦ known acts done.1.0
      ]) (told_mark t before u fits false free) cut.told

  pub scrub_so : ((z : K) → k.took z [] z) → (f : StoreFault) → (f ≡ fault.Protected) ↔ (is_protected u.drive.deck ≡ true) → Ends (Err f) →
      RunEnds t k seed words entries (ScrubAll ∷ []) (around a x) (around b y) (Err f)
  scrub_so none fault.Protected mark ends = untouched ends.0 ends.1
    where
      untouched : b ≡ a → y ≡ x → RunEnds t k seed words entries (ScrubAll ∷ []) (around a x) (around b y) (Err fault.Protected)
      untouched tape sink =
          subst (λ (end : T). RunEnds t k seed words entries (ScrubAll ∷ []) (around a x) (around end y) (Err fault.Protected)) (sym tape)
          (subst (λ (z : K). RunEnds t k seed words entries (ScrubAll ∷ []) (around a x) (around a z) (Err fault.Protected)) (sym sink)
          (record {
            acts = [];
            went = record { did = Done-nothing t a; wrote = record { took = none x; later = omega arith }; source_later = omega arith };
            told = Tells-map t a (λ c. c.info.protected ≡ true) (λ c. Runs seed c words entries (ScrubAll ∷ []) [] status.Protected)
                (λ c locked. run_of seed c words entries ScrubAll [] status.Protected (inl (locked, refl, refl)))
                (told_mark t before u fits true (mark.0 refl));
            may = may_of seed words entries ScrubAll [] status.Protected refl;
          }))
  scrub_so none fault.Sink mark ends =
      let free : is_protected u.drive.deck ≡ false = not_marked (fault.Sink ≡ fault.Protected) (is_protected u.drive.deck) mark.1
      (λ is. cc) in
      record { told = scrub_cut SinkFails free ends; acts = ends.acts; cut = ends.cut }
  scrub_so none fault.Tape mark ends =
      let free : is_protected u.drive.deck ≡ false = not_marked (fault.Tape ≡ fault.Protected) (is_protected u.drive.deck) mark.1
      (λ is. cc) in
      record { told = scrub_cut TapeFails free ends; acts = ends.acts; cut = ends.cut }
  scrub_so none f mark ends = absurd ends

  pub scrub_never_full : (f : StoreFault) → Ends (Err f) → NeverFull (Err f)
  scrub_never_full (fault.Full need have) ends = absurd ends
  scrub_never_full f ends = tt
