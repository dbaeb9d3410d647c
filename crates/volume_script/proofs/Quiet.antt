-- Lines that promise no bytes: the source is not touched.
use Rattle.std.proofs.Common.{◌≡◌, ◌≢◌, ◌⊎◌, ℕ, true, false, Bool, List, [], ◌∷◌, ◌++◌, length, Option, Some, None, Result, Ok, Err}
use Rattle.std.proofs.Common.{IsSomeAnd, refl, sym, ap, ◌∙◌, subst, arith, inl, inr, append-nil}
use Rattle.std.specs.Option.{option_map_or}
use Rattle.std.specs.Prelude.{◌↔◌}
use Rattle.qic_base.specs.Cartridge.{Cartridge, IsPlace}
use Rattle.qic_base.specs.declared.sink.SinkFailed.{SinkFailed}
use Rattle.qic_base.specs.declared.tape.TapeFailed.{TapeFailed}
use Rattle.qic_base.specs.declared.tape.TapeInfo.{TapeInfo}
use Rattle.qic_base.specs.Step.{Wear}
use Rattle.qic_base.proofs.Steps.{Tells-map, tells_two}
use Rattle.qic_base.proofs.Writing.{TakesBoth}
use Rattle.qic_base.specs.Acts.{Act, Outside, Failing, TapeFails, SourceFails, SinkFails, Went, Cut}
use Rattle.qic_base.specs.Alone.{no_source, around, outside}
use Rattle.qic_base.proofs.Joins.{cut_is_longer, sink_cut_one}
use Rattle.cartridge_spec.specs.Table.{Entry}
use Rattle.cartridge_spec.specs.Volumes.{volume_length}
use Rattle.drive_spec.specs.Deck.{segments_per_track}
use Rattle.drive_states.specs.Hand.{HandAnswer, Wears}
use Rattle.drive_states.specs.Unit.{UnitView}
use Rattle.host_driver.specs.Fits.{segments_of}
use Rattle.command_spec.specs.Restore.{Restored, LostIn, MismatchIn, Restores, framed, pieces, volume_at}
use Rattle.command_spec.specs.Scrub.{ScrubsAs, looked_at}
use Rattle.command_laws.specs.ScrubTerms.{counts_for}
use Rattle.segment_io.proofs.Going.{tells_always}
use Rattle.segment_mending.specs.Mending.{reported, HasScrubbed, ScrubCut}
use Rattle.segment_mending.specs.declared.report.ScrubReport.{ScrubReport}
use Rattle.command_spec.specs.declared.line.Line.{Line}
use Rattle.command_spec.specs.Input.{promised}
use Rattle.qic_base.proofs.Giving.{Gave-nothing}
use Rattle.command_spec.specs.Lines.{list_text, lost_line}
use Rattle.volume_output.specs.Output.{GaveVolume, VolumeCut}
use Rattle.volume_store.specs.Mounting.{StoreView, StoreFits}
use Rattle.volume_store.specs.Restoring.{RestoreEnds}
use Rattle.volume_store.specs.Scrubbing.{MendEnds}
use Rattle.volume_script.specs.Items.{ItemDone, ItemCut, ItemEnds, WouldDo}
use Rattle.command_spec.specs.Script.{refusal_line, Did, LineDoes, given_as, reply}
use Rattle.command_laws.specs.ScriptTerms.{restored_line}
use Rattle.volume_script.specs.Refusing.{RepliesTo, replied_so}
use Rattle.command_laws.proofs.ScriptLifting.{TakesNone, printed_went, printed_cut, replied_went, replied_cut, rested}
use Rattle.command_laws.proofs.ScriptPlain.{given, line_one}
use Rattle.volume_script.proofs.Plain.{would_without}
use Rattle.command_laws.proofs.ScriptPlaces.{place_or_not}
use Rattle.command_spec.specs.declared.depth.Depth.TheVariants.{Shallow}
use Rattle.volume_script.proofs.Content.{any_bytes, no_content}
use Rattle.cartridge_front.proofs.Copies.{IsLearnt, told_learnt}
use Rattle.qic_base.specs.Sink as sinks
use Rattle.qic_base.specs.SinkCalls as sink_calls
use Rattle.qic_base.specs.Source as sources
use Rattle.qic_base.specs.Tape as tapes
use Rattle.qic_base.specs.TapeCalls as tape_calls
use Rattle.drive_states.specs.declared.fault.HandFault.TheVariants as hand
use Rattle.command_spec.specs.Restore as restoring
use Rattle.command_spec.specs.declared.line.Line.TheVariants as line
use Rattle.qic_base.specs.declared.store_fault.StoreFault.{StoreFault}
use Rattle.qic_base.specs.declared.store_fault.StoreFault.TheVariants as fault
use Rattle.command_spec.specs.declared.refusal.Refusal.TheVariants as why

-- where an answer does not come that just a protected cartridge has
pub unmarked : (b : Bool) (P : Type 0) → (P ↔ (b ≡ true)) → ¬ P → b ≡ false
unmarked true P both never = absurd (never (both.1 refl))
unmarked false P both never = refl

module _ {T S K : Type 0} (t : tapes.Meaning T) (s : sources.Meaning S) (k : sinks.Meaning K) (store after : StoreView) (asked : Line)
    (quiet : promised asked ≡ 0) (a b : T) (i : S) (x y : K) where
  pub quiet_done : (acts : List Act) → Went t s k (outside a i x) (outside b i y) acts →
      tape_calls.Tells t a (λ c. LineDoes c store.words store.entries asked [] (record { acts = acts; entries = after.entries })) →
      ItemDone t s k store after (outside a i x) (outside b i y) asked
  quiet_done acts went told = record {
    bytes = [];
    kept = sym quiet;
    gave = Gave-nothing s i i refl;
    content = no_content (s.left i);
    acts = acts;
    went = went;
    told = told;
  }

  pub quiet_cut : (failing : Failing) (acts : List Act) → Cut t s k (outside a i x) (outside b i y) acts failing →
      tape_calls.Tells t a (λ c. (did : Did) → LineDoes c store.words store.entries asked [] did →
      Cut t s k (outside a i x) (outside b i y) did.acts failing) →
      ItemCut t s k store (outside a i x) (outside b i y) asked failing
  quiet_cut failing acts cut told =
      let left = any_bytes (s.left i) in record {
        rest = left.rest;
        is_told = left.told;
        content = left.content;
        told = Tells-map t a (λ c. (did : Did) → LineDoes c store.words store.entries asked [] did →
            Cut t s k (outside a i x) (outside b i y) did.acts failing)
            (λ c. (xs : List Act) → WouldDo c store.words store.entries asked left.rest xs →
            Cut t s k (outside a i x) (outside b i y) xs failing)
            (λ c each xs would.
            let w = would_without c store.words store.entries asked left.rest xs quiet would in
            subst (λ (zs : List Act). Cut t s k (outside a i x) (outside b i y) zs failing) w.1 (each w.0 w.2)) told;
        given = [];
        few = omega arith;
        gave = Gave-nothing s i i refl;
        acts = acts;
        cut = cut;
      }

  -- what it did is known
  pub known_cut : (failing : Failing) (did : Did) → Cut t s k (outside a i x) (outside b i y) did.acts failing →
      tape_calls.Tells t a (λ c. LineDoes c store.words store.entries asked [] did) →
      ItemCut t s k store (outside a i x) (outside b i y) asked failing
  known_cut failing did cut told =
      quiet_cut failing did.acts cut
      (Tells-map t a (λ c. LineDoes c store.words store.entries asked [] did)
      (λ c. (other : Did) → LineDoes c store.words store.entries asked [] other →
      Cut t s k (outside a i x) (outside b i y) other.acts failing)
      (λ c does other again.
      subst (λ (d : Did). Cut t s k (outside a i x) (outside b i y) d.acts failing)
      (sym (line_one c store.words store.entries asked [] did other does again)) cut) told)

  -- a reply behind some acts
  pub replied : TakesBoth k → TakesNone k → (z : K) (acts : List Act) (text : List ℕ) (r : Result (Unit {0}) SinkFailed) →
      after.entries ≡ store.entries →
      Went t s k (outside a i x) (outside b i z) acts → sink_calls.Writes k z y text r →
      tape_calls.Tells t a (λ c. LineDoes c store.words store.entries asked []
      (record { acts = acts ++ reply text ∷ []; entries = store.entries })) →
      ItemEnds t s k store after (outside a i x) (outside b i y) asked (replied_so r)
  replied both none z acts text (Ok done) same went wrote told =
      quiet_done (acts ++ reply text ∷ []) (replied_went t s k both (outside a i x) b i z y acts text went wrote)
      (subst (λ (es : List Entry). tape_calls.Tells t a
      (λ c. LineDoes c store.words store.entries asked [] (record { acts = acts ++ reply text ∷ []; entries = es }))) (sym same) told)
  replied both none z acts text (Err failed) same went broke told =
      known_cut SinkFails (record { acts = acts ++ reply text ∷ []; entries = store.entries })
      (replied_cut t s k both none (outside a i x) b i z y acts text went broke) told

  -- a fault that ends the script was answered, and nothing was written behind it
  passed : (z : K) (f : StoreFault) (r : Result (Unit {0}) StoreFault) → ItemEnds t s k store after (outside a i x)
      (outside b i z) asked (Err f) →
      (y ≡ z) × (r ≡ Err f) → ItemEnds t s k store after (outside a i x) (outside b i y) asked r
  passed z f r ends (sink, is) =
      subst (λ (w : K). ItemEnds t s k store after (outside a i x) (outside b i w) asked r) (sym sink)
      (subst (λ (e : Result (Unit {0}) StoreFault). ItemEnds t s k store after (outside a i x) (outside b i z) asked e) (sym is) ends)

  -- one that refuses the line was replied to
  answered_so : (written : Result (Unit {0}) SinkFailed) (r : Result (Unit {0}) StoreFault) → r ≡ replied_so written →
      ItemEnds t s k store after (outside a i x) (outside b i y) asked (replied_so written) → ItemEnds t s k store after (outside a i x)
      (outside b i y) asked r
  answered_so written r is ends =
      subst (λ (e : Result (Unit {0}) StoreFault). ItemEnds t s k store after (outside a i x) (outside b i y) asked e) (sym is) ends

-- ---- list

pub listed : {T S K : Type 0} (t : tapes.Meaning T) (s : sources.Meaning S) (k : sinks.Meaning K) (store after : StoreView) (a : T) (i : S)
    (x y : K) → TakesBoth k → TakesNone k →
    (r : Result (Unit {0}) SinkFailed) → after.entries ≡ store.entries → sink_calls.Writes k x y (list_text store.words store.entries) r →
    ItemEnds t s k store after (outside a i x) (outside a i y) line.List (replied_so r)
listed t s k store after a i x y both none r same wrote =
    replied t s k store after line.List refl a a i x y both none x [] (list_text store.words store.entries) r same
    (rested t s k none a i i x (omega arith)) wrote
    (tells_always t a (λ c. LineDoes c store.words store.entries line.List []
    (record { acts = [] ++ reply (list_text store.words store.entries) ∷ []; entries = store.entries })) (λ c. refl))

-- ---- restore

-- acts behind which there is a reply
longer_given : {T S K : Type 0} (t : tapes.Meaning T) (s : sources.Meaning S) (k : sinks.Meaning K) (old new : Outside T S K)
    (words : List ℕ) (entries : List Entry) (number : ℕ) (e : Entry) (parts : List Act) (ending : restoring.GivingEnd) (failing : Failing) →
    Cut t s k old new parts failing → Cut t s k old new (given_as words entries number e parts ending).acts failing
longer_given t s k old new words entries number e parts Restored failing cut = cut_is_longer t s k old new parts
    (reply (restored_line number (volume_length words e)) ∷ []) failing cut
longer_given t s k old new words entries number e parts (LostIn segment lost) failing cut =
    cut_is_longer t s k old new parts (reply (refusal_line (why.Lost segment lost)) ∷ []) failing cut
longer_given t s k old new words entries number e parts (MismatchIn segment) failing cut =
    cut_is_longer t s k old new parts (reply (refusal_line (why.Mismatch segment)) ∷ []) failing cut

module _ {T S K : Type 0} (t : tapes.Meaning T) (s : sources.Meaning S) (k : sinks.Meaning K) (store after : StoreView) (number : ℕ)
    (a b : T) (i : S) (x z y : K) (both : TakesBoth k) (none : TakesNone k) (same : after.entries ≡ store.entries) where
  abbrev restores : Line
  restores = line.Restore number

  -- this was given, and this replied
  gave_back : (e : Entry) (ending : restoring.GivingEnd) (text : List ℕ) (r : Result (Unit {0}) SinkFailed) →
      volume_at store.entries number ≡ Some e →
      (gave : GaveVolume t k store.words (pieces store.words e) true (around a x) (around b z) ending) → sink_calls.Writes k z y text r →
      given store.words store.entries number e gave.acts
      ending ≡ record { acts = framed (pieces store.words e) gave.acts ++ reply text ∷ []; entries = store.entries } →
      ItemEnds t s k store after (outside a i x) (outside b i y) restores (replied_so r)
  gave_back e ending text r numbered gave wrote is =
      replied t s k store after restores refl a b i x y both none z (framed (pieces store.words e) gave.acts) text r same
      (printed_went t s k a b i i x z (framed (pieces store.words e) gave.acts) (omega arith) gave.went) wrote
      (Tells-map t a (λ c. Restores c store.words (pieces store.words e) gave.acts ending)
      (λ c. LineDoes c store.words store.entries restores []
      (record { acts = framed (pieces store.words e) gave.acts ++ reply text ∷ []; entries = store.entries }))
      (λ c read. inr (record { entry = e; numbered = numbered; acts = gave.acts; ending = ending; restores = read; is = sym is }))
      gave.told)

  pub restored_ends : (bytes : ℕ) (r : Result (Unit {0}) SinkFailed) → RestoreEnds t k store number true (around a x) (around b z)
      (Ok bytes) →
      sink_calls.Writes k z y (restored_line number bytes) r → ItemEnds t s k store after (outside a i x) (outside b i y) restores
      (replied_so r)
  restored_ends bytes r (e, numbered, (long, gave)) wrote =
      gave_back e Restored (restored_line number (volume_length store.words e)) r numbered gave
      (subst (λ (n : ℕ). sink_calls.Writes k z y (restored_line number n) r) long wrote) refl

  lost_ends : (segment lost : ℕ) (r : Result (Unit {0}) SinkFailed) → RestoreEnds t k store number true (around a x) (around b z)
      (Err (fault.Lost segment lost)) →
      sink_calls.Writes k z y (refusal_line (why.Lost segment lost)) r → ItemEnds t s k store after (outside a i x) (outside b i y) restores
      (replied_so r)
  lost_ends segment lost r (e, numbered, gave) wrote = gave_back e (LostIn segment lost)
      (refusal_line (why.Lost segment lost)) r numbered gave wrote refl

  mismatch_ends : (segment : ℕ) (r : Result (Unit {0}) SinkFailed) → RestoreEnds t k store number true (around a x) (around b z)
      (Err (fault.Mismatch segment)) →
      sink_calls.Writes k z y (refusal_line (why.Mismatch segment)) r → ItemEnds t s k store after (outside a i x) (outside b i y) restores
      (replied_so r)
  mismatch_ends segment r (e, numbered, gave) wrote = gave_back e (MismatchIn segment)
      (refusal_line (why.Mismatch segment)) r numbered gave wrote refl

  no_volume_ends : (asked count : ℕ) (r : Result (Unit {0}) SinkFailed) → RestoreEnds t k store number true (around a x) (around b z)
      (Err (fault.NoVolume asked count)) →
      sink_calls.Writes k z y (refusal_line (why.NoVolume asked count)) r → ItemEnds t s k store after (outside a i x)
      (outside b i y) restores (replied_so r)
  no_volume_ends asked count r none_given wrote =
      let text : List ℕ = refusal_line (why.NoVolume number (length store.entries)) in
      let said : refusal_line (why.NoVolume asked count) ≡ text =
      ap (λ (n : ℕ). refusal_line (why.NoVolume n count)) none_given.named
      ∙ ap (λ (n : ℕ). refusal_line (why.NoVolume number n)) none_given.counted in
      subst (λ (w : T). ItemEnds t s k store after (outside a i x) (outside w i y) restores (replied_so r)) (sym none_given.tape)
      (replied t s k store after restores refl a a i x y both none x [] text r same (rested t s k none a i i x (omega arith))
      (subst (λ (w : K). sink_calls.Writes k w y text r) none_given.sink (subst (λ (l : List ℕ). sink_calls.Writes k z y l r) said wrote))
      (tells_always t a (λ c. LineDoes c store.words store.entries restores []
      (record { acts = [] ++ reply text ∷ []; entries = store.entries })) (λ c. inl (none_given.none, refl))))

  restore_cut : (failing : Failing) (e : Entry) → failing ≢ SourceFails → volume_at store.entries number ≡ Some e →
      VolumeCut t k store.words (pieces store.words e) true (around a x) (around b z) failing → ItemCut t s k store (outside a i x)
      (outside b i z) restores failing
  restore_cut failing e other numbered cut =
      let needed = pieces store.words e in
      quiet_cut t s k store after restores refl a b i x z failing (framed needed cut.acts)
      (printed_cut t s k a b i i x z (framed needed cut.acts) failing other (omega arith) cut.cut)
      (Tells-map t a (λ c. (acts : List Act) (ending : restoring.GivingEnd) → Restores c store.words needed acts ending →
      Cut t no_source k (around a x) (around b z) (framed needed acts) failing)
      (λ c. (did : Did) → LineDoes c store.words store.entries restores [] did → Cut t s k (outside a i x) (outside b i z) did.acts failing)
      (λ c each did does. by_cases c each did does) cut.told)
    where
      by_cases : (c : Cartridge) → ((acts : List Act) (ending : restoring.GivingEnd) →
          Restores c store.words (pieces store.words e) acts ending →
          Cut t no_source k (around a x) (around b z) (framed (pieces store.words e) acts) failing) → (did : Did) →
          LineDoes c store.words store.entries restores [] did →
          Cut t s k (outside a i x) (outside b i z) did.acts failing
      by_cases c each did (inl (missing, is)) = let e : None ≡ Some e = sym missing ∙ numbered in absurd (cc)
      by_cases c each did (inr some) =
          let o : Some some.entry ≡ Some e = sym some.numbered ∙ numbered in
          let here : some.entry ≡ e = cc in
          let needed = pieces store.words some.entry in
          let read : Restores c store.words (pieces store.words e) some.acts some.ending =
          subst (λ (d : Entry). Restores c store.words (pieces store.words d) some.acts some.ending) here some.restores in
          let was : Cut t no_source k (around a x) (around b z) (framed needed some.acts) failing =
          subst (λ (d : Entry). Cut t no_source k (around a x) (around b z) (framed (pieces store.words d) some.acts) failing) (sym here)
          (each some.acts some.ending read) in
          subst (λ (d : Did). Cut t s k (outside a i x) (outside b i z) d.acts failing) (sym some.is)
          (longer_given t s k (outside a i x) (outside b i z) store.words store.entries number some.entry
          (framed needed some.acts) some.ending failing
          (printed_cut t s k a b i i x z (framed needed some.acts) failing other (omega arith) was))

  -- by the fault
  pub restore_failed : (f : StoreFault) (r : Result (Unit {0}) StoreFault) → RestoreEnds t k store number true (around a x) (around b z)
      (Err f) →
      RepliesTo k z y f r → ItemEnds t s k store after (outside a i x) (outside b i y) restores r
  restore_failed (fault.NoVolume asked count) r ends replies =
      answered_so t s k store after restores refl a b i x y replies.written r replies.answered
      (no_volume_ends asked count replies.written ends replies.wrote)
  restore_failed (fault.Lost segment lost) r ends replies =
      answered_so t s k store after restores refl a b i x y replies.written r replies.answered
      (lost_ends segment lost replies.written ends replies.wrote)
  restore_failed (fault.Mismatch segment) r ends replies =
      answered_so t s k store after restores refl a b i x y replies.written r replies.answered
      (mismatch_ends segment replies.written ends replies.wrote)
  restore_failed fault.Sink r (e, numbered, cut) replies =
      passed t s k store after restores refl a b i x y z fault.Sink r (restore_cut SinkFails e (λ e. cc) numbered cut) replies
  restore_failed fault.Tape r (e, numbered, cut) replies =
      passed t s k store after restores refl a b i x y z fault.Tape r (restore_cut TapeFails e (λ e. cc) numbered cut) replies
  restore_failed other r never replies = absurd never

-- ---- scrub

module _ {T S K : Type 0} (t : tapes.Meaning T) (s : sources.Meaning S) (k : sinks.Meaning K) (store after : StoreView) (a b : T) (i : S)
    (x y : K) (same : after.entries ≡ store.entries) where
  scrub_locked : TakesBoth k → TakesNone k → (z : K) (r : Result (Unit {0}) SinkFailed) →
      tape_calls.Tells t a (λ c. c.info.protected ≡ true) → b ≡ a → z ≡ x →
      sink_calls.Writes k z y (refusal_line why.Protected) r → ItemEnds t s k store after (outside a i x) (outside b i y) line.Scrub
      (replied_so r)
  scrub_locked both none z r mark tape sink wrote =
      subst (λ (w : T). ItemEnds t s k store after (outside a i x) (outside w i y) line.Scrub (replied_so r)) (sym tape)
      (replied t s k store after line.Scrub refl a a i x y both none x [] (refusal_line why.Protected) r same
      (rested t s k none a i i x (omega arith))
      (subst (λ (w : K). sink_calls.Writes k w y (refusal_line why.Protected) r) sink wrote)
      (Tells-map t a (λ c. c.info.protected ≡ true)
      (λ c. LineDoes c store.words store.entries line.Scrub []
      (record { acts = [] ++ reply (refusal_line why.Protected) ∷ []; entries = store.entries })) (λ c is. inl (is, refl)) mark))

  pub scrub_done : (report : ScrubReport) → tape_calls.Tells t a (λ c. c.info.protected ≡ false) →
      HasScrubbed t k Shallow store.words store.entries (around a x) (around b y) report →
      ItemDone t s k store after (outside a i x) (outside b i y) line.Scrub
  scrub_done report free did =
      quiet_done t s k store after line.Scrub refl a b i x y did.acts (printed_went t s k a b i i x y did.acts (omega arith) did.went)
      (subst (λ (es : List Entry). tape_calls.Tells t a
      (λ c. LineDoes c store.words store.entries line.Scrub [] (record { acts = did.acts; entries = es }))) (sym same)
      (tells_two t a (λ c. c.info.protected ≡ false)
      (λ c. (scrubs : ScrubsAs Shallow c store.words store.entries did.acts)
      × (reported report ≡ counts_for c (looked_at store.words store.entries) scrubs.findings))
      (λ c. LineDoes c store.words store.entries line.Scrub [] (record { acts = did.acts; entries = store.entries }))
      (λ c off is. inr (off, (did.acts, is.0, refl))) free did.told))

  scrub_cut : (failing : Failing) → failing ≢ SourceFails → tape_calls.Tells t a (λ c. c.info.protected ≡ false) →
      ScrubCut t k Shallow store.words store.entries (around a x) (around b y) failing →
      ItemCut t s k store (outside a i x) (outside b i y) line.Scrub failing
  scrub_cut failing other free cut =
      quiet_cut t s k store after line.Scrub refl a b i x y failing cut.acts
      (printed_cut t s k a b i i x y cut.acts failing other (omega arith) cut.cut)
      (tells_two t a (λ c. c.info.protected ≡ false)
      (λ c. (acts : List Act) → ScrubsAs Shallow c store.words store.entries acts →
      Cut t no_source k (around a x) (around b y) acts failing)
      (λ c. (did : Did) → LineDoes c store.words store.entries line.Scrub [] did →
      Cut t s k (outside a i x) (outside b i y) did.acts failing)
      (λ c off each did does. by_cases c off each did does) free cut.told)
    where
      by_cases : (c : Cartridge) → c.info.protected ≡ false →
          ((acts : List Act) → ScrubsAs Shallow c store.words store.entries acts →
          Cut t no_source k (around a x) (around b y) acts failing) →
          (did : Did) → LineDoes c store.words store.entries line.Scrub [] did → Cut t s k (outside a i x) (outside b i y) did.acts failing
      by_cases c off each did (inl (on, is)) = absurd (cc)
      by_cases c off each did (inr (again, (acts, scrubs, is))) =
          subst (λ (d : Did). Cut t s k (outside a i x) (outside b i y) d.acts failing) (sym is)
          (printed_cut t s k a b i i x y acts failing other (omega arith) (each acts scrubs))

-- by the fault
pub scrub_failed : {T S K : Type 0} (t : tapes.Meaning T) (s : sources.Meaning S) (k : sinks.Meaning K) (store after : StoreView) (a b : T)
    (i : S) (x z y : K) → after.entries ≡ store.entries → TakesBoth k → TakesNone k → (f : StoreFault) (r : Result (Unit {0}) StoreFault) →
    (f ≡ fault.Protected → tape_calls.Tells t a (λ c. c.info.protected ≡ true)) →
    (f ≢ fault.Protected → tape_calls.Tells t a (λ c. c.info.protected ≡ false)) →
    MendEnds t k Shallow store (around a x) (around b z) (Err f) → RepliesTo k z y f r →
    ItemEnds t s k store after (outside a i x) (outside b i y) line.Scrub r
scrub_failed t s k store after a b i x z y same both none fault.Protected r mark free (tape, sink) replies =
    answered_so t s k store after line.Scrub refl a b i x y replies.written r replies.answered
    (scrub_locked t s k store after a b i x y same both none z replies.written (mark refl) tape sink replies.wrote)
scrub_failed t s k store after a b i x z y same both none fault.Sink r mark free cut replies =
    passed t s k store after line.Scrub refl a b i x y z fault.Sink r
    (scrub_cut t s k store after a b i x z same SinkFails (λ e. cc) (free (λ e. cc)) cut) replies
scrub_failed t s k store after a b i x z y same both none fault.Tape r mark free cut replies =
    passed t s k store after line.Scrub refl a b i x y z fault.Tape r
    (scrub_cut t s k store after a b i x z same TapeFails (λ e. cc) (free (λ e. cc)) cut) replies
scrub_failed t s k store after a b i x z y same both none other r mark free never replies = absurd never

-- a fault of the tape is answered
pub tape_replied : {K : Type 0} (k : sinks.Meaning K) (x y : K) (f : StoreFault) (r : Result (Unit {0}) StoreFault) → RepliesTo k x y f r →
    f ≡ fault.Tape → r ≡ Err fault.Tape
tape_replied k x y f r replies is = let answered = subst (λ (g : StoreFault). RepliesTo k x y g r) is replies in answered.1

-- ---- lose

-- the length that is told is the one that the drive knows
length_told : {T : Type 0} (t : tapes.Meaning T) (store : StoreView) (u : UnitView T) → StoreFits t store u →
    tape_calls.Tells t u.tape (λ c. c.info.segments_per_track ≡ segments_per_track u.drive.deck)
length_told t store u fits =
    Tells-map t u.tape (IsLearnt store.host) (λ c. c.info.segments_per_track ≡ segments_per_track u.drive.deck)
    (λ c known. known.length_told ∙ sym (by_cartridge u.drive.deck.cartridge fits.host.cartridge))
    (told_learnt t store.host u fits.host fits.agrees)
  where
    by_cartridge : (o : Option TapeInfo) → IsSomeAnd o (λ info. info.segments_per_track ≡ segments_of store.host) →
        option_map_or (λ (info : TapeInfo). info.segments_per_track) o 0 ≡ segments_of store.host
    by_cartridge None known = absurd known
    by_cartridge (Some info) known = known

-- what a call for a sector answered: it was worn, or there is none
pub data Wearing {T : Type 0} (t : tapes.Meaning T) (old new : UnitView T) (segment sector : ℕ) : HandAnswer (Unit {0}) → Type 0 where
  Worn : {r : HandAnswer (Unit {0})} → IsPlace (segments_per_track old.drive.deck) segment sector → Wears t old new segment sector r →
      Wearing t old new segment sector r
  Absent : ¬ (IsPlace (segments_per_track old.drive.deck) segment sector) → new ≡ old →
      Wearing t old new segment sector (Ok (Err hand.BadPlace))

pub wearing : {T : Type 0} (t : tapes.Meaning T) (old new : UnitView T) (segment sector : ℕ) (r : HandAnswer (Unit {0})) →
    (¬ (IsPlace (segments_per_track old.drive.deck) segment sector) → (r ≡ Ok (Err hand.BadPlace)) × (new ≡ old)) →
    (IsPlace (segments_per_track old.drive.deck) segment sector → Wears t old new segment sector r) → Wearing t old new segment sector r
wearing {T} t old new segment sector r misplaced placed = by_place (place_or_not (segments_per_track old.drive.deck) segment sector)
  where
    by_place : IsPlace (segments_per_track old.drive.deck) segment sector ⊎ ¬ (IsPlace (segments_per_track old.drive.deck) segment sector) →
        Wearing t old new segment sector r
    by_place (inl place) = Worn place (placed place)
    by_place (inr none) =
        let is = misplaced none in
        subst (λ (answer : HandAnswer (Unit {0})). Wearing t old new segment sector answer) (sym is.0) (Absent none is.1)

module _ {T S K : Type 0} (t : tapes.Meaning T) (s : sources.Meaning S) (k : sinks.Meaning K) (store : StoreView) (old new : UnitView T)
    (segment sector : ℕ) (i : S) (x y : K) (fits : StoreFits t store old) where
  abbrev loses : Line
  loses = line.Lose segment sector

  abbrev worn_act : Act
  worn_act = record { steps = Wear segment sector ∷ []; text = lost_line segment sector }

  worn_does : IsPlace (segments_per_track old.drive.deck) segment sector →
      tape_calls.Tells t old.tape (λ c. LineDoes c store.words store.entries loses []
      (record { acts = worn_act ∷ []; entries = store.entries }))
  worn_does place =
      Tells-map t old.tape (λ c. c.info.segments_per_track ≡ segments_per_track old.drive.deck)
      (λ c. LineDoes c store.words store.entries loses [] (record { acts = worn_act ∷ []; entries = store.entries }))
      (λ c is. inr (subst (λ (n : ℕ). IsPlace n segment sector) (sym is) place, refl)) (length_told t store old fits)

  pub worn_ends : TakesBoth k → TakesNone k → (r : Result (Unit {0}) SinkFailed) → Wearing t old new segment sector (Ok (Ok tt)) →
      sink_calls.Writes k x y (lost_line segment sector) r →
      ItemEnds t s k store store (outside old.tape i x) (outside new.tape i y) loses (replied_so r)
  worn_ends both none (Ok done) (Worn place did) wrote =
      quiet_done t s k store store loses refl old.tape new.tape i x y (worn_act ∷ [])
      (record {
        did = did;
        wrote = subst (sinks.Wrote k x y) (sym (append-nil (lost_line segment sector))) wrote;
        source_later =
            omega arith;
      }) (worn_does place)
  worn_ends both none (Err failed) (Worn place did) broke =
      known_cut t s k store store loses refl old.tape new.tape i x y SinkFails (record { acts = worn_act ∷ []; entries = store.entries })
      (sink_cut_one t s k (outside old.tape i x) (outside new.tape i y) worn_act did broke (omega arith)) (worn_does place)

  pub absent_ends : TakesBoth k → TakesNone k → (r : Result (Unit {0}) SinkFailed) →
      Wearing t old new segment sector (Ok (Err hand.BadPlace)) →
      sink_calls.Writes k x y (refusal_line (why.Place segment sector)) r → ItemEnds t s k store store (outside old.tape i x)
      (outside new.tape i y) loses (replied_so r)
  absent_ends both none r (Worn place did) wrote = absurd did
  absent_ends both none r (Absent missing same) wrote =
      let text : List ℕ = refusal_line (why.Place segment sector) in
      subst (λ (u : UnitView T). ItemEnds t s k store store (outside old.tape i x) (outside u.tape i y) loses (replied_so r)) (sym same)
      (replied t s k store store loses refl old.tape old.tape i x y both none x [] text r refl
      (rested t s k none old.tape i i x (omega arith)) wrote
      (Tells-map t old.tape (λ c. c.info.segments_per_track ≡ segments_per_track old.drive.deck)
      (λ c. LineDoes c store.words store.entries loses [] (record { acts = [] ++ reply text ∷ []; entries = store.entries }))
      (λ c is. inl (subst (λ (n : ℕ). ¬ (IsPlace n segment sector)) (sym is) missing, refl)) (length_told t store old fits)))

  broke_ends : TakesNone k → IsPlace (segments_per_track old.drive.deck) segment sector →
      tapes.Broke t old.tape new.tape (Wear segment sector ∷ []) →
      ItemCut t s k store (outside old.tape i x) (outside new.tape i x) loses TapeFails
  broke_ends none place broke =
      known_cut t s k store store loses refl old.tape new.tape i x x TapeFails (record { acts = worn_act ∷ []; entries = store.entries })
      (record {
        front = [];
        rest = worn_act ∷ [];
        parts = refl;
        broke = broke;
        here = broke.torn;
        wrote = record { took = none x; later = omega arith };
        source_later = omega arith;
      }) (worn_does place)

  pub wear_failed : TakesNone k → (f : TapeFailed) → Wearing t old new segment sector (Err f) →
      ItemCut t s k store (outside old.tape i x) (outside new.tape i x) loses TapeFails
  wear_failed none f (Worn place did) = broke_ends none place did
