-- The missing volumes copied one after the other, where both tapes tell: what the plain machine does with them.
use Rattle.std.proofs.Common.{◌≡◌, ◌≢◌, ◌⊎◌, ℕ, zero, suc, ◌+◌, false, List, [], ◌∷◌, ◌++◌, length, drop, All, slice_get, Some, Ok, Err}
use Rattle.std.proofs.Common.{refl, ap, sym, subst, ◌∙◌, arith, inl, inr, add-one, append-nil, append_assoc, length-append}
use Rattle.std.proofs.Math.ListN.{drop_of_length-le}
use Rattle.std.proofs.lemmas.List.Elements.{All-drop, All-head, All-tail}
use Rattle.cartridge_spec.specs.Table.{Entry}
use Rattle.command_laws.proofs.CopyOnce.{done_or_not}
use Rattle.command_laws.proofs.CopyOutcomes.{IsTarget, copied_target, copies_somehow}
use Rattle.command_laws.proofs.CopyValues.{HasValues}
use Rattle.command_spec.specs.Copying.{Copies, CopiesVolume, Side, behind_copy, copied_line, missing}
use Rattle.command_spec.specs.Lines.{count_line}
use Rattle.command_spec.specs.Restore.{volume_at}
use Rattle.command_spec.specs.declared.copy_status.CopyStatus.{CopyStatus}
use Rattle.qic_base.proofs.Joins.{broke_behind, cut_is_longer, sink_cut_one, steps_of-append, text_of-append, went_both, went_then_cut}
use Rattle.qic_base.proofs.Steps.{Done-nothing}
use Rattle.qic_base.proofs.Writing.{TakesBoth}
use Rattle.qic_base.specs.Acts.{Act, Outside, SinkCut, SinkFails, TapeCut, TapeFails, Went, steps_of, text_of}
use Rattle.qic_base.specs.Alone.{around, no_sink, no_source, reading}
use Rattle.qic_base.specs.Cartridge.{Cartridge}
use Rattle.volume_copy.proofs.Appended.{side_over}
use Rattle.volume_copy.proofs.Goes.{one_done, one_goes}
use Rattle.volume_copy.proofs.Lists.{from_index}
use Rattle.volume_copy.proofs.Volume.{IsCopied, IsTurned, IsUngiven, IsUnwritten, is_copied, is_outside, is_refused}
use Rattle.volume_copy.specs.Runs.{CopyView, HasCopied, HaveCopied, IsCounted, IsRefused, IsUnprinted, MissingEnds, PrintsCount, SideFits}
use Rattle.volume_copy.specs.Runs.{SideView, next_number}
use Rattle.volume_copy.specs.Source.{SourceView, new_source, source_means}
use Rattle.qic_base.specs.declared.store_fault.StoreFault.TheVariants as fault
use Rattle.command_spec.specs.declared.copy_status.CopyStatus.TheVariants as status
use Rattle.qic_base.specs.Sink as sinks
use Rattle.qic_base.specs.SinkCalls as sink_calls
use Rattle.qic_base.specs.Tape as tapes

-- the volume with the next number stands at the index of as many
at_number : (es : List Entry) (n : ℕ) (e : Entry) → volume_at es (n + 1) ≡ Some e → slice_get es n ≡ Some e
at_number es n e at = subst (λ (m : ℕ). volume_at es m ≡ Some e) (add-one n) at

-- what a volume that was copied prints
acts_text : {B : Type 0} (m : tapes.Meaning B) (from : Side) (e : Entry) (target : Side) (x : B) (new : SideView B) (bytes : ℕ) →
    (copied : IsCopied m from e target x new bytes) →
    text_of copied.acts ≡ copied_line (length target.entries + 1) bytes
acts_text m from e target x new bytes copied =
    ap text_of (sym copied.parts) ∙ text_of-append copied.front (copied.last ∷ []) ∙
    ap (λ (text : List ℕ). text ++ text_of (copied.last ∷ [])) copied.quiet
    ∙ append-nil copied.last.text ∙ copied.line

-- ---- how it went on

-- All of it was carried out.
pub record AllCarried {B K : Type 0} (b : tapes.Meaning B) (k : sinks.Meaning K) (source to : Side) (old new : Outside B (Unit {0}) K)
    (answer : CopyStatus) : Type 0 where
  pub acts : List Act
  pub does : Copies source (missing source to) to acts answer
  pub went : Went b no_source k old new acts
  pub plain : is_outside answer ≡ false

-- A fault of the source's tape broke it off,
pub record SourceBroke {B K : Type 0} (b : tapes.Meaning B) (k : sinks.Meaning K) (source to : Side) (old new : Outside B (Unit {0}) K)
    (answer : CopyStatus) : Type 0 where
  pub answered : answer ≡ status.From fault.Tape
  pub acts : List Act
  pub ending : CopyStatus
  pub does : Copies source (missing source to) to acts ending
  pub front : List Act
  pub rest : List Act
  pub parts : front ++ rest ≡ acts
  pub went : Went b no_source k old new front

-- or one of the target's,
pub record TargetBroke {B K : Type 0} (b : tapes.Meaning B) (k : sinks.Meaning K) (source to : Side) (old new : Outside B (Unit {0}) K)
    (answer : CopyStatus) : Type 0 where
  pub answered : answer ≡ status.To fault.Tape
  pub acts : List Act
  pub ending : CopyStatus
  pub does : Copies source (missing source to) to acts ending
  pub cut : TapeCut b no_source k old new acts

-- or one of the sink.
pub record SinkBroke {B K : Type 0} (b : tapes.Meaning B) (k : sinks.Meaning K) (source to : Side) (old new : Outside B (Unit {0}) K)
    (answer : CopyStatus) : Type 0 where
  pub answered : answer ≡ status.SinkFault
  pub acts : List Act
  pub ending : CopyStatus
  pub does : Copies source (missing source to) to acts ending
  pub cut : SinkCut b no_source k old new acts

abbrev pub Carried : {B K : Type 0} (b : tapes.Meaning B) (k : sinks.Meaning K) (source to : Side) (old new : Outside B (Unit {0}) K) →
    CopyStatus → Type 0
Carried b k source to old new answer =
    AllCarried b k source to old new answer ⊎ SourceBroke b k source to old new answer ⊎ TargetBroke b k source to old new answer ⊎
    SinkBroke b k source to old new answer

-- the target and the sink of a copy
abbrev pub seen : {A B K : Type 0} → CopyView A B K → Outside B (Unit {0}) K
seen view = around view.to.unit.tape view.sink

-- some volumes were copied, and these acts went; what comes behind them comes behind the whole
pub record Reached {A B K : Type 0} (a : tapes.Meaning A) (b : tapes.Meaning B) (k : sinks.Meaning K) (source to : Side)
    (old mid : CopyView A B K) : Type 0 where
  pub from_told : a.told mid.from.unit.tape ≡ Some (Some source.cartridge)
  pub from_words : mid.from.store.words ≡ source.words
  pub from_entries : mid.from.store.entries ≡ source.entries
  pub cartridge : Cartridge
  pub to_told : b.told mid.to.unit.tape ≡ Some (Some cartridge)
  pub to_fits : SideFits b mid.to
  pub target : IsTarget (side_over mid.to.store cartridge)
  pub acts : List Act
  pub went : Went b no_source k (seen old) (seen mid) acts
  pub behind : (rest : List Act) (answer : CopyStatus) → Copies source (missing source (side_over mid.to.store cartridge))
      (side_over mid.to.store cartridge) rest answer →
      Copies source (missing source to) to (acts ++ rest) answer

module _ {A B K : Type 0} (a : tapes.Meaning A) (b : tapes.Meaning B) (k : sinks.Meaning K) (both : TakesBoth k) (nothing : (z : K) →
    k.took z [] z)
    (source to : Side) (values : All HasValues source.entries) (old : CopyView A B K) where
  -- ---- at some point of it

  module _ (mid : CopyView A B K) (at : Reached a b k source to old mid) where
    abbrev side : Side
    side = side_over mid.to.store at.cartridge

    source_is : side_over mid.from.store source.cartridge ≡ source
    source_is =
        let over : List ℕ → List Entry → Side = λ ws es. record { cartridge = source.cartridge; words = ws; entries = es } in
        ap (λ (ws : List ℕ). over ws mid.from.store.entries) at.from_words ∙ ap (λ (es : List Entry). over source.words es) at.from_entries

    -- the next volume, and those behind it
    module _ (e : Entry) (numbered : volume_at mid.from.store.entries (next_number mid) ≡ Some e) where
      abbrev later : List Entry
      later = drop (length mid.to.store.entries + 1) source.entries

      missing_is : missing source side ≡ e ∷ later
      missing_is =
          from_index source.entries (length mid.to.store.entries) e
          (at_number source.entries (length mid.to.store.entries) e
          (subst (λ (es : List Entry). volume_at es (length mid.to.store.entries + 1) ≡ Some e) at.from_entries numbered))

      values_are : All HasValues (e ∷ later)
      values_are = subst (All HasValues) missing_is (All-drop HasValues (length mid.to.store.entries) source.entries values)

      -- the volume, and something behind it
      abbrev Behind : List Act → Type 0
      Behind acts = (more : List Act) × (ending : CopyStatus) × Copies source (missing source side) side (acts ++ more) ending

      behind_done : (acts : List Act) → CopiesVolume source e side acts status.Done → Behind acts
      behind_done acts copies =
          let next : Side = behind_copy source e side acts in
          let some = copies_somehow source later next (All-tail HasValues e later values_are)
          (copied_target source e side acts (All-head HasValues e later values_are) at.target copies) in (
            some.0,
            some.1,
            subst (λ (es : List Entry). Copies source es side (acts ++ some.0) some.1) (sym missing_is)
                (inr (acts, some.0, refl, copies, some.2)),
          )

      behind_other : (acts : List Act) (ending : CopyStatus) → ending ≢ status.Done → CopiesVolume source e side acts ending →
          Copies source (missing source side) side acts ending
      behind_other acts ending other copies = subst (λ (es : List Entry). Copies source es side acts ending) (sym missing_is)
          (inl (other, copies))

      behind_any : (acts : List Act) (ending : CopyStatus) → CopiesVolume source e side acts ending → Behind acts
      behind_any acts ending copies = elim (done_or_not ending) [
        | inl done ↦ behind_done acts (subst (CopiesVolume source e side acts) done copies)
        | inr other ↦ (
          [],
          ending,
          subst (λ (zs : List Act). Copies source (missing source side) side zs ending) (sym (append-nil acts))
              (behind_other acts ending other copies),
        )
      ]

  -- ---- one more

  reached_next : (mid new : CopyView A B K) → Reached a b k source to old mid → HasCopied a b k mid new → Reached a b k source to old new
  reached_next mid new at has =
      let e : Entry = has.one.entry in
      let here : Side = side_over mid.to.store at.cartridge in
      let goes = one_goes a b (next_number mid) mid.from new.from mid.to new.to (Ok has.bytes) has.one in
      let done = one_done a b (next_number mid) mid.from new.from mid.to new.to (Ok has.bytes) has.one has.bytes refl in
      let copied : IsCopied b source e here mid.to.unit.tape new.to has.bytes =
      subst (λ (s : Side). IsCopied b s e here mid.to.unit.tape new.to has.bytes) (source_is mid at)
      (is_copied a b (next_number mid) mid.from new.from mid.to new.to (Ok has.bytes) has.one source.cartridge at.from_told at.cartridge
      at.to_told at.target has.bytes refl) in
      let next : Side = side_over new.to.store copied.cartridge in
      let more : length new.to.store.entries ≡ length mid.to.store.entries + 1 =
      sym (ap (λ (s : Side). length s.entries) copied.next) ∙ length-append mid.to.store.entries _ in
      record {
        from_told = goes.from.told ∙ at.from_told;
        from_words = goes.words ∙ at.from_words;
        from_entries = goes.entries ∙ at.from_entries;
        cartridge = copied.cartridge;
        to_told = copied.told;
        to_fits = done.fits;
        target = copied.target;
        acts = at.acts ++ copied.acts;
        went = went_both b no_source k both (seen old) (seen mid) (seen new) at.acts copied.acts at.went (record {
          did = copied.did;
          wrote = subst (sinks.Wrote k mid.sink new.sink) (sym (acts_text b source e here mid.to.unit.tape new.to has.bytes copied))
              has.line;
          source_later = omega arith;
        });
        behind = λ rest answer does.
            let there : Copies source (later mid at e has.one.numbered) (behind_copy source e here copied.acts) rest answer =
            subst (λ (s : Side). Copies source (later mid at e has.one.numbered) s rest answer) (sym copied.next)
            (subst (λ (n : ℕ). Copies source (drop n source.entries) next rest answer) more does) in
            subst (λ (zs : List Act). Copies source (missing source to) to zs answer) (sym (append_assoc at.acts copied.acts rest))
            (at.behind (copied.acts ++ rest) answer
            (subst (λ (es : List Entry). Copies source es here (copied.acts ++ rest) answer) (sym (missing_is mid at e has.one.numbered))
            (inr (copied.acts, rest, refl, copied.copies, there))));
      }

  reached : (count : ℕ) (mid : CopyView A B K) → Reached a b k source to old old → HaveCopied a b k count old mid → Reached a b k source to
      old mid
  reached zero mid start same = subst (Reached a b k source to old) (sym same) start
  reached (suc count) new start (mid, before, one) = reached_next mid new (reached count mid start before) one

  -- ---- the end

  module _ (mid new : CopyView A B K) (at : Reached a b k source to old mid) where
    abbrev here : Side
    here = side_over mid.to.store at.cartridge

    wrote_none : new.sink ≡ mid.sink → sinks.Wrote k mid.sink new.sink []
    wrote_none same = subst (λ (z : K). sinks.Wrote k mid.sink z []) (sym same) (record { took = nothing mid.sink; later = omega arith })

    -- the fault of a tape, beside a sink that was not asked
    cut_so : (x y : SourceView A) (acts : List Act) → new.sink ≡ mid.sink → TapeCut b (source_means a) no_sink (reading mid.to.unit.tape x)
        (reading new.to.unit.tape y) acts →
        TapeCut b no_source k (seen mid) (seen new) acts
    cut_so x y acts same cut = record {
      front = cut.front;
      rest = cut.rest;
      parts = cut.parts;
      broke = cut.broke;
      here = cut.here;
      wrote = subst (sinks.Wrote k mid.sink new.sink) (sym cut.wrote.took) (wrote_none same);
      source_later = omega arith;
    }

    went_quiet : (acts : List Act) → new.sink ≡ mid.sink → tapes.Done b mid.to.unit.tape new.to.unit.tape (steps_of acts) →
        text_of acts ≡ [] → Went b no_source k (seen mid) (seen new) acts
    went_quiet acts same did quiet = record {
      did = did;
      wrote = subst (sinks.Wrote k mid.sink new.sink) (sym quiet) (wrote_none same);
      source_later = omega arith;
    }

    went_on : (acts : List Act) → Went b no_source k (seen mid) (seen new) acts → Went b no_source k (seen old) (seen new) (at.acts ++ acts)
    went_on acts went = went_both b no_source k both (seen old) (seen mid) (seen new) at.acts acts at.went went

    refused_end : (answer : CopyStatus) → IsRefused a b mid new answer → Carried b k source to (seen old) (seen new) answer
    refused_end answer refused = by_end whole
      where
        whole : IsTurned b source refused.one.entry here mid.to.unit.tape new.to.unit.tape answer
            ⊎ IsUngiven b source refused.one.entry here mid.to.unit.tape new.to.unit.tape answer
            ⊎ IsUnwritten a b source refused.one.entry here
            (reading mid.to.unit.tape (new_source mid.from.store mid.from.unit (next_number mid)))
            (reading new.to.unit.tape refused.one.source) answer
        whole =
            subst (λ (s : Side). IsTurned b s refused.one.entry here mid.to.unit.tape new.to.unit.tape answer
            ⊎ IsUngiven b s refused.one.entry here mid.to.unit.tape new.to.unit.tape answer
            ⊎ IsUnwritten a b s refused.one.entry here
            (reading mid.to.unit.tape (new_source mid.from.store mid.from.unit (next_number mid)))
            (reading new.to.unit.tape refused.one.source) answer)
            (source_is mid at)
            (is_refused a b (next_number mid) mid.from new.from mid.to new.to (Err answer) refused.one source.cartridge at.from_told
            at.cartridge at.to_told at.target at.to_fits answer refl)

        by_end : IsTurned b source refused.one.entry here mid.to.unit.tape new.to.unit.tape answer
            ⊎ IsUngiven b source refused.one.entry here mid.to.unit.tape new.to.unit.tape answer
            ⊎ IsUnwritten a b source refused.one.entry here
            (reading mid.to.unit.tape (new_source mid.from.store mid.from.unit (next_number mid)))
            (reading new.to.unit.tape refused.one.source) answer →
            Carried b k source to (seen old) (seen new) answer
        by_end (inl turned) = inl (record {
          acts = at.acts ++ turned.acts;
          does = at.behind turned.acts answer (behind_other mid at refused.one.entry refused.one.numbered turned.acts answer turned.other
              turned.copies);
          went = went_on turned.acts (went_quiet turned.acts refused.sink turned.did turned.quiet);
          plain = turned.plain;
        })
        by_end (inr (inl ungiven)) =
            let some = behind_any mid at refused.one.entry refused.one.numbered ungiven.acts ungiven.ending ungiven.copies in
            inr (inl (record {
              answered = ungiven.answered;
              acts = at.acts ++ (ungiven.acts ++ some.0);
              ending = some.1;
              does = at.behind (ungiven.acts ++ some.0) some.1 some.2;
              front = at.acts ++ ungiven.front;
              rest = ungiven.rest ++ some.0;
              parts = append_assoc at.acts ungiven.front (ungiven.rest ++ some.0)
                  ∙ ap (λ (zs : List Act). at.acts ++ zs) (sym (append_assoc ungiven.front ungiven.rest some.0) ∙
                  ap (λ (zs : List Act). zs ++ some.0) ungiven.parts);
              went = went_on ungiven.front (went_quiet ungiven.front refused.sink ungiven.did ungiven.quiet);
            }))
        by_end (inr (inr unwritten)) =
            let some = behind_any mid at refused.one.entry refused.one.numbered unwritten.acts unwritten.ending unwritten.copies in
            let cut : TapeCut b no_source k (seen mid) (seen new) (unwritten.acts ++ some.0) =
            cut_is_longer b no_source k (seen mid) (seen new) unwritten.acts some.0 TapeFails (cut_so _ _ unwritten.acts refused.sink
            unwritten.cut) in
            inr (inr (inl (record {
              answered = unwritten.answered;
              acts = at.acts ++ (unwritten.acts ++ some.0);
              ending = some.1;
              does = at.behind (unwritten.acts ++ some.0) some.1 some.2;
              cut = went_then_cut b no_source k both (seen old) (seen mid) (seen new) at.acts (unwritten.acts ++ some.0) TapeFails at.went
                  cut;
            })))

    unprinted_end : (answer : CopyStatus) → IsUnprinted a b k mid new answer → Carried b k source to (seen old) (seen new) answer
    unprinted_end answer unprinted =
        let e : Entry = unprinted.one.entry in
        let copied : IsCopied b source e here mid.to.unit.tape new.to unprinted.bytes =
        subst (λ (s : Side). IsCopied b s e here mid.to.unit.tape new.to unprinted.bytes) (source_is mid at)
        (is_copied a b (next_number mid) mid.from new.from mid.to new.to (Ok unprinted.bytes) unprinted.one source.cartridge at.from_told
        at.cartridge at.to_told at.target unprinted.bytes refl) in
        let some = behind_done mid at e unprinted.one.numbered copied.acts copied.copies in
        let did : tapes.Done b mid.to.unit.tape new.to.unit.tape (steps_of copied.front ++ copied.last.steps) =
        subst (tapes.Done b mid.to.unit.tape new.to.unit.tape)
        (ap steps_of (sym copied.parts) ∙ steps_of-append copied.front (copied.last ∷ []) ∙ ap (λ ss. steps_of copied.front ++ ss)
        (append-nil copied.last.steps)) copied.did in
        let first : SinkCut b no_source k (seen mid) (seen new) copied.acts = record {
          at = record { front = copied.front; act = copied.last; rest = []; parts = copied.parts };
          did = did;
          broke = broke_behind (text_of copied.front) copied.quiet (subst (sink_calls.BrokeOff k mid.sink new.sink) (sym copied.line)
              unprinted.line);
          source_later = omega arith;
        } in
        inr (inr (inr (record {
          answered = unprinted.answered;
          acts = at.acts ++ (copied.acts ++ some.0);
          ending = some.1;
          does = at.behind (copied.acts ++ some.0) some.1 some.2;
          cut = went_then_cut b no_source k both (seen old) (seen mid) (seen new) at.acts (copied.acts ++ some.0) SinkFails at.went
              (cut_is_longer b no_source k (seen mid) (seen new) copied.acts some.0 SinkFails first);
        })))

    abbrev count_act : Act
    count_act = record { steps = []; text = count_line (length mid.to.store.entries) }

    counted_end : (answer : CopyStatus) → IsCounted k mid new answer → Carried b k source to (seen old) (seen new) answer
    counted_end answer counted = by_answer answer counted.count
      where
        none_missing : missing source here ≡ []
        none_missing = drop_of_length-le source.entries {i = length mid.to.store.entries} (let few = counted.all in let same =
            ap length at.from_entries in omega (arith, few, same))

        does : Copies source (missing source here) here (count_act ∷ []) status.Done
        does = subst (λ (es : List Entry). Copies source es here (count_act ∷ []) status.Done) (sym none_missing) (refl, refl)

        did : tapes.Done b mid.to.unit.tape new.to.unit.tape []
        did = subst (λ (s : SideView B). tapes.Done b mid.to.unit.tape s.unit.tape []) (sym counted.to) (Done-nothing b mid.to.unit.tape)

        by_answer : (found : CopyStatus) → PrintsCount k mid.sink new.sink (length mid.to.store.entries) found → Carried b k source to
            (seen old) (seen new) found
        by_answer status.Done wrote = inl (record {
          acts = at.acts ++ count_act ∷ [];
          does = at.behind (count_act ∷ []) status.Done does;
          went = went_on (count_act ∷ [])
              (record {
                did = did;
                wrote = subst (sinks.Wrote k mid.sink new.sink)
                    (sym (append-nil (count_line (length mid.to.store.entries)))) wrote;
                source_later = omega arith;
              });
          plain = refl;
        })
        by_answer status.SinkFault broke = inr (inr (inr (record {
          answered = refl;
          acts = at.acts ++ count_act ∷ [];
          ending = status.Done;
          does = at.behind (count_act ∷ []) status.Done does;
          cut = went_then_cut b no_source k both (seen old) (seen mid) (seen new) at.acts (count_act ∷ []) SinkFails at.went
              (sink_cut_one b no_source k (seen mid) (seen new) count_act did broke (omega arith));
        })))
        by_answer found none = absurd none

  pub carried : (new : CopyView A B K) (answer : CopyStatus) → Reached a b k source to old old → MissingEnds a b k old new answer →
      Carried b k source to (seen old) (seen new) answer
  carried new answer start ends = by_end ends.ends
    where
      at : Reached a b k source to old ends.mid
      at = reached ends.count ends.mid start ends.copied

      by_end : IsRefused a b ends.mid new answer ⊎ IsUnprinted a b k ends.mid new answer ⊎ IsCounted k ends.mid new answer →
          Carried b k source to (seen old) (seen new) answer
      by_end (inl refused) = refused_end ends.mid new at answer refused
      by_end (inr (inl unprinted)) = unprinted_end ends.mid new at answer unprinted
      by_end (inr (inr counted)) = counted_end ends.mid new at answer counted
