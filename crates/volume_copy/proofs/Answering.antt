-- What a copy's answer says, and what it prints, over any tapes and sink.
use Rattle.std.proofs.Common.{◌≡◌, ◌≢◌, ◌⊎◌, ℕ, ◌+◌, ◌<◌, ◌≤◌, Bool, true, false, List, [], ◌∷◌, ◌++◌, length, Option, Some, None, Result}
use Rattle.std.proofs.Common.{Ok, Err, refl, ap, sym, subst, ◌∙◌, arith, inl, inr, append_assoc, length-append}
use Rattle.std.specs.Prelude.{if◌then◌else◌, ◌==◌, nat_lt}
use Rattle.std.proofs.lemmas.Bool.{and_from, lt-ltb}
use Rattle.cartridge_spec.specs.Table.{Entry}
use Rattle.cartridge_spec.specs.Volumes.{volume_length}
use Rattle.command_spec.specs.Copied.{copied_lines}
use Rattle.command_spec.specs.CopyPromises.{CopiesJoin, Decks, HasKind, HasRisen, IsCopyText, PrintsCopies, is_before_copies}
use Rattle.command_spec.specs.CopyPromises.{is_from_broken, is_sink_broken, is_to_broken}
use Rattle.command_spec.specs.Copying.{copied_line, difference, is_alike}
use Rattle.command_spec.specs.Lines.{count_line}
use Rattle.command_spec.specs.declared.copy_status.CopyStatus.{CopyStatus}
use Rattle.drive_states.specs.Unit.{UnitView}
use Rattle.qic_base.proofs.Writing.{TakesBoth, some_longer}
use Rattle.qic_base.specs.Alone.{reading}
use Rattle.volume_store.proofs.Refusals.{foreign_is_refused}
use Rattle.volume_store.specs.Mounting.{StoreView}
use Rattle.volume_store.specs.Opening.{OpenFails}
use Rattle.volume_copy.proofs.Ends.{decks_of}
use Rattle.volume_copy.proofs.Goes.{Chained, GoesOn, append_kind, append_late, chained, count_behind, goes_broke, goes_both}
use Rattle.volume_copy.proofs.Goes.{goes_done, goes_read, goes_same, lines_more, missing_goes, reads_count, reads_only}
use Rattle.volume_copy.specs.Runs.{BothRefused, CopiesOne, CopyView, HasRun, IsCounted, IsRefused, IsUnlike, IsUnprinted}
use Rattle.volume_copy.specs.Runs.{MissingEnds, PrintsCount, RunEnds, SideView, Units, append_answer, append_status, from_status}
use Rattle.volume_copy.specs.Runs.{next_number, to_status}
use Rattle.volume_copy.specs.Source.{new_source, source_means}
use Rattle.volume_store.specs.Appending.{AppendEnds}
use Rattle.volume_store.specs.declared.appended.Appended.{Appended}
use Rattle.qic_base.specs.declared.store_fault.StoreFault.{StoreFault}
use Rattle.command_spec.specs.declared.copy_status.CopyStatus.TheVariants as status
use Rattle.qic_base.specs.Sink as sinks
use Rattle.qic_base.specs.Tape as tapes
use Rattle.qic_base.specs.declared.store_fault.StoreFault.TheVariants as fault

-- ---- the kinds of refusals

from_kind : {T : Type 0} (t : tapes.Meaning T) (x y : T) (why : Option StoreFault) → OpenFails t x y why → HasKind (from_status why)
from_kind t x y None fails = tt
from_kind t x y (Some fault.NotFormatted) fails = refl
from_kind t x y (Some (fault.Foreign field value)) fails = foreign_is_refused fails.segments field value fails.cause
from_kind t x y (Some (fault.Lost segment lost)) fails = lt-ltb 3 lost fails.cause.1.0
from_kind t x y (Some fault.TableMismatch) fails = refl
from_kind t x y (Some fault.Tape) fails = refl
from_kind t x y (Some f) fails = let kind = fails.kind in absurd (cc)

to_kind : {T : Type 0} (t : tapes.Meaning T) (x y : T) (why : Option StoreFault) → OpenFails t x y why → HasKind (to_status why)
to_kind t x y None fails = tt
to_kind t x y (Some fault.NotFormatted) fails = refl
to_kind t x y (Some (fault.Foreign field value)) fails = foreign_is_refused fails.segments field value fails.cause
to_kind t x y (Some (fault.Lost segment lost)) fails =
    and_from (segment == 2) (nat_lt 3 lost) (ap (λ (s : ℕ). s == 2) fails.cause.0) (lt-ltb 3 lost fails.cause.1.0)
to_kind t x y (Some fault.TableMismatch) fails = refl
to_kind t x y (Some fault.Tape) fails = refl
to_kind t x y (Some f) fails = let kind = fails.kind in absurd (cc)

-- the number of a volume that differs
pub record IsNumberOf (first : ℕ) (others : List Entry) (number : ℕ) : Type 0 where
  pub least : first ≤ number
  pub most : number < first + length others

pub differs_at_most : (words : List ℕ) (es : List Entry) (words' : List ℕ) (es' : List Entry) (n number : ℕ) → difference words es words'
    es' n ≡ Some number → IsNumberOf n es' number
differs_at_most words es words' [] n number is = absurd (cc)
differs_at_most words [] words' (e' ∷ es') n number is =
    let same : n ≡ number = cc in record { least = omega (arith, same); most = omega (arith, same) }
differs_at_most words (e ∷ es) words' (e' ∷ es') n number is = by_test (is_alike words e words' e') (λ rest. differs_at_most words es words'
    es' (n + 1) number rest) is
  where
    by_test : (like : Bool) → (difference words es words' es' (n + 1) ≡ Some number → IsNumberOf (n + 1) es' number) →
        (if like then difference words es words' es' (n + 1) else Some n) ≡ Some number →
        IsNumberOf n (e' ∷ es') number
    by_test true later rest =
        let found = later rest in
        record { least = let l = found.least in omega (arith, l); most = let m = found.most in omega (arith, m) }
    by_test false later here = let same : n ≡ number = cc in record { least = omega (arith, same); most = omega (arith, same) }

-- ---- one volume that was refused

module _ {A B : Type 0} (a : tapes.Meaning A) (b : tapes.Meaning B) (number : ℕ) (from after : SideView A) (to new : SideView B)
    (answer : CopyStatus) (one : CopiesOne a b number from after to new (Err answer)) where
  abbrev Ended : Result Appended StoreFault → Type 0
  Ended r = AppendEnds b (source_means a) (reading to.unit.tape (new_source from.store from.unit number)) (reading new.unit.tape one.source)
      to.store new.store one.entry.name one.entry.date (Some (volume_length from.store.words one.entry)) r

  -- the append's refusal makes the answer
  pub record FailsSo : Type 0 where
    pub fault : StoreFault
    pub is : one.appended ≡ Err fault
    pub ends : Ended (Err fault)
    pub answered : answer ≡ append_status fault one.source.fault

  pub fails_so : FailsSo
  fails_so = by_answer one.appended refl
    where
      by_answer : (r : Result Appended StoreFault) → one.appended ≡ r → FailsSo
      by_answer (Ok appended) is =
          let no : Err answer ≡ append_answer (Ok appended) one.source.fault = one.is ∙ ap (λ (r : Result Appended StoreFault).
          append_answer r one.source.fault) is in absurd (cc)
      by_answer (Err f) is =
          let same : Err answer ≡ append_answer (Err f) one.source.fault = one.is ∙ ap (λ (r : Result Appended StoreFault).
          append_answer r one.source.fault) is in
          record { fault = f; is = is; ends = subst Ended is one.ends; answered = cc }

  pub one_kind : HasKind answer
  one_kind =
      subst HasKind (sym fails_so.answered)
      (append_kind a b to.unit.tape new.unit.tape (new_source from.store from.unit number) one.source to.store new.store one.entry.name
      one.entry.date (volume_length from.store.words one.entry) fails_so.fault one.source.fault
      fails_so.ends one.sound.kind)

  pub one_late : is_before_copies answer ≡ false
  one_late =
      ap is_before_copies fails_so.answered
      ∙ append_late a b to.unit.tape new.unit.tape (new_source from.store from.unit number) one.source to.store new.store one.entry.name
      one.entry.date (volume_length from.store.words one.entry) fails_so.fault one.source.fault
      fails_so.ends one.sound.kind

-- it is neither that all was done nor a fault of the sink
pub record IsOther (answer : CopyStatus) : Type 0 where
  pub done : answer ≢ status.Done
  pub sink : answer ≢ status.SinkFault

append_other : (f : StoreFault) (o : Option StoreFault) → IsOther (append_status f o)
append_other fault.Source (Some why) = record { done = λ is. cc; sink = λ is. cc }
append_other fault.Source None = record { done = λ is. cc; sink = λ is. cc }
append_other f o = record { done = λ is. cc; sink = λ is. cc }

other_text : (answer : CopyStatus) → IsOther answer → (count : ℕ) (lengths text : List ℕ) →
    (is_before_copies answer ≡ true → lengths ≡ []) → text ≡ copied_lines (count + 1) lengths → IsCopyText answer text
other_text status.Done other count lengths text before is = absurd (other.done refl)
other_text status.SinkFault other count lengths text before is = absurd (other.sink refl)
other_text answer other count lengths text before is = (count, (lengths, before, is))

pub no_text : (answer : CopyStatus) → IsOther answer → IsCopyText answer []
no_text answer other = other_text answer other 0 [] [] (λ before. refl) refl

from_other : (why : Option StoreFault) → IsOther (from_status why)
from_other None = record { done = λ is. cc; sink = λ is. cc }
from_other (Some f) = record { done = λ is. cc; sink = λ is. cc }

to_other : (why : Option StoreFault) → IsOther (to_status why)
to_other None = record { done = λ is. cc; sink = λ is. cc }
to_other (Some f) = record { done = λ is. cc; sink = λ is. cc }

-- ---- a run

module _ {A B K : Type 0} (a : tapes.Meaning A) (b : tapes.Meaning B) (k : sinks.Meaning K) where
  -- what the counts do behind calls that left them as they were
  risen_after : (old mid new : Decks A B K) (answer : CopyStatus) → a.faults mid.from ≡ a.faults old.from →
      b.faults mid.to ≡ b.faults old.to → k.faults mid.sink ≡ k.faults old.sink →
      HasRisen a b k mid new answer → HasRisen a b k old new answer
  risen_after old mid new answer from to sink risen = record {
    from = count_behind (is_from_broken answer) (a.faults old.from) (a.faults mid.from) (a.faults new.from) from risen.from;
    to = count_behind (is_to_broken answer) (b.faults old.to) (b.faults mid.to) (b.faults new.to) to risen.to;
    sink = count_behind (is_sink_broken answer) (k.faults old.sink) (k.faults mid.sink) (k.faults new.sink) sink risen.sink;
  }

  open_goes : {T : Type 0} (t : tapes.Meaning T) (x y : T) (why : Option StoreFault) → OpenFails t x y why → GoesOn t x y
  open_goes t x y None fails = goes_done t x y [] fails.0
  open_goes t x y (Some fault.Tape) fails = goes_broke t x y fails.steps fails.broke
  open_goes t x y (Some fault.NotFormatted) fails = goes_done t x y [] fails.did
  open_goes t x y (Some (fault.Foreign field value)) fails = goes_done t x y [] fails.did
  open_goes t x y (Some (fault.Lost segment lost)) fails = goes_done t x y [] fails.did
  open_goes t x y (Some fault.TableMismatch) fails = goes_done t x y [] fails.did
  open_goes t x y (Some f) fails = let kind = fails.kind in absurd (cc)

  abbrev decks_in : CopyView A B K → Decks A B K
  decks_in view = record { from = view.from.unit.tape; to = view.to.unit.tape; sink = view.sink }

  module _ (old new : Units A B K) where
    -- ---- the cause

    module _ (quiet : k.faults new.sink ≡ k.faults old.sink) where
      from_risen : (why : Option StoreFault) → OpenFails a old.from.tape new.from.tape why → b.faults new.to.tape ≡ b.faults old.to.tape →
          HasRisen a b k (decks_of old) (decks_of new) (from_status why)
      from_risen None fails to = record { from = fails.0.later; to = to; sink = quiet }
      from_risen (Some fault.Tape) fails to = record { from = fails.broke.cause; to = to; sink = quiet }
      from_risen (Some fault.NotFormatted) fails to = record { from = fails.did.later; to = to; sink = quiet }
      from_risen (Some (fault.Foreign field value)) fails to = record { from = fails.did.later; to = to; sink = quiet }
      from_risen (Some (fault.Lost segment lost)) fails to = record { from = fails.did.later; to = to; sink = quiet }
      from_risen (Some fault.TableMismatch) fails to = record { from = fails.did.later; to = to; sink = quiet }
      from_risen (Some f) fails to = let kind = fails.kind in absurd (cc)

      module _ (from : a.faults new.from.tape ≡ a.faults old.from.tape) where
        to_risen : (why : Option StoreFault) → OpenFails b old.to.tape new.to.tape why →
            HasRisen a b k (decks_of old) (decks_of new) (to_status why)
        to_risen None fails = record { from = from; to = fails.0.later; sink = quiet }
        to_risen (Some fault.Tape) fails = record { from = from; to = fails.broke.cause; sink = quiet }
        to_risen (Some fault.NotFormatted) fails = record { from = from; to = fails.did.later; sink = quiet }
        to_risen (Some (fault.Foreign field value)) fails = record { from = from; to = fails.did.later; sink = quiet }
        to_risen (Some (fault.Lost segment lost)) fails = record { from = from; to = fails.did.later; sink = quiet }
        to_risen (Some fault.TableMismatch) fails = record { from = from; to = fails.did.later; sink = quiet }
        to_risen (Some f) fails = let kind = fails.kind in absurd (cc)

        unlike_risen : (source target : StoreView) → b.faults new.to.tape ≡ b.faults old.to.tape → (answer : CopyStatus) →
            IsUnlike source target answer → HasRisen a b k (decks_of old) (decks_of new) answer
        unlike_risen source target to answer (inl protected) =
            subst (HasRisen a b k (decks_of old) (decks_of new)) (sym protected.1) (record { from = from; to = to; sink = quiet })
        unlike_risen source target to answer (inr differs) =
            subst (HasRisen a b k (decks_of old) (decks_of new)) (sym differs.1.2) (record { from = from; to = to; sink = quiet })

  module _ (both : TakesBoth k) (nothing : (z : K) → k.took z [] z) where
    -- ---- the missing volumes

    module _ (old new : CopyView A B K) (answer : CopyStatus) (ends : MissingEnds a b k old new answer) (chain : Chained a b k old ends.mid)
      where
        missing_kind : HasKind answer
        missing_kind = by_end ends.ends
          where
            by_count : (found : CopyStatus) → PrintsCount k ends.mid.sink new.sink (length ends.mid.to.store.entries) found → HasKind found
            by_count status.Done wrote = tt
            by_count status.SinkFault broke = tt
            by_count found none = absurd none

            by_end : IsRefused a b ends.mid new answer ⊎ IsUnprinted a b k ends.mid new answer ⊎ IsCounted k ends.mid new answer →
                HasKind answer
            by_end (inl refused) = one_kind a b (next_number ends.mid) ends.mid.from new.from ends.mid.to new.to answer refused.one
            by_end (inr (inl unprinted)) = subst HasKind (sym unprinted.answered) tt
            by_end (inr (inr counted)) = by_count answer counted.count

        -- ---- what is printed

        abbrev count : ℕ
        count = length old.to.store.entries

        abbrev lines : List ℕ
        lines = copied_lines (length old.to.store.entries + 1) chain.lengths

        entries_now : length ends.mid.to.store.entries ≡ count + length chain.lengths
        entries_now =
            let all : length ends.mid.to.store.entries ≡ length old.to.store.entries + length chain.more = ap length chain.to_entries ∙
            length-append old.to.store.entries chain.more in
            let same = chain.many in omega (arith, all, same)

        counted_line : count_line (length ends.mid.to.store.entries) ≡ count_line (count + length chain.lengths)
        counted_line = ap count_line entries_now

        missing_printed : PrintsCopies k answer old.sink new.sink
        missing_printed = by_end ends.ends
          where
            by_count : (found : CopyStatus) → PrintsCount k ends.mid.sink new.sink (length ends.mid.to.store.entries) found →
                PrintsCopies k found old.sink new.sink
            by_count status.Done wrote = record {
              text = lines ++ count_line (length ends.mid.to.store.entries);
              is_text = (count, (chain.lengths, ap (λ (text : List ℕ). lines ++ text) counted_line));
              took = both old.sink ends.mid.sink new.sink lines (count_line (length ends.mid.to.store.entries)) chain.took wrote.took;
            }
            by_count status.SinkFault broke = record {
              text = lines ++ broke.front;
              is_text = (
                count,
                (
                  chain.lengths,
                  (
                    broke.rest,
                    broke.some,
                    append_assoc lines broke.front broke.rest ∙ ap (λ (text : List ℕ). lines ++ text) (broke.parts ∙ counted_line),
                  ),
                ),
              );
              took = both old.sink ends.mid.sink new.sink lines broke.front chain.took broke.took;
            }
            by_count found none = absurd none

            refused_printed : IsRefused a b ends.mid new answer → PrintsCopies k answer old.sink new.sink
            refused_printed refused =
                let so = fails_so a b (next_number ends.mid) ends.mid.from new.from ends.mid.to new.to answer refused.one in
                let late : is_before_copies answer ≡ false = one_late a b (next_number ends.mid) ends.mid.from new.from ends.mid.to new.to
                answer refused.one in
                record {
                  text = lines;
                  is_text = other_text answer (subst IsOther (sym so.answered) (append_other so.fault refused.one.source.fault)) count
                      chain.lengths lines (λ before. absurd (let no : true ≡ false = sym before ∙ late in cc)) refl;
                  took = subst (λ (z : K). k.took old.sink lines z) (sym refused.sink) chain.took;
                }

            unprinted_text : (unprinted : IsUnprinted a b k ends.mid new answer) → IsCopyText status.SinkFault
                (lines ++ unprinted.line.front)
            unprinted_text unprinted =
                let bytes : ℕ = unprinted.bytes in
                let lengths : List ℕ = chain.lengths ++ bytes ∷ [] in
                let front : List ℕ = unprinted.line.front in
                let rest : List ℕ = unprinted.line.rest in
                let last : List ℕ = count_line (count + length lengths) in
                let number : next_number ends.mid ≡ count + 1 + length chain.lengths = let all = entries_now in omega (arith, all) in (
                  count,
                  (
                    lengths,
                    (
                      rest ++ last,
                      some_longer rest last unprinted.line.some,
                      append_assoc lines front (rest ++ last)
                          ∙ ap (λ (text : List ℕ). lines ++ text) (sym (append_assoc front rest last) ∙ ap (λ (text : List ℕ). text ++ last)
                          (unprinted.line.parts ∙ ap (λ (m : ℕ). copied_line m bytes) number))
                          ∙ sym (append_assoc lines (copied_line (count + 1 + length chain.lengths) bytes) last)
                          ∙ ap (λ (text : List ℕ). text ++ last) (sym (lines_more (count + 1) chain.lengths bytes)),
                    ),
                  ),
                )

            by_end : IsRefused a b ends.mid new answer ⊎ IsUnprinted a b k ends.mid new answer ⊎ IsCounted k ends.mid new answer →
                PrintsCopies k answer old.sink new.sink
            by_end (inl refused) = refused_printed refused
            by_end (inr (inl unprinted)) =
                subst (λ (found : CopyStatus). PrintsCopies k found old.sink new.sink) (sym unprinted.answered) (record {
                  text = lines ++ unprinted.line.front;
                  is_text = unprinted_text unprinted;
                  took = both old.sink ends.mid.sink new.sink lines unprinted.line.front chain.took unprinted.line.took;
                })
            by_end (inr (inr counted)) = by_count answer counted.count

    -- ---- the run

    module _ (old new : Units A B K) (answer : CopyStatus) where
      run_chain : (run : HasRun a b k old new answer) → Chained a b k run.begun run.missing.mid
      run_chain run =
          chained a b k both nothing run.missing.count run.begun run.missing.mid run.opened.opened_source.fits run.opened.opened_target.fits
          run.missing.copied

      silent : new.sink ≡ old.sink → IsOther answer → PrintsCopies k answer old.sink new.sink
      silent same other = record {
        text = [];
        is_text = no_text answer other;
        took = subst (λ (z : K). k.took old.sink [] z) (sym same)
            (nothing old.sink);
      }

      refused_other : BothRefused a b old.from.tape new.from old.to new.to answer → IsOther answer
      refused_other (inl refused) = subst IsOther (sym refused.3) (from_other refused.0)
      refused_other (inr (inl refused)) = subst IsOther (sym refused.4) (to_other refused.1)
      refused_other (inr (inr (source, target, opened, opened', inl protected))) = subst IsOther (sym protected.1)
          (record { done = λ is. cc; sink = λ is. cc })
      refused_other (inr (inr (source, target, opened, opened', inr differs))) = subst IsOther (sym differs.1.2)
          (record { done = λ is. cc; sink = λ is. cc })

      pub run_printed : RunEnds a b k old new answer → PrintsCopies k answer old.sink new.sink
      run_printed (inl (refused, same)) = silent same (refused_other refused)
      run_printed (inr run) =
          subst (λ (units : Units A B K). PrintsCopies k answer old.sink units.sink) (sym run.left)
          (subst (λ (z : K). PrintsCopies k answer z run.ended.sink) run.sink (missing_printed run.begun run.ended answer run.missing
          (run_chain run)))

      pub run_kind : RunEnds a b k old new answer → HasKind answer
      run_kind (inl (inl refused, same)) = subst HasKind (sym refused.3) (from_kind a old.from.tape new.from.tape refused.0 refused.1)
      run_kind (inl (inr (inl refused), same)) = subst HasKind (sym refused.4) (to_kind b old.to.tape new.to.tape refused.1 refused.3)
      run_kind (inl (inr (inr (source, target, opened, opened', inl protected)), same)) = subst HasKind (sym protected.1) refl
      run_kind (inl (inr (inr (source, target, opened, opened', inr differs)), same)) =
          let found = differs_at_most source.words source.entries target.words target.entries 1 differs.1.0 differs.1.1 in
          subst HasKind (sym differs.1.2) (let least = found.least in omega (arith, least))
      run_kind (inr run) = missing_kind run.begun run.ended answer run.missing (run_chain run)

      pub run_risen : RunEnds a b k old new answer → HasRisen a b k (decks_of old) (decks_of new) answer
      run_risen (inl (inl refused, same)) =
          subst (HasRisen a b k (decks_of old) (decks_of new)) (sym refused.3)
          (from_risen old new (ap k.faults same) refused.0 refused.1 (ap (λ (u : UnitView B). b.faults u.tape) refused.2))
      run_risen (inl (inr (inl refused), same)) =
          subst (HasRisen a b k (decks_of old) (decks_of new)) (sym refused.4)
          (to_risen old new (ap k.faults same) refused.2.did.later refused.1 refused.3)
      run_risen (inl (inr (inr (source, target, opened, opened', unlike)), same)) =
          unlike_risen old new (ap k.faults same) opened.did.later source target opened'.did.later answer unlike
      run_risen (inr run) =
          let begun : CopyView A B K = run.begun in
          let ended : CopyView A B K = run.ended in
          let goes = missing_goes a b k both nothing begun ended answer run.opened.opened_source.fits run.opened.opened_target.fits
          run.missing in
          subst (λ (units : Units A B K). HasRisen a b k (decks_of old) (decks_of units) answer) (sym run.left)
          (risen_after (decks_of old) (decks_in begun) (decks_in ended) answer run.opened.opened_source.did.later
          run.opened.opened_target.did.later (ap k.faults run.sink) (record {
            from = reads_count a begun.from.unit.tape ended.from.unit.tape answer goes.from;
            to = goes.to_count;
            sink = goes.sink_count;
          }))

      -- ---- two copies

      record RunGoes : Type 0 where
        from : GoesOn a old.from.tape new.from.tape
        to : GoesOn b old.to.tape new.to.tape
        sink : k.faults old.sink ≤ k.faults new.sink

      run_goes : RunEnds a b k old new answer → RunGoes
      run_goes (inl (inl refused, same)) = record {
        from = open_goes a old.from.tape new.from.tape refused.0 refused.1;
        to = subst (λ (u : UnitView B). GoesOn b old.to.tape u.tape) (sym refused.2) (goes_same b old.to.tape old.to.tape refl);
        sink = let is : k.faults new.sink ≡ k.faults old.sink = ap k.faults same in omega (arith, is);
      }
      run_goes (inl (inr (inl refused), same)) = record {
        from = goes_done a old.from.tape new.from.tape refused.2.steps refused.2.did;
        to = open_goes b old.to.tape new.to.tape refused.1 refused.3;
        sink = let is : k.faults new.sink ≡ k.faults old.sink = ap k.faults same in omega (arith, is);
      }
      run_goes (inl (inr (inr (source, target, opened, opened', unlike)), same)) = record {
        from = goes_done a old.from.tape new.from.tape opened.steps opened.did;
        to = goes_done b old.to.tape new.to.tape opened'.steps opened'.did;
        sink = let is : k.faults new.sink ≡ k.faults old.sink = ap k.faults same in omega (arith, is);
      }
      run_goes (inr run) =
          let begun : CopyView A B K = run.begun in
          let ended : CopyView A B K = run.ended in
          let goes = missing_goes a b k both nothing begun ended answer run.opened.opened_source.fits run.opened.opened_target.fits
          run.missing in record {
            from = subst (λ (units : Units A B K). GoesOn a old.from.tape units.from.tape) (sym run.left)
                (goes_both a old.from.tape begun.from.unit.tape ended.from.unit.tape (goes_done a old.from.tape begun.from.unit.tape
                run.opened.opened_source.steps run.opened.opened_source.did)
                (goes_read a begun.from.unit.tape ended.from.unit.tape
                (reads_only a begun.from.unit.tape ended.from.unit.tape answer goes.from)));
            to = subst (λ (units : Units A B K). GoesOn b old.to.tape units.to.tape) (sym run.left)
                (goes_both b old.to.tape begun.to.unit.tape ended.to.unit.tape (goes_done b old.to.tape begun.to.unit.tape
                run.opened.opened_target.steps run.opened.opened_target.did) goes.to);
            sink = subst (λ (units : Units A B K). k.faults old.sink ≤ k.faults units.sink) (sym run.left)
                (let is : k.faults begun.sink ≡ k.faults old.sink = ap k.faults run.sink in let later = goes.sink in omega
                (arith, is, later));
          }

      joins_of : RunGoes → CopiesJoin a b k (decks_of old) (decks_of new)
      joins_of goes = record {
        from_later = goes.from.later;
        to_later = goes.to.later;
        sink_later = goes.sink;
        from_tells = goes.from.tells;
        to_tells = goes.to.tells;
        from_stops = goes.from.stops;
        to_stops = goes.to.stops;
      }

      pub run_joins : RunEnds a b k old new answer → CopiesJoin a b k (decks_of old) (decks_of new)
      run_joins ends = joins_of (run_goes ends)

  -- nothing was touched
  pub none_joins : (old new : Decks A B K) → new ≡ old → CopiesJoin a b k old new
  none_joins old new same =
      subst (CopiesJoin a b k old) (sym same) (record {
        from_later = omega arith;
        to_later = omega arith;
        sink_later = omega arith;
        from_tells = refl;
        to_tells = refl;
        from_stops = (goes_same a old.from old.from refl).stops;
        to_stops = (goes_same b old.to old.to refl).stops;
      })
