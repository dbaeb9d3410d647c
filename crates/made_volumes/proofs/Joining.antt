-- How steps of `make` that ran one after the other join.
use Rattle.std.proofs.Common.{◌≢◌, ℕ, List, [], ◌++◌, Result, Ok, Err, refl, sym, subst, arith}
use Rattle.qic_base.specs.Cartridge.{Cartridge}
use Rattle.qic_base.proofs.Steps.{Tells-map, tells_two}
use Rattle.qic_base.proofs.Writing.{TakesBoth}
use Rattle.qic_base.specs.Acts.{Act, steps_of, text_of, Outside, Failing, TapeFails, SourceFails, SinkFails, Went, Cut}
use Rattle.qic_base.specs.Alone.{no_source, no_sink, around}
use Rattle.qic_base.proofs.Joins.{text_of-append, nothing_went, went_both, went_then_cut, cut_is_longer}
use Rattle.cartridge_spec.specs.Table.{Entry}
use Rattle.cartridge_spec.specs.Settling.{changed_by}
use Rattle.segment_io.proofs.Going.{tells_always}
use Rattle.command_laws.proofs.MadeTelling.{tells_before}
use Rattle.qic_base.specs.declared.store_fault.StoreFault.{StoreFault}
use Rattle.command_spec.specs.Make.{MakeStep, Runs, MayRun}
use Rattle.made_volumes.specs.Runs.{HasRun, RunCut, RunEnds}
use Rattle.command_laws.proofs.MadeMachineLaws.{runs_both, runs_longer, runs_behind, runs_front}
use Rattle.command_laws.proofs.MadeMayLaws.{may_both, may_longer}
use Rattle.command_spec.specs.declared.status.Status.{Status}
use Rattle.command_laws.specs.MadeTerms.{after_items}
use Rattle.qic_base.specs.Sink as sinks
use Rattle.qic_base.specs.Tape as tapes
use Rattle.qic_base.specs.declared.store_fault.StoreFault.TheVariants as fault
use Rattle.command_spec.specs.declared.status.Status.TheVariants as status

module _ {T K : Type 0} (t : tapes.Meaning T) (k : sinks.Meaning K) (seed : ℕ) (words : List ℕ) where
  pub run_none : (es : List Entry) (a : Outside T (Unit {0}) K) → ((x : K) → k.took x [] x) → HasRun t k seed words es [] a a status.Done
  run_none es a none = record {
    acts = [];
    went = nothing_went t no_source k none a;
    told = tells_always t a.tape (λ c. Runs seed c words es [] [] status.Done) (λ c. (refl, refl));
    may = (refl, refl);
  }

  pub run_both : TakesBoth k → (es : List Entry) (xs ys : List MakeStep) (a b c : Outside T (Unit {0}) K) (y : Status) →
      HasRun t k seed words es xs a b status.Done → HasRun t k seed words (after_items seed words es xs) ys b c y →
      HasRun t k seed words es (xs ++ ys) a c y
  run_both both es xs ys a b c y first next =
      let after : List Entry = after_items seed words es xs in
      record {
        acts = first.acts ++ next.acts;
        went = went_both t no_source k both a b c first.acts next.acts first.went next.went;
        told = tells_two t a.tape (λ d. Runs seed d words es xs first.acts status.Done)
            (λ d. Runs seed (changed_by (steps_of first.acts) d) words after ys next.acts y)
            (λ d. Runs seed d words es (xs ++ ys) (first.acts ++ next.acts) y)
            (λ d one other. runs_both seed d words es xs ys first.acts next.acts y one other) first.told
            (tells_before t a.tape b.tape (steps_of first.acts) (λ d. Runs seed d words after ys next.acts y) first.went.did next.told);
        may = subst (λ (text : List ℕ). MayRun seed words es (xs ++ ys) text y) (sym (text_of-append first.acts next.acts))
            (may_both seed words es xs ys (text_of first.acts) (text_of next.acts) y first.may next.may);
      }

  pub run_longer : (es : List Entry) (xs ys : List MakeStep) (a b : Outside T (Unit {0}) K) (y : Status) → y ≢ status.Done →
      HasRun t k seed words es xs a b y → HasRun t k seed words es (xs ++ ys) a b y
  run_longer es xs ys a b y other run = record {
    acts = run.acts;
    went = run.went;
    told = Tells-map t a.tape (λ d. Runs seed d words es xs run.acts y) (λ d. Runs seed d words es (xs ++ ys) run.acts y)
        (λ d runs. runs_longer seed d words es xs ys run.acts y other runs) run.told;
    may = may_longer seed words es xs ys (text_of run.acts) y other run.may;
  }

  -- what a cut in these steps tells of a cartridge
  abbrev CutOver : List Entry → List MakeStep → (a b : Outside T (Unit {0}) K) → Failing → Cartridge → Type 0
  CutOver es items a b failing d =
      (acts : List Act) (answer : Status) → Runs seed d words es items acts answer → Cut t no_source k a b acts failing

  pub cut_behind : TakesBoth k → (es : List Entry) (xs ys : List MakeStep) (a b c : Outside T (Unit {0}) K) (failing : Failing) →
      HasRun t k seed words es xs a b status.Done → RunCut t k seed words (after_items seed words es xs) ys b c failing →
      RunCut t k seed words es (xs ++ ys) a c failing
  cut_behind both es xs ys a b c failing first next =
      let after : List Entry = after_items seed words es xs in
      record {
        told = tells_two t a.tape (λ d. Runs seed d words es xs first.acts status.Done)
            (λ d. CutOver after ys b c failing (changed_by (steps_of first.acts) d)) (CutOver es (xs ++ ys) a c failing)
            (λ d one other acts answer all.
            let behind = runs_behind seed d words es xs ys first.acts acts answer one all in
            subst (λ (zs : List Act). Cut t no_source k a c zs failing) behind.parts
            (went_then_cut t no_source k both a b c first.acts behind.rest failing first.went (other behind.rest answer behind.runs)))
            first.told (tells_before t a.tape b.tape (steps_of first.acts) (CutOver after ys b c failing) first.went.did next.told);
        acts = first.acts ++ next.acts;
        cut = went_then_cut t no_source k both a b c first.acts next.acts failing first.went next.cut;
      }

  pub cut_longer : (es : List Entry) (xs ys : List MakeStep) (a b : Outside T (Unit {0}) K) (failing : Failing) →
      RunCut t k seed words es xs a b failing → RunCut t k seed words es (xs ++ ys) a b failing
  cut_longer es xs ys a b failing cut = record {
    told = Tells-map t a.tape (CutOver es xs a b failing) (CutOver es (xs ++ ys) a b failing)
        (λ d here acts answer all.
        let front = runs_front seed d words es xs ys acts answer all in
        subst (λ (zs : List Act). Cut t no_source k a b zs failing) front.parts
        (cut_is_longer t no_source k a b front.acts front.rest failing
        (here front.acts front.answer front.runs))) cut.told;
    acts = cut.acts;
    cut = cut.cut;
  }

  -- ---- by the answer

  -- steps behind others that were carried out
  pub ends_behind : TakesBoth k → (es : List Entry) (xs ys : List MakeStep) (a b c : Outside T (Unit {0}) K)
      (r : Result (Unit {0}) StoreFault) →
      HasRun t k seed words es xs a b status.Done → RunEnds t k seed words (after_items seed words es xs) ys b c r →
      RunEnds t k seed words es (xs ++ ys) a c r
  ends_behind both es xs ys a b c (Ok done) first next = run_both both es xs ys a b c status.Done first next
  ends_behind both es xs ys a b c (Err fault.Protected) first next = run_both both es xs ys a b c status.Protected first next
  ends_behind both es xs ys a b c (Err fault.TableMismatch) first next = run_both both es xs ys a b c status.TableMismatch first next
  ends_behind both es xs ys a b c (Err (fault.Full need have)) first next = run_both both es xs ys a b c (status.Full need have) first next
  ends_behind both es xs ys a b c (Err (fault.Lost segment lost)) first next = run_both both es xs ys a b c
      (status.Lost segment lost) first next
  ends_behind both es xs ys a b c (Err (fault.Mismatch segment)) first next = run_both both es xs ys a b c
      (status.Mismatch segment) first next
  ends_behind both es xs ys a b c (Err fault.Sink) first next = cut_behind both es xs ys a b c SinkFails first next
  ends_behind both es xs ys a b c (Err fault.Tape) first next = cut_behind both es xs ys a b c TapeFails first next
  ends_behind both es xs ys a b c (Err f) first next = absurd next

  -- steps that were refused or cut off, whatever would have come behind them
  pub ends_longer : (es : List Entry) (xs ys : List MakeStep) (a b : Outside T (Unit {0}) K) (f : StoreFault) →
      RunEnds t k seed words es xs a b (Err f) → RunEnds t k seed words es (xs ++ ys) a b (Err f)
  ends_longer es xs ys a b fault.Protected run = run_longer es xs ys a b status.Protected (λ is. cc) run
  ends_longer es xs ys a b fault.TableMismatch run = run_longer es xs ys a b status.TableMismatch (λ is. cc) run
  ends_longer es xs ys a b (fault.Full need have) run = run_longer es xs ys a b (status.Full need have) (λ is. cc) run
  ends_longer es xs ys a b (fault.Lost segment lost) run = run_longer es xs ys a b (status.Lost segment lost) (λ is. cc) run
  ends_longer es xs ys a b (fault.Mismatch segment) run = run_longer es xs ys a b (status.Mismatch segment) (λ is. cc) run
  ends_longer es xs ys a b fault.Sink cut = cut_longer es xs ys a b SinkFails cut
  ends_longer es xs ys a b fault.Tape cut = cut_longer es xs ys a b TapeFails cut
  ends_longer es xs ys a b f run = absurd run

-- ---- steps that print nothing

module _ {T K : Type 0} (t : tapes.Meaning T) (k : sinks.Meaning K) (a b : T) (x : K) (none : k.took x [] x) where
  quiet_wrote : (text : List ℕ) → sinks.Wrote no_sink tt tt text → sinks.Wrote k x x text
  quiet_wrote text wrote = record {
    took = subst (λ (bytes : List ℕ). k.took x bytes x) (sym wrote.took) none;
    later = omega arith;
  }

  went_quietly : (acts : List Act) → Went t no_source no_sink (around a tt) (around b tt) acts →
      Went t no_source k (around a x) (around b x) acts
  went_quietly acts went = record {
    did = went.did;
    wrote = quiet_wrote (text_of acts) went.wrote;
    source_later = went.source_later;
  }

  cut_quietly : (acts : List Act) (failing : Failing) → Cut t no_source no_sink (around a tt) (around b tt) acts failing →
      Cut t no_source k (around a x) (around b x) acts failing
  cut_quietly acts TapeFails cut = record {
    front = cut.front;
    rest = cut.rest;
    parts = cut.parts;
    broke = cut.broke;
    here = cut.here;
    wrote = quiet_wrote (text_of cut.front) cut.wrote;
    source_later = cut.source_later;
  }
  cut_quietly acts SourceFails cut = record {
    front = cut.front;
    rest = cut.rest;
    parts = cut.parts;
    did = cut.did;
    wrote = quiet_wrote (text_of cut.front) cut.wrote;
    cause = cut.cause;
    source_later = cut.source_later;
  }
  cut_quietly acts SinkFails cut = absurd (let rose = cut.broke.cause in omega arith)

module _ {T K : Type 0} (t : tapes.Meaning T) (k : sinks.Meaning K) (seed : ℕ) (words : List ℕ) (es : List Entry) (items : List MakeStep)
    (a b : T) (x : K) (none : k.took x [] x) where
  run_quietly : (y : Status) → HasRun t no_sink seed words es items (around a tt) (around b tt) y →
      HasRun t k seed words es items (around a x) (around b x) y
  run_quietly y run = record { acts = run.acts; went = went_quietly t k a b x none run.acts run.went; told = run.told; may = run.may }

  broke_quietly : (failing : Failing) → RunCut t no_sink seed words es items (around a tt) (around b tt) failing →
      RunCut t k seed words es items (around a x) (around b x) failing
  broke_quietly failing cut = record {
    told = Tells-map t a (CutOver t no_sink seed words es items (around a tt) (around b tt) failing)
        (CutOver t k seed words es items (around a x) (around b x) failing)
        (λ d here acts answer runs. cut_quietly t k a b x none acts failing (here acts answer runs)) cut.told;
    acts = cut.acts;
    cut = cut_quietly t k a b x none cut.acts failing cut.cut;
  }

  -- they ended so with a sink that they were not handed, too
  pub ends_quietly : (r : Result (Unit {0}) StoreFault) → RunEnds t no_sink seed words es items (around a tt) (around b tt) r →
      RunEnds t k seed words es items (around a x) (around b x) r
  ends_quietly (Ok done) run = run_quietly status.Done run
  ends_quietly (Err fault.Protected) run = run_quietly status.Protected run
  ends_quietly (Err fault.TableMismatch) run = run_quietly status.TableMismatch run
  ends_quietly (Err (fault.Full need have)) run = run_quietly (status.Full need have) run
  ends_quietly (Err (fault.Lost segment lost)) run = run_quietly (status.Lost segment lost) run
  ends_quietly (Err (fault.Mismatch segment)) run = run_quietly (status.Mismatch segment) run
  ends_quietly (Err fault.Sink) cut = broke_quietly SinkFails cut
  ends_quietly (Err fault.Tape) cut = broke_quietly TapeFails cut
  ends_quietly (Err f) run = absurd run
