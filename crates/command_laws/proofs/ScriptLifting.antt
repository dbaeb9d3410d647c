-- Runs of calls that reach a part of the outside alone, as runs over all of it; and a reply behind them.
use Rattle.std.proofs.Common.{[], ◌≡◌, ◌≢◌, ℕ, List, ◌∷◌, ◌++◌, refl, sym, subst, arith, append-nil}
use Rattle.command_spec.specs.Script.{reply}
use Rattle.qic_base.proofs.Joins.{went_both, went_then_cut, sink_cut_one}
use Rattle.qic_base.proofs.Steps.{Done-nothing}
use Rattle.qic_base.proofs.Writing.{TakesBoth}
use Rattle.qic_base.specs.Acts.{Outside, Act, Failing, TapeFails, SourceFails, SinkFails, Went, Cut, text_of}
use Rattle.qic_base.specs.Alone.{no_source, no_sink, around, reading, outside}
use Rattle.qic_base.specs.Sink as sinks
use Rattle.qic_base.specs.SinkCalls as sink_calls
use Rattle.qic_base.specs.Source as sources
use Rattle.qic_base.specs.Tape as tapes

-- a sink takes nothing where nothing is written
abbrev pub TakesNone : {K : Type 0} → sinks.Meaning K → Type 0
TakesNone {K} k = (x : K) → k.took x [] x

module _ {T S K : Type 0} (t : tapes.Meaning T) (s : sources.Meaning S) (k : sinks.Meaning K) where
  -- ---- the tape and the sink

  pub printed_went : (a b : T) (i j : S) (x y : K) (acts : List Act) → s.faults j ≡ s.faults i →
      Went t no_source k (around a x) (around b y) acts →
      Went t s k (outside a i x) (outside b j y) acts
  printed_went a b i j x y acts later went = record { did = went.did; wrote = went.wrote; source_later = later }

  pub printed_cut : (a b : T) (i j : S) (x y : K) (acts : List Act) (failing : Failing) → failing ≢ SourceFails → s.faults j ≡ s.faults i →
      Cut t no_source k (around a x) (around b y) acts failing → Cut t s k (outside a i x) (outside b j y) acts failing
  printed_cut a b i j x y acts TapeFails other later cut = record {
    front = cut.front;
    rest = cut.rest;
    parts = cut.parts;
    broke = cut.broke;
    here = cut.here;
    wrote = cut.wrote;
    source_later = later;
  }
  printed_cut a b i j x y acts SourceFails other later cut = absurd (other refl)
  printed_cut a b i j x y acts SinkFails other later cut = record { at = cut.at; did = cut.did; broke = cut.broke; source_later = later }

  -- ---- the tape and a source

  module _ {R : Type 0} (r : sources.Meaning R) (p q : R) (i j : S) (same : r.faults p ≡ s.faults i) (now : r.faults q ≡ s.faults j)
      (none : TakesNone k) where
    quietly : (x : K) (text : List ℕ) → sinks.Wrote no_sink tt tt text → sinks.Wrote k x x text
    quietly x text wrote = record { took = subst (λ (l : List ℕ). k.took x l x) (sym wrote.took) (none x); later = omega arith }

    pub read_went : (a b : T) (x : K) (acts : List Act) → Went t r no_sink (reading a p) (reading b q) acts →
        Went t s k (outside a i x) (outside b j x) acts
    read_went a b x acts went = record {
      did = went.did;
      wrote = quietly x (text_of acts) went.wrote;
      source_later = let e = went.source_later in omega arith;
    }

    pub read_cut : (a b : T) (x : K) (acts : List Act) (failing : Failing) → failing ≢ SinkFails →
        Cut t r no_sink (reading a p) (reading b q) acts failing →
        Cut t s k (outside a i x) (outside b j x) acts failing
    read_cut a b x acts TapeFails other cut = record {
      front = cut.front;
      rest = cut.rest;
      parts = cut.parts;
      broke = cut.broke;
      here = cut.here;
      wrote = quietly x (text_of cut.front) cut.wrote;
      source_later = let e = cut.source_later in omega arith;
    }
    read_cut a b x acts SourceFails other cut = record {
      front = cut.front;
      rest = cut.rest;
      parts = cut.parts;
      did = cut.did;
      wrote = quietly x (text_of cut.front) cut.wrote;
      cause = let e = cut.cause in omega arith;
      source_later = let e = cut.source_later in omega arith;
    }
    read_cut a b x acts SinkFails other cut = absurd (other refl)

  -- ---- a reply behind some acts

  reply_alone : (b : T) (j : S) (x y : K) (text : List ℕ) → sinks.Wrote k x y text → Went t s k (outside b j x) (outside b j y)
      (reply text ∷ [])
  reply_alone b j x y text wrote = record {
    did = Done-nothing t b;
    wrote = subst (sinks.Wrote k x y) (sym (append-nil text)) wrote;
    source_later = omega arith;
  }

  reply_broke : (b : T) (j : S) (x y : K) (text : List ℕ) → TakesNone k → sink_calls.BrokeOff k x y text →
      Cut t s k (outside b j x) (outside b j y) (reply text ∷ []) SinkFails
  reply_broke b j x y text none broke = sink_cut_one t s k (outside b j x) (outside b j y) (reply text) (Done-nothing t b) broke
      (omega arith)

  pub replied_went : TakesBoth k → (old : Outside T S K) (b : T) (j : S) (x y : K) (acts : List Act) (text : List ℕ) →
      Went t s k old (outside b j x) acts →
      sinks.Wrote k x y text → Went t s k old (outside b j y) (acts ++ reply text ∷ [])
  replied_went both old b j x y acts text went wrote =
      went_both t s k both old (outside b j x) (outside b j y) acts (reply text ∷ []) went (reply_alone b j x y text wrote)

  pub replied_cut : TakesBoth k → TakesNone k → (old : Outside T S K) (b : T) (j : S) (x y : K) (acts : List Act) (text : List ℕ) →
      Went t s k old (outside b j x) acts →
      sink_calls.BrokeOff k x y text → Cut t s k old (outside b j y) (acts ++ reply text ∷ []) SinkFails
  replied_cut both none old b j x y acts text went broke =
      went_then_cut t s k both old (outside b j x) (outside b j y) acts (reply text ∷ []) SinkFails went
      (reply_broke b j x y text none broke)

  -- nothing happened to tape and sink
  pub rested : TakesNone k → (a : T) (i j : S) (x : K) → s.faults j ≡ s.faults i → Went t s k (outside a i x) (outside a j x) []
  rested none a i j x later = record { did = Done-nothing t a; wrote = record { took = none x; later = omega arith }; source_later = later }
