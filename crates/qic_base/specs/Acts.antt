-- Acts: what a command does to the tape and what it prints, part by part; and how a run over them went (this project's
-- own). Steps and text are tied to one number of acts, so that a text that was printed tells which steps were done.
use Rattle.std.specs.Prelude.{ℕ, List, [], ◌∷◌, ◌++◌, ◌≤◌, ◌≡◌, Option, Some, ◌≢◌}
use Rattle.qic_base.specs.Cartridge.{Cartridge}
use Rattle.qic_base.specs.Tape.{Rose}
use Rattle.qic_base.specs.Step.{Step, effects, Torn}
use Rattle.qic_base.specs.Sink as sinks
use Rattle.qic_base.specs.Source as sources
use Rattle.qic_base.specs.Tape as tapes

-- some steps of the tape, and then a text
pub record Act : Type 0 where
  pub steps : List Step
  pub text : List ℕ

-- the steps of acts, one after the other
abbrev pub steps_of : List Act → List Step
steps_of [] = []
steps_of (act ∷ acts) = act.steps ++ steps_of acts

-- and their texts
abbrev pub text_of : List Act → List ℕ
text_of [] = []
text_of (act ∷ acts) = act.text ++ text_of acts

-- ---- the outside

-- the tape, the source and the sink, before a run or after it
pub record Outside (T S K : Type 0) : Type 0 where
  pub tape : T
  pub source : S
  pub sink : K

-- the object of the outside that failed
pub data Failing : Type 0 where
  TapeFails : Failing
  SourceFails : Failing
  SinkFails : Failing

-- ---- how acts went

-- All acts were done and their texts written, and nothing else.
pub record Went {T S K : Type 0} (t : tapes.Meaning T) (s : sources.Meaning S) (k : sinks.Meaning K) (old new : Outside T S K)
    (acts : List Act) : Type 0 where
  pub did : tapes.Done t old.tape new.tape (steps_of acts)
  pub wrote : sinks.Wrote k old.sink new.sink (text_of acts)
  pub source_later : s.faults new.source ≡ s.faults old.source

-- the steps of the first of some acts
abbrev pub next_steps : List Act → List Step
next_steps [] = []
next_steps (act ∷ acts) = act.steps

-- The acts of a front were done and written; a fault of the tape broke the steps of the next one off, whose text was not
-- begun. It may come behind the last act, too, and where there is none: in a call that only reads.
pub record TapeCut {T S K : Type 0} (t : tapes.Meaning T) (s : sources.Meaning S) (k : sinks.Meaning K) (old new : Outside T S K)
    (acts : List Act) : Type 0 where
  pub front : List Act
  pub rest : List Act
  pub parts : front ++ rest ≡ acts
  pub broke : tapes.Broke t old.tape new.tape (steps_of front ++ next_steps rest)
  -- all of the front was done, whatever the fault left of the next steps
  pub here : (held left : Option Cartridge) → t.told old.tape ≡ Some held → t.told new.tape ≡ Some left →
      Torn (next_steps rest) (effects (steps_of front) held) left
  pub wrote : sinks.Wrote k old.sink new.sink (text_of front)
  pub source_later : s.faults new.source ≡ s.faults old.source

-- a text was taken whole, and a fault of the sink broke the next one off, so that some of that was not taken
pub record WroteAndBroke {K : Type 0} (k : sinks.Meaning K) (old new : K) (text next : List ℕ) : Type 0 where
  pub part : List ℕ
  pub rest : List ℕ
  pub parts : part ++ rest ≡ next
  pub some : rest ≢ []
  pub took : k.took old (text ++ part) new
  pub cause : Rose (k.faults old) (k.faults new)
  pub later : k.faults old ≤ k.faults new

-- a front of acts, the next act, and those behind it
pub record Parted (acts : List Act) : Type 0 where
  pub front : List Act
  pub act : Act
  pub rest : List Act
  pub parts : front ++ act ∷ rest ≡ acts

-- The acts of a front were done and written, and the steps of the next one done; a fault of the sink broke its text off.
pub record SinkCut {T S K : Type 0} (t : tapes.Meaning T) (s : sources.Meaning S) (k : sinks.Meaning K) (old new : Outside T S K)
    (acts : List Act) : Type 0 where
  pub at : Parted acts
  pub did : tapes.Done t old.tape new.tape (steps_of at.front ++ at.act.steps)
  pub broke : WroteAndBroke k old.sink new.sink (text_of at.front) at.act.text
  pub source_later : s.faults new.source ≡ s.faults old.source

-- The acts of a front were done and written, and then a fault of the source came; it may come behind the last act, too.
pub record SourceCut {T S K : Type 0} (t : tapes.Meaning T) (s : sources.Meaning S) (k : sinks.Meaning K) (old new : Outside T S K)
    (acts : List Act) : Type 0 where
  pub front : List Act
  pub rest : List Act
  pub parts : front ++ rest ≡ acts
  pub did : tapes.Done t old.tape new.tape (steps_of front)
  pub wrote : sinks.Wrote k old.sink new.sink (text_of front)
  pub cause : Rose (s.faults old.source) (s.faults new.source)
  pub source_later : s.faults old.source ≤ s.faults new.source

-- a fault of this object cut the acts off
abbrev pub Cut : {T S K : Type 0} (t : tapes.Meaning T) (s : sources.Meaning S) (k : sinks.Meaning K) (old new : Outside T S K)
    (acts : List Act) → Failing → Type 0
Cut t s k old new acts TapeFails = TapeCut t s k old new acts
Cut t s k old new acts SourceFails = SourceCut t s k old new acts
Cut t s k old new acts SinkFails = SinkCut t s k old new acts

-- ---- what follows of both

-- no call of the outside failed: each count is as it was
pub record NoneFailed {T S K : Type 0} (t : tapes.Meaning T) (s : sources.Meaning S) (k : sinks.Meaning K)
    (old new : Outside T S K) : Type 0 where
  pub tape : t.faults new.tape ≡ t.faults old.tape
  pub source : s.faults new.source ≡ s.faults old.source
  pub sink : k.faults new.sink ≡ k.faults old.sink

-- .. or, whatever happened, it has not fallen
pub record NoneFell {T S K : Type 0} (t : tapes.Meaning T) (s : sources.Meaning S) (k : sinks.Meaning K)
    (old new : Outside T S K) : Type 0 where
  pub tape : t.faults old.tape ≤ t.faults new.tape
  pub source : s.faults old.source ≤ s.faults new.source
  pub sink : k.faults old.sink ≤ k.faults new.sink

-- the sink took a front of this text
pub record TookFront {K : Type 0} (k : sinks.Meaning K) (old new : K) (text : List ℕ) : Type 0 where
  pub front : List ℕ
  pub rest : List ℕ
  pub parts : front ++ rest ≡ text
  pub took : k.took old front new

-- the count of this object rose by one, ..
abbrev pub FailingRose : {T S K : Type 0} (t : tapes.Meaning T) (s : sources.Meaning S) (k : sinks.Meaning K) (old new : Outside T S K) →
    Failing → Type 0
FailingRose t s k old new TapeFails = Rose (t.faults old.tape) (t.faults new.tape)
FailingRose t s k old new SourceFails = Rose (s.faults old.source) (s.faults new.source)
FailingRose t s k old new SinkFails = Rose (k.faults old.sink) (k.faults new.sink)

-- .. and those of the others are as they were
abbrev pub OthersStood : {T S K : Type 0} (t : tapes.Meaning T) (s : sources.Meaning S) (k : sinks.Meaning K) (old new : Outside T S K) →
    Failing → Type 0
OthersStood t s k old new TapeFails = (s.faults new.source ≡ s.faults old.source) × (k.faults new.sink ≡ k.faults old.sink)
OthersStood t s k old new SourceFails = (t.faults new.tape ≡ t.faults old.tape) × (k.faults new.sink ≡ k.faults old.sink)
OthersStood t s k old new SinkFails = (t.faults new.tape ≡ t.faults old.tape) × (s.faults new.source ≡ s.faults old.source)
