-- How runs over acts join, and what follows of them, as facts.
use Rattle.std.specs.Prelude.{[], List, ◌++◌, ◌≡◌, Option, Some, IsSomeAnd}
use Rattle.qic_base.specs.Acts.{Outside, Went, Act, Failing, Cut, steps_of, text_of, TookFront, NoneFell, FailingRose, OthersStood}
use Rattle.qic_base.specs.Cartridge.{Cartridge}
use Rattle.qic_base.specs.Step.{Torn}
use Rattle.qic_base.specs.Sink as sinks
use Rattle.qic_base.specs.Source as sources
use Rattle.qic_base.specs.Tape as tapes

-- ---- joins

-- no act, where nothing happened
abbrev pub NothingWent : {T S K : Type 0} (t : tapes.Meaning T) (s : sources.Meaning S) (k : sinks.Meaning K) → Type 0
NothingWent {T} {S} {K} t s k = (a : Outside T S K) → Went t s k a a []

-- acts that went one after the other went as one list
abbrev pub WentBoth : {T S K : Type 0} (t : tapes.Meaning T) (s : sources.Meaning S) (k : sinks.Meaning K) → Type 0
WentBoth {T} {S} {K} t s k =
    (a b c : Outside T S K) (xs ys : List Act) → Went t s k a b xs → Went t s k b c ys → Went t s k a c (xs ++ ys)

-- acts that went, and then some that were cut off, are cut off as one list
abbrev pub WentThenCut : {T S K : Type 0} (t : tapes.Meaning T) (s : sources.Meaning S) (k : sinks.Meaning K) → Type 0
WentThenCut {T} {S} {K} t s k =
    (a b c : Outside T S K) (xs ys : List Act) (failing : Failing) → Went t s k a b xs → Cut t s k b c ys failing →
    Cut t s k a c (xs ++ ys) failing

-- acts that were cut off are so whatever would have come behind them
abbrev pub CutIsLonger : {T S K : Type 0} (t : tapes.Meaning T) (s : sources.Meaning S) (k : sinks.Meaning K) → Type 0
CutIsLonger {T} {S} {K} t s k =
    (a b : Outside T S K) (xs ys : List Act) (failing : Failing) → Cut t s k a b xs failing → Cut t s k a b (xs ++ ys) failing

-- ---- what follows

-- the tape tells what a front of the steps, with the next one stopped, leaves
abbrev pub CutIsTorn : {T S K : Type 0} (t : tapes.Meaning T) (s : sources.Meaning S) (k : sinks.Meaning K) → Type 0
CutIsTorn {T} {S} {K} t s k =
    (a b : Outside T S K) (acts : List Act) (failing : Failing) (held : Option Cartridge) → Cut t s k a b acts failing →
    t.told a.tape ≡ Some held → IsSomeAnd (t.told b.tape) (λ left. Torn (steps_of acts) held left)

-- each stop since then left what the fronts of the steps leave
abbrev pub CutStops : {T S K : Type 0} (t : tapes.Meaning T) (s : sources.Meaning S) (k : sinks.Meaning K) → Type 0
CutStops {T} {S} {K} t s k =
    (a b : Outside T S K) (acts : List Act) (failing : Failing) → Cut t s k a b acts failing → tapes.Stops t a.tape b.tape (steps_of acts)

-- a front of the text was written
abbrev pub CutTookFront : {T S K : Type 0} (t : tapes.Meaning T) (s : sources.Meaning S) (k : sinks.Meaning K) → Type 0
CutTookFront {T} {S} {K} t s k =
    (a b : Outside T S K) (acts : List Act) (failing : Failing) → Cut t s k a b acts failing → TookFront k a.sink b.sink (text_of acts)

-- no count fell; that of the object that failed rose, and the others stood
abbrev pub CutFellNone : {T S K : Type 0} (t : tapes.Meaning T) (s : sources.Meaning S) (k : sinks.Meaning K) → Type 0
CutFellNone {T} {S} {K} t s k =
    (a b : Outside T S K) (acts : List Act) (failing : Failing) → Cut t s k a b acts failing → NoneFell t s k a b

abbrev pub CutOthersStood : {T S K : Type 0} (t : tapes.Meaning T) (s : sources.Meaning S) (k : sinks.Meaning K) → Type 0
CutOthersStood {T} {S} {K} t s k =
    (a b : Outside T S K) (acts : List Act) (failing : Failing) → Cut t s k a b acts failing → OthersStood t s k a b failing

abbrev pub CutRose : {T S K : Type 0} (t : tapes.Meaning T) (s : sources.Meaning S) (k : sinks.Meaning K) → Type 0
CutRose {T} {S} {K} t s k =
    (a b : Outside T S K) (acts : List Act) (failing : Failing) → Cut t s k a b acts failing → FailingRose t s k a b failing
