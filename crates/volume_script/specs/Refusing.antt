-- What a fault of the store makes of a line: a refusal, which is replied to, or the end of the script (this project's own).
use Rattle.std.specs.Prelude.{◌≡◌, ℕ, ◌+◌, ◌<◌, ◌≤◌, List, length, Option, Some, None, Result, Ok, Err}
use Rattle.qic_base.specs.declared.sink.SinkFailed.{SinkFailed}
use Rattle.qic_base.specs.Tape.{Rose}
use Rattle.qic_base.specs.Sink as sinks
use Rattle.qic_base.specs.SinkCalls as sink_calls
use Rattle.qic_base.specs.Source as sources
use Rattle.qic_base.specs.SourceCalls.{Gave, HasEnded}
use Rattle.tape_script.specs.Reading.{Skips}
use Rattle.command_spec.specs.Script.{refusal_line}
use Rattle.command_spec.specs.declared.refusal.Refusal.{Refusal}
use Rattle.qic_base.specs.declared.store_fault.StoreFault.{StoreFault}
use Rattle.command_spec.specs.declared.refusal.Refusal.TheVariants as why
use Rattle.qic_base.specs.declared.store_fault.StoreFault.TheVariants as fault

-- what a line is refused for behind a fault; nothing behind one that ends the script
abbrev pub refusal_of : StoreFault → Option Refusal
refusal_of fault.Protected = Some why.Protected
refusal_of (fault.Full need have) = Some (why.Full need have)
refusal_of (fault.NoVolume number count) = Some (why.NoVolume number count)
refusal_of (fault.Lost segment lost) = Some (why.Lost segment lost)
refusal_of (fault.Mismatch segment) = Some (why.Mismatch segment)
refusal_of other = None

-- what a reply that was written, or was not, makes of a line
abbrev pub replied_so : {A E : Type 0} → Result A E → Result (Unit {0}) StoreFault
replied_so (Ok done) = Ok tt
replied_so (Err failed) = Err fault.Sink

-- ---- a line that promises no bytes

-- the reply to a refusal was written, or broke off
pub record Replies {K : Type 0} (k : sinks.Meaning K) (x y : K) (refusal : Refusal) (answer : Result (Unit {0}) StoreFault) : Type 0 where
  pub written : Result (Unit {0}) SinkFailed
  pub wrote : sink_calls.Writes k x y (refusal_line refusal) written
  pub answered : answer ≡ replied_so written

abbrev pub RepliesIf : {K : Type 0} (k : sinks.Meaning K) (x y : K) → StoreFault → Option Refusal → Result (Unit {0}) StoreFault → Type 0
RepliesIf k x y fault (Some refusal) answer = Replies k x y refusal answer
RepliesIf k x y fault None answer = (y ≡ x) × (answer ≡ Err fault)

-- a fault that refuses the line was replied to; another was answered, and nothing was written
abbrev pub RepliesTo : {K : Type 0} (k : sinks.Meaning K) (x y : K) → StoreFault → Result (Unit {0}) StoreFault → Type 0
RepliesTo k x y fault answer = RepliesIf k x y fault (refusal_of fault) answer

-- ---- a line with bytes

-- the source gave so many bytes
pub record GaveAll {S : Type 0} (s : sources.Meaning S) (i j : S) (asked : ℕ) : Type 0 where
  pub bytes : List ℕ
  pub all : length bytes ≡ asked
  pub gave : Gave s i j bytes
  pub later : s.faults j ≡ s.faults i

-- it ended before the last of those that are promised, of which so many were left, and so many were there
pub record GaveShort {S : Type 0} (s : sources.Meaning S) (i j : S) (promised left read : ℕ) : Type 0 where
  pub bytes : List ℕ
  pub short : length bytes < left
  pub there : read + left ≡ promised + length bytes
  pub gave : Gave s i j bytes
  pub ended : HasEnded s j
  pub later : s.faults j ≡ s.faults i

-- it failed before
pub record GaveNone {S : Type 0} (s : sources.Meaning S) (i j : S) (asked : ℕ) : Type 0 where
  pub cause : Rose (s.faults i) (s.faults j)
  pub later : s.faults i ≤ s.faults j
  pub skipped : Skips {E = Unit {0}} s i j asked (Err tt)

-- what is left of the promised bytes was taken, and then there was the reply to a refusal
abbrev pub TakesFirst : {S K : Type 0} (s : sources.Meaning S) (k : sinks.Meaning K) (i j : S) (x y : K) (promised left : ℕ) → Refusal →
    Result (Unit {0}) StoreFault → Type 0
TakesFirst s k i j x y promised left refusal (Ok done) = GaveAll s i j left × sinks.Wrote k x y (refusal_line refusal)
TakesFirst s k i j x y promised left refusal (Err (fault.Short all read)) =
    (all ≡ promised) × GaveShort s i j promised left read × (y ≡ x)
TakesFirst s k i j x y promised left refusal (Err fault.Sink) = GaveAll s i j left × sink_calls.BrokeOff k x y (refusal_line refusal)
TakesFirst s k i j x y promised left refusal (Err fault.Source) = GaveNone s i j left × (y ≡ x)
TakesFirst s k i j x y promised left refusal (Err other) = ⊥

abbrev pub RefusesIf : {S K : Type 0} (s : sources.Meaning S) (k : sinks.Meaning K) (i j : S) (x y : K) (promised left : ℕ) →
    StoreFault → Option Refusal → Result (Unit {0}) StoreFault → Type 0
RefusesIf s k i j x y promised left fault (Some refusal) answer = TakesFirst s k i j x y promised left refusal answer
RefusesIf s k i j x y promised left fault None answer = (j ≡ i) × (y ≡ x) × (answer ≡ Err fault)

-- so a fault that refuses the line; another was answered, and nothing was taken or written
abbrev pub Refuses : {S K : Type 0} (s : sources.Meaning S) (k : sinks.Meaning K) (i j : S) (x y : K) (promised left : ℕ) →
    StoreFault → Result (Unit {0}) StoreFault → Type 0
Refuses s k i j x y promised left fault answer = RefusesIf s k i j x y promised left fault (refusal_of fault) answer
