-- How a run of `make` ended, by the answer of the call (this project's own).
use Rattle.std.specs.Prelude.{◌≡◌, ◌≢◌, ℕ, ◌+◌, ◌<◌, ◌≤◌, List, [], ◌∷◌, ◌++◌, Result, Ok, Err}
use Rattle.qic_base.specs.Sink as sinks
use Rattle.qic_base.specs.Tape as tapes
use Rattle.qic_base.specs.TapeCalls as tape_calls
use Rattle.qic_base.specs.Acts.{Act, text_of, Outside, Failing, TapeFails, SinkFails, Went, Cut}
use Rattle.qic_base.specs.Alone.{no_source}
use Rattle.cartridge_spec.specs.Table.{Entry}
use Rattle.volume_store.specs.Mounting.{StoreView}
use Rattle.qic_base.specs.declared.store_fault.StoreFault.{StoreFault}
use Rattle.qic_base.specs.declared.store_fault.StoreFault.TheVariants as fault
use Rattle.command_spec.specs.Make.{MakeStep, made_list, making, Runs, made_answer, MayRun}
use Rattle.command_spec.specs.declared.status.Status.{Status}
use Rattle.command_spec.specs.declared.status.Status.TheVariants as status

-- All acts of some steps went, up to this answer: over a cartridge that is told those of the plain machine.
pub record HasRun {T K : Type 0} (t : tapes.Meaning T) (k : sinks.Meaning K) (seed : ℕ) (words : List ℕ) (entries : List Entry)
    (items : List MakeStep) (old new : Outside T (Unit {0}) K) (answer : Status) : Type 0 where
  pub acts : List Act
  pub went : Went t no_source k old new acts
  pub told : tape_calls.Tells t old.tape (λ c. Runs seed c words entries items acts answer)
  -- and over any tape
  pub may : MayRun seed words entries items (text_of acts) answer

-- A fault of the tape or of the sink cut them off: over a cartridge that is told in the acts of the plain machine.
pub record RunCut {T K : Type 0} (t : tapes.Meaning T) (k : sinks.Meaning K) (seed : ℕ) (words : List ℕ) (entries : List Entry)
    (items : List MakeStep) (old new : Outside T (Unit {0}) K) (failing : Failing) : Type 0 where
  pub told : tape_calls.Tells t old.tape (λ c. (acts : List Act) (answer : Status) → Runs seed c words entries items acts answer →
      Cut t no_source k old new acts failing)
  -- and over any tape
  pub acts : List Act
  pub cut : Cut t no_source k old new acts failing

-- How some steps ended. No other fault comes of them: the cartridge is mounted, the volumes that they ask for are there, and a made
-- source has its bytes and never fails.
abbrev pub RunEnds : {T K : Type 0} (t : tapes.Meaning T) (k : sinks.Meaning K) (seed : ℕ) (words : List ℕ) (entries : List Entry)
    (items : List MakeStep) (old new : Outside T (Unit {0}) K) → Result (Unit {0}) StoreFault → Type 0
RunEnds t k seed words entries items old new (Ok done) = HasRun t k seed words entries items old new status.Done
RunEnds t k seed words entries items old new (Err fault.Protected) = HasRun t k seed words entries items old new status.Protected
RunEnds t k seed words entries items old new (Err fault.TableMismatch) = HasRun t k seed words entries items old new status.TableMismatch
RunEnds t k seed words entries items old new (Err (fault.Full need have)) = HasRun t k seed words entries items old new
    (status.Full need have)
RunEnds t k seed words entries items old new (Err (fault.Lost segment lost)) = HasRun t k seed words entries items old new
    (status.Lost segment lost)
RunEnds t k seed words entries items old new (Err (fault.Mismatch segment)) = HasRun t k seed words entries items old new
    (status.Mismatch segment)
RunEnds t k seed words entries items old new (Err fault.Sink) = RunCut t k seed words entries items old new SinkFails
RunEnds t k seed words entries items old new (Err fault.Tape) = RunCut t k seed words entries items old new TapeFails
RunEnds t k seed words entries items old new (Err fault) = ⊥

-- how a run of `make` on the cartridge of a store ended
abbrev pub MakeEnds : {T K : Type 0} (t : tapes.Meaning T) (k : sinks.Meaning K) (store : StoreView) (seed count : ℕ)
    (old new : Outside T (Unit {0}) K) → Result (Unit {0}) StoreFault → Type 0
MakeEnds t k store seed count old new result =
    RunEnds t k seed store.words store.entries (making seed count store.words store.entries) old new result

-- ---- the list

-- one volume was added to a list; a refusal leaves it
abbrev pub IsListed : Result (Unit {0}) StoreFault → (before after : List Entry) → Entry → Type 0
IsListed (Ok done) before after e = after ≡ before ++ e ∷ []
IsListed (Err fault.Tape) before after e = Unit {0}
IsListed (Err fault) before after e = after ≡ before

-- the list of a store with all of so many made volumes
abbrev pub HoldsAll : (seed count : ℕ) → (store after : StoreView) → Type 0
HoldsAll seed count store after = after.entries ≡ made_list seed count store.words store.entries

-- .. with some of them
pub record HoldsSome (seed count : ℕ) (store after : StoreView) : Type 0 where
  pub appended : ℕ
  pub within : appended ≤ count
  pub list : HoldsAll seed appended store after

-- .. with those before the one that has no room
pub record HoldsBeforeFull (seed count need have : ℕ) (store after : StoreView) : Type 0 where
  pub appended : ℕ
  pub within : appended < count
  pub list : HoldsAll seed appended store after
  pub full : made_answer seed store.words after.entries (1 + appended) ≡ status.Full need have

-- All made volumes were added to the list of a store, or those that were appended before a refusal. The sink, and segments
-- other than the table's, are asked for behind the appends.
abbrev pub AreListed : Result (Unit {0}) StoreFault → (seed count : ℕ) → (store after : StoreView) → Type 0
AreListed (Ok done) seed count store after = HoldsAll seed count store after
AreListed (Err fault.Protected) seed count store after = HoldsSome seed count store after
AreListed (Err fault.TableMismatch) seed count store after = HoldsSome seed count store after
AreListed (Err (fault.Full need have)) seed count store after = HoldsBeforeFull seed count need have store after
AreListed (Err (fault.Lost segment lost)) seed count store after =
    HoldsSome seed count store after × (segment ≢ 2 → HoldsAll seed count store after)
AreListed (Err (fault.Mismatch segment)) seed count store after = HoldsAll seed count store after
AreListed (Err fault.Sink) seed count store after = HoldsAll seed count store after
AreListed (Err fault.Tape) seed count store after = Unit {0}
AreListed (Err fault) seed count store after = ⊥

-- no refusal for want of room
abbrev pub NeverFull : Result (Unit {0}) StoreFault → Type 0
NeverFull (Err (fault.Full need have)) = ⊥
NeverFull result = Unit {0}
