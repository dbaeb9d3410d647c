-- The list behind a run that was refused.
use Rattle.std.proofs.Common.{◌≡◌, ℕ, ◌+◌, ◌-◌, ◌<◌, ◌≤◌, Bool, true, false, cond, Some, List, [], ◌∷◌, Result, Ok, Err, ap, ◌∙◌, subst}
use Rattle.std.proofs.Common.{arith}
use Rattle.qic_base.specs.Sink as sinks
use Rattle.qic_base.specs.Tape as tapes
use Rattle.qic_base.specs.Acts.{Outside, text_of}
use Rattle.qic_base.specs.Alone.{no_sink}
use Rattle.cartridge_spec.specs.Table.{Entry}
use Rattle.volume_store.specs.Mounting.{StoreView}
use Rattle.qic_base.specs.declared.store_fault.StoreFault.{StoreFault}
use Rattle.qic_base.specs.declared.store_fault.StoreFault.TheVariants as fault
use Rattle.cartridge_spec.specs.Appending.{room}
use Rattle.command_spec.specs.Append.{has_promised_room}
use Rattle.command_spec.specs.Make.{MakeStep, AppendMade, made_length, made_list, made_answer}
use Rattle.made_volumes.specs.Runs.{RunEnds, IsListed, HoldsAll, HoldsSome, AreListed, NeverFull}
use Rattle.command_laws.proofs.MadeMayLaws.{may_done}
use Rattle.command_spec.specs.declared.status.Status.TheVariants as status

-- steps behind all appends were carried out, refused or cut off, and left the list
pub listed_behind : {T K : Type 0} (t : tapes.Meaning T) (k : sinks.Meaning K) (seed count : ℕ) (before after : StoreView) (words : List ℕ)
    (es : List Entry) (items : List MakeStep) (a b : Outside T (Unit {0}) K) (r : Result (Unit {0}) StoreFault) →
    HoldsAll seed count before after → NeverFull r → RunEnds t k seed words es items a b r → AreListed r seed count before after
listed_behind t k seed count before after words es items a b (Ok done) all room ends = all
listed_behind t k seed count before after words es items a b (Err fault.Protected) all room ends =
    record { appended = count; within = omega arith; list = all }
listed_behind t k seed count before after words es items a b (Err fault.TableMismatch) all room ends =
    record { appended = count; within = omega arith; list = all }
listed_behind t k seed count before after words es items a b (Err (fault.Full need have)) all room ends = absurd room
listed_behind t k seed count before after words es items a b (Err (fault.Lost segment lost)) all room ends =
    (record { appended = count; within = omega arith; list = all }, λ other. all)
listed_behind t k seed count before after words es items a b (Err (fault.Mismatch segment)) all room ends = all
listed_behind t k seed count before after words es items a b (Err fault.Sink) all room ends = all
listed_behind t k seed count before after words es items a b (Err fault.Tape) all room ends = tt
listed_behind t k seed count before after words es items a b (Err f) all room ends = absurd ends

-- an append is answered Done or Full
never_mismatched : (need have segment : ℕ) (b : Bool) → cond b status.Done (status.Full need have) ≡ status.Mismatch segment → ⊥
never_mismatched need have segment true is = cc
never_mismatched need have segment false is = cc

-- an append was refused behind so many
module _ {T : Type 0} (t : tapes.Meaning T) (seed count n : ℕ) (few : n < count) (before : StoreView) (es : List Entry) (after : StoreView)
    (is : es ≡ made_list seed n before.words before.entries) (a b : Outside T (Unit {0}) (Unit {0})) where
  some_held : after.entries ≡ es → HoldsSome seed count before after
  some_held kept = record { appended = n; within = omega arith; list = kept ∙ is }

  pub listed_refused : (f : StoreFault) (e : Entry) → RunEnds t no_sink seed before.words es (AppendMade (1 + n) ∷ []) a b (Err f) →
      IsListed (Err f) es after.entries e → AreListed (Err f) seed count before after
  listed_refused fault.Protected e run kept = some_held kept
  listed_refused fault.TableMismatch e run kept = some_held kept
  listed_refused (fault.Full need have) e run kept =
      let may = may_done seed before.words es (AppendMade (1 + n)) (text_of run.acts) (status.Full need have) run.may in
      record {
        appended = n;
        within = few;
        list = kept ∙ is;
        full = ap (λ (now : List Entry). made_answer seed before.words now (1 + n)) kept ∙ may.1;
      }
  listed_refused (fault.Lost segment lost) e run kept =
      let may = may_done seed before.words es (AppendMade (1 + n)) (text_of run.acts) (status.Lost segment lost) run.may in
      (some_held kept, λ other. absurd (other may.1.0))
  listed_refused (fault.Mismatch segment) e run kept =
      let may = may_done seed before.words es (AppendMade (1 + n)) (text_of run.acts) (status.Mismatch segment) run.may in
      absurd (never_mismatched (made_length seed (1 + n)) (room before.words es) segment
      (has_promised_room (room before.words es) (Some (made_length seed (1 + n)))) may.1)
  listed_refused fault.Sink e cut kept = absurd (let rose = cut.cut.broke.cause in omega arith)
  listed_refused fault.Tape e cut kept = tt
  listed_refused f e run kept = absurd run

-- the append of the present volume of a loop was refused
pub listed_loop : {T : Type 0} (t : tapes.Meaning T) (seed count v : ℕ) → 1 ≤ v → v ≤ count → (before : StoreView) (words : List ℕ)
    (es : List Entry) (after : StoreView) →
    words ≡ before.words → es ≡ made_list seed (v - 1) before.words before.entries → (a b : Outside T (Unit {0}) (Unit {0})) →
    (f : StoreFault) (e : Entry) →
    RunEnds t no_sink seed words es (AppendMade v ∷ []) a b (Err f) → IsListed (Err f) es after.entries e →
    AreListed (Err f) seed count before after
listed_loop t seed count v some few before words es after same is a b f e ends kept =
    let number : v ≡ 1 + (v - 1) = omega arith in
    listed_refused t seed count (v - 1) (omega arith) before es after is a b f e
    (subst (λ (n : ℕ). RunEnds t no_sink seed before.words es (AppendMade n ∷ []) a b (Err f)) number
    (subst (λ (ws : List ℕ). RunEnds t no_sink seed ws es (AppendMade v ∷ []) a b (Err f)) same ends)) kept
