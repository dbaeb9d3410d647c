-- What one more call does to a tape's record.
use Rattle.std.proofs.Common.{◌≡◌, ℕ, ◌-◌, ◌<◌, false, List, [], ◌∷◌, ◌++◌, Some, refl, ap, ◌∙◌, arith}
use Rattle.std.specs.Prelude.{◌==◌}
use Rattle.std.proofs.lemmas.Bool.Decides.{nat_tests}
use Rattle.qic_mem.specs.declared.tape.log.Call.{Call}
use Rattle.qic_mem.specs.declared.tape.log.TapeRecord.TheInside.{Inside}
use Rattle.qic_mem.specs.Call.{call_of}
use Rattle.qic_mem.specs.Calls.{calls_from, log_of}
use Rattle.qic_mem.specs.TapeLog.{TapeCall, logged}

calls_from-push : (calls : List Call) (call : Call) (before : List TapeCall) →
    calls_from (calls ++ call ∷ []) before ≡ call_of call ∷ calls_from calls before
calls_from-push [] call before = refl
calls_from-push (c ∷ calls) call before = calls_from-push calls call (call_of c ∷ before)

some_left : (n : ℕ) → 0 < n → (n == 0) ≡ false
some_left n some = grind (arith, nat_tests)

-- the record l, with the call behind
pub log-added : (l m : Inside) (call : Call) → m.calls.items ≡ l.calls.items ++ call ∷ [] → m.calls_left ≡ l.calls_left - 1 →
    0 < l.calls_left → Some (log_of m) ≡ logged (Some (log_of l)) (call_of call)
log-added l m call added left some =
    let calls : (log_of m).calls ≡ call_of call ∷ (log_of l).calls = ap (λ (cs : List Call). calls_from cs []) added
    ∙ calls_from-push l.calls.items call [] in
    rw (calls, left, some_left l.calls_left some) refl
