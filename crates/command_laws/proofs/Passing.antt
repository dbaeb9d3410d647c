-- A fault that is passed on as it came.
use Rattle.std.proofs.Common.{◌≡◌, Result, Err, ap, ◌∙◌}
use Rattle.std.specs.Result.{IsErrAnd}
use Rattle.std.proofs.lemmas.Result.{err_from_is_err_and}

-- the answer is this fault
pub passed : {A E : Type 0} (answer : Result A E) (fault : E) → IsErrAnd answer (λ given. given ≡ fault) → answer ≡ Err fault
passed answer fault gives = let p = err_from_is_err_and answer gives in p.1 ∙ ap Err p.2
