use Rattle.std.proofs.Common.{Some, inl, inr, refl}
use Rattle.volume_copy.proofs.opening.open_both.Goals as goal

pub returns-in-Err : goal.returns-in-Err
returns-in-Err g c = inl (Some c.in-Err.fault, c.in-Err.ensures, refl, refl)

pub returns-in-Err-open : goal.returns-in-Err-open
returns-in-Err-open g c =
    inr (inl (
      c.in-Ok-Some.store,
      Some c.in-Err-open.fault,
      rw c.in-Ok-Some.field-0-is at c.in-Ok-Some.ensures,
      c.in-Err-open.ensures,
      refl,
    ))
