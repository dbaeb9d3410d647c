use Rattle.std.proofs.Common.{refl, subst, sym, ℕ, Ok}
use Rattle.tape_script.specs.Reading.{Skips}
use Rattle.volume_store.proofs.appending.take_none.Goals as goal

pub returns-in-Ok-clause-ends : goal.returns-in-Ok-clause-ends
returns-in-Ok-clause-ends g c = (
  refl,
  c.in-Ok.ensures.cause.stood,
  subst (λ (n : ℕ). Skips {E = Unit {0}} g.S.Source.means c.args.source.now c.skip.new.source 1
      (Ok n)) (sym c.from.ensures) c.in-Ok.ensures.skipped,
)

pub returns-in-Err-clause-ends : goal.returns-in-Err-clause-ends
returns-in-Err-clause-ends g c = (c.in-Err.ensures.cause.later, c.in-Err.ensures.cause.failed, c.in-Err.ensures.skipped)
