use Rattle.std.proofs.Common.{◌∙◌, ◌≡◌, arith, refl}
use Rattle.std.proofs.lemmas.Result.{err_from_is_err_and}
use Rattle.cart_image.proofs.Exits.{Runs-err}
use Rattle.cart_image.proofs.Loops.{goes-on, goes-halted, goes-last, goes-end}
use Rattle.cart_image.proofs.filling.write_chosen.Goals as goal

pub returns-in_err-under-clause-ran : goal.returns-in_err-under-clause-ran
returns-in_err-under-clause-ran g c =
    let p = err_from_is_err_and c.from_residual.result c.from_residual.ensures.1 in
    Runs-err g.D.Disk.means _ _ _ c.from_residual.result p.0 p.1
    (goes-halted g.D.Disk.means _ _ c.args.layout c.args.part c.args.values.now c.args.first c.args.chosen.now c.loop-i.i
    c.loop-i.under c.loop-i.invariant.goes _ (omega arith) refl _ c.in_err-under.ensures.ran)

pub loop-i-preserved : goal.loop-i-preserved
loop-i-preserved g c = record {
  goes = goes-on g.D.Disk.means _ _ c.args.layout c.args.part c.args.values.now c.args.first c.args.chosen.now c.loop-i.i
      c.loop-i.under c.loop-i.invariant.goes _ (omega arith) refl _ _ c.in_ok-under.ensures.under c.in_ok-under.ensures.ran;
  seen = c.in_ok-under.ensures.seen ∙ c.loop-i.invariant.seen;
}

pub returns-clause-ran : goal.returns-clause-ran
returns-clause-ran g c =
    let end : c.loop-i.i ≡ 32 = omega arith in
    goes-last g.D.Disk.means _ _ c.args.layout c.args.part c.args.values.now c.args.first c.args.chosen.now 32
    c.loop-i.under
    (goes-end g.D.Disk.means _ _ c.args.layout c.args.part c.args.values.now c.args.first c.args.chosen.now c.loop-i.i 32
    c.loop-i.under end c.loop-i.invariant.goes) _ _ (omega arith) c.write_run.ensures.ran
