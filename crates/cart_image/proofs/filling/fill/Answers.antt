use Rattle.std.proofs.Common.{sym, ◌∙◌}
use Rattle.std.proofs.lemmas.Result.{err_from_is_err_and}
use Rattle.cart_image.specs.Layout.{fill_writes}
use Rattle.cart_image.proofs.Exits.{Runs-err}
use Rattle.cart_image.proofs.Loops.{none-chosen, some-chosen, then-sync, halted-sync, sync-runs, none-ran}
use Rattle.cart_image.proofs.Runs.{Halted-settled}
use Rattle.cart_image.proofs.filling.fill.Goals as goal

pub returns-in_err-write_chosen-clause-ran : goal.returns-in_err-write_chosen-clause-ran
returns-in_err-write_chosen-clause-ran g c =
    let p = err_from_is_err_and c.from_residual.result c.from_residual.ensures.1 in
    Runs-err g.D.Disk.means _ _ _ c.from_residual.result p.0 p.1
    (halted-sync g.D.Disk.means _ _ (fill_writes c.args.layout c.args.part c.args.values.now c.args.first 0 c.args.chosen.now 0) _
    (some-chosen c.args.layout c.args.part c.args.values.now c.args.first c.args.chosen.now
    (sym c.is_any.ensures ∙ c.if-is_any.true)) c.in_err-write_chosen.ensures.ran)

pub returns-in_err-write_chosen-clause-settled : goal.returns-in_err-write_chosen-clause-settled
returns-in_err-write_chosen-clause-settled g c = Halted-settled g.D.Disk.means _ _
    (fill_writes c.args.layout c.args.part c.args.values.now c.args.first 0 c.args.chosen.now 0)
    c.in_err-write_chosen.ensures.ran

pub returns-in_ok-write_chosen-clause-ran : goal.returns-in_ok-write_chosen-clause-ran
returns-in_ok-write_chosen-clause-ran g c =
    then-sync g.D.Disk.means _ _ _ (fill_writes c.args.layout c.args.part c.args.values.now c.args.first 0 c.args.chosen.now 0) _
    c.sync.result (some-chosen c.args.layout c.args.part c.args.values.now c.args.first c.args.chosen.now
    (sym c.is_any.ensures ∙ c.if-is_any.true)) c.in_ok-write_chosen.ensures.ran
    (sync-runs g.D.Disk.means _ _ c.sync.result c.sync.ensures.did)

pub returns-else-is_any-clause-ran : goal.returns-else-is_any-clause-ran
returns-else-is_any-clause-ran g c =
    none-ran g.D.Disk.means _ _ (none-chosen c.args.layout c.args.part c.args.values.now c.args.first c.args.chosen.now
    (sym c.is_any.ensures ∙ c.if-is_any.false))
