use Rattle.std.proofs.Common.{List, ℕ, length, ap, ◌∙◌}
use Rattle.std.proofs.lemmas.Result.{err_from_is_err_and}
use Rattle.cart_image.specs.Layout.{append_steps}
use Rattle.flat_dump.specs.Cells.{cells_of, joined}
use Rattle.flat_dump.proofs.Copying.{length-segment}
use Rattle.cart_image.proofs.Loops.{halted-is, ran-is}
use Rattle.cart_image.proofs.Exits.{Runs-err}
use Rattle.flat_dump.proofs.cells.write_segment.Goals as goal

pub append-requires : goal.append-requires
append-requires g c =
    ap (λ (cells : List ℕ). length cells) (c.as_flattened.ensures.value ∙ ap joined c.fill_cells-lost.ensures.cells)
    ∙ length-segment c.args.word c.args.len c.args.sectors.now c.requires.whole

pub returns-in_err-append-clause-ran : goal.returns-in_err-append-clause-ran
returns-in_err-append-clause-ran g c =
    let p = err_from_is_err_and c.from_residual.result c.from_residual.ensures.1 in
    Runs-err g.D.Disk.means c.args.disk.now c.append.new.disk
    (append_steps c.args.segment (joined (cells_of c.args.word c.args.len c.args.sectors.now))) c.from_residual.result p.0 p.1
    (halted-is g.D.Disk.means c.args.disk.now c.append.new.disk (append_steps c.args.segment c.as_flattened.result.now)
    (append_steps c.args.segment (joined (cells_of c.args.word c.args.len c.args.sectors.now)))
    (ap (append_steps c.args.segment) (c.as_flattened.ensures.value ∙ ap joined c.fill_cells-lost.ensures.cells))
    c.in_err-append.ensures.ran)

pub returns-clause-ran : goal.returns-clause-ran
returns-clause-ran g c =
    ran-is g.D.Disk.means c.args.disk.now c.append.new.disk (append_steps c.args.segment c.as_flattened.result.now)
    (append_steps c.args.segment (joined (cells_of c.args.word c.args.len c.args.sectors.now)))
    (ap (append_steps c.args.segment) (c.as_flattened.ensures.value ∙ ap joined c.fill_cells-lost.ensures.cells))
    c.in_ok-append.ensures.ran
