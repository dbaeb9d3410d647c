use Rattle.std.proofs.Common.{◌+◌, ◌∙◌, ap, arith}
use Rattle.std.proofs.lemmas.Result.{err_from_is_err_and}
use Rattle.cart_image.specs.declared.layout.Part.TheVariants.{GateByte}
use Rattle.cart_image.specs.Layout.{cell_place, cell_with, cells_by}
use Rattle.cart_image.proofs.Copies.{cells-more, cells-halted, cells-end}
use Rattle.cart_image.proofs.Exits.{Runs-err}
use Rattle.cart_image.proofs.upgrading.write_cells.Goals as goal

pub write_at-requires : goal.write_at-requires
write_at-requires g c =
    let at = c.cell_place-place.ensures in
    let base = c.image_len.ensures in
    let seen = c.loop-i.invariant.seen in
    let covers = c.requires.covers in
    let on = c.requires.on in omega arith

pub returns-in_err-write_at-clause-ran : goal.returns-in_err-write_at-clause-ran
returns-in_err-write_at-clause-ran g c =
    let p = err_from_is_err_and c.from_residual.result c.from_residual.ensures.1 in
    Runs-err g.D.Disk.means c.args.disk.now _
    (cells_by c.args.segments_per_track c.args.first
    (cell_with c.args.marks.now.gates c.args.marks.now.formed c.args.marks.now.defects c.args.block.now)
    32) c.from_residual.result p.0 p.1
    (cells-halted g.D.Disk.means _ _ _ c.args.segments_per_track c.args.first
    (cell_with c.args.marks.now.gates c.args.marks.now.formed c.args.marks.now.defects c.args.block.now)
    c.loop-i.i _ _ c.loop-i.invariant.ran
    (c.cell_place-place.ensures ∙ ap (λ b. cell_place b GateByte (c.args.first + c.loop-i.i)) c.image_len.ensures) c.cell_of.ensures
    (omega arith) c.in_err-write_at.ensures.did)

pub loop-i-preserved : goal.loop-i-preserved
loop-i-preserved g c = record {
  ran = cells-more g.D.Disk.means _ _ _ c.args.segments_per_track c.args.first
      (cell_with c.args.marks.now.gates c.args.marks.now.formed c.args.marks.now.defects c.args.block.now)
      c.loop-i.i _ _ c.loop-i.invariant.ran
      (c.cell_place-place.ensures ∙ ap (λ b. cell_place b GateByte (c.args.first + c.loop-i.i)) c.image_len.ensures) c.cell_of.ensures
      c.in_ok-write_at.ensures.did;
  seen = c.in_ok-write_at.ensures.seen ∙ c.loop-i.invariant.seen;
}

pub returns-clause-ran : goal.returns-clause-ran
returns-clause-ran g c = cells-end g.D.Disk.means _ _ c.args.segments_per_track c.args.first
    (cell_with c.args.marks.now.gates c.args.marks.now.formed c.args.marks.now.defects c.args.block.now)
    c.loop-i.i 32 (omega arith) c.loop-i.invariant.ran
