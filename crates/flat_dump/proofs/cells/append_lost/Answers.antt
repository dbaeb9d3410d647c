use Rattle.std.proofs.Common.{◌≡◌, ℕ, ◌+◌, ◌-◌, ◌*◌, ◌++◌, List, length, replicate, sym, ap, ◌∙◌, subst, arith, length-append, append_assoc}
use Rattle.std.proofs.lemmas.Result.{err_from_is_err_and}
use Rattle.cart_image.specs.Layout.{cells_len}
use Rattle.flat_dump.specs.Cells.{joined, lost_cell}
use Rattle.flat_dump.specs.Importing.{Unfinished, lost_cells}
use Rattle.flat_dump.proofs.Laying.{length-lost, length-lost_cells, lost_more}
use Rattle.flat_dump.proofs.Passing.{append_fails, append_ran, goes_err}
use Rattle.flat_dump.proofs.cells.append_lost.Goals as goal

pub append-requires : goal.append-requires
append-requires g c =
    let before = c.loop-segment.invariant in
    ap (λ (cells : List ℕ). length cells) (c.as_flattened.ensures.value ∙ ap joined before.cells) ∙ length-lost

pub loop-segment-preserved : goal.loop-segment-preserved
loop-segment-preserved g c =
    let m = g.D.Disk.means in
    let before = c.loop-segment.invariant in
    let order = before.order in
    let cells = c.as_flattened.ensures.value ∙ ap joined before.cells in
    record {
      order = omega arith;
      seen = c.in_ok-append.ensures.seen;
      cells = before.cells;
      goes = λ first file more long whole u.
          let k : ℕ = c.loop-segment.segment - c.args.from in
          let next : more ≡ k + 1 = omega arith in
          let at : length (file ++ lost_cells k) ≡ 64 + cells_len * c.loop-segment.segment =
          omega (arith, length-append file (lost_cells k), length-lost_cells k, long) in
          let size : length c.as_flattened.result.now ≡ cells_len = ap (λ (xs : List ℕ). length xs) cells ∙ length-lost in
          let done = append_ran m g.met.D.Disk.left_now g.met.D.Disk.told_right first c.loop-segment.disk c.append.new.disk
          c.loop-segment.segment (file ++ lost_cells k) c.as_flattened.result.now at size
          (before.goes first file k long (omega arith) u) c.in_ok-append.ensures.ran in
          let same : (file ++ lost_cells k) ++ c.as_flattened.result.now ≡ file ++ lost_cells more =
          ap (λ (xs : List ℕ). (file ++ lost_cells k) ++ xs) cells
          ∙ append_assoc file (lost_cells k) (joined (replicate 32 lost_cell))
          ∙ ap (λ (xs : List ℕ). file ++ xs) (sym (lost_more k))
          ∙ ap (λ (n : ℕ). file ++ lost_cells n) (sym next) in
          subst (λ (f : List ℕ). Unfinished m first c.append.new.disk f) same done;
    }

pub returns-in_err-append-clause-goes : goal.returns-in_err-append-clause-goes
returns-in_err-append-clause-goes g c = λ first file more long whole u.
    let m = g.D.Disk.means in
    let before = c.loop-segment.invariant in
    let order = before.order in
    let k : ℕ = c.loop-segment.segment - c.args.from in
    let cells = c.as_flattened.ensures.value ∙ ap joined before.cells in
    let p = err_from_is_err_and c.from_residual.result c.from_residual.ensures.1 in
    let at : length (file ++ lost_cells k) ≡ 64 + cells_len * c.loop-segment.segment =
    omega (arith, length-append file (lost_cells k), length-lost_cells k, long) in
    let size : length c.as_flattened.result.now ≡ cells_len = ap (λ (xs : List ℕ). length xs) cells ∙ length-lost in
    goes_err m first c.append.new.disk (file ++ lost_cells more) c.from_residual.result p.0 p.1
    (append_fails m g.met.D.Disk.left_now g.met.D.Disk.told_right first c.loop-segment.disk c.append.new.disk c.loop-segment.segment
    (file ++ lost_cells k) c.as_flattened.result.now at size
    (before.goes first file k long (omega arith) u) c.in_err-append.ensures.ran)

pub returns-clause-goes : goal.returns-clause-goes
returns-clause-goes g c = λ first file more long whole u. let before = c.loop-segment.invariant in let order = before.order in
    before.goes first file more long (omega arith) u
