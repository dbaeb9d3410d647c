use Rattle.std.proofs.Common.{◌≡◌, ℕ, ◌+◌, ◌++◌, ◌∷◌, [], Bool, true, false, List, map, take, if◌then◌else◌, sym, ap, ap₂, ◌∙◌, arith}
use Rattle.std.proofs.Common.{rules}
use Rattle.std.specs.List.{range_with_len}
use Rattle.std.proofs.lemmas.List.{length-set, take_all, take_more_set}
use Rattle.std.proofs.lemmas.List.FromFn.{map-range_with_len_more, sum_by-map-range_with_len_more}
use Rattle.std.specs.Prelude.{slice_index_or}
use Rattle.qic_base.specs.declared.tape.SectorView.TheVariants.{Lost, Holds}
use Rattle.cart_image.specs.Layout.{formed_cell}
use Rattle.flat_dump.specs.Cells.{cell_in, view_in}
use Rattle.flat_dump.specs.Import.{lost_bit, lost_count}
use Rattle.flat_dump.proofs.Copying.{cells_of-is, lost_next, views_of-is}
use Rattle.flat_dump.proofs.cells.fill_cells.Goals as goal
use Rattle.flat_dump.proofs.cells.fill_cells.Goals.{then-not-held, else-not-held}

pub loop-index-preserved : goal.loop-index-preserved
loop-index-preserved c =
    let before = c.loop-index.invariant in
    let i : ℕ = c.loop-index.index in
    let few = before.few in
    let size = before.size in
    let next : c.if-not-held.lost ≡ (if c.is_held-held.result then c.loop-index.lost else c.loop-index.lost + 1) =
    elim c.if-not-held.branch [
      | then-not-held w ↦ (let e : c.is_held-held.result ≡ false = search rules in
          w.lost-is ∙ sym (ap (λ (h : Bool). if h then c.loop-index.lost else c.loop-index.lost + 1) e))
      | else-not-held w ↦ (let e : c.is_held-held.result ≡ true = search rules in
          w.lost-is ∙ sym (ap (λ (h : Bool). if h then c.loop-index.lost else c.loop-index.lost + 1) e))
    ] in
    record {
      size = length-set c.loop-index.cells i c.formed_cell.result ∙ before.size;
      cells = take_more_set c.loop-index.cells i c.formed_cell.result (omega arith)
          ∙ ap₂ (λ (xs : List (List ℕ)) (x : List ℕ). xs ++ x ∷ []) before.cells
          (c.formed_cell.ensures ∙ ap (λ (h : Bool). formed_cell h (slice_index_or c.args.sectors.now i [])) c.is_held-held.ensures)
          ∙ sym (map-range_with_len_more (cell_in c.args.word c.args.len c.args.sectors.now) 0 i i (omega arith));
      lost = lost_next c.is_held-held.result (slice_index_or c.args.sectors.now i []) c.loop-index.lost c.if-not-held.lost next
          ∙ ap₂ (λ (a : ℕ) (h : Bool). a + lost_bit (if h then Holds (slice_index_or c.args.sectors.now i []) else Lost)) before.lost
          c.is_held-held.ensures
          ∙ sym (sum_by-map-range_with_len_more lost_bit (view_in c.args.word c.args.len c.args.sectors.now) 0 i i (omega arith));
      few = elim c.if-not-held.branch [ then-not-held w ↦ omega arith | else-not-held w ↦ omega arith ];
    }

pub returns-clause-cells : goal.returns-clause-cells
returns-clause-cells c =
    let before = c.loop-index.invariant in
    let size = before.size in
    let e : c.loop-index.index ≡ 32 = omega arith in
    sym (take_all 32 c.loop-index.cells (omega arith)) ∙ ap (λ (n : ℕ). take n c.loop-index.cells) (sym e)
    ∙ before.cells ∙ ap (λ (n : ℕ). map (cell_in c.args.word c.args.len c.args.sectors.now) (range_with_len 0 n)) e
    ∙ sym (cells_of-is c.args.word c.args.len c.args.sectors.now)

pub returns-clause-lost : goal.returns-clause-lost
returns-clause-lost c =
    let before = c.loop-index.invariant in
    let e : c.loop-index.index ≡ 32 = omega arith in
    before.lost ∙ ap (λ (n : ℕ). lost_count (map (view_in c.args.word c.args.len c.args.sectors.now) (range_with_len 0 n))) e
    ∙ ap lost_count (sym (views_of-is c.args.word c.args.len c.args.sectors.now))
