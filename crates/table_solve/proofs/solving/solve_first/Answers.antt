use Rattle.std.proofs.Common.{◌≡◌, ◌<◌, ◌+◌, ℕ, List, length, take, get_or, length-take, sym, ◌∙◌, subst, arith}
use Rattle.std.proofs.lemmas.Option.{slice_get_within}
use Rattle.table_solve.specs.Reading.{Unsolved, IsSolved}
use Rattle.table_solve.proofs.Collected.{NoneBelow, get_first, none_so_far, unsolved_fault, solved_answer, block_answer}
use Rattle.table_solve.proofs.Segment.{carries_whole}
use Rattle.table_solve.proofs.solving.solve_first.Goals as goal

pub solve_collected-requires : goal.solve_collected-requires
solve_collected-requires c = carries_whole

pub returns-in-Ok-clause-solved : goal.returns-in-Ok-clause-solved
returns-in-Ok-clause-solved c =
    let sets : List ℕ = c.args.tried.now.sets in
    let count : ℕ = c.args.tried.now.count in
    let index : ℕ = c.loop-index.index in
    let set : ℕ = get_or sets index c.index-tried-index.result in
    record {
      place = index;
      there = get_first count sets index c.index-tried-index.result (omega (arith, c.loop-index-test.true))
          (omega (arith, c.requires.few, c.loop-index-test.true));
      before = λ i other lt at. subst (Unsolved other) c.loop-index.invariant.kept (c.loop-index.invariant.none i other lt at);
      code = block_answer c.solve_collected.new.work c.in-Ok.ensures.room c.in-Ok.ensures.solved.block;
      solved = subst (λ (old : List (List ℕ)). IsSolved set old c.solve_collected.new.work) c.loop-index.invariant.kept
          (solved_answer set c.loop-index.work c.solve_collected.new.work c.in-Ok.ensures.solves);
    }

pub loop-index-preserved : goal.loop-index-preserved
loop-index-preserved c =
    let sets : List ℕ = c.args.tried.now.sets in
    let count : ℕ = c.args.tried.now.count in
    let index : ℕ = c.loop-index.index in
    let set : ℕ = get_or sets index c.index-tried-index.result in
    let kept : c.solve_collected.new.work ≡ c.loop-index.work = c.in-Err.ensures.solved.unchanged in
    record {
      kept = kept ∙ c.loop-index.invariant.kept;
      none = subst (NoneBelow (take count sets) (index + 1)) (sym kept)
          (none_so_far (take count sets) index set c.loop-index.work c.loop-index.invariant.none
          (get_first count sets index c.index-tried-index.result (omega (arith, c.loop-index-test.true))
          (omega (arith, c.requires.few, c.loop-index-test.true)))
          (unsolved_fault set c.loop-index.work c.solve_collected.new.work c.in-Err.field-0 c.in-Err.ensures.solves));
    }

pub returns-clause-solved : goal.returns-clause-solved
returns-clause-solved c =
    let sets : List ℕ = c.args.tried.now.sets in
    let count : ℕ = c.args.tried.now.count in
    record {
      each = λ i other at.
          let within : i < length (take count sets) = slice_get_within (take count sets) i other at in
          subst (Unsolved other) c.loop-index.invariant.kept
          (c.loop-index.invariant.none i other (omega (arith, within, length-take count sets, c.loop-index-test.false)) at);
      kept = c.loop-index.invariant.kept;
    }
