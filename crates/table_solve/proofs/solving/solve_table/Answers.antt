use Rattle.std.proofs.Common.{◌++◌, ℕ, List, Option, take, refl, ap, ◌∙◌, subst, arith}
use Rattle.volume_table.specs.Trials.{AreTrials, tried}
use Rattle.table_solve.specs.Reading.{IsSolvedAt, IsUnsolved}
use Rattle.table_solve.proofs.Collected.{collected, last_data, used_small, tried_sets, few_tried, put_room}
use Rattle.table_solve.proofs.Trials.{has_data, says_mismatch}
use Rattle.table_solve.proofs.solving.solve_table.Goals as goal

pub solve_first-requires-clause-few : goal.solve_first-requires-clause-few
solve_first-requires-clause-few c =
    let used : Option ℕ = c.last_used-used.result in
    few_tried c.trials.result c.args.lost used
    (c.trials.ensures (used_small used (last_data c.data_sectors.result.now c.args.lost used c.last_used-used.ensures.greatest)))

pub left_out-requires : goal.left_out-requires
left_out-requires c = last_data c.data_sectors.result.now c.args.lost c.last_used-used.result c.last_used-used.ensures.greatest

pub returns-in-Some-clause-solves : goal.returns-in-Some-clause-solves
returns-in-Some-clause-solves c = λ cells count gathered.
    let used : Option ℕ = c.last_used-used.result in
    let lost : ℕ = c.args.lost in
    let old : List (List ℕ) = c.args.work.now in
    let new : List (List ℕ) = c.solve_first.new.work in
    let are : AreTrials c.trials.result (tried lost used) =
    c.trials.ensures (used_small used (last_data c.data_sectors.result.now lost used c.last_used-used.ensures.greatest)) in
    has_data cells lost used old new c.put_back.new.work c.in-Some.set (record { lost = c.args.lost; left_out = c.left_out.result })
    (collected cells lost used c.data_sectors.result.now old count c.requires.room gathered
    (omega (arith, c.well_formed)) c.requires.few c.requires.loses_data
    c.data_sectors.ensures.value c.last_used-used.ensures.cells c.last_used-used.ensures.greatest)
    (subst (λ (sets : List ℕ). IsSolvedAt sets old new c.in-Some.set)
    (tried_sets c.trials.result (tried lost used) are) c.in-Some.ensures.solved)
    c.in-Some.ensures.room
    (c.put_back.ensures ∙ ap (λ (l : List (List ℕ)). take 29 new ++ l) c.parity_of_table-parity.ensures)
    refl c.left_out.ensures

pub returns-in-Some-clause-room : goal.returns-in-Some-clause-room
returns-in-Some-clause-room c =
    put_room c.solve_first.new.work c.parity_of_table-parity.result c.put_back.new.work c.args.work.now c.in-Some.ensures.room
    c.requires.room c.parity_of_table-parity.ensures c.put_back.ensures

pub returns-in-None-clause-solves : goal.returns-in-None-clause-solves
returns-in-None-clause-solves c = λ cells count gathered.
    let used : Option ℕ = c.last_used-used.result in
    let lost : ℕ = c.args.lost in
    let old : List (List ℕ) = c.args.work.now in
    let new : List (List ℕ) = c.solve_first.new.work in
    let are : AreTrials c.trials.result (tried lost used) =
    c.trials.ensures (used_small used (last_data c.data_sectors.result.now lost used c.last_used-used.ensures.greatest)) in (
      refl,
      says_mismatch cells lost used old new
          (collected cells lost used c.data_sectors.result.now old count c.requires.room gathered
          (omega (arith, c.well_formed)) c.requires.few c.requires.loses_data
          c.data_sectors.ensures.value c.last_used-used.ensures.cells c.last_used-used.ensures.greatest)
          (subst (λ (sets : List ℕ). IsUnsolved sets old new) (tried_sets c.trials.result (tried lost used) are) c.in-None.ensures.solved),
    )
