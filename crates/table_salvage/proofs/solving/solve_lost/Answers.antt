use Rattle.std.proofs.Common.{ℕ, List, Option, subst, arith}
use Rattle.table_solve.proofs.Collected.{collected, last_data, used_small, tried_sets, few_tried}
use Rattle.table_solve.proofs.Trials.{says_mismatch}
use Rattle.table_solve.specs.Reading.{IsSolvedAt, IsUnsolved}
use Rattle.volume_table.specs.Trials.{AreTrials, tried}
use Rattle.table_salvage.proofs.Tables.{has_table, none_mismatch}
use Rattle.table_salvage.proofs.solving.solve_lost.Goals as goal

pub solve_first-requires-clause-few : goal.solve_first-requires-clause-few
solve_first-requires-clause-few c =
    let used : Option ℕ = c.last_used-used.result in
    few_tried c.trials.result c.args.lost used
    (c.trials.ensures (used_small used (last_data c.data_sectors.result.now c.args.lost used c.last_used-used.ensures.greatest)))

pub returns-in-Some-clause-found : goal.returns-in-Some-clause-found
returns-in-Some-clause-found c = λ cells count gathered.
    let used : Option ℕ = c.last_used-used.result in
    let lost : ℕ = c.args.lost in
    let old : List (List ℕ) = c.args.work.now in
    let new : List (List ℕ) = c.solve_first.new.work in
    let are : AreTrials c.trials.result (tried lost used) =
    c.trials.ensures (used_small used (last_data c.data_sectors.result.now lost used c.last_used-used.ensures.greatest)) in
    has_table cells lost used old new c.in-Some.field-0
    (collected cells lost used c.data_sectors.result.now old count c.requires.room gathered
    (omega (arith, c.well_formed)) c.requires.few c.requires.loses_data
    c.data_sectors.ensures.value c.last_used-used.ensures.cells c.last_used-used.ensures.greatest)
    (subst (λ (sets : List ℕ). IsSolvedAt sets old new c.in-Some.field-0) (tried_sets c.trials.result (tried lost used) are)
    c.in-Some.ensures.solved)
    c.in-Some.ensures.room

pub returns-in-None-clause-found : goal.returns-in-None-clause-found
returns-in-None-clause-found c = λ cells count gathered.
    let used : Option ℕ = c.last_used-used.result in
    let lost : ℕ = c.args.lost in
    let old : List (List ℕ) = c.args.work.now in
    let new : List (List ℕ) = c.solve_first.new.work in
    let are : AreTrials c.trials.result (tried lost used) =
    c.trials.ensures (used_small used (last_data c.data_sectors.result.now lost used c.last_used-used.ensures.greatest)) in
    none_mismatch cells
    (says_mismatch cells lost used old new
    (collected cells lost used c.data_sectors.result.now old count c.requires.room gathered
    (omega (arith, c.well_formed)) c.requires.few c.requires.loses_data
    c.data_sectors.ensures.value c.last_used-used.ensures.cells c.last_used-used.ensures.greatest)
    (subst (λ (sets : List ℕ). IsUnsolved sets old new) (tried_sets c.trials.result (tried lost used) are) c.in-None.ensures.solved))
