use Rattle.std.proofs.Common.{◌≡◌, ◌≤◌, ℕ, ◌++◌, List, length, length-append, take, drop, refl, ap, subst, sym, ◌∙◌, arith, Result, Err}
use Rattle.std.proofs.lemmas.List.{with_items_is}
use Rattle.cartridge_spec.specs.Shape.{usable_count}
use Rattle.segment_solve.specs.declared.fault.SegFault.{SegFault}
use Rattle.segment_solve.specs.Reading.{IsSolved}
use Rattle.segment_solve.proofs.SolvedCells.{take_front, solved_block, solved_lost, solved_mismatch, solving_says}
use Rattle.segment_solve.proofs.solving.solve_collected.Goals as goal
use Rattle.segment_solve.proofs.solving.solve_collected.Goals.{in-Ok, in-Err-TooMany, in-Err-Mismatch}

pub returns-clause-solved : goal.returns-clause-solved
returns-clause-solved c =
    let segment : ℕ = c.args.segment in
    let usable : ℕ = c.args.usable in
    let lost : ℕ = c.args.lost in
    let was : List (List ℕ) = c.args.work.now in
    let first : List (List ℕ) = c.split_at_mut-collected.result.0.now in
    let rest : List (List ℕ) = c.split_at_mut-collected.result.1.now in
    let block : List (List ℕ) = c.solve.new.sectors in
    let left : List (List ℕ) = block ++ rest in
    let count : length first ≡ usable_count usable =
    c.split_at_mut-collected.ensures.front_len ∙ c.from-count.ensures ∙ c.count_usable.ensures.count in
    let parts : was ≡ first ++ rest = sym (sym c.split_at_mut-collected.ensures.value ∙ c.deref_mut.ensures.value ∙ c.work.view_is) in
    let before : take (usable_count usable) was ≡ first =
    ap (take (usable_count usable)) parts ∙ take_front (usable_count usable) first rest count in
    let behind : take (usable_count usable) left ≡ block = take_front (usable_count usable) block rest (omega (arith, count)) in
    let long : length left ≡ c.work.inside.sectors.len = omega (arith, length-append block rest) in
    let now : take c.work.inside.sectors.len (left ++ drop (length left) c.work.inside.sectors.items) ≡ left =
    with_items_is c.work.inside.sectors left long in
    let unchanged : block ≡ first → left ≡ was = λ same. ap (λ (b : List (List ℕ)). b ++ rest) same ∙ sym parts in
    let S : Result (Unit {0}) SegFault → Type 0 = IsSolved segment usable lost was left in
    subst (λ (new : List (List ℕ)). IsSolved segment usable lost was new c.match-solve.result) (sym now)
    (elim c.match-solve.branch [
      | in-Ok w ↦
          let solved = (w.in-Ok.ensures.solved).0 refl in
          subst S (sym w.result-is)
          (solved_block segment usable lost was left first block before behind solved.0 solved.1 w.in-Ok.ensures.block
          w.in-Ok.ensures.others)
      | in-Err-TooMany w ↦
          let many = (w.in-Err-TooMany.ensures.too_many w.in-Err-TooMany.lost).0 (ap Err w.in-Err-TooMany.field-0-is) in
          subst S (sym w.result-is)
          (solved_lost segment usable lost w.in-Err-TooMany.lost was left many.0 many.1 (unchanged w.in-Err-TooMany.ensures.unchanged))
      | in-Err-Mismatch w ↦
          let none = (w.in-Err-Mismatch.ensures.mismatch).0 (ap Err w.in-Err-Mismatch.field-0-is) in
          subst S (sym w.result-is)
          (solved_mismatch segment usable lost was left first before none.0 none.1 (unchanged w.in-Err-Mismatch.ensures.unchanged))
    ])

pub returns-clause-solves : goal.returns-clause-solves
returns-clause-solves c =
    λ cells count gathered.
    let most : usable_count c.args.usable ≤ 32 = omega (arith, c.count_usable.ensures) in
    let room : usable_count c.args.usable ≤ length c.args.work.now =
    subst (λ (ss : List (List ℕ)). usable_count c.args.usable ≤ length ss) (c.deref_mut.ensures.value ∙ c.work.view_is)
    (omega (arith, c.count_usable.ensures, c.deref_mut.ensures.len, c.work.invariant)) in
    solving_says c.args.segment c.args.usable c.args.lost cells c.args.work.now _ c.match-solve.result most room count gathered
    (returns-clause-solved c)
