use Rattle.std.proofs.Common.{◌≡◌, take}
use Rattle.table_solve.proofs.Collected.{NoneBelow}
use Rattle.table_solve.proofs.solving.solve_first.Given as goal

abbrev pub invariant-loop-index : goal.invariant-loop-index
invariant-loop-index l = record {
  kept : l.work ≡ l.initial.work;
  none : NoneBelow (take l.tried.count l.tried.sets) l.index l.work;
}
