use Rattle.std.proofs.Common.{[], drop, ap, ◌∙◌, arith}
use Rattle.table_solve.proofs.Collected.{last_three}
use Rattle.table_solve.proofs.solving.parity_of_table.Goals as goal

pub returns : goal.returns
returns c = last_three 29 c.sectors-sectors.result.now [] c.sectors-sectors.ensures.size ∙ ap (drop 29) c.sectors-sectors.ensures.value

pub bounds-sectors-29 : goal.bounds-sectors-29
bounds-sectors-29 c = omega (arith, c.sectors-sectors.ensures.size)

pub bounds-sectors-30 : goal.bounds-sectors-30
bounds-sectors-30 c = omega (arith, c.sectors-sectors.ensures.size)

pub bounds-sectors-31 : goal.bounds-sectors-31
bounds-sectors-31 c = omega (arith, c.sectors-sectors.ensures.size)
