use Rattle.std.proofs.Common.{sym, arith}
use Rattle.std.proofs.lemmas.List.{length-take-le}
use Rattle.table_solve.proofs.solving.data_sectors.Goals as goal

pub slice_bounds-result-end : goal.slice_bounds-result-end
slice_bounds-result-end c = sym (length-take-le 29 c.sectors-sectors.result.now (omega (arith, c.sectors-sectors.ensures.size)))

pub returns-clause-size : goal.returns-clause-size
returns-clause-size c = length-take-le 29 c.sectors-sectors.result.now (omega (arith, c.sectors-sectors.ensures.size))
