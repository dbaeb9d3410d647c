use Rattle.std.proofs.Common.{◌*◌}
use Rattle.erasure_solve.proofs.Columns.{AreFirst}
use Rattle.erasure_solve.proofs.values.Values.of.Given as goal

abbrev pub invariant-loop-strip : goal.invariant-loop-strip
invariant-loop-strip l = AreFirst (l.strip * 128) l.values l.sectors
