use Rattle.std.proofs.Common.{◌-◌, length, take, drop}
use Rattle.erasure_solve.specs.Rows.{IsStrip}
use Rattle.erasure_solve.proofs.values.Strip.of.Given as goal

abbrev pub invariant-loop-i : goal.invariant-loop-i
invariant-loop-i l = IsStrip l.strip l.start (take l.i l.sectors) (drop (length l.sectors - l.i) l.sectors)
