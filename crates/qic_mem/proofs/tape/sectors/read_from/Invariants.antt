use Rattle.std.proofs.Common.{◌+◌}
use Rattle.qic_base.specs.TapeCalls.{is_readable, is_blank}
use Rattle.qic_mem.specs.Sectors.{view_in}
use Rattle.qic_mem.proofs.Several.{Chose, ReadSo}
use Rattle.qic_mem.proofs.tape.sectors.read_from.Given as goal

abbrev pub invariant-loop-i : goal.invariant-loop-i
invariant-loop-i l = record {
  good : Chose is_readable l.wanted l.good (λ i. view_in l.views (l.first + i)) l.i;
  blank : Chose is_blank l.wanted l.blank (λ i. view_in l.views (l.first + i)) l.i;
  so : ReadSo l.wanted (λ i. view_in l.views (l.first + i)) l.fn.into l.into l.i;
}
