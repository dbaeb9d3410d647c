use Rattle.std.proofs.Common.{◌+◌}
use Rattle.qic_base.specs.TapeCalls.{is_blank}
use Rattle.qic_mem.specs.Sectors.{view_in}
use Rattle.qic_mem.proofs.Several.{Chose}
use Rattle.qic_mem.proofs.tape.sectors.blank_from.Given as goal

abbrev pub invariant-loop-i : goal.invariant-loop-i
invariant-loop-i l = record { blank : Chose is_blank l.written l.blank (λ i. view_in l.views (l.first + i)) l.i }
