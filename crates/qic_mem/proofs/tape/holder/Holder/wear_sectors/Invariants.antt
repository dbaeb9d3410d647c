use Rattle.std.proofs.Common.{◌≡◌}
use Rattle.qic_mem.specs.Holder.{holder_state}
use Rattle.qic_mem.proofs.Several.{chosen_to, with_lost}
use Rattle.qic_mem.proofs.tape.holder.Holder.wear_sectors.Given as goal

abbrev pub invariant-loop-i : goal.invariant-loop-i
invariant-loop-i l = record {
  state : holder_state l.self ≡ with_lost (holder_state l.fn.self) l.segment (chosen_to l.written l.from l.i);
}
