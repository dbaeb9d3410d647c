use Rattle.std.proofs.Common.{◌≡◌}
use Rattle.qic_base.specs.Step.{WriteSectors}
use Rattle.qic_mem.specs.Holder.{holder_state, made}
use Rattle.qic_mem.proofs.Several.{chosen_to}
use Rattle.qic_mem.proofs.tape.holder.Holder.write_sectors.Given as goal

abbrev pub invariant-loop-i : goal.invariant-loop-i
invariant-loop-i l = record {
  state : holder_state l.self ≡ made (holder_state l.fn.self) (WriteSectors l.segment (chosen_to l.written l.from l.i));
}
