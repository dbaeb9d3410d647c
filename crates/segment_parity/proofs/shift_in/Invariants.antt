use Rattle.std.proofs.Common.{◌≡◌, length, All}
use Rattle.qic_base.specs.Cartridge.{IsSector}
use Rattle.segment_parity.specs.Register.{Shifted}
use Rattle.segment_parity.proofs.Steps.{Untouched}
use Rattle.segment_parity.proofs.shift_in.Given as goal

abbrev pub invariant-loop-j : goal.invariant-loop-j
invariant-loop-j l = record {
  size : length l.register ≡ 3;
  done : All IsSector l.initial.register → Shifted l.initial.register l.sector l.register l.j;
  open' : Untouched l.initial.register l.register l.j;
  rows : All IsSector l.initial.register → All IsSector l.register;
}
