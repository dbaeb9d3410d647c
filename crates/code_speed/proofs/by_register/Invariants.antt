use Rattle.std.proofs.Common.{◌≡◌, take}
use Rattle.segment_parity.specs.Register.{pushed, Holds}
use Rattle.code_speed.proofs.by_register.Given as goal

abbrev pub invariant-loop-sector : goal.invariant-loop-sector
invariant-loop-sector l = record {
  count : pushed l.parity ≡ l.sector-index;
  holds : Holds l.parity (take l.sector-index l.sectors);
}
