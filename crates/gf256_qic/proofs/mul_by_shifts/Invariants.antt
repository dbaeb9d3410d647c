use Rattle.std.proofs.Common.{◌≡◌, ◌%◌, ◌^◌}
use Rattle.cartridge_spec.specs.Code.{product, power}
use Rattle.gf256_qic.proofs.mul_by_shifts.Given as goal

abbrev pub invariant-loop-place : goal.invariant-loop-place
invariant-loop-place l = record {
  copies : l.sum ≡ product l.a (l.b % 2 ^ l.place);
  copy : l.shifted ≡ product l.a (power 2 l.place);
}
