use Rattle.std.proofs.Common.{◌≡◌, ◌<◌, ◌^◌, drop}
use Rattle.rescue_map.specs.Spelling.{digits_from}
use Rattle.rescue_map.proofs.spelling.read_digits.Given as goal

abbrev pub invariant-loop-byte : goal.invariant-loop-byte
invariant-loop-byte l = record {
  small : l.value < 2 ^ 63;
  rest : digits_from l.base 0 l.digits ≡ digits_from l.base l.value (drop l.byte-index l.digits);
}
