use Rattle.std.proofs.Common.{◌≡◌, ◌≤◌, ◌++◌, length, drop}
use Rattle.rescue_map.specs.Text.{hex_digits}
use Rattle.rescue_map.proofs.text.put_hex.Given as goal

abbrev pub invariant-loop-at : goal.invariant-loop-at
invariant-loop-at l = record {
  within : l.at ≤ length l.digits;
  done : hex_digits (length l.digits) l.fn.value ≡ hex_digits l.at l.value ++ drop l.at l.digits;
}

abbrev pub decreases-loop-at : goal.decreases-loop-at
decreases-loop-at l = l.at
