use Rattle.std.proofs.Common.{◌≡◌, ◌<◌, take, decimal}
use Rattle.tape_script.proofs.number.read_number.Given as goal

abbrev pub invariant-loop-at : goal.invariant-loop-at
invariant-loop-at l = record {
  none : l.at ≡ 0 → l.value ≡ 0;
  so_far : 0 < l.at → take l.at l.word ≡ decimal l.value;
}
