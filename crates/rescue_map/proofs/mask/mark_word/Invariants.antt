use Rattle.std.proofs.Common.{◌≤◌, max}
use Rattle.rescue_map.proofs.Masking.{MarksWord}
use Rattle.rescue_map.proofs.mask.mark_word.Given as goal

abbrev pub invariant-loop-bit : goal.invariant-loop-bit
invariant-loop-bit l = record {
  marked : MarksWord l.word l.marked l.from l.bit;
  within : l.bit ≤ max l.from l.to;
}
