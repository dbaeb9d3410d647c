use Rattle.std.proofs.Common.{◌≡◌, ◌+◌, ◌%◌, ◌^◌, take, sum}
use Rattle.tape_script.proofs.summed.add.Given as goal

abbrev pub invariant-loop-byte : goal.invariant-loop-byte
invariant-loop-byte l = l.total ≡ (l.initial.total + sum (take l.byte-index l.bytes)) % 2 ^ 32
