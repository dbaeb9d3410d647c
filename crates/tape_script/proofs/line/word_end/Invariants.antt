use Rattle.std.proofs.Common.{take}
use Rattle.tape_script.proofs.Splits.{NoSpace}
use Rattle.tape_script.proofs.line.word_end.Given as goal

abbrev pub invariant-loop-at : goal.invariant-loop-at
invariant-loop-at l = NoSpace (take l.at l.text)
