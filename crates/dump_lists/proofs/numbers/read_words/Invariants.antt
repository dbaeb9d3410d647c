use Rattle.dump_lists.specs.Scanning.{Scanned}
use Rattle.dump_lists.proofs.numbers.read_words.Given as goal

abbrev pub invariant-loop-byte : goal.invariant-loop-byte
invariant-loop-byte l = Scanned l.scan l.line l.byte-index
