use Rattle.std.proofs.Common.{◌≡◌, ◌+◌, ◌%◌, take}
use Rattle.command_laws.specs.TextGenerator.{made_from}
use Rattle.tape_script.proofs.made.fill.Given as goal

abbrev pub invariant-loop-byte : goal.invariant-loop-byte
invariant-loop-byte l = record {
  next : l.next ≡ (l.first + l.byte-index) % 251;
  filled : take l.byte-index l.byte-items ≡ made_from l.first l.byte-index;
}
