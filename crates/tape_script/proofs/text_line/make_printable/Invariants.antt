use Rattle.std.proofs.Common.{◌≡◌, ◌++◌, map, take, drop}
use Rattle.command_laws.specs.TextTerms.{printable}
use Rattle.tape_script.proofs.text_line.make_printable.Given as goal

abbrev pub invariant-loop-byte : goal.invariant-loop-byte
invariant-loop-byte l =
    l.byte-items ≡ map printable (take l.byte-index l.fn.bytes) ++ drop l.byte-index l.fn.bytes
