use Rattle.std.proofs.Common.{sym}
use Rattle.dump_lists.proofs.Numbering.{scanned_end}
use Rattle.dump_lists.proofs.numbers.read_words.Goals as goal

pub returns : goal.returns
returns c =
    sym (scanned_end c.loop-byte.scan c.close.new.self c.args.line.now c.loop-byte.byte-index c.loop-byte-test.false c.close.ensures.closed
    c.loop-byte.invariant)
