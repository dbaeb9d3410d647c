use Rattle.std.proofs.Common.{◌<◌, length, get_or, arith}
use Rattle.std.proofs.lemmas.List.{get_or_default}
use Rattle.std.proofs.lemmas.List.Edits.{map_over_more}
use Rattle.command_laws.specs.TextTerms.{printable}
use Rattle.tape_script.proofs.text_line.make_printable.Goals as goal

pub loop-byte-preserved : goal.loop-byte-preserved
loop-byte-preserved c =
    let here = get_or c.loop-byte.byte-items c.loop-byte.byte-index 0 in
    let within : c.loop-byte.byte-index < length c.loop-byte.byte-items = let l = c.loop-byte.auto.byte-items in omega arith in
    rw c.printable.ensures (map_over_more printable c.args.bytes.now c.loop-byte.byte-items c.loop-byte.byte-index here
    c.loop-byte-test.true c.loop-byte.invariant
    (get_or_default c.loop-byte.byte-items c.loop-byte.byte-index 0 here within))
