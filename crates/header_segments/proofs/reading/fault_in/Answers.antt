use Rattle.std.proofs.Common.{arith}
use Rattle.cartridge_laws.proofs.HeaderRefusals.{length-words_in}
use Rattle.header_segments.proofs.reading.fault_in.Goals as goal

pub marked_fault-requires : goal.marked_fault-requires
marked_fault-requires c = omega (arith, length-words_in c.args.area.now c.args.map.now _ c.requires.map, c.requires.long.shortest)
