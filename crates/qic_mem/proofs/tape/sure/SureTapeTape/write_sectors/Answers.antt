use Rattle.qic_mem.proofs.Several.{chosen-reached}
use Rattle.qic_mem.proofs.tape.sure.SureTapeTape.write_sectors.Goals as goal

pub run-requires : goal.run-requires
run-requires c = chosen-reached _ c.args.segment c.mask-written.result c.args.from.now c.requires
