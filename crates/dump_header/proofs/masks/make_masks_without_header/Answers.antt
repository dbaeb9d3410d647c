use Rattle.std.proofs.Common.{None}
use Rattle.dump_header.proofs.Bits.{are_masks}
use Rattle.dump_header.proofs.masks.make_masks_without_header.Goals as goal

pub returns : goal.returns
returns c = λ bad is.
    are_masks None bad c.args.words.now c.complement.new.words c.complement.auto.words c.complement.ensures is
