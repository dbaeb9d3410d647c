use Rattle.std.proofs.Common.{Some}
use Rattle.dump_header.proofs.Bits.{are_masks, is_bad_too}
use Rattle.dump_header.proofs.masks.make_masks.Goals as goal

pub returns : goal.returns
returns c = λ bad is.
    are_masks (Some c.args.area.now) bad c.mark_bad.new.words c.complement.new.words c.complement.auto.words c.complement.ensures
    (is_bad_too c.args.area.now bad c.args.words.now c.mark_bad.new.words c.mark_bad.auto.words is c.mark_bad.ensures)
