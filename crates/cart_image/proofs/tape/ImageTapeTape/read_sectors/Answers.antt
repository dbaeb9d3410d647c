use Rattle.std.proofs.Common.{[], arith}
use Rattle.cart_image.proofs.Tapes.{Tape-done, Tape-broke, looks-done, looks-broke, tape-settled, reads-fact}
use Rattle.cart_image.proofs.tape.ImageTapeTape.read_sectors.Goals as goal

pub returns-in-Ok-clause-did : goal.returns-in-Ok-clause-did
returns-in-Ok-clause-did g c = Tape-done _ _ [] (looks-done g.D.Disk.means _ _ (tape-settled c.args.self.now) c.in-Ok.ensures.looked)
    c.in-Ok.ensures.faults

pub returns-in-Ok-clause-reads : goal.returns-in-Ok-clause-reads
returns-in-Ok-clause-reads g c =
    reads-fact c.args.self.now c.layout-layout.result c.args.segment 0 c.layout-layout.ensures c.requires c.args.wanted
    c.in-Ok.read.good c.in-Ok.read.blank c.args.into.now c.read_wanted.new.into c.in-Ok.ensures.reads

pub returns-in-Err-clause-did : goal.returns-in-Err-clause-did
returns-in-Err-clause-did g c = Tape-broke _ _ [] (looks-broke g.D.Disk.means _ _ (tape-settled c.args.self.now) c.in-Err.ensures.looked)
    (omega (arith, c.saturating_add-self.ensures, c.in-Err.ensures.faults)) (omega arith)
