use Rattle.std.proofs.Common.{take}
use Rattle.dump_opening.proofs.Headers.{filed_opened}
use Rattle.dump_opening.proofs.header.open_filed.Goals as goal

pub returns-in-Ok-clause-header : goal.returns-in-Ok-clause-header
returns-in-Ok-clause-header g c = λ text bad tells is.
    filed_opened text (g.D.Disk.means.told c.args.file.now) (take 29 c.read_filed_header.new.sectors) bad c.take_header.new.words
    c.take_header.result tells c.in-Ok.ensures.area (c.take_header.ensures.masks bad is) c.take_header.ensures.takes
