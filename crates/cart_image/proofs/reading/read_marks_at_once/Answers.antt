use Rattle.cart_image.proofs.Known.{cells-marks}
use Rattle.cart_image.proofs.reading.read_marks_at_once.Goals as goal

pub returns-clause-marks : goal.returns-clause-marks
returns-clause-marks g c =
    cells-marks (g.D.Disk.means.told c.args.disk.now) c.args.layout c.args.segment c.place-place.result c.read_whole.new.into _
    c.requires.cells c.requires.place c.place-place.ensures (c.read_whole.ensures.bytes c.if-not-read_whole.false) c.marks_in.ensures.gates
    c.marks_in.ensures.formed c.marks_in.ensures.defects
