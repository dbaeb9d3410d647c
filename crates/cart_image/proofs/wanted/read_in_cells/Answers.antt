use Rattle.cart_image.proofs.Asked.{states-marked}
use Rattle.cart_image.proofs.Gathers.{reads-cells}
use Rattle.cart_image.proofs.Known.{cells-marks}
use Rattle.cart_image.proofs.wanted.read_in_cells.Goals as goal

pub returns-clause-reads : goal.returns-clause-reads
returns-clause-reads g c =
    let came = c.read_whole.ensures.bytes c.if-not-read_whole.false in
    reads-cells (g.D.Disk.means.told c.args.disk.now) c.args.layout c.args.segment c.args.wanted c.words-read.result.good
    c.words-read.result.blank c.place-place.result c.read_whole.new.into c.states_by-states.result c.args.into.now c.copy_good.new.into
    c.requires.cells c.requires.place c.place-place.ensures came
    (states-marked (g.D.Disk.means.told c.args.disk.now) c.args.layout c.args.segment c.args.wanted c.marks_in.result
    c.states_by-states.result
    (cells-marks (g.D.Disk.means.told c.args.disk.now) c.args.layout c.args.segment c.place-place.result c.read_whole.new.into
    c.marks_in.result c.requires.cells c.requires.place c.place-place.ensures came c.marks_in.ensures.gates c.marks_in.ensures.formed
    c.marks_in.ensures.defects) c.states_by-states.ensures)
    c.words-read.ensures.good c.words-read.ensures.blank c.copy_good.ensures.copied
