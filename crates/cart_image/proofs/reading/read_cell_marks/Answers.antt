use Rattle.std.proofs.Common.{◌≤◌, length}
use Rattle.cart_image.specs.Layout.{end_of}
use Rattle.cart_image.specs.State.{AreMarks}
use Rattle.cart_image.proofs.Exits.{Looked-after}
use Rattle.cart_image.proofs.FailedLooks.{ok-behind}
use Rattle.cart_image.proofs.reading.read_cell_marks.Goals as goal

pub returns-in-None-clause-looked : goal.returns-in-None-clause-looked
returns-in-None-clause-looked g c =
    Looked-after g.D.Disk.means _ _ _ c.read_all_flags.result
    c.read_marks_at_once.ensures.looks c.read_all_flags.ensures.looked

pub returns-in-None-clause-marks : goal.returns-in-None-clause-marks
returns-in-None-clause-marks g c =
    ok-behind c.read_all_flags.result (g.D.Disk.means.told c.args.disk.now) _
    (λ marks bytes. end_of c.args.layout ≤ length bytes → AreMarks c.args.layout c.args.segment bytes marks)
    c.read_marks_at_once.ensures.looks.told c.read_all_flags.ensures.marks
