use Rattle.std.proofs.Common.{Ok, Err}
use Rattle.flat_dump.proofs.Imports.{failed_none}
use Rattle.flat_dump.proofs.Passing.{begin_goes}
use Rattle.flat_dump.proofs.importing.write_image.Goals as goal

pub returns-in-Ok-clause-fills : goal.returns-in-Ok-clause-fills
returns-in-Ok-clause-fills g c =
    c.fill_image.ensures.fills c.args.disk.now
    (begin_goes g.D.Disk.means g.met.D.Disk.left_now g.met.D.Disk.told_right {T = Unit {0}} {E = Unit {0}} c.args.disk.now c.begin.new.disk
    (Ok tt) c.requires.empty c.in-Ok.ensures.ran)

pub returns-in-Err-clause-fills : goal.returns-in-Err-clause-fills
returns-in-Err-clause-fills g c =
    failed_none g.S.Source.means g.D.Disk.means c.args.source.now c.args.mask.now c.args.segments_per_track c.args.disk.now c.begin.new.disk
    (begin_goes g.D.Disk.means g.met.D.Disk.left_now g.met.D.Disk.told_right {T = Unit {0}} {E = Unit {0}} c.args.disk.now c.begin.new.disk
    (Err tt) c.requires.empty c.in-Err.ensures.ran)
