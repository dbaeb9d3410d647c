use Rattle.cart_image.specs.ImageTape.{disk_of}
use Rattle.qic_base.proofs.Disks.{settled-told}
use Rattle.image_kind.proofs.Looks.{failed-count, twice-told}
use Rattle.image_kind.proofs.opened.open_tape.Goals as goal

pub returns-in-Ok-info-clause-told : goal.returns-in-Ok-info-clause-told
returns-in-Ok-info-clause-told g c =
    twice-told g.D.Disk.means c.args.disk c.is_free.new.disk (disk_of c.info.new.self) c.is_free.result c.info.result
    (settled-told g.D.Disk.means c.args.disk (g.met.D.Disk.told_right c.args.disk) c.requires.settled) c.is_free.ensures.did
    (rw c.open-tape.ensures.disk at c.info.ensures.looked)

pub returns-in-Err-info-clause-refused : goal.returns-in-Err-info-clause-refused
returns-in-Err-info-clause-refused g c =
    let looked = c.in-Err-info.ensures.looked in
    failed-count g.D.Disk.means c.args.disk c.is_free.new.disk (disk_of c.open-tape.result) looked.0 (disk_of c.info.new.self)
    c.into_disk.result c.in-Ok.ensures.did.later c.open-tape.ensures.disk looked.1.later looked.2.cause c.into_disk.ensures.disk
