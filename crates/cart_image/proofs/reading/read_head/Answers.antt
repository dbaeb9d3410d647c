use Rattle.cart_image.proofs.Infos.{head-told, head-short, head-fits}
use Rattle.qic_base.proofs.Disks.{told-look}
use Rattle.cart_image.proofs.reading.read_head.Goals as goal

pub returns-then-count-eq24-clause-head : goal.returns-then-count-eq24-clause-head
returns-then-count-eq24-clause-head g c =
    head-told (g.D.Disk.means.told c.args.disk.now) _ _ _ _ _ (told-look c.in_ok-count.ensures.did) c.if-count-eq24.true c.read_at.auto.into
    c.in_ok-count.ensures.given c.in_ok-len.ensures.len c.head_by.ensures

pub returns-then-count-eq24-clause-fits : goal.returns-then-count-eq24-clause-fits
returns-then-count-eq24-clause-fits g c = head-fits _ _ _ _ c.in_ok-len.ensures.seen c.head_by.ensures

pub returns-else-count-eq24-clause-head : goal.returns-else-count-eq24-clause-head
returns-else-count-eq24-clause-head g c =
    head-short (g.D.Disk.means.told c.args.disk.now) _ c.if-count-eq24.false c.in_ok-count.ensures.amount
