use Rattle.std.proofs.Common.{◌≡◌, IfSome, length, arith}
use Rattle.qic_base.proofs.Disks.{told-look}
use Rattle.image_kind.proofs.Heads.{read_all, read_few}
use Rattle.image_kind.proofs.free.is_free.Goals as goal

pub returns-then-count-eq8-clause-free : goal.returns-then-count-eq8-clause-free
returns-then-count-eq8-clause-free g c =
    let same : g.D.Disk.means.told c.read_at.new.self ≡ g.D.Disk.means.told c.args.disk.now = told-look c.in_ok-count.ensures.did in
    let size : IfSome (g.D.Disk.means.told c.args.disk.now) (λ bytes. c.in_ok-len.len ≡ length bytes) =
    rw same at c.in_ok-len.ensures.len in
    read_all (g.D.Disk.means.told c.args.disk.now) c.read_at.new.into c.in_ok-count.count c.in_ok-len.len c.is_free_by.result (grind arith)
    c.if-count-eq8.true c.in_ok-count.ensures.given size c.is_free_by.ensures

pub returns-else-count-eq8-clause-free : goal.returns-else-count-eq8-clause-free
returns-else-count-eq8-clause-free g c =
    let same : g.D.Disk.means.told c.read_at.new.self ≡ g.D.Disk.means.told c.args.disk.now = told-look c.in_ok-count.ensures.did in
    let size : IfSome (g.D.Disk.means.told c.args.disk.now) (λ bytes. c.in_ok-len.len ≡ length bytes) =
    rw same at c.in_ok-len.ensures.len in
    read_few (g.D.Disk.means.told c.args.disk.now) c.in_ok-count.count c.in_ok-len.len c.if-count-eq8.false c.in_ok-count.ensures.amount
    size
