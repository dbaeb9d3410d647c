use Rattle.dump_reader.proofs.Signed.{signature_read, signature_cut}
use Rattle.dump_reader.proofs.first.begins_with_signature.Goals as goal

pub returns-then-count-eq4-clause-signature : goal.returns-then-count-eq4-clause-signature
returns-then-count-eq4-clause-signature g c =
    signature_read (g.D.Disk.means.told c.args.disk.now) _ c.in_ok-count.count c.read_u32.result c.if-count-eq4.true c.read_u32.ensures
    c.in_ok-count.ensures.given

pub returns-else-count-eq4-clause-signature : goal.returns-else-count-eq4-clause-signature
returns-else-count-eq4-clause-signature g c =
    signature_cut (g.D.Disk.means.told c.args.disk.now) c.in_ok-count.count c.if-count-eq4.false
    (g.met.D.Disk.told_right c.args.disk.now).bytes c.in_ok-count.ensures.amount
