use Rattle.std.proofs.Common.{sym, subst}
use Rattle.file_streams.specs.FileSource.{Kept}
use Rattle.file_streams.proofs.Looks.{kept-failed}
use Rattle.file_streams.proofs.source.FileSourceSource.read.Goals as goal

pub returns-in-Err-clause-kept : goal.returns-in-Err-clause-kept
returns-in-Err-clause-kept g c =
    let me = c.args.self.now in
    let failed = c.fail-in-Err.ensures in
    subst (λ d. Kept g.D.Disk.means me.disk d me.faults c.fail-in-Err.new.self.faults) (sym failed.disk)
    (kept-failed g.D.Disk.means me.disk c.read_at.new.self me.faults c.fail-in-Err.new.self.faults (record { only = me.settled })
    c.in-Err.ensures.did failed.later failed.rose)
