use Rattle.qic_base.proofs.Disks.{settled-told}
use Rattle.file_streams.proofs.source.FileSource.new.Goals as goal

pub invariant_of-result : goal.invariant_of-result
invariant_of-result g c = record {
  settled = λ bytes left told may.
      (settled-told g.D.Disk.means c.args.disk (g.met.D.Disk.told_right c.args.disk) c.requires).only bytes left told may;
}
