use Rattle.std.proofs.Common.{◌≡◌, ℕ, List, IfSome, length, arith, subst}
use Rattle.tape_import.proofs.Ends.{found-empty}
use Rattle.qic_base.proofs.Disks.{settled-told}
use Rattle.tape_import.proofs.run.require_empty.Goals as goal

pub returns-in-Ok-eq0 : goal.returns-in-Ok-eq0
returns-in-Ok-eq0 g c =
    let none : c.in-Ok-eq0.field-0 ≡ 0 = omega arith in
    found-empty g.D.Disk.means c.args.disk.now c.len.new.self c.in-Ok-eq0.ensures.did
    (settled-told g.D.Disk.means c.args.disk.now (g.met.D.Disk.told_right c.args.disk.now) c.requires)
    (subst (λ (n : ℕ). IfSome (g.D.Disk.means.told c.args.disk.now) (λ (bytes : List ℕ). n ≡ length bytes)) none c.in-Ok-eq0.ensures.len)
