use Rattle.erasure_solve.proofs.Columns.{strip_none, strip_next}
use Rattle.qic_base.proofs.Arrays.{zeros_are_zero}
use Rattle.erasure_solve.proofs.values.Strip.of.Goals as goal

pub loop-i-init : goal.loop-i-init
loop-i-init c = strip_none _ c.args.start c.args.sectors.now (zeros_are_zero 128) (zeros_are_zero 128) (zeros_are_zero 128)

pub loop-i-preserved : goal.loop-i-preserved
loop-i-preserved c =
    strip_next c.loop-i.strip c.add.new.self c.args.start c.loop-i.i c.args.sectors.now c.requires.within c.requires.sectors
    c.loop-i-test.true c.requires.few c.add.ensures c.loop-i.invariant
