use Rattle.std.proofs.Common.{arith}
use Rattle.dump_reader.proofs.Laying.{start_next}
use Rattle.dump_reader.proofs.cursor.Cursor.go_on.Goals as goal

pub loop-passed-preserved : goal.loop-passed-preserved
loop-passed-preserved c = record {
  start = omega (arith, start_next c.args.known.now c.loop-passed.passed, c.step.ensures.sectors, c.from-start.ensures);
  near = omega (arith, c.step.ensures.few, c.from-start.ensures);
}
