use Rattle.std.proofs.Common.{arith}
use Rattle.qic_mem.proofs.Several.{lose-none, lose-more}
use Rattle.qic_mem.proofs.tape.holder.Holder.wear_sectors.Goals as goal

pub loop-i-init : goal.loop-i-init
loop-i-init c = record { state = lose-none _ c.args.segment c.args.written c.args.from.now }

pub loop-i-preserved : goal.loop-i-preserved
loop-i-preserved c = record {
  state = lose-more _ _ _ c.args.segment c.args.written c.loop-i.i _ c.args.from.now c.is_in.result (omega arith) c.is_in.ensures
      c.loop-i.invariant.state c.wear_if.ensures;
}
