use Rattle.std.proofs.Common.{refl, arith}
use Rattle.qic_mem.proofs.Several.{write-none, write-more}
use Rattle.qic_mem.proofs.tape.holder.Holder.write_sectors.Goals as goal

pub loop-i-init : goal.loop-i-init
loop-i-init c = record { state = write-none _ c.args.segment c.args.written c.args.from.now }

pub loop-i-preserved : goal.loop-i-preserved
loop-i-preserved c = record {
  state = write-more _ _ _ c.args.segment c.args.written c.loop-i.i _ c.args.from.now c.is_in.result _ (omega arith) c.is_in.ensures refl
      c.loop-i.invariant.state c.write_if.ensures;
}
