use Rattle.std.proofs.Common.{Option, ap}
use Rattle.qic_base.specs.Cartridge.{Cartridge}
use Rattle.qic_mem.specs.Holder.{HolderState, holder_state}
use Rattle.qic_mem.proofs.Holding.{segment-held}
use Rattle.qic_mem.proofs.tape.holder.Holder.wear_segment.Goals as goal

pub returns : goal.returns
unfolding holder_state
returns c =
    let to : Option Cartridge → HolderState = λ held. record (holder_state c.args.self.now) { cartridge = held } in
    ap to (segment-held c.args.self.now.told _ _ _ _ _ _ _ c.args.self.now.fits c.args.self.now.long c.requires c.view_index.ensures
    c.wear_segment.ensures.worn)
