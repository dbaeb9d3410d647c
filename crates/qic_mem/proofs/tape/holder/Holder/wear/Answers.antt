use Rattle.std.proofs.Common.{Option, ap}
use Rattle.qic_base.specs.Cartridge.{Cartridge}
use Rattle.qic_mem.specs.Holder.{HolderState, holder_state}
use Rattle.qic_mem.proofs.Holding.{wear-held}
use Rattle.qic_mem.proofs.tape.holder.Holder.wear.Goals as goal

pub returns : goal.returns
unfolding holder_state
returns c =
    let to : Option Cartridge → HolderState = λ held. record (holder_state c.args.self.now) { cartridge = held } in
    ap to (wear-held c.args.self.now.told _ _ _ _ _ _ c.requires c.view_index.ensures c.wear.ensures)
