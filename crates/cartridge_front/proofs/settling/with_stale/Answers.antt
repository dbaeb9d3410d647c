use Rattle.std.proofs.Common.{sym}
use Rattle.std.specs.Str.{bytes_eq}
use Rattle.cartridge_front.proofs.Stale.{stale_with}
use Rattle.cartridge_front.proofs.settling.with_stale.Goals as goal

pub returns : goal.returns
returns c = λ i. stale_with c.args.stale c.args.place i (bytes_eq c.args.held.now c.args.wanted.now) (sym c.if-eq.ensures) c.requires
