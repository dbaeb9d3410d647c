use Rattle.std.proofs.Common.{ℕ, ◌-◌, List, length, ap, ◌∙◌}
use borrow.Rule.Slice.PartMut.{put_mid}
use Rattle.cartridge_front.proofs.Stale.{put_stale_in}
use Rattle.table_solve.proofs.Places.{put_end}
use Rattle.cartridge_front.proofs.settling.replace_parity.Goals as goal

pub returns-clause-sectors : goal.returns-clause-sectors
returns-clause-sectors c =
    ap (λ (l : List (List ℕ)). put_mid 29 (length c.args.sectors.now - 29) c.args.sectors.now l) c.copy_from_slice.ensures.after
    ∙ put_end c.args.sectors.now c.args.parity.now c.requires

pub returns-clause-stale : goal.returns-clause-stale
returns-clause-stale c =
    put_stale_in c.args.lost c.with_stale-stale.result c.with_stale-stale-2.result c.with_stale-stale-3.result c.args.sectors.now
    c.args.parity.now
    c.requires c.with_stale-stale.ensures c.with_stale-stale-2.ensures c.with_stale-stale-3.ensures
