use Rattle.std.proofs.Common.{◌-◌, ap, arith, length}
use Rattle.volume_store.specs.Mounting.{StoreView}
use Rattle.volume_table.specs.Entry.{entry_of}
use Rattle.volume_store.proofs.Storing.{ends_within}
use Rattle.volume_store.proofs.store.Store.volume.Goals as goal

pub returns-clause-on_tape : goal.returns-clause-on_tape
returns-clause-on_tape c =
    let long = ap (λ (v : StoreView). length v.words) c.self.view_is in
    let ends = ends_within c.self.inside.table 2 _ (c.args.number - 1) (entry_of c.entry-entry.result.now) c.self.invariant.1
    c.entry-entry.ensures in
    omega (arith, ends.0, ends.1, long)
