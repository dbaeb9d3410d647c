use Rattle.std.proofs.Common.{◌≡◌, ◌≤◌, ◌-◌, arith}
use Rattle.cartridge_spec.specs.Shape.{usable_count}
use Rattle.cartridge_laws.proofs.Places.{count_below}
use Rattle.dump_volumes.proofs.lengths.capacity.Goals as goal

pub returns-clause-small : goal.returns-clause-small
returns-clause-small c =
    let most : usable_count c.args.mask ≤ 32 = count_below c.args.mask 32 in
    let sectors : c.data_sectors.result ≡ usable_count c.args.mask - 3 = c.data_sectors.ensures in
    omega arith
