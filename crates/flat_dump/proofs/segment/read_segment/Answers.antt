use Rattle.std.proofs.Common.{◌≡◌, ◌<◌, ◌^◌, [], length, arith}
use Rattle.std.proofs.lemmas.List.Elements.{All-get_or}
use Rattle.qic_base.specs.Cartridge.{IsSector}
use Rattle.flat_dump.proofs.Seeing.{segment_seen}
use Rattle.flat_dump.proofs.segment.read_segment.Goals as goal

pub returns-clause-seen : goal.returns-clause-seen
returns-clause-seen g c =
    let small : c.mask.result < 2 ^ 32 = c.mask.type_inv in
    let long : length c.read_sectors.new.into ≡ 32 = search c.read_sectors.array_long in
    rw c.mask.ensures
    (segment_seen g.T.Tape.means c.args.tape.now c.args.segment c.from_mask.result c.in_ok-read.read.good c.in_ok-read.read.blank
    c.clear.new.sectors c.read_sectors.new.into c.from_mask.ensures c.clear.ensures (rw c.mask.ensures at small)
    long (λ k less. All-get_or IsSector c.read_sectors.new.into k [] (omega arith) c.are_sectors.ensures)
    c.in_ok-read.ensures.kept c.in_ok-read.ensures.reads)
