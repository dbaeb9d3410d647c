use Rattle.std.proofs.Common.{ℕ, ◌≤◌, subst, arith, List, [], length, All, take_all}
use Rattle.std.proofs.lemmas.List.Elements.{All-more}
use Rattle.qic_base.specs.Cartridge.{IsSector}
use Rattle.qic_base.proofs.sectors.are_sectors.Goals as goal

pub loop-sector-preserved : goal.loop-sector-preserved
loop-sector-preserved c =
    All-more IsSector c.args.sectors.now c.loop-sector.sector-index [] c.loop-sector-test.true c.loop-sector.invariant
    c.is_sector.ensures

pub returns : goal.returns
returns c =
    let end : length c.args.sectors.now ≤ c.loop-sector.sector-index = omega arith in
    subst (λ (ss : List (List ℕ)). All IsSector ss) (take_all c.loop-sector.sector-index c.args.sectors.now end) c.loop-sector.invariant
