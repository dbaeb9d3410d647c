use Rattle.std.proofs.Common.{◌≢◌, ◌<◌, length, refl, arith, below_more, get_or-set_other, get_or-set_same}
use Rattle.cartridge_laws.proofs.HeaderSpellingLaws.{all_clear}
use Rattle.header_segments.proofs.writing.clear.Goals as goal

pub loop-sector-preserved : goal.loop-sector-preserved
loop-sector-preserved c =
    below_more _ _
    (λ k h. let ne : k ≢ c.loop-sector.sector-index = omega arith in rw get_or-set_other (c.loop-sector.invariant k h))
    (let lt : c.loop-sector.sector-index < length c.loop-sector.area = omega arith in rw get_or-set_same refl)

pub returns : goal.returns
returns c = all_clear c.loop-sector.area (λ i h. c.loop-sector.invariant i (omega arith))
