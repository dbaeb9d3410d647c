use Rattle.std.proofs.Common.{◌∙◌, ℕ, length, ap, arith}
use Rattle.cartridge_laws.proofs.Places.{count_below}
use Rattle.qic_base.specs.Cartridge.{lost_places}
use Rattle.segment_solve.proofs.shape.count_usable.Goals as goal

pub returns-clause-count : goal.returns-clause-count
returns-clause-count c = c.count.ensures ∙ ap (λ (mask : ℕ). length (lost_places mask 32)) c.from_mask.ensures

pub returns-clause-most : goal.returns-clause-most
returns-clause-most c = omega (arith, c.count.ensures, count_below c.from_mask.result 32)
