use Rattle.std.proofs.Common.{All, take}
use Rattle.qic_base.specs.Cartridge.{IsSector}
use Rattle.qic_base.proofs.sectors.are_sectors.Given as goal

abbrev pub invariant-loop-sector : goal.invariant-loop-sector
invariant-loop-sector l = All IsSector (take l.sector-index l.sectors)
