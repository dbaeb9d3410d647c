-- The sectors before the present one are shifted in.
use Rattle.std.proofs.Common.{All, take}
use Rattle.qic_base.specs.Cartridge.{IsSector}
use Rattle.segment_parity.specs.Register.{AreParity}
use Rattle.segment_parity.proofs.put_columns.Given as goal

abbrev pub invariant-loop-sector : goal.invariant-loop-sector
invariant-loop-sector l = record {
  fit : All IsSector (take l.sector-index l.sectors);
  columns : AreParity l.high l.middle l.low (take l.sector-index l.sectors) l.start 128;
}
