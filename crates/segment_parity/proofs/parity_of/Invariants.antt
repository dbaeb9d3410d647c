-- The columns of the blocks before the present one are done.
use Rattle.std.proofs.Common.{◌≡◌, ◌*◌, ◌<◌, length, All}
use Rattle.qic_base.specs.Cartridge.{IsSector}
use Rattle.segment_parity.specs.Register.{HasColumns}
use Rattle.segment_parity.proofs.parity_of.Given as goal

abbrev pub invariant-loop-block : goal.invariant-loop-block
invariant-loop-block l = record {
  size : length l.rows ≡ 3;
  fit : 0 < l.block → All IsSector l.sectors;
  columns : HasColumns l.rows l.sectors (128 * l.block);
}
