use Rattle.std.proofs.Common.{◌≡◌, ◌*◌, ◌≤◌, take}
use Rattle.cartridge_spec.specs.Shape.{marked_sectors}
use Rattle.bad_sector_map.proofs.map.BadMap.marked.Given as goal

abbrev pub invariant-loop-word : goal.invariant-loop-word
invariant-loop-word l = record {
  count : l.count ≡ marked_sectors (take l.word-index l.word-items);
  few : l.count ≤ 32 * l.word-index;
}
