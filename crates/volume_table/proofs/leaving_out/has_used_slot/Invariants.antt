use Rattle.std.proofs.Common.{◌≡◌, false}
use Rattle.cartridge_spec.specs.Shape.{sector_at}
use Rattle.cartridge_spec.specs.Says.{some_used_below}
use Rattle.volume_table.proofs.leaving_out.has_used_slot.Given as goal

abbrev pub invariant-loop-slot : goal.invariant-loop-slot
invariant-loop-slot l = some_used_below (sector_at l.area l.place) l.slot ≡ false
