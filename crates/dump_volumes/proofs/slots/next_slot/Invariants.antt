-- No slot of a volume was passed.
use Rattle.std.proofs.Common.{◌≡◌}
use Rattle.dump_spec.specs.Volumes.{volume_slots}
use Rattle.dump_volumes.proofs.Slotted.{slots_at}
use Rattle.dump_volumes.proofs.slots.next_slot.Given as goal

abbrev pub invariant-loop-at : goal.invariant-loop-at
invariant-loop-at l = volume_slots (slots_at l.area l.from) ≡ volume_slots (slots_at l.area l.at)
