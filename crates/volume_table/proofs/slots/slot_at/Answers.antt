use Rattle.std.proofs.Common.{refl, arith}
use Rattle.volume_table.proofs.SlotLaws.{slot-range}
use Rattle.volume_table.proofs.slots.slot_at.Goals as goal

pub returns-clause-bytes : goal.returns-clause-bytes
returns-clause-bytes c = slot-range c.args.area.now c.args.index _ _ refl (omega arith)
