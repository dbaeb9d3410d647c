use Rattle.std.proofs.Common.{map}
use Rattle.volume_table.specs.Entry.{entry_of}
use Rattle.volume_table.proofs.EachSlot.{EachIsSlotOf}
use Rattle.volume_table.proofs.showing.are_shown_by.Given as goal

abbrev pub invariant-loop-index : goal.invariant-loop-index
invariant-loop-index l = EachIsSlotOf l.area (map entry_of l.entries) l.index
