use Rattle.std.proofs.Common.{take}
use Rattle.qic_base.specs.Sink.{Wrote}
use Rattle.command_spec.specs.Lines.{volume_lines}
use Rattle.volume_store.proofs.listing.write_list.Given as goal

abbrev pub invariant-loop-index : goal.invariant-loop-index
invariant-loop-index g l = Wrote g.K.Sink.means l.initial.sink l.sink (volume_lines l.store.words 1 (take l.index l.store.entries))
