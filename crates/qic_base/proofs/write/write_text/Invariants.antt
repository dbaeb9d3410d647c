use Rattle.std.proofs.Common.{◌≤◌, ◌-◌, length, take}
use Rattle.qic_base.specs.Sink.{Wrote}
use Rattle.qic_base.proofs.write.write_text.Given as goal

abbrev pub invariant-loop-at : goal.invariant-loop-at
invariant-loop-at g l = record {
  within : l.at ≤ length l.text;
  wrote : Wrote g.K.Sink.means l.initial.sink l.sink (take l.at l.text);
}

abbrev pub decreases-loop-at : goal.decreases-loop-at
decreases-loop-at g l = length l.text - l.at
