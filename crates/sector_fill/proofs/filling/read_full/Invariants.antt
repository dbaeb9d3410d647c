use Rattle.std.proofs.Common.{◌≡◌, ◌≤◌, ◌-◌, length, take}
use Rattle.qic_base.specs.SourceCalls.{Gave}
use Rattle.sector_fill.proofs.filling.read_full.Given as goal

abbrev pub invariant-loop-len : goal.invariant-loop-len
invariant-loop-len g l = record {
  within : l.len ≤ length l.into;
  long : length l.into ≡ length l.initial.into;
  gave : Gave g.S.Source.means l.initial.source l.source (take l.len l.into);
  kept : g.S.Source.means.keeps l.initial.source l.source;
  later : g.S.Source.means.faults l.source ≡ g.S.Source.means.faults l.initial.source;
}

abbrev pub decreases-loop-len : goal.decreases-loop-len
decreases-loop-len g l = length l.initial.into - l.len
