use Rattle.std.proofs.Common.{◌≡◌, ◌≤◌, ◌-◌}
use Rattle.qic_base.specs.SourceCalls.{GaveSome}
use Rattle.tape_script.proofs.taking.skip.Given as goal

abbrev pub invariant-loop-left : goal.invariant-loop-left
invariant-loop-left g l = record {
  within : l.left ≤ l.bytes;
  gave : GaveSome g.S.Source.means l.initial.source l.source (l.bytes - l.left);
  kept : g.S.Source.means.keeps l.initial.source l.source;
  later : g.S.Source.means.faults l.source ≡ g.S.Source.means.faults l.initial.source;
}

abbrev pub decreases-loop-left : goal.decreases-loop-left
decreases-loop-left g l = l.left
