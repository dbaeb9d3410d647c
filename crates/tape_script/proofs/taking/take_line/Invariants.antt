use Rattle.std.proofs.Common.{◌≡◌, ◌≤◌, ◌-◌, length, take}
use Rattle.qic_base.specs.SourceCalls.{Gave}
use Rattle.qic_base.specs.LineBytes.{NoNewline}
use Rattle.tape_script.proofs.taking.take_line.Given as goal

abbrev pub invariant-loop-len : goal.invariant-loop-len
invariant-loop-len g l = record {
  within : l.len ≤ 128;
  full : length l.buffer ≡ 128;
  one_line : NoNewline (take l.len l.buffer);
  gave : Gave g.S.Source.means l.initial.source l.source (take l.len l.buffer);
  kept : g.S.Source.means.keeps l.initial.source l.source;
  later : g.S.Source.means.faults l.source ≡ g.S.Source.means.faults l.initial.source;
}

abbrev pub decreases-loop-len : goal.decreases-loop-len
decreases-loop-len g l = 128 - l.len
