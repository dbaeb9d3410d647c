use Rattle.std.proofs.Common.{◌≡◌, take}
use Rattle.rescue_map.specs.Reads.{left_of, IsAhead}
use Rattle.qic_base.specs.LineBytes.{NoNewline}
use Rattle.qic_base.specs.SourceCalls.{WereGiven}
use Rattle.dump_lists.proofs.line.read_line.Given as goal

abbrev pub invariant-loop-len : goal.invariant-loop-len
invariant-loop-len g l = record {
  none : NoNewline (take l.len l.line);
  gave : WereGiven (left_of g.S.Source.means l.initial.source l.initial.buffer l.initial.ahead)
      (left_of g.S.Source.means l.source l.buffer l.ahead) (take l.len l.line);
  within : IsAhead l.buffer l.ahead;
  kept : g.S.Source.means.keeps l.initial.source l.source;
  later : g.S.Source.means.faults l.source ≡ g.S.Source.means.faults l.initial.source;
}
