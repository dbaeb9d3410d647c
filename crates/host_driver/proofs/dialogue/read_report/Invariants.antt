use Rattle.std.proofs.Common.{◌≡◌, take}
use Rattle.qic117_commands.specs.Report.{levels_of}
use Rattle.drive_states.specs.Unit.{IsSoundUnit}
use Rattle.host_driver.specs.Reports.{width_of, reported_word}
use Rattle.host_driver.proofs.Reporting.{reporting}
use Rattle.host_driver.proofs.dialogue.read_report.Given as goal

abbrev pub invariant-loop-level : goal.invariant-loop-level
invariant-loop-level g l = record {
  unit : l.unit ≡ record l.fn.unit { drive = reporting l.fn.kind l.fn.unit.drive l._level };
  sound : IsSoundUnit g.T.Tape.means l.unit;
  width : l.collector.width ≡ width_of l.fn.kind;
  taken : l.collector.levels ≡ take l._level (levels_of (width_of l.fn.kind) (reported_word l.fn.kind l.fn.unit.drive));
}
