use Rattle.std.proofs.Common.{◌≡◌, length}
use Rattle.dump_answers.specs.Checking.{HasFew}
use Rattle.dump_answers.proofs.Finding.{ChecksTo}
use Rattle.dump_opening.specs.Opened.{Shows}
use Rattle.dump_reader.specs.Laid.{IsPlaced}
use Rattle.dump_spec.specs.Answers.{Known}
use Rattle.qic_base.specs.Disk.{Look, Stored}
use Rattle.dump_answers.proofs.checking.check_dump.Given as goal

abbrev pub invariant-loop-index : goal.invariant-loop-index
invariant-loop-index g l = record {
  checked : (known : Known) → Shows l.dump (g.D.Disk.means.told l.fn.disk) known →
      ChecksTo g.K.Sink.means known l.fn.output l.output l.counts l.index;
  did : Stored g.D.Disk.means l.fn.disk l.disk Look;
  stood : g.K.Sink.means.faults l.output ≡ g.K.Sink.means.faults l.fn.output;
  few : HasFew l.counts l.index;
  placed : IsPlaced l.dump.known l.cursor;
  room : length l.sectors ≡ 32;
}
