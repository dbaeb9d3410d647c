-- All are sure just where those from the place on are.
use Rattle.std.proofs.Common.{◌≡◌}
use Rattle.dump_spec.specs.Given.{all_sure}
use Rattle.segment_salvage.specs.Reading.{given_as}
use Rattle.segment_salvage.proofs.SureData.{sure_from}
use Rattle.segment_salvage.proofs.reading.SegmentReading.all_sure.Given as goal

abbrev pub invariant-loop-place : goal.invariant-loop-place
invariant-loop-place l = sure_from l.self l.place l.sectors ≡ all_sure (given_as l.self 0 l.sectors)
