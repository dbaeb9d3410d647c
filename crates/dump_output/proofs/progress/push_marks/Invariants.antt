-- The marks of the sectors below the place were added, of so many bytes.
use Rattle.std.proofs.Common.{◌≡◌, ◌+◌, ◌-◌, ◌*◌, ◌++◌, List, take}
use Rattle.dump_spec.specs.declared.mark.Mark.{Mark}
use Rattle.dump_output.specs.Marks.{marks_in}
use Rattle.dump_output.specs.SoFar.{MapSoFar}
use Rattle.sure_map.specs.Maps.{byte_count}
use Rattle.dump_output.proofs.progress.push_marks.Given as goal

abbrev pub invariant-loop-place : goal.invariant-loop-place
invariant-loop-place g l = record {
  goes : (from : g.row.M.Denot) (marks : List Mark) → MapSoFar g.M.Sink.means from l.fn.sure l.fn.map marks →
      MapSoFar g.M.Sink.means from l.sure l.map (marks ++ take l.bytes (marks_in l.reading l.place));
  left : l.left ≡ l.bytes - 1024 * l.place;
  more : byte_count l.map + l.left ≡ byte_count l.fn.map + l.bytes;
}
