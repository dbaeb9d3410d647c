use Rattle.std.proofs.Common.{rules}
use Rattle.host_rows.proofs.Masks.{marked_carries}
use Rattle.host_rows.proofs.segments.read.Goals as goal

pub read_segment-requires : goal.read_segment-requires
read_segment-requires c = record {
  ready = search rules;
  segment = record { referenced = search rules; on_tape = search rules; carries = marked_carries };
  mode = search rules;
}
