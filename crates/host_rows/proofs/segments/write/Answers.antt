use Rattle.std.proofs.Common.{rules}
use Rattle.host_rows.proofs.Masks.{marked_carries}
use Rattle.host_rows.proofs.segments.write.Goals as goal

pub write_segment-requires : goal.write_segment-requires
write_segment-requires c = record {
  ready = search rules;
  segment = record { referenced = search rules; on_tape = search rules; carries = marked_carries };
  writable = search rules;
}
