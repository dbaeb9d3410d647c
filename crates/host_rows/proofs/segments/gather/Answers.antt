use Rattle.std.proofs.Common.{rules}
use Rattle.host_rows.proofs.Masks.{marked_carries}
use Rattle.host_rows.proofs.segments.gather.Goals as goal

pub collect-requires : goal.collect-requires
collect-requires c = record {
  ready = search rules;
  segment = record { referenced = search rules; on_tape = search rules; carries = marked_carries };
  mode = search rules;
}
