use Rattle.std.proofs.Common.{rules, ◌≡◌, ℕ, ◌^◌, ◌<◌, subst, sym, arith}
use Rattle.host_rows.proofs.Masks.{marked_carries, marked_count}
use Rattle.host_rows.proofs.segments.write_three.Goals as goal

pub write_sectors-requires-clause-can : goal.write_sectors-requires-clause-can
write_sectors-requires-clause-can c = record {
  ready = search rules;
  segment = record { referenced = search rules; on_tape = search rules; carries = marked_carries };
  writable = search rules;
}

pub write_sectors-requires-clause-within : goal.write_sectors-requires-clause-within
write_sectors-requires-clause-within c =
    subst (λ (n : ℕ). c.from_mask-places.result < 2 ^ n) (sym marked_count)
    (let mask : c.from_mask-places.result ≡ 134283266 = c.from_mask-places.ensures in omega arith)
