use Rattle.std.proofs.Common.{[], false, refl, sym, arith}
use Rattle.std.proofs.lemmas.List.{append-nil}
use Rattle.qic_mem.specs.declared.disk.entry.DiskEntry.TheVariants.{Settled}
use Rattle.qic_mem.specs.declared.disk.log.DiskRecord.TheInside.{Inside}
use Rattle.qic_mem.proofs.Entries.{IsNoted, whole-noted, log-settled}
use Rattle.qic_mem.proofs.disk.log.DiskRecord.settle.Goals as goal

after : (c : goal.After-self-1) → Inside
after c = record {
  entries = c.push.new.self;
  bytes = c.self.inside.bytes;
  calls_left = c.self.inside.calls_left;
  bytes_left = c.self.inside.bytes_left;
  pending = false;
}

noted : (c : goal.After-self-1) → IsNoted c.self.inside (after c) Settled []
unfolding after
noted c = record {
  whole = c.self.invariant;
  entries = rw c.unwrap.ensures at c.push.ensures.items;
  entries_room = c.push.ensures.capacity;
  bytes = sym (append-nil c.self.inside.bytes.items);
  bytes_room = omega arith;
  size = refl;
  pending = refl;
}

pub invariant_of-self : goal.invariant_of-self
unfolding after
invariant_of-self c = whole-noted c.self.inside (after c) Settled [] (noted c) (rw c.if-self.true (omega arith)) (omega arith)

pub returns-then-self : goal.returns-then-self
unfolding after
returns-then-self c = rw (← c.self.view_is) (log-settled c.self.inside (after c) (noted c) c.if-self.true refl refl)
