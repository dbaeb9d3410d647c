use Rattle.std.proofs.Common.{◌-◌, ◌<◌, ◌≤◌, length, refl, arith}
use Rattle.qic_mem.specs.declared.disk.log.DiskRecord.TheInside.{Inside}
use Rattle.qic_mem.proofs.Entries.{IsNoted, room-left, one-at-most, whole-noted, log-noted}
use Rattle.qic_mem.proofs.disk.log.DiskRecord.add.Goals as goal

after : (c : goal.After-self-3-1) → Inside
after c = record {
  entries = c.push.new.self;
  bytes = c.extend_from_slice.new.self;
  calls_left = c.self.inside.calls_left - 1;
  bytes_left = c.self.inside.bytes_left - length c.args.part.now;
  pending = c.is_pending-self-inside.result;
}

noted : (c : goal.After-self-3-1) → IsNoted c.self.inside (after c) c.args.entry c.args.part.now
unfolding after
noted c = record {
  whole = c.self.invariant;
  entries = rw c.unwrap-2.ensures at c.push.ensures.items;
  entries_room = c.push.ensures.capacity;
  bytes = rw c.unwrap.ensures at c.extend_from_slice.ensures.items;
  bytes_room = c.extend_from_slice.ensures.capacity;
  size = c.requires.size;
  pending = c.is_pending-self-inside.ensures;
}

pub invariant_of-self : goal.invariant_of-self
unfolding after
invariant_of-self c =
    let room : (0 < c.self.inside.calls_left) × (length c.args.part.now ≤ c.self.inside.bytes_left) =
    room-left c.self.inside.calls_left c.self.inside.bytes_left (length c.args.part.now) _ _ refl refl
    (rw (← c.self.view_is) at c.requires.room) in
    whole-noted c.self.inside (after c) c.args.entry c.args.part.now (noted c)
    (omega (arith, room.0, one-at-most c.is_pending-self-inside.result)) (omega (arith, room.1))

pub returns : goal.returns
unfolding after
returns c = rw (← c.self.view_is) (log-noted c.self.inside (after c) c.args.entry c.args.part.now (noted c) refl refl)
