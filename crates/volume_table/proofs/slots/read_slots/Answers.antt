use Rattle.std.proofs.Common.{◌≡◌, ◌∷◌, ◌++◌, [], map, refl, ap, ◌∙◌, arith}
use Rattle.std.proofs.lemmas.List.{map-append}
use Rattle.volume_table.specs.Entry.{entry_of}
use Rattle.volume_table.proofs.SoFar.{SoFar-start, SoFar-free, SoFar-used}
use Rattle.volume_table.proofs.slots.read_slots.Goals as goal
use Rattle.volume_table.proofs.slots.read_slots.Goals.{in-Some, in-None}

pub loop-index-init : goal.loop-index-init
loop-index-init c = record {
  so_far = rw c.requires.empty (SoFar-start c.args.area.now c.args.last 2 refl);
  room = c.requires.room;
}

pub loop-index-preserved : goal.loop-index-preserved
loop-index-preserved c =
    elim c.match-branch-2.branch [
      | in-Some w ↦
          let pushed : map entry_of w.push_within.new.list.items ≡ map entry_of c.loop-index.entries.items ++ entry_of
          w.in-Some.entry ∷ [] =
          ap (map entry_of) w.push_within.ensures.items ∙ map-append entry_of c.loop-index.entries.items (w.in-Some.entry ∷ []) in
          record {
            so_far = rw (w.entries-is, w.seen_free-is)
                (SoFar-used c.args.area.now c.args.last c.loop-index.index c.loop-index.taken _ c.loop-index.seen_free
                (map entry_of c.loop-index.entries.items) _ w.in-Some.entry c.loop-index.invariant.so_far c.in_ok-entry.ensures.fault
                (rw w.in-Some.is at c.in_ok-entry.ensures.shown) w.taken-is pushed);
            room = rw w.entries-is (omega arith);
          }
      | in-None w ↦
          record {
            so_far = rw (w.entries-is, w.seen_free-is, w.taken-is)
                (SoFar-free c.args.area.now c.args.last c.loop-index.index c.loop-index.taken c.loop-index.seen_free
                (map entry_of c.loop-index.entries.items) c.loop-index.invariant.so_far c.in_ok-entry.ensures.fault
                (rw w.in-None.is at c.in_ok-entry.ensures.shown));
            room = rw w.entries-is c.loop-index.invariant.room;
          }
    ]
