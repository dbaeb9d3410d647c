-- So many volumes were copied, and both stores fit their units.
use Rattle.std.proofs.Common.{◌-◌, ◌≤◌, ℕ, length}
use Rattle.volume_copy.specs.Runs.{HaveCopied}
use Rattle.volume_copy.proofs.copying.copy_missing.Given as goal
use Rattle.volume_store.specs.Mounting.{StoreFits}

abbrev pub invariant-loop-store : goal.invariant-loop-store
invariant-loop-store g l = record {
  source : StoreFits g.A.Tape.means l.from.store l.from.unit;
  target : StoreFits g.B.Tape.means l.store l.unit;
  few : length l.store.entries ≤ length l.from.store.entries;
  count : ℕ;
  copied : HaveCopied g.A.Tape.means g.B.Tape.means g.K.Sink.means count
      (record {
        from = record { store = l.fn.from.store; unit = l.fn.from.unit };
        to = record { store = l.fn.store; unit = l.fn.unit };
        sink = l.fn.sink;
      })
      (record {
        from = record { store = l.from.store; unit = l.from.unit };
        to = record { store = l.store; unit = l.unit };
        sink = l.sink;
      });
}

abbrev pub decreases-loop-store : goal.decreases-loop-store
decreases-loop-store g l = length l.from.store.entries - length l.store.entries
