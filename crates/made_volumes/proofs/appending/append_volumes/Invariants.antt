-- The volumes before the present one were appended.
use Rattle.std.proofs.Common.{◌≡◌, ◌-◌, ◌≤◌}
use Rattle.qic_base.specs.Alone.{around, no_sink}
use Rattle.volume_store.specs.Appending.{KeepsFormat}
use Rattle.volume_store.specs.Mounting.{StoreFits}
use Rattle.command_spec.specs.Make.{appending, made_list}
use Rattle.made_volumes.specs.Runs.{HasRun}
use Rattle.made_volumes.proofs.appending.append_volumes.Given as goal
use Rattle.command_spec.specs.declared.status.Status.TheVariants as status

abbrev pub invariant-loop-volume : goal.invariant-loop-volume
invariant-loop-volume g l = record {
  from : 1 ≤ l.volume;
  ran : HasRun g.T.Tape.means no_sink l.seed l.fn.store.words l.fn.store.entries (appending 1 (l.volume - 1))
      (around l.fn.unit.tape tt) (around l.unit.tape tt) status.Done;
  list : l.store.entries ≡ made_list l.seed (l.volume - 1) l.fn.store.words l.fn.store.entries;
  format : KeepsFormat l.fn.store l.store;
  fits : StoreFits g.T.Tape.means l.store l.unit;
}
