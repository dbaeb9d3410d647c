-- The volumes before the present one were gone through.
use Rattle.std.proofs.Common.{◌≡◌, ℕ, ◌-◌, ◌≤◌, take, drop}
use Rattle.qic_base.specs.Alone.{around, no_sink}
use Rattle.volume_store.specs.Mounting.{StoreFits}
use Rattle.command_spec.specs.Make.{wearing_volumes}
use Rattle.made_volumes.specs.Runs.{HasRun}
use Rattle.made_volumes.proofs.wearing.wear_volumes.Given as goal
use Rattle.command_spec.specs.declared.status.Status.TheVariants as status

abbrev pub invariant-loop-index : goal.invariant-loop-index
invariant-loop-index g l = record {
  from : l.first ≤ l.index;
  ran : (seed : ℕ) → HasRun g.T.Tape.means no_sink seed l.fn.store.words l.fn.store.entries
      (wearing_volumes l.fn.store.words (take (l.index - l.first) (drop l.first l.fn.store.entries)))
      (around l.fn.unit.tape tt) (around l.unit.tape tt) status.Done;
  store : l.store ≡ l.fn.store;
  fits : StoreFits g.T.Tape.means l.store l.unit;
}
