-- The volumes before the present one were summed.
use Rattle.std.proofs.Common.{ℕ, ◌+◌, ◌-◌, ◌≤◌}
use Rattle.qic_base.specs.Alone.{around}
use Rattle.volume_store.specs.Mounting.{StoreFits, KeepsStore}
use Rattle.command_spec.specs.Make.{summing}
use Rattle.made_volumes.specs.Runs.{HasRun}
use Rattle.made_volumes.proofs.summing.sum_volumes.Given as goal
use Rattle.command_spec.specs.declared.status.Status.TheVariants as status

abbrev pub invariant-loop-number : goal.invariant-loop-number
invariant-loop-number g l = record {
  from : l.first + 1 ≤ l.number;
  ran : (seed : ℕ) → HasRun g.T.Tape.means g.K.Sink.means seed l.fn.store.words l.fn.store.entries
      (summing (l.first + 1) (l.number - (l.first + 1)))
      (around l.fn.unit.tape l.fn.sink) (around l.unit.tape l.sink) status.Done;
  store : KeepsStore l.fn.store l.store;
  fits : StoreFits g.T.Tape.means l.store l.unit;
}
