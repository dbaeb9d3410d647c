-- The segments below the present one were gone through.
use Rattle.std.proofs.Common.{◌≡◌, ℕ, ◌≤◌}
use Rattle.qic_base.specs.Alone.{around, no_sink}
use Rattle.segment_mending.proofs.Looked.{carrying_below}
use Rattle.volume_store.specs.Mounting.{StoreFits}
use Rattle.command_spec.specs.Make.{wearing_in}
use Rattle.made_volumes.specs.Runs.{HasRun}
use Rattle.made_volumes.proofs.wearing.wear_volume.Given as goal
use Rattle.command_spec.specs.declared.status.Status.TheVariants as status

abbrev pub invariant-loop-segment : goal.invariant-loop-segment
invariant-loop-segment g l = record {
  from : l.start ≤ l.segment;
  ran : (seed : ℕ) → HasRun g.T.Tape.means no_sink seed l.fn.store.words l.fn.store.entries
      (wearing_in l.fn.store.words (carrying_below l.fn.store.words l.start l.segment))
      (around l.fn.unit.tape tt) (around l.unit.tape tt) status.Done;
  store : l.store ≡ l.fn.store;
  fits : StoreFits g.T.Tape.means l.store l.unit;
}
