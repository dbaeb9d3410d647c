-- Of the usable sectors below the present one the first two were worn.
use Rattle.std.proofs.Common.{◌≡◌, ℕ, length}
use Rattle.qic_base.specs.Alone.{around, no_sink}
use Rattle.cartridge_spec.specs.Shape.{mask_at}
use Rattle.volume_store.specs.Mounting.{StoreFits}
use Rattle.command_laws.specs.MadeTerms.{wearing}
use Rattle.made_volumes.specs.Runs.{HasRun}
use Rattle.made_volumes.proofs.Loops.{two_below}
use Rattle.made_volumes.proofs.wearing.wear_first_two.Given as goal
use Rattle.command_spec.specs.declared.status.Status.TheVariants as status

abbrev pub invariant-loop-sector : goal.invariant-loop-sector
invariant-loop-sector g l = record {
  ran : (seed : ℕ) → HasRun g.T.Tape.means no_sink seed l.fn.store.words l.fn.store.entries
      (wearing l.segment (two_below (mask_at l.fn.store.words l.segment) l.sector))
      (around l.fn.unit.tape tt) (around l.unit.tape tt) status.Done;
  worn : l.worn ≡ length (two_below (mask_at l.fn.store.words l.segment) l.sector);
  store : l.store ≡ l.fn.store;
  fits : StoreFits g.T.Tape.means l.store l.unit;
}
