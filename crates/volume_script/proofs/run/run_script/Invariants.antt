-- The items so far were carried out, and their acts went.
use Rattle.std.specs.Prelude.{◌≡◌, is_some}
use Rattle.volume_store.specs.Appending.{KeepsFormat}
use Rattle.volume_store.specs.Mounting.{StoreFits}
use Rattle.volume_script.proofs.Running.{SoFar}
use Rattle.volume_script.proofs.run.run_script.Given as goal

abbrev pub invariant-loop-line : goal.invariant-loop-line
invariant-loop-line g l = record {
  far : SoFar g.T.Tape.means g.S.Source.means g.K.Sink.means l.fn.store l.store
      record { tape = l.fn.unit.tape; source = l.fn.source; sink = l.fn.sink }
      record { tape = l.unit.tape; source = l.source; sink = l.sink } l.line l.place;
  fits : StoreFits g.T.Tape.means l.store l.unit;
  format : KeepsFormat l.fn.store l.store;
  kept : g.S.Source.means.keeps l.fn.source l.source;
  tells : is_some (g.S.Source.means.left l.source) ≡ is_some (g.S.Source.means.left l.fn.source);
}
