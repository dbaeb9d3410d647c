use Rattle.std.proofs.Common.{◌≡◌, ℕ, ◌+◌, length, Err, Ok, refl, sym, ap, ◌∙◌, subst, arith}
use Rattle.std.proofs.lemmas.Grind.{common_steps}
use Rattle.qic_base.specs.Alone.{around, no_sink}
use Rattle.cartridge_spec.specs.Volumes.{carrying, carrying_segments}
use Rattle.volume_table.specs.Entry.{entry_of}
use Rattle.volume_store.specs.Mounting.{StoreView}
use Rattle.qic_base.specs.declared.store_fault.StoreFault.{StoreFault}
use Rattle.command_spec.specs.Make.{wearing_in}
use Rattle.made_volumes.specs.Runs.{HasRun, RunEnds}
use Rattle.made_volumes.proofs.Going.{segments_begun, segments_next, segments_failed, of_entry}
use Rattle.segment_mending.proofs.Looked.{carrying_below}
use Rattle.made_volumes.proofs.Stores.{lies}
use Rattle.made_volumes.proofs.wearing.wear_volume.Goals as goal
use Rattle.command_spec.specs.declared.status.Status.TheVariants as status

pub loop-segment-init : goal.loop-segment-init
loop-segment-init g c = record {
  from = omega (arith, c.from-segment.ensures);
  ran = λ seed. subst (λ (s : ℕ). HasRun g.T.Tape.means no_sink seed c.args.store.now.words c.args.store.now.entries
      (wearing_in c.args.store.now.words (carrying_below c.args.store.now.words c.entry-entry.result.now.start s))
      (around c.args.unit.now.tape tt) (around c.args.unit.now.tape tt) status.Done) (sym c.from-segment.ensures)
      (segments_begun g.T.Tape.means c.args.store.now.words c.args.store.now.entries c.entry-entry.result.now.start
      c.entry-entry.result.now.start (omega arith)
      c.args.unit.now.tape c.args.unit.now.tape c.args.unit.now.tape seed);
  store = refl;
  fits = c.requires.fits;
}

pub wear_if_due-requires-clause-segment : goal.wear_if_due-requires-clause-segment
wear_if_due-requires-clause-segment g c =
    let on = lies g.T.Tape.means c.args.store.now c.args.unit.now c.requires.fits c.args.index
    (entry_of c.entry-entry.result.now) c.entry-entry.ensures in
    let same : length c.loop-segment.store.words ≡ length c.args.store.now.words =
    ap (λ (s : StoreView). length s.words) c.loop-segment.invariant.store in
    let within = on.within in
    let behind = on.behind in
    let forwards = on.forwards in
    omega arith

pub returns-in_err-wear_if_due-clause-ends : goal.returns-in_err-wear_if_due-clause-ends
returns-in_err-wear_if_due-clause-ends g c = λ seed.
    let fault : StoreFault = c.in_err-wear_if_due.field-0.0 in
    let is : c.from_residual.result ≡ Err fault = grind (arith, common_steps, c.from_residual.ensures) in
    let before = c.loop-segment.invariant in
    let start : ℕ = c.entry-entry.result.now.start in
    let last : ℕ = c.entry-entry.result.now.end + 1 in
    rw is (of_entry c.args.store.now.entries c.args.index (entry_of c.entry-entry.result.now) c.entry-entry.ensures
    (λ e. RunEnds g.T.Tape.means no_sink seed c.args.store.now.words c.args.store.now.entries
    (wearing_in c.args.store.now.words (carrying_segments c.args.store.now.words e))
    (around c.args.unit.now.tape tt) (around c.wear_if_due.new.unit.tape tt) (Err fault))
    (segments_failed g.T.Tape.means c.args.store.now.words c.args.store.now.entries start c.loop-segment.segment before.from
    c.args.unit.now.tape c.loop-segment.unit.tape c.wear_if_due.new.unit.tape seed last fault (omega arith) (before.ran seed)
    (subst (λ (s : StoreView). RunEnds g.T.Tape.means no_sink seed s.words s.entries
    (wearing_in s.words (carrying s.words c.loop-segment.segment c.loop-segment.segment))
    (around c.loop-segment.unit.tape tt) (around c.wear_if_due.new.unit.tape tt) (Err fault)) before.store
    (c.in_err-wear_if_due.ensures.ends seed))))

pub loop-segment-preserved : goal.loop-segment-preserved
loop-segment-preserved g c =
    let before = c.loop-segment.invariant in
    record {
      from = (let low = before.from in omega arith);
      ran = λ seed. segments_next g.T.Tape.means c.args.store.now.words c.args.store.now.entries c.entry-entry.result.now.start
          c.loop-segment.segment before.from
          c.args.unit.now.tape c.loop-segment.unit.tape c.wear_if_due.new.unit.tape seed (Ok tt) (before.ran seed)
          (rw before.store at (c.in_ok-wear_if_due.ensures.ends seed));
      store = c.in_ok-wear_if_due.ensures.store ∙ before.store;
      fits = c.in_ok-wear_if_due.ensures.fits (λ is. cc);
    }

pub returns-clause-ends : goal.returns-clause-ends
returns-clause-ends g c = λ seed.
    let on = lies g.T.Tape.means c.args.store.now c.args.unit.now c.requires.fits c.args.index
    (entry_of c.entry-entry.result.now) c.entry-entry.ensures in
    let forwards = on.forwards in
    let all : c.loop-segment.segment ≡ c.entry-entry.result.now.end + 1 =
    omega (arith, c.from-segment.ensures, c.from-segment-end.ensures, forwards) in
    of_entry c.args.store.now.entries c.args.index (entry_of c.entry-entry.result.now) c.entry-entry.ensures
    (λ e. HasRun g.T.Tape.means no_sink seed c.args.store.now.words c.args.store.now.entries
    (wearing_in c.args.store.now.words (carrying_segments c.args.store.now.words e))
    (around c.args.unit.now.tape tt) (around c.loop-segment.unit.tape tt) status.Done)
    (subst (λ (s : ℕ). HasRun g.T.Tape.means no_sink seed c.args.store.now.words c.args.store.now.entries
    (wearing_in c.args.store.now.words (carrying_below c.args.store.now.words c.entry-entry.result.now.start s))
    (around c.args.unit.now.tape tt) (around c.loop-segment.unit.tape tt) status.Done) all (c.loop-segment.invariant.ran seed))
