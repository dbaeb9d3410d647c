use Rattle.std.proofs.Common.{◌≡◌, ◌-◌, ◌<◌, List, length, take, drop, slice_get, IfSome, Err, Ok, refl, ◌∙◌, subst, arith}
use Rattle.std.proofs.lemmas.Grind.{common_steps}
use Rattle.std.proofs.lemmas.List.{take_all, length-drop}
use Rattle.qic_base.specs.Alone.{around, no_sink}
use Rattle.cartridge_spec.specs.Table.{Entry}
use Rattle.cartridge_spec.specs.Volumes.{carrying_segments}
use Rattle.volume_store.specs.Mounting.{StoreView}
use Rattle.qic_base.specs.declared.store_fault.StoreFault.{StoreFault}
use Rattle.command_spec.specs.Make.{wearing_in, wearing_volumes}
use Rattle.made_volumes.specs.Runs.{HasRun, RunEnds}
use Rattle.made_volumes.proofs.Going.{volumes_begun, volume_there, volumes_go_on, volumes_failed}
use Rattle.made_volumes.proofs.wearing.wear_volumes.Goals as goal
use Rattle.command_spec.specs.declared.status.Status.TheVariants as status

pub loop-index-init : goal.loop-index-init
loop-index-init g c = record {
  from = omega arith;
  ran = λ seed. volumes_begun g.T.Tape.means c.args.store.now.words c.args.store.now.entries c.args.first c.args.unit.now.tape seed;
  store = refl;
  fits = c.requires.fits;
}

pub returns-in_err-wear_volume-clause-ends : goal.returns-in_err-wear_volume-clause-ends
returns-in_err-wear_volume-clause-ends g c = λ seed.
    let fault : StoreFault = c.in_err-wear_volume.field-0.0 in
    let is : c.from_residual.result ≡ Err fault = grind (arith, common_steps, c.from_residual.ensures) in
    let before = c.loop-index.invariant in
    let within : c.loop-index.index < length c.args.store.now.entries = omega (arith, c.count-index-end.ensures.count) in
    let there = volume_there c.args.store.now.entries c.loop-index.index within
    (λ e. RunEnds g.T.Tape.means no_sink seed c.args.store.now.words c.args.store.now.entries
    (wearing_in c.args.store.now.words (carrying_segments c.args.store.now.words e))
    (around c.loop-index.unit.tape tt) (around c.wear_volume.new.unit.tape tt) (Err fault))
    (subst (λ (s : StoreView). IfSome (slice_get s.entries c.loop-index.index)
    (λ e. RunEnds g.T.Tape.means no_sink seed s.words s.entries (wearing_in s.words (carrying_segments s.words e))
    (around c.loop-index.unit.tape tt) (around c.wear_volume.new.unit.tape tt) (Err fault))) before.store
    (c.in_err-wear_volume.ensures.ends seed)) in
    rw is (volumes_failed g.T.Tape.means c.args.store.now.words c.args.store.now.entries c.args.first c.loop-index.index before.from there.0
    there.1
    c.args.unit.now.tape c.loop-index.unit.tape c.wear_volume.new.unit.tape seed fault (before.ran seed) there.2)

pub loop-index-preserved : goal.loop-index-preserved
loop-index-preserved g c =
    let before = c.loop-index.invariant in
    let within : c.loop-index.index < length c.args.store.now.entries = omega (arith, c.count-index-end.ensures.count) in
    record {
      from = (let low = before.from in omega arith);
      ran = λ seed.
          (let there = volume_there c.args.store.now.entries c.loop-index.index within _
          (rw before.store at (c.in_ok-wear_volume.ensures.ends seed)) in
          volumes_go_on g.T.Tape.means c.args.store.now.words c.args.store.now.entries c.args.first c.loop-index.index before.from there.0
          there.1
          c.args.unit.now.tape c.loop-index.unit.tape c.wear_volume.new.unit.tape seed (Ok tt) (before.ran seed) there.2);
      store = c.in_ok-wear_volume.ensures.store ∙ before.store;
      fits = c.in_ok-wear_volume.ensures.fits (λ is. cc);
    }

pub returns-clause-ends : goal.returns-clause-ends
returns-clause-ends g c = λ seed.
    let entries : List Entry = c.args.store.now.entries in
    let rest : List Entry = drop c.args.first entries in
    let size : length rest ≡ length entries - c.args.first = length-drop c.args.first entries in
    let all : take (c.loop-index.index - c.args.first) rest ≡ rest = take_all (c.loop-index.index - c.args.first) rest
    (omega (arith, size, c.count-index-end.ensures.count)) in
    subst (λ (es : List Entry). HasRun g.T.Tape.means no_sink seed c.args.store.now.words entries
    (wearing_volumes c.args.store.now.words es)
    (around c.args.unit.now.tape tt) (around c.loop-index.unit.tape tt) status.Done) all (c.loop-index.invariant.ran seed)
