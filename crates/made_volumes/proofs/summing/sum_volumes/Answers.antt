use Rattle.std.proofs.Common.{◌≡◌, ℕ, ◌+◌, ◌-◌, [], ◌∷◌, length, Err, Ok, refl, ◌∙◌, subst, arith}
use Rattle.std.proofs.lemmas.Grind.{common_steps}
use Rattle.qic_base.specs.Alone.{around}
use Rattle.qic_base.specs.declared.store_fault.StoreFault.{StoreFault}
use Rattle.command_spec.specs.Make.{SumVolume, summing}
use Rattle.made_volumes.specs.Runs.{HasRun}
use Rattle.made_volumes.proofs.Going.{sums_begun, sums_next, sums_failed, same_store}
use Rattle.made_volumes.proofs.summing.sum_volumes.Goals as goal
use Rattle.command_spec.specs.declared.status.Status.TheVariants as status

pub loop-number-init : goal.loop-number-init
loop-number-init g c = record {
  from = omega arith;
  ran = sums_begun g.T.Tape.means g.K.Sink.means g.met.K.Sink.took_nothing c.args.store.now.words c.args.store.now.entries
      (c.args.first + 1) (around c.args.unit.now.tape c.args.sink.now);
  store = record { header = refl; words = refl; entries = refl };
  fits = c.requires.fits;
}

pub returns-in_err-sum_volume-clause-ends : goal.returns-in_err-sum_volume-clause-ends
returns-in_err-sum_volume-clause-ends g c = λ seed.
    let fault : StoreFault = c.in_err-sum_volume.field-0.0 in
    let is : c.from_residual.result ≡ Err fault = grind (arith, common_steps, c.from_residual.ensures) in
    let before = c.loop-number.invariant in
    rw is (sums_failed g.T.Tape.means g.K.Sink.means g.met.K.Sink.took_both c.args.store.now.words c.args.store.now.entries c.args.first
    c.loop-number.number before.from
    (around c.args.unit.now.tape c.args.sink.now) (around c.loop-number.unit.tape c.loop-number.sink)
    (around c.sum_volume.new.unit.tape c.sum_volume.new.sink)
    seed (length c.args.store.now.entries - c.args.first) fault (omega (arith, c.count-end.ensures.count, c.requires.first))
    (before.ran seed)
    (same_store g.T.Tape.means g.K.Sink.means seed c.args.store.now.words c.loop-number.store.words c.args.store.now.entries
    c.loop-number.store.entries (SumVolume c.loop-number.number ∷ [])
    (around c.loop-number.unit.tape c.loop-number.sink) (around c.sum_volume.new.unit.tape c.sum_volume.new.sink)
    (Err fault) before.store.words before.store.entries (c.in_err-sum_volume.ensures.ends seed)))

pub loop-number-preserved : goal.loop-number-preserved
loop-number-preserved g c =
    let before = c.loop-number.invariant in
    record {
      from = (let low = before.from in omega arith);
      ran = λ seed. sums_next g.T.Tape.means g.K.Sink.means g.met.K.Sink.took_both c.args.store.now.words c.args.store.now.entries
          c.args.first c.loop-number.number before.from
          (around c.args.unit.now.tape c.args.sink.now) (around c.loop-number.unit.tape c.loop-number.sink)
          (around c.sum_volume.new.unit.tape c.sum_volume.new.sink)
          seed (Ok tt) (before.ran seed)
          (same_store g.T.Tape.means g.K.Sink.means seed c.args.store.now.words c.loop-number.store.words c.args.store.now.entries
          c.loop-number.store.entries (SumVolume c.loop-number.number ∷ [])
          (around c.loop-number.unit.tape c.loop-number.sink) (around c.sum_volume.new.unit.tape c.sum_volume.new.sink)
          (Ok tt) before.store.words before.store.entries (c.in_ok-sum_volume.ensures.ends seed));
      store = record {
        header = c.in_ok-sum_volume.ensures.store.header ∙ before.store.header;
        words = c.in_ok-sum_volume.ensures.store.words ∙ before.store.words;
        entries = c.in_ok-sum_volume.ensures.store.entries ∙ before.store.entries;
      };
      fits = c.in_ok-sum_volume.ensures.fits (λ is. cc);
    }

pub returns-clause-ends : goal.returns-clause-ends
returns-clause-ends g c = λ seed.
    let all : c.loop-number.number - (c.args.first + 1) ≡ length c.args.store.now.entries - c.args.first =
    omega (arith, c.count-end.ensures.count, c.requires.first) in
    subst (λ (n : ℕ). HasRun g.T.Tape.means g.K.Sink.means seed c.args.store.now.words c.args.store.now.entries
    (summing (c.args.first + 1) n)
    (around c.args.unit.now.tape c.args.sink.now) (around c.loop-number.unit.tape c.loop-number.sink) status.Done) all
    (c.loop-number.invariant.ran seed)
