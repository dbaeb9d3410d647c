use Rattle.std.proofs.Common.{◌≡◌, ◌∷◌, ℕ, List, [], Option, refl, sym, subst, ◌∙◌, arith}
use Rattle.dump_reader.proofs.Looking.{looked_none, looked_both}
use Rattle.qic_base.proofs.Disks.{told-look}
use Rattle.dump_opening.specs.Opened.{Shows}
use Rattle.dump_answers.specs.Checking.{Checks}
use Rattle.dump_answers.proofs.Finding.{check_broke, check_cut, check_done, checks_next, checks_none}
use Rattle.command_laws.proofs.Passing.{passed}
use Rattle.dump_answers.proofs.checking.check_dump.Goals as goal

one_same : (a b : ℕ) → a ∷ [] ≡ b ∷ [] → a ≡ b
one_same a b same = cc

pub loop-index-init : goal.loop-index-init
loop-index-init g c = record {
  checked = λ known shows.
      checks_none g.K.Sink.means known c.args.output.now c.new-counts.result (g.met.K.Sink.took_nothing c.args.output.now)
      c.new-counts.ensures;
  did = looked_none g.D.Disk.means c.args.disk.now;
  stood = refl;
  few = ([], c.new-counts.ensures, omega arith);
  placed = c.new-cursor.ensures.placed c.args.dump.now.known;
  room = c.requires.room;
}

pub loop-index-preserved : goal.loop-index-preserved
loop-index-preserved g c = record {
  checked = λ known shows.
      let still = subst (λ (t : Option (List ℕ)). Shows c.args.dump.now t known) (sym (told-look c.loop-index.invariant.did)) shows in
      checks_next g.K.Sink.means known c.args.output.now c.loop-index.output c.check_next.new.output c.loop-index.counts
      c.check_next.new.counts c.loop-index.index g.met.K.Sink.took_both (c.loop-index.invariant.checked known shows)
      (c.in_ok-check_next.ensures.steps known still);
  did = looked_both c.loop-index.invariant.did c.in_ok-check_next.ensures.did;
  stood = one_same _ _ c.in_ok-check_next.ensures.counts.1 ∙ c.loop-index.invariant.stood;
  few = c.in_ok-check_next.ensures.few;
  placed = c.in_ok-check_next.ensures.placed;
  room = c.in_ok-check_next.ensures.room;
}

pub returns-in_err-check_next-clause-checks : goal.returns-in_err-check_next-clause-checks
returns-in_err-check_next-clause-checks g c = λ known shows.
    let still = subst (λ (t : Option (List ℕ)). Shows c.args.dump.now t known) (sym (told-look c.loop-index.invariant.did)) shows in
    subst (λ r. Checks g.K.Sink.means known c.args.output.now c.check_next.new.output r)
    (sym (passed c.from_residual.result c.in_err-check_next.field-0.0 c.from_residual.ensures.1))
    (check_cut g.K.Sink.means known c.args.output.now c.loop-index.output c.check_next.new.output c.loop-index.counts
    c.check_next.new.counts c.loop-index.index c.in_err-check_next.field-0.0 c.loop-index-test.true g.met.K.Sink.took_both
    (c.loop-index.invariant.checked known shows) (c.in_err-check_next.ensures.steps known still))

pub returns-in-Ok-clause-checks : goal.returns-in-Ok-clause-checks
returns-in-Ok-clause-checks g c = λ known shows.
    check_done g.K.Sink.means known c.args.output.now c.loop-index.output c.write_check.new.sink c.loop-index.counts c.loop-index.index
    c.status.result (omega arith) g.met.K.Sink.took_both (c.loop-index.invariant.checked known shows) c.status.ensures c.in-Ok.ensures

pub returns-in-Err-clause-checks : goal.returns-in-Err-clause-checks
returns-in-Err-clause-checks g c = λ known shows.
    check_broke g.K.Sink.means known c.args.output.now c.loop-index.output c.write_check.new.sink c.loop-index.counts c.loop-index.index
    (omega arith) g.met.K.Sink.took_both (c.loop-index.invariant.checked known shows) c.in-Err.ensures
