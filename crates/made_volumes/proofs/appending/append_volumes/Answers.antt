use Rattle.std.proofs.Common.{◌≡◌, Err, Ok, ◌∙◌, arith}
use Rattle.std.proofs.lemmas.Grind.{common_steps}
use Rattle.qic_base.specs.Alone.{around}
use Rattle.qic_base.specs.declared.store_fault.StoreFault.{StoreFault}
use Rattle.made_volumes.proofs.Going.{append_next, append_failed, append_listed}
use Rattle.made_volumes.proofs.Listing.{listed_loop}
use Rattle.made_volumes.proofs.appending.append_volumes.Goals as goal

pub returns-in_err-append_volume-clause-ends : goal.returns-in_err-append_volume-clause-ends
returns-in_err-append_volume-clause-ends g c =
    let fault : StoreFault = c.in_err-append_volume.field-0.0 in
    let is : c.from_residual.result ≡ Err fault = grind (arith, common_steps, c.from_residual.ensures) in
    let before = c.loop-volume.invariant in
    rw is (append_failed g.T.Tape.means c.args.seed c.args.store.now.words c.args.store.now.entries c.loop-volume.volume before.from
    c.loop-volume.store.words c.loop-volume.store.entries before.format.words before.list
    c.args.unit.now.tape c.loop-volume.unit.tape c.append_volume.new.unit.tape c.args.count
    (omega arith) fault before.ran c.in_err-append_volume.ensures.ends)

pub returns-in_err-append_volume-clause-list : goal.returns-in_err-append_volume-clause-list
returns-in_err-append_volume-clause-list g c =
    let fault : StoreFault = c.in_err-append_volume.field-0.0 in
    let is : c.from_residual.result ≡ Err fault = grind (arith, common_steps, c.from_residual.ensures) in
    let before = c.loop-volume.invariant in
    rw is (listed_loop g.T.Tape.means c.args.seed c.args.count c.loop-volume.volume before.from (omega arith) c.args.store.now
    c.loop-volume.store.words c.loop-volume.store.entries c.append_volume.new.store before.format.words before.list
    (around c.loop-volume.unit.tape tt) (around c.append_volume.new.unit.tape tt) fault _ c.in_err-append_volume.ensures.ends
    c.in_err-append_volume.ensures.list)

pub loop-volume-preserved : goal.loop-volume-preserved
loop-volume-preserved g c =
    let before = c.loop-volume.invariant in
    record {
      from = omega arith;
      ran = append_next g.T.Tape.means c.args.seed c.args.store.now.words c.args.store.now.entries c.loop-volume.volume before.from
          c.loop-volume.store.words c.loop-volume.store.entries before.format.words before.list
          c.args.unit.now.tape c.loop-volume.unit.tape c.append_volume.new.unit.tape (Ok tt) before.ran c.in_ok-append_volume.ensures.ends;
      list = append_listed g.T.Tape.means c.args.seed c.args.store.now.words c.args.store.now.entries c.loop-volume.volume before.from
          c.loop-volume.store.words c.loop-volume.store.entries before.format.words before.list
          c.args.unit.now.tape c.loop-volume.unit.tape c.append_volume.new.unit.tape c.append_volume.new.store.entries
          c.in_ok-append_volume.ensures.list;
      format = record {
        header = c.in_ok-append_volume.ensures.format.header ∙ before.format.header;
        words = c.in_ok-append_volume.ensures.format.words ∙ before.format.words;
      };
      fits = c.in_ok-append_volume.ensures.fits (λ is. cc);
    }
