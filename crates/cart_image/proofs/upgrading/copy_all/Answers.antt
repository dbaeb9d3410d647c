use Rattle.std.proofs.Common.{◌∙◌, arith, refl}
use Rattle.std.proofs.lemmas.Result.{err_from_is_err_and}
use Rattle.cart_image.proofs.Copies.{copying-none, copying-more, copying-failed, copying-all}
use Rattle.cart_image.proofs.upgrading.copy_all.Goals as goal

pub loop-segment-init : goal.loop-segment-init
loop-segment-init g c = record { copying = copying-none g.D.Disk.means _ c.args.segments_per_track; seen = refl }

pub returns-in_err-copy_segment-clause-planned : goal.returns-in_err-copy_segment-clause-planned
returns-in_err-copy_segment-clause-planned g c =
    let p = err_from_is_err_and c.from_residual.result c.from_residual.ensures.1 in
    copying-failed g.D.Disk.means _ _ _ c.args.segments_per_track c.loop-segment.segment c.loop-segment.invariant.copying
    (λ bytes told. let right = g.met.D.Disk.told_right c.args.disk.now in let seen = right.seen bytes told in let covers = c.requires in
    omega arith) (omega arith) _ _ _ p.0 refl p.1 c.in_err-copy_segment.ensures.planned

pub loop-segment-preserved : goal.loop-segment-preserved
loop-segment-preserved g c = record {
  copying = copying-more g.D.Disk.means _ _ _ c.args.segments_per_track c.loop-segment.segment c.loop-segment.invariant.copying
      (λ bytes told. let right = g.met.D.Disk.told_right c.args.disk.now in let seen = right.seen bytes told in let covers = c.requires in
      omega arith) (omega arith) _ _ refl c.in_ok-copy_segment.ensures.planned;
  seen = c.in_ok-copy_segment.ensures.seen ∙ c.loop-segment.invariant.seen;
}

pub returns-clause-planned : goal.returns-clause-planned
returns-clause-planned g c = copying-all g.D.Disk.means _ _ c.args.segments_per_track c.loop-segment.segment _ _ refl
    (omega arith) c.loop-segment.invariant.copying
