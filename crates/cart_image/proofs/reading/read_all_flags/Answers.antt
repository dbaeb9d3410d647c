use Rattle.std.proofs.Common.{◌∙◌, arith, refl}
use Rattle.std.proofs.lemmas.Result.{err_from_is_err_and}
use Rattle.cart_image.proofs.Exits.{Looked-err}
use Rattle.cart_image.proofs.Known.{read-none, read-more, read-all}
use Rattle.cart_image.proofs.Runs.{Looks-nothing, Looks-Looks}
use Rattle.cart_image.proofs.reading.read_all_flags.Goals as goal

pub loop-i-init : goal.loop-i-init
loop-i-init g c = record {
  looks = Looks-nothing g.D.Disk.means _;
  seen = refl;
  so = read-none _ _ _ _ _ _ (omega arith) (omega arith) (omega arith);
}

pub returns-in_err-flags-clause-looked : goal.returns-in_err-flags-clause-looked
returns-in_err-flags-clause-looked g c =
    let p = err_from_is_err_and c.from_residual.result c.from_residual.ensures.1 in
    Looked-err g.D.Disk.means _ _ _ _ p.0 p.1 c.loop-i.invariant.looks c.in_err-flags.ensures.looked

pub returns-in_err-flags-clause-seen : goal.returns-in_err-flags-clause-seen
returns-in_err-flags-clause-seen g c = c.in_err-flags.ensures.seen ∙ c.loop-i.invariant.seen

pub loop-i-preserved : goal.loop-i-preserved
loop-i-preserved g c = record {
  looks = Looks-Looks c.loop-i.invariant.looks c.in_ok-flags.ensures.looked;
  seen = c.in_ok-flags.ensures.seen ∙ c.loop-i.invariant.seen;
  so = read-more _ _ _ _ _ _ _ _ _ _ c.loop-i.invariant.looks.told c.requires.cells c.requires.place
      (omega arith) c.place.ensures c.in_ok-flags.ensures.bytes c.loop-i.invariant.so;
}

pub returns-clause-marks : goal.returns-clause-marks
returns-clause-marks g c = read-all _ _ _ c.loop-i.i _ (omega arith) c.loop-i.invariant.so
