use Rattle.std.proofs.Common.{◌∙◌}
use Rattle.std.proofs.lemmas.Result.{err_from_is_err_and}
use Rattle.cart_image.proofs.Exits.{Looked-err}
use Rattle.cart_image.proofs.Known.{marks-read}
use Rattle.cart_image.proofs.Runs.{Looks-Looks}
use Rattle.cart_image.proofs.reading.read_planes.Goals as goal

pub returns-in_err-formed-clause-looked : goal.returns-in_err-formed-clause-looked
returns-in_err-formed-clause-looked g c =
    let p = err_from_is_err_and c.from_residual-in_err-formed.result c.from_residual-in_err-formed.ensures.1 in
    Looked-err g.D.Disk.means _ _ _ _ p.0 p.1 c.in_ok-defects.ensures.looked c.in_err-formed.ensures.looked

pub returns-in_err-gates-clause-looked : goal.returns-in_err-gates-clause-looked
returns-in_err-gates-clause-looked g c =
    let p = err_from_is_err_and c.from_residual-in_err-gates.result c.from_residual-in_err-gates.ensures.1 in
    Looked-err g.D.Disk.means _ _ _ _ p.0 p.1 (Looks-Looks c.in_ok-defects.ensures.looked c.in_ok-formed.ensures.looked)
    c.in_err-gates.ensures.looked

pub returns-clause-marks : goal.returns-clause-marks
returns-clause-marks g c =
    marks-read _ _ _ c.args.layout c.args.segment _ _ _ _ c.in_ok-defects.ensures.looked.told
    (c.in_ok-formed.ensures.looked.told ∙ c.in_ok-defects.ensures.looked.told) c.requires.planes
    c.place.ensures c.place-2.ensures c.place-3.ensures c.requires.place
    c.in_ok-defects.ensures.bytes c.in_ok-formed.ensures.bytes c.in_ok-gates.ensures.bytes
