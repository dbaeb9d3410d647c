use Rattle.std.proofs.Common.{◌*◌, ◌++◌, ap}
use Rattle.std.proofs.lemmas.Result.{err_from_is_err_and}
use Rattle.std.specs.List.{flat_map}
use Rattle.cart_image.specs.declared.layout.Part.TheVariants.{GateByte, Data}
use Rattle.cart_image.specs.Layout.{open_gate, closed_gate, fill, even, overwrite_all}
use Rattle.cart_image.proofs.Exits.{Runs-err, Runs-after}
use Rattle.cart_image.proofs.Loops.{halted-is, ran-is}
use Rattle.cart_image.proofs.Runs.{Ran-Halted, Halted-front}
use Rattle.cart_image.proofs.several.overwrite.Goals as goal

pub returns-in_err-fill-clause-ran : goal.returns-in_err-fill-clause-ran
unfolding overwrite_all even
returns-in_err-fill-clause-ran g c =
    let p = err_from_is_err_and c.from_residual.result c.from_residual.ensures.1 in
    Runs-err g.D.Disk.means _ _ _ c.from_residual.result p.0 p.1
    (Halted-front g.D.Disk.means _ _ (fill c.args.layout GateByte (even GateByte closed_gate) (32 * c.args.segment)
    c.args.chosen.now.readable)
    ((fill c.args.layout Data (flat_map (λ bytes. bytes) c.args.from.now) (32 * c.args.segment) c.args.chosen.now.taking) ++
    (fill c.args.layout GateByte (even GateByte open_gate) (32 * c.args.segment) c.args.chosen.now.taking)) c.in_err-fill.ensures.ran)

pub returns-in_err-fill-2-clause-ran : goal.returns-in_err-fill-2-clause-ran
unfolding overwrite_all even
returns-in_err-fill-2-clause-ran g c =
    let p = err_from_is_err_and c.from_residual-in_err-fill-2.result c.from_residual-in_err-fill-2.ensures.1 in
    Runs-err g.D.Disk.means _ _ _ c.from_residual-in_err-fill-2.result p.0 p.1
    (Ran-Halted g.D.Disk.means _ _ _ (fill c.args.layout GateByte (even GateByte closed_gate) (32 * c.args.segment)
    c.args.chosen.now.readable)
    ((fill c.args.layout Data (flat_map (λ bytes. bytes) c.args.from.now) (32 * c.args.segment) c.args.chosen.now.taking) ++
    (fill c.args.layout GateByte (even GateByte open_gate) (32 * c.args.segment) c.args.chosen.now.taking)) c.in_ok-fill.ensures.ran
    (Halted-front g.D.Disk.means _ _
    (fill c.args.layout Data (flat_map (λ bytes. bytes) c.args.from.now) (32 * c.args.segment) c.args.chosen.now.taking)
    (fill c.args.layout GateByte (even GateByte open_gate) (32 * c.args.segment) c.args.chosen.now.taking)
    (halted-is g.D.Disk.means _ _ _ _
    (ap (λ values. fill c.args.layout Data values (32 * c.args.segment) c.args.chosen.now.taking) c.as_flattened.ensures.value)
    c.in_err-fill-2.ensures.ran)))

pub returns-clause-ran : goal.returns-clause-ran
unfolding overwrite_all even
returns-clause-ran g c =
    Runs-after g.D.Disk.means _ _ _ (fill c.args.layout GateByte (even GateByte closed_gate) (32 * c.args.segment)
    c.args.chosen.now.readable)
    ((fill c.args.layout Data (flat_map (λ bytes. bytes) c.args.from.now) (32 * c.args.segment) c.args.chosen.now.taking) ++
    (fill c.args.layout GateByte (even GateByte open_gate) (32 * c.args.segment) c.args.chosen.now.taking)) c.fill-3.result
    c.in_ok-fill.ensures.ran
    (Runs-after g.D.Disk.means _ _ _
    (fill c.args.layout Data (flat_map (λ bytes. bytes) c.args.from.now) (32 * c.args.segment) c.args.chosen.now.taking)
    (fill c.args.layout GateByte (even GateByte open_gate) (32 * c.args.segment) c.args.chosen.now.taking) c.fill-3.result
    (ran-is g.D.Disk.means _ _ _ _
    (ap (λ values. fill c.args.layout Data values (32 * c.args.segment) c.args.chosen.now.taking) c.as_flattened.ensures.value)
    c.in_ok-fill-2.ensures.ran)
    c.fill-3.ensures.ran)
