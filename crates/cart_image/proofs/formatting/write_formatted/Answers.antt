use Rattle.std.proofs.Common.{◌*◌, ◌++◌}
use Rattle.std.proofs.lemmas.Result.{err_from_is_err_and}
use Rattle.cart_image.specs.declared.layout.Part.TheVariants.{GateByte, FormedByte, Data}
use Rattle.cart_image.specs.Layout.{open_gate, closed_gate, formed_byte, fill, even, format_segment_steps}
use Rattle.cart_image.proofs.Exits.{Runs-err, Runs-after}
use Rattle.cart_image.proofs.Runs.{Ran-Halted, Halted-front}
use Rattle.cart_image.proofs.formatting.write_formatted.Goals as goal

pub returns-in_err-fill-clause-ran : goal.returns-in_err-fill-clause-ran
unfolding format_segment_steps even
returns-in_err-fill-clause-ran g c =
    let p = err_from_is_err_and c.from_residual.result c.from_residual.ensures.1 in
    Runs-err g.D.Disk.means _ _ _ c.from_residual.result p.0 p.1
    (Halted-front g.D.Disk.means _ _ (fill c.args.layout GateByte (even GateByte closed_gate) (32 * c.args.segment)
    c.args.chosen.now.readable)
    ((fill c.args.layout Data (even Data 0) (32 * c.args.segment) c.args.chosen.now.usable) ++
    ((fill c.args.layout FormedByte (even FormedByte formed_byte) (32 * c.args.segment) c.args.chosen.now.unformed) ++
    (fill c.args.layout GateByte (even GateByte open_gate) (32 * c.args.segment) c.args.chosen.now.usable))) c.in_err-fill.ensures.ran)

pub returns-in_err-fill-2-clause-ran : goal.returns-in_err-fill-2-clause-ran
unfolding format_segment_steps even
returns-in_err-fill-2-clause-ran g c =
    let p = err_from_is_err_and c.from_residual-in_err-fill-2.result c.from_residual-in_err-fill-2.ensures.1 in
    Runs-err g.D.Disk.means _ _ _ c.from_residual-in_err-fill-2.result p.0 p.1
    (Ran-Halted g.D.Disk.means _ _ _ (fill c.args.layout GateByte (even GateByte closed_gate) (32 * c.args.segment)
    c.args.chosen.now.readable)
    ((fill c.args.layout Data (even Data 0) (32 * c.args.segment) c.args.chosen.now.usable) ++
    ((fill c.args.layout FormedByte (even FormedByte formed_byte) (32 * c.args.segment) c.args.chosen.now.unformed) ++
    (fill c.args.layout GateByte (even GateByte open_gate) (32 * c.args.segment) c.args.chosen.now.usable))) c.in_ok-fill.ensures.ran
    (Halted-front g.D.Disk.means _ _ (fill c.args.layout Data (even Data 0) (32 * c.args.segment) c.args.chosen.now.usable)
    ((fill c.args.layout FormedByte (even FormedByte formed_byte) (32 * c.args.segment) c.args.chosen.now.unformed) ++
    (fill c.args.layout GateByte (even GateByte open_gate) (32 * c.args.segment) c.args.chosen.now.usable)) c.in_err-fill-2.ensures.ran))

pub returns-in_err-fill-3-clause-ran : goal.returns-in_err-fill-3-clause-ran
unfolding format_segment_steps even
returns-in_err-fill-3-clause-ran g c =
    let p = err_from_is_err_and c.from_residual-in_err-fill-3.result c.from_residual-in_err-fill-3.ensures.1 in
    Runs-err g.D.Disk.means _ _ _ c.from_residual-in_err-fill-3.result p.0 p.1
    (Ran-Halted g.D.Disk.means _ _ _ (fill c.args.layout GateByte (even GateByte closed_gate) (32 * c.args.segment)
    c.args.chosen.now.readable)
    ((fill c.args.layout Data (even Data 0) (32 * c.args.segment) c.args.chosen.now.usable) ++
    ((fill c.args.layout FormedByte (even FormedByte formed_byte) (32 * c.args.segment) c.args.chosen.now.unformed) ++
    (fill c.args.layout GateByte (even GateByte open_gate) (32 * c.args.segment) c.args.chosen.now.usable))) c.in_ok-fill.ensures.ran
    (Ran-Halted g.D.Disk.means _ _ _ (fill c.args.layout Data (even Data 0) (32 * c.args.segment) c.args.chosen.now.usable)
    ((fill c.args.layout FormedByte (even FormedByte formed_byte) (32 * c.args.segment) c.args.chosen.now.unformed) ++
    (fill c.args.layout GateByte (even GateByte open_gate) (32 * c.args.segment) c.args.chosen.now.usable)) c.in_ok-fill-2.ensures.ran
    (Halted-front g.D.Disk.means _ _ (fill c.args.layout FormedByte (even FormedByte formed_byte) (32 * c.args.segment)
    c.args.chosen.now.unformed)
    (fill c.args.layout GateByte (even GateByte open_gate) (32 * c.args.segment) c.args.chosen.now.usable) c.in_err-fill-3.ensures.ran)))

pub returns-clause-ran : goal.returns-clause-ran
unfolding format_segment_steps even
returns-clause-ran g c =
    Runs-after g.D.Disk.means _ _ _ (fill c.args.layout GateByte (even GateByte closed_gate) (32 * c.args.segment)
    c.args.chosen.now.readable)
    ((fill c.args.layout Data (even Data 0) (32 * c.args.segment) c.args.chosen.now.usable) ++
    ((fill c.args.layout FormedByte (even FormedByte formed_byte) (32 * c.args.segment) c.args.chosen.now.unformed) ++
    (fill c.args.layout GateByte (even GateByte open_gate) (32 * c.args.segment) c.args.chosen.now.usable))) c.fill-4.result
    c.in_ok-fill.ensures.ran
    (Runs-after g.D.Disk.means _ _ _ (fill c.args.layout Data (even Data 0) (32 * c.args.segment) c.args.chosen.now.usable)
    ((fill c.args.layout FormedByte (even FormedByte formed_byte) (32 * c.args.segment) c.args.chosen.now.unformed) ++
    (fill c.args.layout GateByte (even GateByte open_gate) (32 * c.args.segment) c.args.chosen.now.usable)) c.fill-4.result
    c.in_ok-fill-2.ensures.ran
    (Runs-after g.D.Disk.means _ _ _ (fill c.args.layout FormedByte (even FormedByte formed_byte) (32 * c.args.segment)
    c.args.chosen.now.unformed)
    (fill c.args.layout GateByte (even GateByte open_gate) (32 * c.args.segment) c.args.chosen.now.usable) c.fill-4.result
    c.in_ok-fill-3.ensures.ran
    c.fill-4.ensures.ran))
