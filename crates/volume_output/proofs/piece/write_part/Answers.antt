use Rattle.std.proofs.Common.{ap}
use Rattle.volume_output.specs.Form.{is_lined}
use Rattle.volume_output.proofs.OnePiece.{broke_by, line_broke, line_then}
use Rattle.volume_output.proofs.piece.write_part.Goals as goal
use Rattle.volume_output.proofs.piece.write_part.Goals.{in-Lined+in_ok-write_line-in-Lined, in-Alone}

pub returns-in_err-write_line-in-Lined : goal.returns-in_err-write_line-in-Lined
returns-in_err-write_line-in-Lined g c = λ segment.
    broke_by c.from_residual.result c.from_residual.ensures.0
    (line_broke (is_lined c.args.form) segment c.args.count c.args.sectors.now
    (ap is_lined c.in-Lined.is) c.in_err-write_line-in-Lined.ensures)

pub returns : goal.returns
returns g c = λ segment.
    elim c.match-form.branch [
      | in-Lined+in_ok-write_line-in-Lined w ↦
          line_then (is_lined c.args.form) segment c.args.count c.args.sectors.now
          (ap is_lined w.in-Lined.is) g.K.Sink.means c.args.sink.now c.match-form.sink
          c.write_bytes.new.sink c.write_bytes.result g.met.K.Sink.took_both
          (rw w.sink-is w.in_ok-write_line-in-Lined.ensures) c.write_bytes.ensures.wrote
      | in-Alone w ↦ rw w.in-Alone.is (rw w.sink-is at c.write_bytes.ensures.wrote)
    ]
