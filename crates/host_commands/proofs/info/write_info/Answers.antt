use Rattle.std.proofs.Common.{ℕ, List, ◌*◌, ◌++◌, refl}
use Rattle.std.proofs.lemmas.Result.{err_from_is_err_and}
use Rattle.qic_base.proofs.Writing.{BrokeOff-longer}
use Rattle.qic_base.specs.Sink.{Wrote}
use Rattle.qic_base.specs.SinkCalls.{BrokeOff, Writes}
use Rattle.header_segments.specs.Header.{header_of}
use Rattle.command_spec.specs.Lines.{label_lines, count_lines}
use Rattle.command_laws.proofs.LineListings.{Writes-after}
use Rattle.host_commands.proofs.info.write_info.Goals as goal

pub returns-in_err-write_text : goal.returns-in_err-write_text
returns-in_err-write_text g c =
    let first : List ℕ = label_lines (header_of c.args.header.now) in
    let next : List ℕ = count_lines (28 * c.args.header.now.segments_per_track) c.args.bad c.args.volumes in
    let broke : BrokeOff g.K.Sink.means c.args.sink.now c.write_text.new.sink first =
    rw (c.bytes.ensures, c.label_text.ensures) at c.in_err-write_text.ensures in
    let p = err_from_is_err_and c.from_residual.result c.from_residual.ensures.1 in
    rw p.1 (BrokeOff-longer next (first ++ next) refl broke)

pub returns : goal.returns
returns g c =
    let first : Wrote g.K.Sink.means c.args.sink.now c.write_text.new.sink (label_lines (header_of c.args.header.now)) =
    rw (c.bytes.ensures, c.label_text.ensures) at c.in_ok-write_text.ensures in
    let next : Writes g.K.Sink.means c.write_text.new.sink c.write_text-2.new.sink
    (count_lines (28 * c.args.header.now.segments_per_track) c.args.bad c.args.volumes) c.write_text-2.result =
    rw (c.bytes-2.ensures, c.count_text.ensures, c.from-segments.ensures) at c.write_text-2.ensures in
    Writes-after c.write_text-2.new.sink (count_lines (28 * c.args.header.now.segments_per_track) c.args.bad c.args.volumes)
    c.write_text-2.result g.met.K.Sink.took_both first next
