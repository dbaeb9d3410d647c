use Rattle.std.proofs.Common.{◌≡◌, ◌*◌, ◌++◌, ◌∙◌, List, ℕ, length, ap, subst}
use Rattle.qic_base.specs.SinkCalls.{Writes}
use Rattle.cartridge_spec.specs.Header.{Header}
use Rattle.cartridge_spec.specs.Shape.{marked_sectors}
use Rattle.header_segments.specs.Header.{header_of}
use Rattle.command_spec.specs.Lines.{label_lines, count_lines, info_text}
use Rattle.host_commands.proofs.Mounted.{info_refused, info_printed}
use Rattle.host_commands.proofs.info.info.Goals as goal

pub returns-in-Ok : goal.returns-in-Ok
returns-in-Ok g c =
    let lines : Header → ℕ → ℕ → List ℕ = λ h bad volumes. label_lines h ++ count_lines (28 * h.segments_per_track) bad volumes in
    let text : lines (header_of c.header.result.now) c.bad.result c.count.result ≡ info_text c.in-Ok.store.header c.in-Ok.store.words
    (length c.in-Ok.store.entries) =
    ap (λ h. lines h c.bad.result c.count.result) c.header.ensures ∙ ap (λ n. lines c.in-Ok.store.header n c.count.result) c.bad.ensures
    ∙ ap (lines c.in-Ok.store.header (marked_sectors c.in-Ok.store.words)) c.count.ensures.count in
    rw c.printed.ensures (info_printed g.T.Tape.means g.K.Sink.means c.args.unit.now.tape c.open.new.unit c.args.sink.now
    c.write_info.new.sink c.in-Ok.store c.write_info.result c.in-Ok.ensures
    (subst (λ t. Writes g.K.Sink.means c.args.sink.now c.write_info.new.sink t c.write_info.result) text c.write_info.ensures))

pub returns-in-Err : goal.returns-in-Err
returns-in-Err g c =
    info_refused g.T.Tape.means g.K.Sink.means c.args.unit.now.tape c.open.new.unit c.args.sink.now c.in-Err.status
    g.met.K.Sink.took_nothing c.in-Err.ensures
