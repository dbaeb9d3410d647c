use Rattle.std.proofs.Common.{◌≡◌, ◌↔◌, ◌∙◌, true, false, Err, sym, ap, subst}
use Rattle.std.specs.Option.{option_map_or}
use Rattle.drive_spec.specs.Deck.{segments_per_track}
use Rattle.drive_spec.specs.Terms.{is_protected}
use Rattle.formatter.specs.Formats.{Formats, HasFormatted}
use Rattle.formatter.specs.declared.fault.FormatFault.TheVariants as fault
use Rattle.host_commands.proofs.Formats.{not_true, format_unstarted, format_faulted, format_printed}
use Rattle.volume_store.proofs.Started.{there_of, present}
use Rattle.host_commands.proofs.format.format_cartridge.Goals as goal

pub returns-in-Err : goal.returns-in-Err
returns-in-Err g c =
    format_unstarted g.T.Tape.means g.K.Sink.means c.args.label.now c.args.date c.args.unit.now.tape c.start.new.unit.tape c.args.sink.now
    c.in-Err.status g.met.K.Sink.took_nothing c.in-Err.ensures

pub returns-in-Ok-format : goal.returns-in-Ok-format
returns-in-Ok-format g c =
    let there = there_of c.in-Ok.ensures in
    let long : segments_per_track c.start.new.unit.drive.deck ≡ there.info.segments_per_track =
    ap (λ i. option_map_or (λ c. c.segments_per_track) i 0) there.is in
    let mark : is_protected c.start.new.unit.drive.deck ≡ there.info.protected =
    ap (λ i. option_map_or (λ c. c.protected) i false) there.is in
    let unlocked : there.info.protected ≡ false = not_true there.info.protected
    (λ same. let is = c.in-Ok-format.ensures.protected.1 (mark ∙ same) in cc) in
    rw c.printed.ensures (format_printed g.T.Tape.means g.K.Sink.means c.args.label.now c.args.date c.args.unit.now.tape
    c.start.new.unit.tape c.format.new.unit.tape c.args.sink.now c.write_text.new.sink
    there.info c.format.new.map c.in-Ok-format.report c.write_text.result (present c.in-Ok.ensures) unlocked
    (subst (λ n. HasFormatted g.T.Tape.means n c.args.label.now c.args.date c.start.new.unit.tape c.format.new.unit.tape c.format.new.map
    c.in-Ok-format.report) long c.in-Ok-format.ensures.did)
    (rw (c.bytes.ensures, c.place_text-line.ensures, c.from.ensures, c.from-in-Ok-format.ensures) at c.write_text.ensures))

pub returns-in-Err-format : goal.returns-in-Err-format
returns-in-Err-format g c =
    let there = there_of c.in-Ok.ensures in
    let long : segments_per_track c.start.new.unit.drive.deck ≡ there.info.segments_per_track =
    ap (λ i. option_map_or (λ c. c.segments_per_track) i 0) there.is in
    let mark : is_protected c.start.new.unit.drive.deck ≡ there.info.protected =
    ap (λ i. option_map_or (λ c. c.protected) i false) there.is in
    let marked : (c.in-Err-format.fault ≡ fault.Protected) ↔ (there.info.protected ≡ true) = (
      (λ is. sym mark ∙ c.in-Err-format.ensures.protected.0 (ap Err is)),
      (λ same. let is = c.in-Err-format.ensures.protected.1 (mark ∙ same) in cc),
    ) in
    rw c.status_of_format.ensures (format_faulted g.T.Tape.means g.K.Sink.means c.args.label.now c.args.date c.args.unit.now.tape
    c.start.new.unit.tape c.format.new.unit.tape c.args.sink.now
    there.info c.format.new.map c.in-Err-format.fault g.met.K.Sink.took_nothing (present c.in-Ok.ensures) marked
    (subst (λ n. Formats g.T.Tape.means n c.args.label.now c.args.date c.start.new.unit.tape c.format.new.unit.tape c.format.new.map
    (Err c.in-Err-format.fault)) long c.in-Err-format.ensures.did))
