use Rattle.std.proofs.Common.{◌≡◌, ℕ, ◌<◌, [], true, Option, IsOk, is_ok, is_some, sym, ap, subst, ◌∙◌, arith}
use Rattle.std.proofs.lemmas.Bool.{false≢true}
use Rattle.qic_base.specs.Cartridge.{IsLength}
use Rattle.qic_base.specs.Tape.{Done}
use Rattle.qic_base.specs.declared.tape.TapeInfo.{TapeInfo}
use Rattle.drive_spec.specs.Deck.{view_of, seen_motion}
use Rattle.drive_spec.specs.Effects.{ticked, ticked_motion}
use Rattle.drive_spec.specs.Record.{Record, power_on}
use Rattle.drive_states.specs.Typed.{is_seeking}
use Rattle.drive_states.specs.Unit.{UnitView}
use Rattle.host_driver.specs.declared.host.Host.{Host}
use Rattle.host_driver.specs.Fits.{Fits}
use Rattle.host_driver.specs.Reports.{reported_word}
use Rattle.host_driver.specs.declared.report.Report.TheVariants.{Status}
use Rattle.host_driver.proofs.Refusals.{status_taken, error_taken, segments_report_taken}
use Rattle.host_driver.proofs.Reporting.{status-small}
use Rattle.host_driver.proofs.Starting.{read_segments, status_read, protected_told, referenced_told, error_read, length_read, no_cartridge}
use Rattle.host_driver.proofs.Starting.{length_of_there, fits_started}
use Rattle.host_driver.proofs.host.Host.start.Goals as goal

pub read_report-word-requires-clause-taken : goal.read_report-word-requires-clause-taken
read_report-word-requires-clause-taken g c = status_taken (view_of (ticked c.insert.new.self.drive.deck))

pub overflow_cast-word : goal.overflow_cast-word
overflow_cast-word g c =
    let word : c.read_report-word.result ≡ reported_word Status c.insert.new.self.drive = c.read_report-word.ensures.word in
    let small : reported_word Status c.insert.new.self.drive < 256 = status-small (ticked c.insert.new.self.drive.deck) in
    omega arith

pub returns-then-not-contains-clause-did : goal.returns-then-not-contains-clause-did
returns-then-not-contains-clause-did g c =
    let status = status_read c.insert.new.self c.read_report-word.new.unit c.read_report-word.result c.from_bits_retain-status.result.0
    c.contains.result
    c.in_ok-insert.ensures.inserted.drive c.read_report-word.ensures.drive c.read_report-word.ensures.word
    (c.from_bits_retain-status.ensures tt) (c.contains.ensures tt) in
    let none = no_cartridge c.insert.new.self.drive.deck.cartridge (status.there ∙ c.if-not-contains.true) in (
      status.row ∙ ap (λ (o : Option TapeInfo). record (power_on o) { line = true }) none,
      subst (λ (t : _). Done g.T.Tape.means c.args.unit.now.tape t [])
          (sym (ap (λ (u : UnitView _). u.tape) c.read_report-word.ensures.drive)) c.in_ok-insert.ensures.did,
    )

pub returns-then-not-contains-clause-absent : goal.returns-then-not-contains-clause-absent
returns-then-not-contains-clause-absent g c answer =
    let status = status_read c.insert.new.self c.read_report-word.new.unit c.read_report-word.result c.from_bits_retain-status.result.0
    c.contains.result
    c.in_ok-insert.ensures.inserted.drive c.read_report-word.ensures.drive c.read_report-word.ensures.word
    (c.from_bits_retain-status.ensures tt) (c.contains.ensures tt) in
    ap (λ (r : Record). r.deck.cartridge) status.row ∙ no_cartridge c.insert.new.self.drive.deck.cartridge
    (status.there ∙ c.if-not-contains.true)

pub read_report-requires-clause-taken : goal.read_report-requires-clause-taken
read_report-requires-clause-taken g c = error_taken (view_of (ticked c.read_report-word.new.unit.drive.deck))

pub read_report-segments_per_track-requires-clause-taken : goal.read_report-segments_per_track-requires-clause-taken
read_report-segments_per_track-requires-clause-taken g c =
    let status = status_read c.insert.new.self c.read_report-word.new.unit c.read_report-word.result c.from_bits_retain-status.result.0
    c.contains.result
    c.in_ok-insert.ensures.inserted.drive c.read_report-word.ensures.drive c.read_report-word.ensures.word
    (c.from_bits_retain-status.ensures tt) (c.contains.ensures tt) in
    let row = error_read c.read_report-word.new.unit c.read_report.new.unit c.insert.new.self.drive.deck.cartridge status.row
    c.read_report.ensures.drive in
    segments_report_taken (view_of (ticked c.read_report.new.unit.drive.deck))
    (ap (λ (r : Record). is_some r.deck.cartridge) row ∙ status.there ∙ c.if-not-contains.false)
    (ap (λ (r : Record). seen_motion (ticked_motion r.deck.motion)) row)

-- the drive reports the length of a cartridge
pub unreachable-requires : goal.unreachable-requires
unreachable-requires g c =
    let status = status_read c.insert.new.self c.read_report-word.new.unit c.read_report-word.result c.from_bits_retain-status.result.0
    c.contains.result
    c.in_ok-insert.ensures.inserted.drive c.read_report-word.ensures.drive c.read_report-word.ensures.word
    (c.from_bits_retain-status.ensures tt) (c.contains.ensures tt) in
    let row = error_read c.read_report-word.new.unit c.read_report.new.unit c.insert.new.self.drive.deck.cartridge status.row
    c.read_report.ensures.drive in
    let long = length_read c.read_report.new.unit.drive c.insert.new.self.drive.deck.cartridge c.read_report-segments_per_track.result row
    c.read_report-segments_per_track.ensures.word in
    let length : IsLength c.read_report-segments_per_track.result =
    subst (λ (n : ℕ). IsLength n) (sym long)
    (length_of_there c.insert.new.self.drive.deck.cartridge c.in_ok-insert.ensures.inserted.known.long
    (status.there ∙ c.if-not-contains.false)) in
    let ok : IsOk c.new.result = c.new.ensures.ok.1 length in
    false≢true (sym (ap is_ok c.in_default.is) ∙ ok)

pub returns-clause-ready : goal.returns-clause-ready
returns-clause-ready g c =
    let o : Option TapeInfo = c.insert.new.self.drive.deck.cartridge in
    let bits : ℕ = c.from_bits_retain-status.result.0 in
    let status = status_read c.insert.new.self c.read_report-word.new.unit c.read_report-word.result bits c.contains.result
    c.in_ok-insert.ensures.inserted.drive c.read_report-word.ensures.drive c.read_report-word.ensures.word
    (c.from_bits_retain-status.ensures tt) (c.contains.ensures tt) in
    let row = error_read c.read_report-word.new.unit c.read_report.new.unit o status.row c.read_report.ensures.drive in
    let long = length_read c.read_report.new.unit.drive o c.read_report-segments_per_track.result row
    c.read_report-segments_per_track.ensures.word in
    let last = ap (λ (u : UnitView _). u.drive) c.read_report-segments_per_track.ensures.drive
    ∙ read_segments c.read_report.new.unit.drive o row in
    record {
      fits = subst (λ (h : Host). Fits g.T.Tape.means h c.read_report-segments_per_track.new.unit) (sym c.learnt.ensures)
          (fits_started {m = g.T.Tape.means} {u = c.read_report-segments_per_track.new.unit} o c.in-Ok.geometry c.contains-protected.result
          c.contains-referenced.result
          last (status.there ∙ c.if-not-contains.false) (c.in-Ok.ensures.value ∙ long)
          (protected_told o bits c.contains-protected.result status.word (c.contains-protected.ensures tt))
          (referenced_told o bits c.contains-referenced.result status.word (c.contains-referenced.ensures tt))
          c.read_report-segments_per_track.ensures.sound);
      rest = record { still = ap (λ (r : Record). is_seeking r.deck.motion) last; idle = ap (λ (r : Record). r.under_way) last };
    }
