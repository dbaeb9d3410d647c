use Rattle.std.proofs.Common.{◌≡◌, ◌==◌, ◌<◌, ℕ, ap, ◌∙◌, bit_and, arith}
use Rattle.host_driver.proofs.Refusals.{status_taken}
use Rattle.host_driver.proofs.Reporting.{reported-small}
use Rattle.host_driver.proofs.Status.{status_word-stopped}
use Rattle.host_driver.specs.Reports.{reported_word}
use Rattle.host_driver.specs.declared.report.Report.TheVariants.{Status}
use Rattle.drive_spec.specs.Deck.{view_of}
use Rattle.drive_spec.specs.Effects.{ticked}
use Rattle.host_driver.proofs.waits.is_ready.Goals as goal

pub read_report-status-requires-clause-taken : goal.read_report-status-requires-clause-taken
read_report-status-requires-clause-taken g c = status_taken (view_of (ticked c.args.unit.now.drive.deck))

pub overflow_cast-status : goal.overflow_cast-status
overflow_cast-status g c =
    let word : c.read_report-status.result ≡ reported_word Status c.args.unit.now.drive = c.read_report-status.ensures.word in
    let small : reported_word Status c.args.unit.now.drive < 256 =
    reported-small Status c.args.unit.now.drive c.requires.sound.drive.deck c.requires.no_error in
    omega arith

pub returns-clause-ready : goal.returns-clause-ready
returns-clause-ready g c =
    c.contains.ensures tt ∙ ap (λ (n : ℕ). bit_and n 1 == 1) (c.from_bits_retain.ensures tt ∙ c.read_report-status.ensures.word)
    ∙ status_word-stopped (ticked c.args.unit.now.drive.deck)
