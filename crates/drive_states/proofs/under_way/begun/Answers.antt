use Rattle.std.proofs.Common.{◌≡◌, ℕ, ◌<◌, true, nat_lt, ap, ◌∙◌, arith}
use Rattle.std.proofs.lemmas.Bool.Decides.{nat_tests}
use Rattle.qic117_commands.specs.Report.{levels_of}
use Rattle.drive_spec.specs.declared.under_way.UnderWay.TheVariants.{Report}
use Rattle.drive_spec.specs.Reports.{report_width}
use Rattle.drive_states.proofs.under_way.begun.Goals as goal

pub load-requires-clause-fits : goal.load-requires-clause-fits
load-requires-clause-fits c = rw c.report_width-width.ensures c.report_word.ensures.fits

pub returns-then-width-gt0 : goal.returns-then-width-gt0
returns-then-width-gt0 c =
    let levels = c.load.ensures
    ∙ ap (λ (n : ℕ). levels_of n c.report_word.result) c.report_width-width.ensures
    ∙ ap (levels_of (report_width c.args.command)) c.report_word.ensures.word in
    let some : 0 < report_width c.args.command = rw c.report_width-width.ensures at c.if-width-gt0.true in
    let report : nat_lt 0 (report_width c.args.command) ≡ true = grind (arith, nat_tests) in
    rw report (ap Report levels)
