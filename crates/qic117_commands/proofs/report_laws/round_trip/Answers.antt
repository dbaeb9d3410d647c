use Rattle.std.proofs.Common.{◌≡◌, true, ◌∷◌, ap, sym, ◌∙◌}
use Rattle.qic117_commands.specs.Report.{levels_of, word_of}
use Rattle.qic117_commands.proofs.ReportFacts.{word_of-levels_of, levels_of-word_of}
use Rattle.qic117_commands.proofs.report_laws.round_trip.Goals as goal

pub returns : goal.returns
returns c width word levels small = (
  λ shown. let same : levels ≡ levels_of width word = cc in ap (word_of width) same ∙ word_of-levels_of width word small,
  λ collected. ap (λ ls. true ∷ ls) (sym (levels_of-word_of width word levels collected)),
)
