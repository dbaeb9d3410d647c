use Rattle.std.proofs.Common.{◌≡◌, ℕ, List, Option, Some, None}
use Rattle.std.specs.Prelude.{IfNone, IfSome}
use Rattle.command_spec.specs.Command.{IsDateWord}
use Rattle.word_hints.specs.Forms.{ADate, Faults}
use Rattle.word_hints.specs.declared.fault.WordFault.{WordFault}
use Rattle.word_hints.specs.declared.fault.WordFault.TheVariants.{NoDate}
use Rattle.word_hints.proofs.forms.Part.fault.Goals as goal

dated : (word : List ℕ) (found : Option WordFault) → IfNone found ((date : ℕ) × IsDateWord word date) →
    IfSome found (λ fault. (date : ℕ) → ¬ (IsDateWord word date)) → IfSome found (λ fault. fault ≡ NoDate) → Faults ADate word found
dated word None fits fails why = fits
dated word (Some fault) fits fails why = (λ date. fails date.0 date.1, why)

pub returns-in-Date : goal.returns-in-Date
returns-in-Date c =
    let found = c.date_fault.ensures in
    rw c.in-Date.is (dated c.args.word.now c.date_fault.result found.fits found.fails found.why)
