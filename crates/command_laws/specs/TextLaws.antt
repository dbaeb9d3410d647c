-- Dates and names are printed as they were read, as facts (this project's own).
use Rattle.std.specs.Prelude.{◌≡◌, ℕ, List}
use Rattle.command_spec.specs.Command.{IsDateWord}
use Rattle.command_spec.specs.Lines.{date_text, name_text}
use Rattle.qic_base.specs.Field.{IsNameText, filled}

abbrev pub DateIsPrintedAsRead : Type 0
DateIsPrintedAsRead = (word : List ℕ) (date : ℕ) → IsDateWord word date → date_text date ≡ word

abbrev pub NameIsPrintedAsRead : Type 0
NameIsPrintedAsRead = (word : List ℕ) → IsNameText word → name_text (filled word) ≡ word
