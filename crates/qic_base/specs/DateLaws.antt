-- The law of date words, as a fact (Linux ftape headers).
use Rattle.std.specs.Prelude.{ℕ}
use Rattle.qic_base.specs.Field.{IsDate, date_word}
use Rattle.qic_base.specs.DateTerms.{ShowsDate}

-- the word that is written for a date shows that date
abbrev pub WrittenDateIsReadBack : Type 0
WrittenDateIsReadBack =
    (year month day hour minute second : ℕ) → IsDate year month day hour minute second →
    ShowsDate (date_word year month day hour minute second) year month day hour minute second
