-- The texts of dates.
use Rattle.std.proofs.Common.{◌≡◌, ℕ, ◌+◌, ◌/◌, ◌<◌, List, get_or, length, ◌%◌, arith, ◌≤◌, refl}
use Rattle.command_spec.specs.Command.{IsDateWord}
use Rattle.command_laws.specs.TextTerms.{digit}
use Rattle.command_spec.specs.Lines.{date_form}

-- two digits stand at a place
abbrev pub HasPair : List ℕ → ℕ → ℕ → Type 0
HasPair word at n = (n < 100) × (get_or word at 0 ≡ digit (n / 10)) × (get_or word (at + 1) 0 ≡ digit n)

abbrev pub IsParted : List ℕ → Type 0
IsParted word = (get_or word 4 0 ≡ 45) × (get_or word 7 0 ≡ 45) × (get_or word 10 0 ≡ 84) × (get_or word 13 0 ≡ 58)
    × (get_or word 16 0 ≡ 58)

-- the fields of a date, where they stand
pub record HasFields (word : List ℕ) (hundreds years month day hour minute second : ℕ) : Type 0 where
  pub long : length word ≡ 19
  pub parted : IsParted word
  pub hundreds_at : HasPair word 0 hundreds
  pub years_at : HasPair word 2 years
  pub month_at : HasPair word 5 month
  pub day_at : HasPair word 8 day
  pub hour_at : HasPair word 11 hour
  pub minute_at : HasPair word 14 minute
  pub second_at : HasPair word 17 second

-- the last two digits of a year are those of the year within its century
years_tens : (year : ℕ) → digit (year / 10) ≡ digit (year % 100 / 10)
years_tens year = omega arith

years_ones : (year : ℕ) → digit year ≡ digit (year % 100)
years_ones year = omega arith

form_fields : (year month day hour minute second : ℕ) → year ≤ 9999 → month < 100 → day < 100 → hour < 100 → minute < 100 → second < 100 →
    HasFields (date_form year month day hour minute second) (year / 100) (year % 100) month day hour minute second
unfolding date_form
form_fields year month day hour minute second y mo d h mi s = record {
  long = refl;
  parted = (refl, refl, refl, refl, refl);
  hundreds_at = (omega arith, refl, refl);
  years_at = (omega arith, years_tens year, years_ones year);
  month_at = (mo, refl, refl);
  day_at = (d, refl, refl);
  hour_at = (h, refl, refl);
  minute_at = (mi, refl, refl);
  second_at = (s, refl, refl);
}

pub fields_of : (word : List ℕ) (n : ℕ) (d : IsDateWord word n) →
    HasFields word (d.year / 100) (d.year % 100) d.month d.day d.hour d.minute d.second
fields_of word n d =
    let a = d.a_date in
    rw d.written (form_fields d.year d.month d.day d.hour d.minute d.second (omega arith) (omega arith) (omega arith) (omega arith)
    (omega arith) (omega arith))
