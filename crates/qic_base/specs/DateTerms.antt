-- The parts of a date word, by names of their own, which no clause of `run` reaches (Linux ftape headers).
use Rattle.std.specs.Prelude.{◌≡◌, ℕ, ◌+◌, ◌/◌, ◌%◌, ◌^◌, ◌≤◌}
use Rattle.qic_base.specs.Field.{low_part}

-- the greatest low part that is a date: the last second of day 31 in month 12
abbrev pub greatest_low_part : ℕ
greatest_low_part = 0x01EA6DFF

abbrev pub year_of : ℕ → ℕ
year_of word = 1970 + word / 2 ^ 25

abbrev pub month_of : ℕ → ℕ
month_of word = low_part word / 60 / 60 / 24 / 31 + 1

abbrev pub day_of : ℕ → ℕ
day_of word = low_part word / 60 / 60 / 24 % 31 + 1

abbrev pub hour_of : ℕ → ℕ
hour_of word = low_part word / 60 / 60 % 24

abbrev pub minute_of : ℕ → ℕ
minute_of word = low_part word / 60 % 60

abbrev pub second_of : ℕ → ℕ
second_of word = low_part word % 60

-- the word shows this date
pub record ShowsDate (word year month day hour minute second : ℕ) : Type 0 where
  pub a_date : low_part word ≤ greatest_low_part
  pub same_year : year_of word ≡ year
  pub same_month : month_of word ≡ month
  pub same_day : day_of word ≡ day
  pub same_hour : hour_of word ≡ hour
  pub same_minute : minute_of word ≡ minute
  pub same_second : second_of word ≡ second
