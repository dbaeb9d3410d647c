-- Fields of the medium: little-endian numbers, names, date words (this project's profile).
use Rattle.std.specs.Prelude.{ℕ, zero, suc, ◌+◌, ◌*◌, ◌/◌, ◌%◌, List, [], ◌∷◌, ◌++◌, length, take, drop, slice_range, ◌≢◌, ◌-◌, ◌≤◌}
use Rattle.std.specs.Prelude.{replicate, All, slice_get, Some, ◌^◌}

-- the number that the bytes spell, the low byte first
abbrev pub little_endian : List ℕ → ℕ
little_endian [] = 0
little_endian (byte ∷ bytes) = byte + 256 * little_endian bytes

-- the number in the field of this many bytes that begins at a place
unfoldable pub number_at : List ℕ → ℕ → ℕ → ℕ
number_at bytes at width = little_endian (slice_range bytes at (at + width))

-- a number's low bytes, as many as the width says, the lowest first
unfoldable pub little_endian_bytes : ℕ → ℕ → List ℕ
little_endian_bytes zero value = []
little_endian_bytes (suc width) value = value % 256 ∷ little_endian_bytes width (value / 256)

-- the bytes with a part written over what stood from a place on; all other bytes are as they were
unfoldable pub overwritten : List ℕ → ℕ → List ℕ → List ℕ
overwritten bytes at part = take at bytes ++ part ++ drop (at + length part) bytes

-- ---- a name, and the 44 bytes that it fills (the filling by the Linux ftape headers)

-- 1 to 44 bytes that a line can show, a space to a tilde, with no space at either end
pub record IsNameText (text : List ℕ) : Type 0 where
  pub some : 1 ≤ length text
  pub fits : length text ≤ 44
  pub printable : All (λ b. (0x20 ≤ b) × (b ≤ 0x7E)) text
  pub begins : slice_get text 0 ≢ Some 0x20
  pub ends : slice_get text (length text - 1) ≢ Some 0x20

-- the text, filled up with spaces to 44 bytes
unfoldable pub filled : List ℕ → List ℕ
filled text = text ++ replicate (44 - length text) 0x20

-- ---- the date word: its high 7 bits are the year less 1970, its low 25 bits are
-- second + 60 * (minute + 60 * (hour + 24 * (day + 31 * month))), day and month counted from 0 (Linux ftape headers).

-- what a word holds below the year
abbrev pub low_part : ℕ → ℕ
low_part word = word % 2 ^ 25

-- the ranges of a date; how long a month is isn't looked at (this project's profile)
pub record IsDate (year month day hour minute second : ℕ) : Type 0 where
  pub first_year : 1970 ≤ year
  pub last_year : year ≤ 2097
  pub first_month : 1 ≤ month
  pub last_month : month ≤ 12
  pub first_day : 1 ≤ day
  pub last_day : day ≤ 31
  pub last_hour : hour ≤ 23
  pub last_minute : minute ≤ 59
  pub last_second : second ≤ 59

abbrev pub date_word : (year month day hour minute second : ℕ) → ℕ
date_word year month day hour minute second =
    (year - 1970) * 2 ^ 25 + (second + 60 * (minute + 60 * (hour + 24 * (day - 1 + 31 * (month - 1)))))
