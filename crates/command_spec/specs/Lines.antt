-- The lines that commands print, and how dates and names are printed (this project's own).
use Rattle.std.specs.Prelude.{ℕ, ◌+◌, ◌%◌, ◌/◌, ◌^◌, List, [], ◌∷◌, ◌++◌, codes, if◌then◌else◌, nat_lt, ◌==◌, ◌||◌, Bool, ◌&&◌, nat_le, map}
use Rattle.std.specs.Prelude.{decimal, length, true, false, ◌*◌}
use Rattle.cartridge_spec.specs.Header.{Header}
use Rattle.cartridge_spec.specs.Shape.{marked_sectors}
use Rattle.cartridge_spec.specs.Table.{Entry}
use Rattle.cartridge_spec.specs.Volumes.{volume_length}
use Rattle.qic_base.specs.Field.{low_part}

-- ---- dates

-- two digits, with leading zeros
abbrev pub two_digits : ℕ → List ℕ
two_digits n = (48 + n / 10 % 10) ∷ (48 + n % 10) ∷ []

-- `YYYY-MM-DDTHH:MM:SS`
unfoldable pub date_form : (year month day hour minute second : ℕ) → List ℕ
date_form year month day hour minute second =
    two_digits (year / 100) ++ two_digits year ++ codes "-" ++ two_digits month ++ codes "-" ++ two_digits day
    ++ codes "T" ++ two_digits hour ++ codes ":" ++ two_digits minute ++ codes ":" ++ two_digits second

-- the date of a date word, or `?` where the month would be above 12
unfoldable pub date_text : ℕ → List ℕ
date_text word =
    let low : ℕ = low_part word in
    let days : ℕ = low / 60 / 60 / 24 in
    if nat_lt 0x01EA6DFF low then codes "?"
    else date_form (1970 + word / 2 ^ 25) (days / 31 + 1) (days % 31 + 1) (low / 60 / 60 % 24) (low / 60 % 60) (low % 60)

-- ---- names

-- the bytes without the spaces and zero bytes that fill their end up
unfoldable pub trimmed : List ℕ → List ℕ
trimmed [] = []
trimmed (b ∷ bs) = if length (trimmed bs) == 0 && (b == 0x20 || b == 0x00) then [] else b ∷ trimmed bs

-- a byte that a line can't show is printed as `?`
unfoldable pub name_text : List ℕ → List ℕ
name_text bytes = map (λ b. if nat_le 0x20 b && nat_le b 0x7E then b else 63) (trimmed bytes)

-- a number behind a word
unfoldable pub number_line : List ℕ → ℕ → List ℕ
number_line word n = word ++ codes " " ++ decimal n ++ codes "\n"

-- two numbers behind a word
unfoldable pub place_line : List ℕ → (segment sector : ℕ) → List ℕ
place_line word segment sector = word ++ codes " " ++ decimal segment ++ codes " " ++ decimal sector ++ codes "\n"

abbrev pub lost_line : (segment sector : ℕ) → List ℕ
lost_line segment sector = place_line (codes "lost") segment sector

-- a volume that was appended: its number, its length in bytes, and its first and its last segment
unfoldable pub appended_line : (number bytes start end : ℕ) → List ℕ
appended_line number bytes start end =
    codes "appended " ++ decimal number ++ codes " " ++ decimal bytes ++ codes " " ++ decimal start ++ codes " " ++ decimal end
    ++ codes "\n"

-- the line of a new entry, behind so many volumes
abbrev pub reply_behind : (count : ℕ) → Entry → List ℕ
reply_behind count e = appended_line (count + 1) e.size e.start e.end

-- a volume's line: its number, first and last segment, length in bytes, date and name
unfoldable pub volume_line : (number : ℕ) → Entry → (bytes : ℕ) → List ℕ
volume_line number e bytes =
    decimal number ++ codes " " ++ decimal e.start ++ codes " " ++ decimal e.end ++ codes " " ++ decimal bytes ++ codes " "
    ++ date_text e.date ++ codes " " ++ name_text e.name ++ codes "\n"

-- the lines of volumes, from this number on, each with its length by the map
unfoldable pub volume_lines : (words : List ℕ) → (number : ℕ) → List Entry → List ℕ
volume_lines words number [] = []
volume_lines words number (e ∷ es) = volume_line number e (volume_length words e) ++ volume_lines words (number + 1) es

-- the last line: how many volumes there are
abbrev pub count_line : ℕ → List ℕ
count_line count = number_line (codes "volumes") count

-- what a list prints, by the words of the map and the volumes
unfoldable pub list_text : (words : List ℕ) → List Entry → List ℕ
list_text words entries = volume_lines words 1 entries ++ count_line (length entries)

-- ---- commands

abbrev pub blank_line : ℕ → List ℕ
blank_line segments = number_line (codes "blank") segments

abbrev pub defect_line : (segment sector : ℕ) → List ℕ
defect_line segment sector = place_line (codes "defect") segment sector

-- how many segments were formatted, and how many sectors are bad
abbrev pub formatted_line : (segments bad : ℕ) → List ℕ
formatted_line segments bad = place_line (codes "formatted") segments bad

abbrev pub protected_line : Bool → List ℕ
protected_line true = codes "protected on\n"
protected_line false = codes "protected off\n"

-- how many bytes an append may have
abbrev pub room_line : (bytes : ℕ) → List ℕ
room_line bytes = number_line (codes "room") bytes

-- the version of the layout before
abbrev pub upgraded_line : (version : ℕ) → List ℕ
upgraded_line version = number_line (codes "upgraded from") version

-- the first lines of `info`: the label, and when the cartridge was formatted
unfoldable pub label_lines : Header → List ℕ
label_lines header =
    codes "label " ++ name_text header.label ++ codes "\n" ++ codes "formatted " ++ date_text header.format_date ++ codes "\n"

-- its last lines: how many segments, bad sectors and volumes there are
unfoldable pub count_lines : (segments bad volumes : ℕ) → List ℕ
count_lines segments bad volumes =
    codes "segments " ++ decimal segments ++ codes "\n" ++ codes "bad sectors " ++ decimal bad ++ codes "\n"
    ++ codes "volumes " ++ decimal volumes ++ codes "\n"

-- what `info` prints, by the header, the words of the map and the number of volumes
abbrev pub info_text : Header → (words : List ℕ) → (volumes : ℕ) → List ℕ
info_text header words volumes = label_lines header ++ count_lines (28 * header.segments_per_track) (marked_sectors words) volumes
