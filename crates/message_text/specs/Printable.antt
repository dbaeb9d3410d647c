-- How the characters of others are printed: as they are, or escaped (Unicode 15.0; the escapes are this project's own).
use Rattle.std.specs.Prelude.{ℕ, ◌+◌, ◌-◌, ◌/◌, ◌%◌, Bool, false, ◌&&◌, ◌||◌, nat_le, nat_lt, ◌==◌, List, [], ◌∷◌, ◌++◌, length, codes}
use Rattle.std.specs.Prelude.{encode_utf8, if◌then◌else◌}

-- ---- which are escaped

-- The control characters (Cc); the separators of lines and paragraphs (Zl, Zp); those of the property Default_Ignorable_Code_Point,
-- which has those of no width and those that turn the direction; the marks of annotations; and the backslash.
abbrev pub escaped_ranges : List (ℕ × ℕ)
escaped_ranges =
    (0x00, 0x1F) ∷ (0x5C, 0x5C) ∷ (0x7F, 0x9F) ∷ (0xAD, 0xAD) ∷ (0x034F, 0x034F) ∷ (0x061C, 0x061C) ∷ (0x115F, 0x1160) ∷
    (0x17B4, 0x17B5) ∷ (0x180B, 0x180F) ∷ (0x200B, 0x200F) ∷ (0x2028, 0x202E) ∷ (0x2060, 0x206F) ∷ (0x3164, 0x3164) ∷
    (0xFE00, 0xFE0F) ∷ (0xFEFF, 0xFEFF) ∷ (0xFFA0, 0xFFA0) ∷ (0xFFF0, 0xFFFB) ∷ (0x1BCA0, 0x1BCA3) ∷ (0x1D173, 0x1D17A) ∷
    (0xE0000, 0xE0FFF) ∷ []

abbrev pub is_in : List (ℕ × ℕ) → (c : ℕ) → Bool
is_in [] c = false
is_in (range ∷ ranges) c = (nat_le range.0 c && nat_le c range.1) || is_in ranges c

abbrev pub is_escaped : (c : ℕ) → Bool
is_escaped c = is_in escaped_ranges c

-- ---- how one is printed

-- a digit from 0 to 15
abbrev pub hex : ℕ → ℕ
hex n = if nat_lt n 10 then 48 + n else 55 + n

-- the digits of a number: two, four, or six
abbrev pub two_digits : ℕ → List ℕ
two_digits c = hex (c / 16 % 16) ∷ hex (c % 16) ∷ []

abbrev pub four_digits : ℕ → List ℕ
four_digits c = hex (c / 4096 % 16) ∷ hex (c / 256 % 16) ∷ two_digits c

-- as in \x1B, \u{202E} and \u{0E0001}
abbrev pub escape : (c : ℕ) → List ℕ
escape c =
    if nat_lt c 0x80 then 92 ∷ 120 ∷ two_digits c
    else if nat_lt c 0x10000 then 92 ∷ 117 ∷ 123 ∷ (four_digits c ++ (125 ∷ []))
    else 92 ∷ 117 ∷ 123 ∷ hex (c / 1048576 % 16) ∷ hex (c / 65536 % 16) ∷ (four_digits c ++ (125 ∷ []))

abbrev pub shown : (c : ℕ) → List ℕ
shown c = if is_escaped c then escape c else encode_utf8 c

-- ---- how a text is printed

-- the end of a line stays, if lines are to stay
abbrev pub shown_in : (lines : Bool) (c : ℕ) → List ℕ
shown_in lines c = if lines && (c == 10) then c ∷ [] else shown c

-- Characters as they are printed, as long as there is room for the longest one; three points stand for the others.
abbrev pub printed_in : (lines : Bool) (room : ℕ) (cs : List ℕ) → List ℕ
printed_in lines room [] = []
printed_in lines room (c ∷ cs) =
    if nat_le 10 room then shown_in lines c ++ printed_in lines (room - length (shown_in lines c)) cs else codes "..."

abbrev pub printed : (room : ℕ) (cs : List ℕ) → List ℕ
printed room cs = printed_in false room cs
