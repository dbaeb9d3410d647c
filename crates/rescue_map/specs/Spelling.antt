-- What a word of a map is. The marks are those of GNU ddrescue's mapfile; numbers are integer constants of C without a
-- suffix.
use Rattle.std.specs.Prelude.{ℕ, ◌+◌, ◌-◌, ◌*◌, ◌^◌, ◌==◌, Bool, true, false, List, [], ◌∷◌, Option, Some, None, length, drop, slice_index}
use Rattle.std.specs.Prelude.{if◌then◌else◌, ◌&&◌, ◌||◌, nat_lt, nat_le}
use Rattle.rescue_map.specs.declared.spelling.Word.{Word}
use Rattle.rescue_map.specs.declared.spelling.Word.TheVariants.{Number, Mark, Other}

-- ---- numbers

-- what a byte counts as a digit, in either case; 16 where it is no digit of any base
abbrev pub digit_value : ℕ → ℕ
digit_value b =
    if nat_le 48 b && nat_le b 57 then b - 48
    else if nat_le 65 b && nat_le b 70 then b - 55
    else if nat_le 97 b && nat_le b 102 then b - 87
    else 16

-- the number that these digits of a base make behind one that was read; none where one of them is no digit
abbrev pub digits_from : (base so_far : ℕ) → List ℕ → Option ℕ
digits_from base so_far [] = Some so_far
digits_from base so_far (b ∷ bs) =
    if nat_lt (digit_value b) base then digits_from base (so_far * base + digit_value b) bs else None

-- numbers are below 2^63
abbrev pub limited : (decimal : Bool) → Option ℕ → Word
limited decimal None = Other
limited decimal (Some n) = if nat_lt n (2 ^ 63) then Number n decimal else Other

-- at least one digit of the base, and nothing else
abbrev pub digits_word : (decimal : Bool) (base : ℕ) → List ℕ → Word
digits_word decimal base word =
    if length word == 0 then Other else limited decimal (digits_from base 0 word)

-- C's integer constants: hexadecimal behind `0x` or `0X`, octal behind `0`, and decimal, which begins with no 0
abbrev pub number_word : List ℕ → Word
number_word word =
    if slice_index word 0 == 48
    then (if slice_index word 1 == 120 || slice_index word 1 == 88 then digits_word false 16 (drop 2 word) else digits_word false 8 word)
    else digits_word true 10 word

-- ---- words

-- ddrescue's marks: `?`, `*`, `/`, `-`, `F`, `G` and `+`
abbrev pub is_mark : ℕ → Bool
is_mark b = b == 63 || b == 42 || b == 47 || b == 45 || b == 70 || b == 71 || b == 43

-- a mark, a number or neither; a word of more than 31 bytes is neither (this project's limit)
abbrev pub word_is : List ℕ → Word
word_is word =
    if nat_lt 31 (length word) then Other
    else if length word == 1 && is_mark (slice_index word 0) then Mark (slice_index word 0)
    else number_word word
