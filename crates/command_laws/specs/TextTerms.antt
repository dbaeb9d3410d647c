-- Bytes of printed texts (this project's own).
use Rattle.std.specs.Prelude.{ℕ, ◌+◌, ◌%◌, List, [], ◌∷◌, length, Bool, nat_le, ◌==◌, ◌&&◌, ◌||◌, if◌then◌else◌}

-- a digit of a number
abbrev pub digit : ℕ → ℕ
digit n = 48 + n % 10

-- what fills a name's end up
abbrev pub is_filler : ℕ → Bool
is_filler b = b == 0x20 || b == 0x00

-- a byte in front of bytes whose own filling is cut already
abbrev pub before_cut : ℕ → List ℕ → List ℕ
before_cut b bytes = if length bytes == 0 && is_filler b then [] else b ∷ bytes

-- a byte that a line can't show is printed as `?`
abbrev pub printable : ℕ → ℕ
printable b = if nat_le 0x20 b && nat_le b 0x7E then b else 63
