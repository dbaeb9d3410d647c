-- The lists of segments that a dump lacks and of bad sectors: text lines of decimal numbers (this project's profile).
use Rattle.std.specs.Prelude.{ℕ, ◌+◌, ◌==◌, ◌&&◌, nat_le, nat_lt, Bool, List, [], ◌∷◌, ◌++◌, length, slice_index, if◌then◌else◌, Option}
use Rattle.std.specs.Prelude.{Some, None, option_and_then}
use Rattle.std.specs.List.{list_any}
use Rattle.rescue_map.specs.Lines.{Line, lines_of, content_of, is_blank, begun_word}
use Rattle.rescue_map.specs.Map.{most_lines}
use Rattle.rescue_map.specs.Spelling.{digits_from}

-- ---- lines

-- the words of a line, behind these bytes of a word that has begun: spaces and tabs part them
abbrev pub words_from : List ℕ → List ℕ → List (List ℕ)
words_from begun [] = begun_word begun
words_from begun (b ∷ bs) = if is_blank b then begun_word begun ++ words_from [] bs else words_from (begun ++ b ∷ []) bs

-- decimal digits, at most nine
abbrev pub number_of : List ℕ → Option ℕ
number_of word = if nat_le (length word) 9 then digits_from 10 0 word else None

-- a number in front of others
abbrev pub in_front : Option ℕ → Option (List ℕ) → Option (List ℕ)
in_front (Some n) (Some ns) = Some (n ∷ ns)
in_front _ _ = None

-- the numbers that words are; none where one of them is no number
abbrev pub numbers_of : List (List ℕ) → Option (List ℕ)
numbers_of [] = Some []
numbers_of (word ∷ words) = in_front (number_of word) (numbers_of words)

-- The numbers of a line, without its newline and the carriage return before that: at most 31 bytes, and no number where the
-- first one is `#`. None where the line is at fault.
abbrev pub line_numbers : List ℕ → Option (List ℕ)
line_numbers bytes =
    if nat_lt 31 (length bytes) then None
    else if slice_index bytes 0 == 35 then Some []
    else numbers_of (words_from [] bytes)

-- ---- whole lists

-- what the lines of a list name, one after the other; or the number of the first line at fault, counted from 1
pub data Reading (A : Type 0) : Type 0 where
  Listed : List A → Reading A
  Fault : ℕ → Reading A

-- a line's own names, in front of those of the lines behind it
abbrev pub with_line : {A : Type 0} → (line : ℕ) → Option (List A) → Reading A → Reading A
with_line line None later = Fault line
with_line line (Some names) (Listed more) = Listed (names ++ more)
with_line line (Some names) (Fault later) = Fault later

-- the lines from this number on, where a line of some numbers names this; no line stands behind the last one
abbrev pub reading_from : {A : Type 0} → (List ℕ → Option (List A)) → (line : ℕ) → List Line → Reading A
reading_from named line [] = Listed []
reading_from named line (text ∷ lines) =
    with_line line (if nat_lt most_lines line then None else option_and_then named (line_numbers (content_of text)))
    (reading_from named (line + 1) lines)

abbrev pub reading_of : {A : Type 0} → (List ℕ → Option (List A)) → (text : List ℕ) → Reading A
reading_of named text = reading_from named 1 (lines_of text)

-- what it names; nothing where a line is at fault
abbrev pub listed_in : {A : Type 0} → Reading A → List A
listed_in (Listed names) = names
listed_in (Fault line) = []

-- ---- segments that the dump lacks

-- the segments from one to another
pub record Span : Type 0 where
  pub from : ℕ
  pub to : ℕ

abbrev pub span : (from to : ℕ) → Span
span from to = record { from = from; to = to }

-- nothing, a segment, or the segments from one to another; segments are below 65,536
abbrev pub missing_named : List ℕ → Option (List Span)
missing_named [] = Some []
missing_named (s ∷ []) = if nat_lt s 65536 then Some (span s s ∷ []) else None
missing_named (s ∷ t ∷ []) = if nat_le s t && nat_lt t 65536 then Some (span s t ∷ []) else None
missing_named _ = None

abbrev pub missing_reading : (text : List ℕ) → Reading Span
missing_reading text = reading_of missing_named text

-- the segment lies in one of these spans
abbrev pub is_missing : List Span → (segment : ℕ) → Bool
is_missing spans segment = list_any (λ s. nat_le s.from segment && nat_le segment s.to) spans

-- ---- bad sectors

-- sectors of a segment, from one index to another
pub record BadSectors : Type 0 where
  pub segment : ℕ
  pub from : ℕ
  pub to : ℕ

abbrev pub bad_sectors : (segment from to : ℕ) → BadSectors
bad_sectors segment from to = record { segment = segment; from = from; to = to }

-- nothing, all sectors of a segment, or one, 0 to 31
abbrev pub bad_named : List ℕ → Option (List BadSectors)
bad_named [] = Some []
bad_named (s ∷ []) = if nat_lt s 65536 then Some (bad_sectors s 0 31 ∷ []) else None
bad_named (s ∷ i ∷ []) = if nat_lt s 65536 && nat_lt i 32 then Some (bad_sectors s i i ∷ []) else None
bad_named _ = None

abbrev pub bad_reading : (text : List ℕ) → Reading BadSectors
bad_reading text = reading_of bad_named text

-- the sector is one of these
abbrev pub is_listed_bad : List BadSectors → (segment index : ℕ) → Bool
is_listed_bad bad segment index =
    list_any (λ b. (b.segment == segment) && (nat_le b.from index && nat_le index b.to)) bad
