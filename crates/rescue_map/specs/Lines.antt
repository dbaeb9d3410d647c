-- The lines of a text, and the words of a line (GNU ddrescue's mapfile).
use Rattle.std.specs.Prelude.{ℕ, ◌-◌, ◌==◌, Bool, true, false, List, [], ◌∷◌, ◌++◌, length, take, slice_index, slice_index_or}
use Rattle.std.specs.Prelude.{if◌then◌else◌, ◌&&◌, ◌||◌, nat_lt}
use Rattle.rescue_map.specs.declared.spelling.Word.{Word}
use Rattle.rescue_map.specs.declared.spelling.Word.TheVariants.{Missing}
use Rattle.rescue_map.specs.Spelling.{word_is}

-- a line's bytes without its newline, and whether the newline is there: the last line may lack it
pub record Line : Type 0 where
  pub bytes : List ℕ
  pub ended : Bool

-- the lines of a text, behind these bytes of the first of them
abbrev pub lines_from : List ℕ → List ℕ → List Line
lines_from begun [] = if length begun == 0 then [] else record { bytes = begun; ended = false } ∷ []
lines_from begun (b ∷ bs) =
    if b == 10 then record { bytes = begun; ended = true } ∷ lines_from [] bs
    else lines_from (begun ++ b ∷ []) bs

abbrev pub lines_of : List ℕ → List Line
lines_of text = lines_from [] text

-- without one carriage return at the end
abbrev pub without_return : List ℕ → List ℕ
without_return bytes = if slice_index bytes (length bytes - 1) == 13 then take (length bytes - 1) bytes else bytes

-- one carriage return before the newline is left out
abbrev pub content_of : Line → List ℕ
content_of line = if line.ended then without_return line.bytes else line.bytes

-- a space or a tab
abbrev pub is_blank : ℕ → Bool
is_blank b = b == 32 || b == 9

-- the word that has begun, if one is
abbrev pub begun_word : List ℕ → List (List ℕ)
begun_word begun = if length begun == 0 then [] else begun ∷ []

-- The words of a line, behind these bytes of a word that has begun: blanks part them, and where no word has begun a `#` starts
-- a comment, up to the line's end.
abbrev pub words_from : List ℕ → List ℕ → List (List ℕ)
words_from begun [] = begun_word begun
words_from begun (b ∷ bs) =
    if is_blank b then begun_word begun ++ words_from [] bs
    else if length begun == 0 && b == 35 then []
    else words_from (begun ++ b ∷ []) bs

abbrev pub words_of : Line → List (List ℕ)
words_of line = words_from [] (content_of line)

-- what a line's word is, counted from 0
abbrev pub word_at : List (List ℕ) → ℕ → Word
word_at words k = if nat_lt k (length words) then word_is (slice_index_or words k []) else Missing
