-- What is kept of a line while its bytes come (this project's own).
use Rattle.std.specs.Prelude.{◌≡◌, ℕ, Bool, true, false, List, [], ◌∷◌, ◌++◌, length, take, min, if◌then◌else◌}
use Rattle.rescue_map.specs.declared.words.LineWords.{LineWords}
use Rattle.rescue_map.specs.declared.scan.Scan.{Scan}
use Rattle.rescue_map.specs.Lines.{without_return, words_from, word_at}

-- the first three words, and how many there are, where 4 stands for more than three
pub record AreWords (words : LineWords) (list : List (List ℕ)) : Type 0 where
  pub first : words.first ≡ word_at list 0
  pub second : words.second ≡ word_at list 1
  pub third : words.third ≡ word_at list 2
  pub count : words.count ≡ min (length list) 4

-- of the word that has begun 32 bytes at most are kept
pub record IsBegun (scan : Scan) (begun : List ℕ) : Type 0 where
  pub kept : take scan.len scan.begun ≡ take 32 begun
  pub long : scan.len ≡ min (length begun) 32

-- the bytes of a line, cut into words so far: those that are over, and the one that has begun
pub record Cut (scan : Scan) (bytes : List ℕ) : Type 0 where
  pub over : List (List ℕ)
  pub begun : List ℕ
  pub words : (rest : List ℕ) → words_from [] (bytes ++ rest) ≡ over ++ (if scan.comment then [] else words_from begun rest)
  pub are : AreWords scan.words over
  pub is_begun : IsBegun scan begun
  pub quiet : scan.comment ≡ true → scan.len ≡ 0

-- a carriage return is held back, since a newline may come behind it
abbrev pub held_bytes : Bool → List ℕ
held_bytes held = if held then 13 ∷ [] else []

-- the bytes of a line so far: those that were cut, and a carriage return that is held back
pub record Scanned (scan : Scan) (line : List ℕ) : Type 0 where
  pub bytes : List ℕ
  pub whole : line ≡ bytes ++ held_bytes scan.held
  pub no_return : scan.held ≡ false → without_return line ≡ line
  pub cut : Cut scan bytes
