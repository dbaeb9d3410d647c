-- The bytes of a line, one after the other (this project's own).
use Rattle.std.specs.Prelude.{ℕ, ◌≡◌, List, ◌∷◌, length, drop, Some, []}
use Rattle.rescue_map.specs.Spelling.{digits_from}
use Rattle.dump_spec.specs.Lists.{words_from}
use Rattle.dump_lists.specs.declared.numbers.Numbers.TheVariants.{Nothing}
use Rattle.dump_lists.specs.declared.numbers.Scan.{Scan}
use Rattle.dump_lists.specs.Numbers.{behind_words}

-- these digits of a number have begun
pub record IsBegun (scan : Scan) (begun : List ℕ) : Type 0 where
  pub digits : scan.digits ≡ length begun
  pub value : digits_from 10 0 begun ≡ Some scan.value

-- a byte was taken: with what has begun behind it, the line has the same numbers
pub record Moves (old new : Scan) (byte : ℕ) (begun : List ℕ) : Type 0 where
  pub after : List ℕ
  pub is_begun : IsBegun new after
  pub same : (rest : List ℕ) → behind_words old.numbers (words_from begun (byte ∷ rest))
      ≡ behind_words new.numbers (words_from after rest)

-- so many bytes of a line were taken
pub record Scanned (scan : Scan) (line : List ℕ) (at : ℕ) : Type 0 where
  pub begun : List ℕ
  pub is_begun : IsBegun scan begun
  pub same : behind_words Nothing (words_from [] line) ≡ behind_words scan.numbers (words_from begun (drop at line))
