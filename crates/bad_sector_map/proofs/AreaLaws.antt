-- The bytes of an area, and the numbers in its fields.
use Rattle.std.proofs.Common.{◌≡◌, ℕ, ◌+◌, List, [], ◌∷◌, ◌++◌, arith}
use Rattle.std.proofs.lemmas.List.FromFn.{map-range_with_len_more}
use Rattle.cartridge_spec.specs.Header.{word_in}
use Rattle.cartridge_laws.specs.HeaderTerms.{words_in}

-- one word more
pub words_in-more : (area : List (List ℕ)) (n : ℕ) → words_in area (n + 1) ≡ words_in area n ++ word_in area n ∷ []
words_in-more area n = map-range_with_len_more (word_in area) 0 n n (omega arith)
