-- What is told of words, by the row of their first one.
use Rattle.std.proofs.Common.{◌≡◌, ◌≤◌, ℕ, Bool, true, Option, List, [], ◌∷◌, length, nat_le, arith, refl, inl, inr}
use Rattle.std.specs.List.{list_all}
use Rattle.std.proofs.lemmas.Bool.Decides.{nat_tests}
use Rattle.word_hints.specs.Forms.{HasRow, Row, rows}
use Rattle.word_hints.specs.Hints.{IsHint, IsHintAfter, IsHintOf, IsInOrder, IsShort}
use Rattle.word_hints.specs.declared.hint.Hint.{Hint}
use Rattle.word_hints.specs.declared.hint.Hint.TheVariants as hints

pub told : (first : List ℕ) (behind : List (List ℕ)) (row : Row) (hint : Hint) → HasRow rows first row → IsHintAfter row behind hint →
    IsHintOf first behind hint
told first behind row hints.NoWord has is = absurd is
told first behind row (hints.NoImage command) has is = absurd is
told first behind row (hints.Swapped command image) has is = absurd is
told first behind row (hints.NoCommand word) has is = absurd is
told first behind row (hints.Form form) has is = (row, has, is)
told first behind row (hints.Word word fault) has is = (row, has, is)

is_short : Row → Bool
is_short row = nat_le (length row.text) 40

short_row : (table : List Row) (first : List ℕ) (row : Row) → list_all is_short table ≡ true → HasRow table first row → length row.text ≤ 40
unfolding is_short
short_row [] first row all has = absurd has
short_row (row ∷ table) first found all (inl is) =
    let short : nat_le (length row.text) 40 ≡ true = grind (arith, nat_tests) in
    rw is.1 (grind (arith, nat_tests))
short_row (row ∷ table) first found all (inr has) = short_row table first found (grind arith) has

pub short : (first : List ℕ) (behind : List (List ℕ)) (row : Row) (hint : Hint) → HasRow rows first row → IsHintAfter row behind hint →
    IsShort hint
unfolding is_short
short first behind row hints.NoWord has is = tt
short first behind row (hints.NoImage command) has is = tt
short first behind row (hints.Swapped command image) has is = tt
short first behind row (hints.NoCommand word) has is = tt
short first behind row (hints.Word word fault) has is = tt
short first behind row (hints.Form form) has is = rw is.0 (short_row rows first row refl has)

-- ---- the words of a command, if none stands in the place of the image

pub in_order : (image : Option (List ℕ)) (first : List ℕ) (behind : List (List ℕ)) (hint : Hint) → IsInOrder image first →
    IsHintOf first behind hint → IsHint image (first ∷ behind) hint
in_order image first behind hints.NoWord order is = absurd is
in_order image first behind (hints.NoImage command) order is = absurd is
in_order image first behind (hints.Swapped command word) order is = absurd is
in_order image first behind (hints.NoCommand word) order is = (order, is)
in_order image first behind (hints.Form form) order is = (order, is)
in_order image first behind (hints.Word word fault) order is = (order, is)
