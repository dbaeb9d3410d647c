-- Elements of lists at a place.
use Rattle.std.proofs.Common.{◌≡◌, ◌⊎◌, ℕ, ◌<◌, ◌≤◌, inl, inr, List, length, Some, sym, ap, ◌∙◌, arith, get_or}
use Rattle.std.specs.Prelude.{slice_get}
use Rattle.std.proofs.lemmas.Bool.{cases_lt}
use Rattle.std.proofs.lemmas.Option.{slice_get-get_or, slice_get_past}

by_place : {A : Type 0} (xs ys : List A) (place : ℕ) (d : A) → length xs ≡ length ys → get_or xs place d ≡ get_or ys place d →
    (place < length ys) ⊎ (length ys ≤ place) → slice_get xs place ≡ slice_get ys place
by_place xs ys place d long same (inl inside) =
    slice_get-get_or xs place d (omega arith) ∙ ap Some same ∙ sym (slice_get-get_or ys place d inside)
by_place xs ys place d long same (inr past) =
    slice_get_past xs place (omega arith) ∙ sym (slice_get_past ys place past)

-- two lists as long as each other that have the same element there give the same
pub slice_get-same : {A : Type 0} (xs ys : List A) (place : ℕ) (d : A) → length xs ≡ length ys → get_or xs place d ≡ get_or ys place d →
    slice_get xs place ≡ slice_get ys place
slice_get-same xs ys place d long same = by_place xs ys place d long same (cases_lt place (length ys))
