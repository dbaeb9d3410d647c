-- Two lists of volumes, compared from an index on.
use Rattle.std.proofs.Common.{◌≡◌, ℕ, suc, ◌+◌, ◌<◌, ◌≤◌, true, false, List, ◌∷◌, drop, length, Some, refl, ap, ◌∙◌, add-one, slice_get}
use Rattle.std.proofs.Math.ListN.{drop_of_length-le}
use Rattle.std.proofs.Math.Seq.{drop-cons}
use Rattle.std.proofs.lemmas.Option.{get_or_from_slice_get, slice_get_within}
use Rattle.cartridge_spec.specs.Table.{Entry}
use Rattle.command_spec.specs.Copying.{difference, is_alike}

pub from_index : {A : Type 0} (xs : List A) (i : ℕ) (x : A) → slice_get xs i ≡ Some x → drop i xs ≡ x ∷ drop (i + 1) xs
from_index xs i x at =
    let there : i < length xs = slice_get_within xs i x at in
    rw add-one (drop-cons xs i x there ∙ ap (λ y. y ∷ drop (suc i) xs) (get_or_from_slice_get xs i x x at))

-- the first list has none at the index
pub differs_beyond : (words : List ℕ) (es : List Entry) (words' : List ℕ) (es' : List Entry) (i n : ℕ) (e' : Entry) → length es ≤ i →
    slice_get es' i ≡ Some e' →
    difference words (drop i es) words' (drop i es') n ≡ Some n
differs_beyond words es words' es' i n e' all at' = rw (drop_of_length-le es {i = i} all, from_index es' i e' at') refl

-- both have one
pub differs_at : (words : List ℕ) (es : List Entry) (words' : List ℕ) (es' : List Entry) (i n : ℕ) (e e' : Entry) →
    slice_get es i ≡ Some e → slice_get es' i ≡ Some e' →
    is_alike words e words' e' ≡ false → difference words (drop i es) words' (drop i es') n ≡ Some n
differs_at words es words' es' i n e e' at at' unlike = rw (from_index es i e at, from_index es' i e' at', unlike) refl

pub alike_at : (words : List ℕ) (es : List Entry) (words' : List ℕ) (es' : List Entry) (i n : ℕ) (e e' : Entry) → slice_get es i ≡ Some e →
    slice_get es' i ≡ Some e' →
    is_alike words e words' e' ≡ true → difference words (drop i es) words' (drop i es') n ≡ difference words (drop (i + 1) es) words'
    (drop (i + 1) es') (n + 1)
alike_at words es words' es' i n e e' at at' like = rw (from_index es i e at, from_index es' i e' at', like) refl
