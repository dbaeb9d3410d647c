-- The bytes that are given of pieces, piece by piece.
use Rattle.std.proofs.Common.{◌≡◌, ℕ, zero, suc, ◌<◌, ◌≤◌, List, [], ◌∷◌, ◌++◌, length, take, drop, None, slice_get, refl, arith}
use Rattle.std.proofs.lemmas.List.{length-take, length-take-le, length-drop}
use Rattle.cartridge_spec.specs.Volumes.{bytes_in}
use Rattle.cartridge_spec.specs.Says.{Says, Data}
use Rattle.command_laws.proofs.RestoreGiven.{given_always, given_is_function}
use Rattle.command_spec.specs.Restore.{Piece, piece_cells}
use Rattle.command_spec.specs.Copying.{GivenBytes}
use Rattle.qic_base.specs.Cartridge.{Cartridge}
use Rattle.volume_copy.specs.Given.{given_bytes}
use Rattle.volume_copy.specs.Source.{IsHeld, unread_in}

-- ---- lists

pub drop_past : {A : Type 0} (xs : List A) (i : ℕ) → slice_get xs i ≡ None → drop i xs ≡ []
drop_past [] zero at = refl
drop_past [] (suc i) at = refl
drop_past (x ∷ xs) zero at = absurd (cc)
drop_past (x ∷ xs) (suc i) at = drop_past xs i at

drop_over : {A : Type 0} (xs : List A) (i : ℕ) → length xs ≤ i → drop i xs ≡ []
drop_over [] zero over = refl
drop_over [] (suc i) over = refl
drop_over (x ∷ xs) zero over = absurd (omega arith)
drop_over (x ∷ xs) (suc i) over = drop_over xs i (omega arith)

-- all bytes of a piece were given
pub none_unread : (part : List (List ℕ)) (held given : ℕ) → held ≤ given → unread_in part held given ≡ []
none_unread part held given over =
    let few = length-take held (bytes_in part) in
    drop_over (take held (bytes_in part)) given (omega arith)

-- some were not
pub some_unread : (part : List (List ℕ)) (held given : ℕ) → IsHeld part held given → given < held → 0 < length (unread_in part held given)
some_unread part held given is more =
    let all : length (take held (bytes_in part)) ≡ held = length-take-le held (bytes_in part) (is.bytes more) in
    let rest = length-drop given (take held (bytes_in part)) in
    omega arith

-- all were, also of other sectors
pub none_held : (part other : List (List ℕ)) (held given : ℕ) → IsHeld part held given → held ≤ given → IsHeld other held given
none_held part other held given is over = record {
  within = is.within;
  there = λ more. absurd (omega arith);
  bytes = λ more. absurd (omega arith);
}

-- ---- the bytes

pub given_is : (c : Cartridge) (words : List ℕ) (needed : List Piece) → GivenBytes c words needed (given_bytes c words needed)
unfolding given_bytes
given_is c words needed = (given_always c words needed).1

pub given_none : (c : Cartridge) (words : List ℕ) → given_bytes c words [] ≡ []
given_none c words = given_is c words []

-- a piece that reads gives its data's first bytes, and then the pieces behind it theirs
pub given_next : (c : Cartridge) (words : List ℕ) (piece : Piece) (rest : List Piece) (sectors : List (List ℕ)) →
    Says (piece_cells c words piece) (Data sectors) →
    given_bytes c words (piece ∷ rest) ≡ take piece.count (bytes_in sectors) ++ given_bytes c words rest
given_next c words piece rest sectors says =
    given_is_function c words (piece ∷ rest) (given_bytes c words (piece ∷ rest)) (take piece.count (bytes_in sectors) ++ given_bytes c
    words rest)
    (given_is c words (piece ∷ rest)) (Data sectors, given_bytes c words rest, says, given_is c words rest, refl)
