-- What a source gave, call after call.
use Rattle.std.proofs.Common.{◌≡◌, ℕ, ◌+◌, ◌<◌, List, [], ◌∷◌, ◌++◌, length, take, drop, get_or, Option, Some, None, refl, sym, ap, ◌∙◌}
use Rattle.std.proofs.Common.{arith}
use Rattle.std.specs.Option.{option_map}
use Rattle.std.proofs.lemmas.List.{drop_more, length-take-le, get_or-take}
use Rattle.qic_base.specs.Source.{Meaning}
use Rattle.rescue_map.specs.declared.ahead.Ahead.{Ahead}
use Rattle.qic_base.specs.SourceCalls.{WereGiven}
use Rattle.rescue_map.specs.Reads.{left_of, IsAhead}

-- a byte that is read ahead is taken
pub left_byte : {S : Type 0} (m : Meaning S) (s : S) (buffer : List ℕ) (old new : Ahead) → IsAhead buffer old → old.at < old.end →
    new.end ≡ old.end → new.at ≡ old.at + 1 →
    WereGiven (left_of m s buffer old) (left_of m s buffer new) (get_or buffer old.at 0 ∷ [])
left_byte m s buffer old new is some end at = by_left (m.left s) where
  front : drop old.at (take old.end buffer) ≡ get_or buffer old.at 0 ∷ drop new.at (take new.end buffer)
  front =
      let within = is.within in
      let long : length (take old.end buffer) ≡ old.end = length-take-le old.end buffer within in
      drop_more (take old.end buffer) old.at 0 (omega arith)
      ∙ ap (λ (b : ℕ). b ∷ drop (old.at + 1) (take old.end buffer)) (get_or-take old.end buffer old.at 0 some)
      ∙ ap (λ (n : ℕ). get_or buffer old.at 0 ∷ drop n (take old.end buffer)) (sym at)
      ∙ ap (λ (n : ℕ). get_or buffer old.at 0 ∷ drop new.at (take n buffer)) (sym end)

  by_left : (o : Option (List ℕ)) → option_map (λ rest. drop old.at (take old.end buffer) ++ rest) o
      ≡ option_map (λ rest. (get_or buffer old.at 0 ∷ []) ++ rest) (option_map (λ rest. drop new.at (take new.end buffer) ++ rest) o)
  by_left None = refl
  by_left (Some bytes) = ap (λ (xs : List ℕ). Some (xs ++ bytes)) front
