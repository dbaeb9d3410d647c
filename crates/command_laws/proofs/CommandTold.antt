-- An input that is told, or none where none is told.
use Rattle.std.proofs.Common.{ℕ, ◌<◌, List, All, Option, Some, None, ◌≡◌, IfSome, IfNone, refl, subst}
use Rattle.std.proofs.lemmas.List.Elements.{All-nil}
use Rattle.qic_base.specs.Source.{IsInput}
use Rattle.qic_base.specs.SourceCalls.{input_of}

pub input_told : (told : Option (List ℕ)) → IfSome told (λ bytes. input_of told ≡ bytes)
input_told None = tt
input_told (Some bytes) = refl

-- one of bytes, where none is told
pub input_bytes : (told : Option (List ℕ)) → IfNone told (All (λ b. b < 256) (input_of told))
input_bytes None = All-nil (λ b. b < 256)
input_bytes (Some bytes) = tt

-- what is so of an input is so of the bytes that are told
pub told_input : (left : Option (List ℕ)) (input : List ℕ) (P : List ℕ → Type 0) → IsInput left input → P input → IfSome left P
told_input None input P told is = tt
told_input (Some bytes) input P told is = subst P told is
