-- What is left of a source, where it tells it.
use Rattle.std.proofs.Common.{◌≡◌, ℕ, List, [], ◌++◌, length, drop, Option, Some, None, IfSome, codes, refl, sym, ap, ◌∙◌}
use Rattle.std.specs.Option.{option_map}
use Rattle.std.proofs.Math.Seq.{drop-append_seam}
use Rattle.command_spec.specs.Input.{HasStop}

-- what is left where the source tells it, and else some bytes that have the property
pub record Rest (o : Option (List ℕ)) (P : List ℕ → Type 0) : Type 0 where
  pub rest : List ℕ
  pub told : IfSome o (λ bytes. bytes ≡ rest)
  pub has : P rest

pub any_rest : (o : Option (List ℕ)) → Rest o (λ rest. Unit {0})
any_rest None = record { rest = []; told = tt; has = tt }
any_rest (Some bytes) = record { rest = bytes; told = refl; has = tt }

pub ended_rest : (o : Option (List ℕ)) → IfSome o (λ bytes. bytes ≡ []) → Rest o (λ rest. rest ≡ [])
ended_rest None ended = record { rest = []; told = tt; has = refl }
ended_rest (Some bytes) ended = record { rest = bytes; told = refl; has = ended }

pub stop_told : (o : Option (List ℕ)) (rest : List ℕ) → o ≡ Some (codes "end\n" ++ rest) → IfSome o (λ bytes. bytes ≡ codes "end\n" ++ rest)
stop_told None rest e = tt
stop_told (Some bytes) rest e = cc

pub none_told : (o : Option (List ℕ)) (rest : List ℕ) → o ≡ None → IfSome o (λ bytes. bytes ≡ rest)
none_told None rest e = tt
none_told (Some bytes) rest e = absurd (cc)

-- what is left where the line `end` was given: that line alone, where the source doesn't tell what stands behind it
unfoldable pub stop_rest : (o p : Option (List ℕ)) → o ≡ option_map (λ rest. codes "end\n" ++ rest) p → Rest o HasStop
stop_rest o None gave = record { rest = codes "end\n" ++ []; told = none_told o (codes "end\n" ++ []) gave; has = ([], refl) }
stop_rest o (Some rest) gave = record { rest = codes "end\n" ++ rest; told = stop_told o rest gave; has = (rest, refl) }

-- the whole input, from what was given and what is left
pub whole_told : (o p : Option (List ℕ)) (given rest : List ℕ) → o ≡ option_map (λ rest. given ++ rest) p →
    IfSome p (λ bytes. bytes ≡ rest) →
    IfSome o (λ bytes. given ++ rest ≡ bytes)
whole_told None p given rest gave told = tt
whole_told (Some all) None given rest gave told = absurd (cc)
whole_told (Some all) (Some bytes) given rest gave told =
    let same : all ≡ given ++ bytes = cc in
    sym (same ∙ ap (λ t. given ++ t) told)

-- what is left is what stands behind the bytes given
pub left_behind : (o p : Option (List ℕ)) (given : List ℕ) (n : ℕ) → o ≡ option_map (λ rest. given ++ rest) p → n ≡ length given →
    p ≡ option_map (drop n) o
left_behind o None given n gave long = sym (ap (option_map (drop n)) gave)
left_behind o (Some rest) given n gave long =
    sym (ap (option_map (drop n)) gave ∙ ap (λ (k : ℕ). Some (drop k (given ++ rest))) long ∙ ap Some (drop-append_seam given rest))
