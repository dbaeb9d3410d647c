-- The printed texts.
use Rattle.std.proofs.Common.{◌≡◌, ◌==◌, ℕ, ◌+◌, ◌-◌, true, List, [], ◌∷◌, ◌++◌, refl, ap, false, ◌∙◌, ◌<◌, ◌≤◌, length, take, get_or}
use Rattle.std.proofs.Common.{arith, sym}
use Rattle.std.proofs.lemmas.Bool.Decides.{nat_tests}
use Rattle.std.proofs.lemmas.List.{take_more}
use Rattle.command_laws.specs.TextTerms.{is_filler, before_cut}
use Rattle.command_spec.specs.Lines.{trimmed}

-- filling at the end is cut
pub trimmed-filler : (xs : List ℕ) (b : ℕ) → is_filler b ≡ true → trimmed (xs ++ b ∷ []) ≡ trimmed xs
unfolding trimmed
trimmed-filler [] b filler = rw filler refl
trimmed-filler (x ∷ xs) b filler = ap (before_cut x) (trimmed-filler xs b filler)

before_cut-some : (x : ℕ) (bytes : List ℕ) → 0 < length bytes → before_cut x bytes ≡ x ∷ bytes
before_cut-some x bytes some = let more : (length bytes == 0) ≡ false = grind (arith, nat_tests) in rw more refl

before_cut-more : (x : ℕ) (xs : List ℕ) (b : ℕ) → before_cut x (xs ++ b ∷ []) ≡ x ∷ (xs ++ b ∷ [])
before_cut-more x [] b = before_cut-some x (b ∷ []) (omega arith)
before_cut-more x (y ∷ ys) b = before_cut-some x (y ∷ (ys ++ b ∷ [])) (omega arith)

-- nothing in front of another byte is
trimmed-kept : (xs : List ℕ) (b : ℕ) → is_filler b ≡ false → trimmed (xs ++ b ∷ []) ≡ xs ++ b ∷ []
unfolding trimmed
trimmed-kept [] b kept = rw kept refl
trimmed-kept (x ∷ xs) b kept = ap (before_cut x) (trimmed-kept xs b kept) ∙ before_cut-more x xs b

pub take_last : (bytes : List ℕ) (len : ℕ) → 0 < len → len ≤ length bytes → take len bytes ≡ take (len - 1) bytes ++ get_or bytes
    (len - 1) 0 ∷ []
take_last bytes len some within =
    let e : len ≡ len - 1 + 1 = omega arith in
    ap (λ n. take n bytes) e ∙ take_more bytes (len - 1) 0 (omega arith)

pub trimmed-take-kept : (bytes : List ℕ) (len : ℕ) → 0 < len → len ≤ length bytes → is_filler (get_or bytes (len - 1) 0) ≡ false →
    take len bytes ≡ trimmed (take len bytes)
trimmed-take-kept bytes len some within kept =
    take_last bytes len some within
    ∙ sym (ap trimmed (take_last bytes len some within) ∙ trimmed-kept (take (len - 1) bytes) (get_or bytes (len - 1) 0) kept)
