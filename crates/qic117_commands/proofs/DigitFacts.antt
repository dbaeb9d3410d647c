-- Binary digits and the number that has them.
use Rattle.std.proofs.Common.{◌≡◌, ℕ, zero, suc, ◌+◌, ◌*◌, ◌/◌, ◌%◌, ◌^◌, ◌<◌, ◌==◌, Bool, true, false, cond, List, [], ◌∷◌, ◌++◌, length}
use Rattle.std.proofs.Common.{refl, ap, ◌∙◌, arith}
use Rattle.std.proofs.Math.Nat.{pow-suc}
use Rattle.std.proofs.lemmas.Bool.Decides.{nat_tests}
use Rattle.qic117_commands.specs.Digits.{digits, value}

pub length-digits : (width number : ℕ) → length (digits width number) ≡ width
unfolding digits
length-digits zero number = refl
length-digits (suc width) number = ap suc (length-digits width (number / 2))

-- a number is its lowest digit and twice its half
bit-half : (number : ℕ) → cond (number % 2 == 1) 1 0 + 2 * (number / 2) ≡ number
bit-half number = grind (arith, nat_tests)

half-below : (width number : ℕ) → number < 2 ^ suc width → number / 2 < 2 ^ width
half-below width number h = let p = pow-suc 2 width in omega (arith, p, h)

pub value-digits : (width number : ℕ) → number < 2 ^ width → value (digits width number) ≡ number
unfolding digits value
value-digits zero number h = omega (arith, h)
value-digits (suc width) number h =
    ap (λ half. cond (number % 2 == 1) 1 0 + 2 * half) (value-digits width (number / 2) (half-below width number h)) ∙ bit-half number

digit-odd : (digit : Bool) (half : ℕ) → ((cond digit 1 0 + 2 * half) % 2 == 1) ≡ digit
digit-odd true half = grind (arith, nat_tests)
digit-odd false half = grind (arith, nat_tests)

digit-half : (digit : Bool) (half : ℕ) → (cond digit 1 0 + 2 * half) / 2 ≡ half
digit-half true half = omega arith
digit-half false half = omega arith

pub digits-value : (ds : List Bool) → digits (length ds) (value ds) ≡ ds
unfolding digits value
digits-value [] = refl
digits-value (d ∷ ds) =
    rw (digit-odd d (value ds), digit-half d (value ds)) (ap (λ rest. d ∷ rest) (digits-value ds))

-- a level above the digits of a number is its next digit
add-odd : (number above : ℕ) → (number + 2 * above) % 2 ≡ number % 2
add-odd number above = omega arith

add-half : (number above : ℕ) → (number + 2 * above) / 2 ≡ number / 2 + above
add-half number above = omega arith

above-suc : (level : Bool) (width : ℕ) → cond level (2 ^ suc width) 0 ≡ 2 * cond level (2 ^ width) 0
above-suc true width = let p = pow-suc 2 width in omega arith
above-suc false width = refl

one-level : (level : Bool) (number : ℕ) → number ≡ 0 → digits 1 (number + cond level 1 0) ≡ level ∷ []
unfolding digits
one-level true number h = rw h refl
one-level false number h = rw h refl

pub digits-push : (width number : ℕ) (level : Bool) → number < 2 ^ width →
    digits (suc width) (number + cond level (2 ^ width) 0) ≡ digits width number ++ level ∷ []
unfolding digits
digits-push zero number level h = one-level level number (omega (arith, h))
digits-push (suc width) number level h =
    rw (above-suc level width, add-odd number (cond level (2 ^ width) 0), add-half number (cond level (2 ^ width) 0))
    (ap (λ rest. (number % 2 == 1) ∷ rest) (digits-push width (number / 2) level (half-below width number h)))
