-- The levels of a report, as a shifter shows them and a collector takes them.
use Rattle.std.proofs.Common.{◌≡◌, ℕ, zero, suc, ◌+◌, ◌-◌, ◌*◌, ◌/◌, ◌%◌, ◌^◌, ◌<◌, ◌≤◌, ◌==◌, Bool, true, false, cond, List, [], ◌∷◌, ◌++◌}
use Rattle.std.proofs.Common.{length, take, drop, Some, None, refl, sym, ap, ◌∙◌, inl, inr, arith}
use Rattle.std.proofs.Math.Nat.{pow-suc, pow-le-pow_right, mod-eq_of_lt}
use Rattle.std.proofs.Math.Numerals.{add-one, sub-one}
use Rattle.std.proofs.Math.Seq.{take-append_seam, drop-append_seam}
use Rattle.std.proofs.lemmas.Bool.{cases_lt}
use Rattle.std.proofs.lemmas.List.{take-append-drop, drop_all, length-take-le, length-append, length-drop}
use Rattle.qic117_commands.specs.Digits.{digits, value}
use Rattle.qic117_commands.specs.Left.{levels_left}
use Rattle.qic117_commands.specs.Report.{IsWidth, levels_of, word_before, word_of}
use Rattle.qic117_commands.proofs.DigitFacts.{length-digits, value-digits, digits-value, digits-push}

pub levels_left-zero : (number : ℕ) → levels_left 0 number ≡ []
unfolding levels_left
levels_left-zero number = refl

pub levels_left-one : (number : ℕ) → levels_left 1 number ≡ true ∷ []
unfolding levels_left digits
levels_left-one number = refl

-- with a digit left, the lowest one is next
pub levels_left-more : (left number : ℕ) → 2 ≤ left → (levels_left left number ≡ (number % 2 == 1) ∷ levels_left (left - 1) (number / 2))
    × (0 < length (levels_left (left - 1) (number / 2)))
unfolding levels_left digits
levels_left-more zero number h = absurd (omega (arith, h))
levels_left-more (suc zero) number h = absurd (omega (arith, h))
levels_left-more (suc (suc before)) number h =
    rw sub-one (refl, omega (arith, length-append (digits before (number / 2)) (true ∷ [])))

-- a report that was just acknowledged
pub levels_left-all : (width word : ℕ) → levels_left (width + 1) word ≡ levels_of width word
unfolding levels_left
levels_left-all width word = rw add-one refl

-- the levels behind the first `width` tell the word
word_of-append : (ds rest : List Bool) → word_of (length ds) (ds ++ rest) ≡ word_before ds rest
unfolding word_of
word_of-append ds rest = rw (take-append_seam ds rest, drop-append_seam ds rest) refl

word_of-digits : (width word : ℕ) (rest : List Bool) → word_of width (digits width word ++ rest) ≡ word_before (digits width word) rest
word_of-digits width word rest =
    ap (λ w. word_of w (digits width word ++ rest)) (sym (length-digits width word)) ∙ word_of-append (digits width word) rest

drop-digits : (width word : ℕ) (rest : List Bool) → drop width (digits width word ++ rest) ≡ rest
drop-digits width word rest =
    ap (λ w. drop w (digits width word ++ rest)) (sym (length-digits width word)) ∙ drop-append_seam (digits width word) rest

pub word_of-levels_of : (width word : ℕ) → word < 2 ^ width → word_of width (levels_of width word) ≡ Some word
word_of-levels_of width word h =
    word_of-digits width word (true ∷ []) ∙ ap Some (value-digits width word h)

-- only a final 1 makes a word of digits
word_before-Some : (ds rest : List Bool) (word : ℕ) → word_before ds rest ≡ Some word → (rest ≡ true ∷ []) × (value ds ≡ word)
word_before-Some ds [] word h = let no : ⊥ = cc in absurd no
word_before-Some ds (true ∷ []) word h = (refl, cc)
word_before-Some ds (false ∷ []) word h = let no : ⊥ = cc in absurd no
word_before-Some ds (level ∷ more ∷ rest) word h = let no : ⊥ = cc in absurd no

enough : (width : ℕ) (levels : List Bool) → drop width levels ≡ true ∷ [] → width ≤ length levels
enough width levels last =
    let n = ap length last in
    omega (arith, n, length-drop width levels)

pub levels_of-word_of : (width word : ℕ) (levels : List Bool) → word_of width levels ≡ Some word → levels ≡ levels_of width word
unfolding word_of
levels_of-word_of width word levels h =
    let parts = word_before-Some (take width levels) (drop width levels) word h in
    let long = enough width levels parts.0 in
    let front : take width levels ≡ digits width word =
    sym (digits-value (take width levels)) ∙ ap (λ n. digits n (value (take width levels))) (length-take-le width levels long)
    ∙ ap (digits width) parts.1 in
    sym (take-append-drop width levels) ∙ ap (λ ds. ds ++ drop width levels) front ∙ ap (λ rest. digits width word ++ rest) parts.0

-- one digit more is one level more
pub push-room : (count number more : ℕ) (level : Bool) → number < 2 ^ count → more ≡ number + cond level (2 ^ count) 0 →
    digits (count + 1) more ≡ digits count number ++ level ∷ []
push-room count number more level small e = rw (e, add-one count) (digits-push count number level small)

-- the last level of a collector that is full
full-levels : (width count number low : ℕ) (level : Bool) → count ≡ width + 1 → low < 2 ^ width → number ≡ low + cond level (2 ^ width) 0 →
    digits count number ≡ digits width low ++ level ∷ []
full-levels width count number low level e small n = rw (e, n, add-one) (digits-push width low level small)

pub final-bit : (width : ℕ) → IsWidth width → 1 * 2 ^ width % 4294967296 ≡ 2 ^ width
final-bit width (inl e) = rw e refl
final-bit width (inr e) = rw e refl

-- a collector whose levels reach the final bit as a number is full
full : (width count number : ℕ) → count ≤ width + 1 → number < 2 ^ count → 2 ^ width ≤ number → count ≡ width + 1
full width count number most small final =
    elim (cases_lt width count) [
      | inl more ↦ omega arith
      | inr less ↦ let p : 2 ^ count ≤ 2 ^ width = pow-le-pow_right (omega arith) less in
          absurd (omega arith)
    ]

pub word-fits : (width count number : ℕ) → count ≤ width + 1 → number < 2 ^ count → 2 ^ width ≤ number → number - 2 ^ width < 2 ^ width
word-fits width count number most small final =
    let e = full width count number most small final in
    let p = pow-suc 2 width in
    let q : 2 ^ count ≡ 2 ^ suc width = ap (λ n. 2 ^ n) (e ∙ add-one width) in
    omega (arith, p, q)

pub word-full : (width count number : ℕ) → count ≤ width + 1 → number < 2 ^ count → 2 ^ width ≤ number →
    (word_of width (digits count number) ≡ Some (number - 2 ^ width)) × (drop width (digits count number) ≡ true ∷ [])
word-full width count number most small final =
    let e = full width count number most small final in
    let low = word-fits width count number most small final in
    let levels = full-levels width count number (number - 2 ^ width) true e low (omega arith) in
    rw levels (word_of-levels_of width (number - 2 ^ width) low, drop-digits width (number - 2 ^ width) (true ∷ []))

word-short : (width count number : ℕ) → count ≤ width → (word_of width (digits count number) ≡ None)
    × (drop width (digits count number) ≡ true ∷ [] → ⊥)
unfolding word_of
word-short width count number short =
    let none = drop_all width (digits count number) (omega (arith, length-digits count number)) in
    rw none (refl, λ e. cc)

word-broken : (width count number : ℕ) → count ≡ width + 1 → number < 2 ^ width → (word_of width (digits count number) ≡ None)
    × (drop width (digits count number) ≡ true ∷ [] → ⊥)
word-broken width count number e low =
    let levels = full-levels width count number number false e low (omega arith) in
    rw levels (
      word_of-digits width number (false ∷ []),
      λ e. let last : false ∷ [] ≡ true ∷ [] =
          sym (drop-digits width number (false ∷ [])) ∙ e in cc,
    )

-- without the final bit there is no word
pub word-none : (width count number : ℕ) → count ≤ width + 1 → number < 2 ^ width → (word_of width (digits count number) ≡ None)
    × (drop width (digits count number) ≡ true ∷ [] → ⊥)
word-none width count number most low =
    elim (cases_lt width count) [
      | inl more ↦ word-broken width count number (omega arith) low
      | inr less ↦ word-short width count number
          less
    ]

pub width-bound : (width : ℕ) → IsWidth width → 2 ^ width ≤ 65536
width-bound width (inl e) = rw e (omega arith)
width-bound width (inr e) = rw e (omega arith)

pub one-bit : (count : ℕ) → count ≤ 17 → 1 * 2 ^ count % 4294967296 ≡ 2 ^ count
one-bit count h =
    let below : 2 ^ count ≤ 2 ^ 17 = pow-le-pow_right (omega arith) h in
    let same : 1 * 2 ^ count ≡ 2 ^ count = omega arith in
    let small : 2 ^ count < 4294967296 = omega (arith, below) in
    rw same (mod-eq_of_lt small)
