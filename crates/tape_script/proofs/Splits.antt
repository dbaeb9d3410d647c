-- The words of a line.
use Rattle.std.proofs.Common.{◌≡◌, ℕ, ◌+◌, ◌<◌, ◌≤◌, ◌==◌, false, true, List, [], ◌∷◌, ◌++◌, All, length, take, drop, get_or, nat_lt}
use Rattle.std.proofs.Common.{if◌then◌else◌, suc, refl, sym, ap, ◌∙◌, arith}
use Rattle.std.proofs.lemmas.Bool.Decides.{nat_tests}
use Rattle.std.proofs.lemmas.List.{take-append-drop, drop_more}
use Rattle.std.proofs.lemmas.List.Splits.{slice_split_none, slice_split_at, length-slice_split}
use Rattle.command_laws.specs.Inputs.{words_of}

abbrev pub NoSpace : List ℕ → Type 0
NoSpace bytes = All (λ b. (b == 0x20) ≡ false) bytes

-- a space ends the first word
pub words_at : (text : List ℕ) (at : ℕ) → at < length text → NoSpace (take at text) → get_or text at 0 ≡ 0x20 →
    words_of text ≡ take at text ∷ words_of (drop (at + 1) text)
words_at text at here none space =
    let parts : text ≡ take at text ++ 0x20 ∷ drop (at + 1) text =
    sym (take-append-drop at text) ∙ ap (λ rest. take at text ++ rest)
    (drop_more text at 0 here ∙ ap (λ (b : ℕ). b ∷ drop (at + 1) text) space) in
    ap words_of parts ∙ slice_split_at (λ b. b == 0x20) (take at text) 0x20 (drop (at + 1) text) none refl

-- without a space there is one word
pub words_none : (text : List ℕ) → NoSpace text → words_of text ≡ text ∷ []
words_none text none = slice_split_none (λ b. b == 0x20) text none

-- a line has at least one word
pub some_word : (text : List ℕ) → 1 ≤ length (words_of text)
some_word text = rw (length-slice_split (λ b. b == 0x20) text) (omega arith)

-- a word that ends before the line does leaves further words
pub longer : (text : List ℕ) (at : ℕ) → at ≤ length text → (at ≡ length text → ⊥) →
    words_of text ≡ take at text ∷ (if nat_lt at (length text) then words_of (drop (at + 1) text) else []) →
    length (words_of text) ≡ 1 + length (words_of (drop (at + 1) text))
longer text at within inside words =
    let here : nat_lt at (length text) ≡ true = grind (arith, nat_tests) in
    let e : words_of text ≡ take at text ∷ words_of (drop (at + 1) text) = rw here at words in
    ap length e ∙ (let n : suc (length (words_of (drop (at + 1) text))) ≡ 1 + length (words_of (drop (at + 1) text)) = omega arith in n)
