-- Lines and their newlines.
use Rattle.std.proofs.Common.{ℕ, suc, List, ◌∷◌, arith, ◌≡◌, [], ◌++◌, refl, sym, zero, codes}
use Rattle.qic_base.specs.LineBytes.{NoNewline}
use Rattle.qic_base.proofs.LineBytes.{NoNewline-tail, NoNewline-head}

head_is : (x y : ℕ) (xs ys : List ℕ) → x ∷ xs ≡ y ∷ ys → x ≡ y
head_is x y xs ys e = cc

tail_is : (x y : ℕ) (xs ys : List ℕ) → x ∷ xs ≡ y ∷ ys → xs ≡ ys
tail_is x y xs ys e = cc

-- the bytes before the first newline are unique
pub one_before : (xs ys more rest : List ℕ) → NoNewline xs → NoNewline ys → xs ++ 0x0A ∷ more ≡ ys ++ 0x0A ∷ rest → xs ≡ ys
one_before [] [] more rest a b e = refl
one_before [] (y ∷ ys) more rest a b e = absurd (NoNewline-head y ys b (sym (head_is 0x0A y more (ys ++ 0x0A ∷ rest) e)))
one_before (x ∷ xs) [] more rest a b e = absurd (NoNewline-head x xs a (head_is x 0x0A (xs ++ 0x0A ∷ more) rest e))
one_before (x ∷ xs) (y ∷ ys) more rest a b e =
    let same : xs ≡ ys = one_before xs ys more rest (NoNewline-tail x xs a) (NoNewline-tail y ys b)
    (tail_is x y (xs ++ 0x0A ∷ more) (ys ++ 0x0A ∷ rest) e) in
    let first : x ≡ y = head_is x y (xs ++ 0x0A ∷ more) (ys ++ 0x0A ∷ rest) e in cc

-- the line `end`
pub end_no_newline : NoNewline (codes "end")
end_no_newline zero d here = λ e. cc
end_no_newline (suc zero) d here = λ e. cc
end_no_newline (suc (suc zero)) d here = λ e. cc
end_no_newline (suc (suc (suc k))) d here = absurd (omega arith)
