-- The lines of a list, one by one.
use Rattle.std.proofs.Common.{◌≡◌, ℕ, ◌+◌, List, ◌∷◌, ◌++◌, sym, ap, ◌∙◌, append_assoc}
use Rattle.dump_spec.specs.Lines.{listed_line, listed_lines}
use Rattle.dump_spec.specs.Volumes.{Volume}

-- the line of the next volume, and the text behind it
pub list_parts : (of : ℕ → ℕ) (table given number : ℕ) (volume : Volume) (all more : List Volume) (line end : List ℕ) →
    line ≡ listed_line of table number volume → number ≡ given + 1 → all ≡ volume ∷ more →
    line ++ (listed_lines of table (number + 1) more ++ end) ≡ listed_lines of table (given + 1) all ++ end
list_parts of table given number volume all more line end is at behind =
    ap (λ (l : List ℕ). l ++ (listed_lines of table (number + 1) more ++ end)) (is ∙ ap (λ n. listed_line of table n volume) at)
    ∙ ap (λ (n : ℕ). listed_line of table (given + 1) volume ++ (listed_lines of table (n + 1) more ++ end)) at
    ∙ sym (append_assoc (listed_line of table (given + 1) volume) (listed_lines of table (given + 1 + 1) more) end)
    ∙ ap (λ (vs : List Volume). listed_lines of table (given + 1) vs ++ end) (sym behind)
