use Rattle.std.proofs.Common.{◌≡◌, ◌++◌, ℕ, List, [], ◌∷◌, length, decimal, codes, arith, refl, sym, rules, ap, ◌∙◌}
use Rattle.std.proofs.lemmas.List.{append_assoc}
use Rattle.file_hints.specs.Errors.{error_name}
use Rattle.file_hints.specs.Lines.{called, error_words}
use Rattle.file_hints.proofs.lines.push_error.Goals as goal

unnamed : (name : List ℕ) (number : ℕ) → length name ≡ 0 → called name number ≡ codes "system error " ++ decimal number
unnamed [] number none = refl
unnamed (byte ∷ name) number none = absurd (omega (arith, none))

told : (line begun new words : List ℕ) (n m : ℕ) → begun ≡ line ++ codes "system error " → new ≡ begun ++ decimal m → m ≡ n →
    words ≡ codes "system error " ++ decimal n → new ≡ line ++ words
told line begun new words n m is number equal same =
    number ∙ ap (λ x. x ++ decimal m) is ∙ append_assoc line (codes "system error ") (decimal m)
    ∙ ap (λ x. line ++ (codes "system error " ++ decimal x)) equal ∙ ap (λ x. line ++ x) (sym same)

pub returns-then-is_empty-clause-words : goal.returns-then-is_empty-clause-words
returns-then-is_empty-clause-words c =
    let none : length c.error_name-name.result.now ≡ 0 = search rules in
    let name = c.error_name-name.ensures.name in
    let text : error_words c.args.number ≡ codes "system error " ++ decimal c.args.number =
    unnamed (error_name c.args.number) c.args.number (rw name at none) in
    told c.args.line.now c.push.new.self c.push_number.new.self (error_words c.args.number) c.args.number c.from.result c.push.ensures
    c.push_number.ensures.number c.from.ensures text
