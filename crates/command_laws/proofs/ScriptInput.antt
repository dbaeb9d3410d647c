-- The lines of a script, and what is no item.
use Rattle.std.proofs.Common.{◌≡◌, ℕ, List, [], ◌∷◌, ◌++◌, sym, ap, ◌∙◌, subst, append_assoc}
use Rattle.std.proofs.lemmas.List.{append_cancel_left}
use Rattle.command_laws.proofs.TextLined.{one_before}
use Rattle.command_laws.proofs.TextLines.{one_line}
use Rattle.command_laws.specs.Inputs.{IsLine, words_of}
use Rattle.command_spec.specs.Input.{EndsEarly, IsLineText}
use Rattle.command_spec.specs.declared.line.Line.{Line}
use Rattle.command_laws.proofs.TextInputs.{SameItem}
use Rattle.command_spec.specs.declared.line.Line.TheVariants as line

-- ---- one line begins the input

pub same_line : (a b r q : List ℕ) (x y : Line) → IsLineText a x → IsLineText b y → a ++ r ≡ b ++ q → SameItem a b r q x y
same_line a b r q x y first second e =
    let before : first.before ≡ second.before =
    one_before first.before second.before r q first.one_line second.one_line
    (sym (ap (λ t. t ++ r) first.whole ∙ append_assoc first.before (0x0A ∷ []) r) ∙ e ∙ ap (λ t. t ++ q) second.whole
    ∙ append_assoc second.before (0x0A ∷ []) q) in
    let same : a ≡ b = first.whole ∙ ap (λ t. t ++ 0x0A ∷ []) before ∙ sym second.whole in
    let P : List ℕ → Type 0 = λ t. IsLine t y in
    let here : IsLine first.before y = subst P (sym before) second.has in
    record {
      texts = same;
      rests = append_cancel_left a r q (e ∙ ap (λ t. t ++ q) (sym same));
      items = one_line (words_of first.before) x y first.has here;
    }

-- how an append's line begins them is one thing
pub early_lines : (rest : List ℕ) (x y : EndsEarly rest) →
    SameItem x.text y.text x.bytes y.bytes (line.Append x.name x.promised x.date) (line.Append y.name y.promised y.date)
early_lines rest x y = same_line x.text y.text x.bytes y.bytes (line.Append x.name x.promised x.date)
    (line.Append y.name y.promised y.date) x.lined y.lined (sym x.parts ∙ y.parts)
