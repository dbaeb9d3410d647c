-- What commands print that print all once they are done, or a front of it.
use Rattle.std.proofs.Common.{◌≡◌, ◌++◌, ◌∙◌, ℕ, List, [], false, ap, append-nil, append_assoc, refl, subst, sym}
use Rattle.command_laws.specs.CommandRecord.{TextLaws, is_unsound}
use Rattle.command_spec.specs.declared.status.Status.{Status}

module _ (prints : List ℕ → Type 0) where
  -- a front of a text
  abbrev pub Fronts : List ℕ → Type 0
  Fronts text = (rest : List ℕ) × prints (text ++ rest)

  -- what one prints that was refused is a front, too
  pub fronted : (refused : Status → List ℕ → Type 0) (text : List ℕ) → prints text →
      ((answer : Status) → is_unsound answer ≡ false → refused answer []) →
      ((answer : Status) (front : List ℕ) → refused answer front → Fronts front) → TextLaws prints Fronts refused
  fronted refused text is none each = record {
    none_printed = none;
    nothing_front = (text, is);
    text_front = λ whole all. ([], subst prints (sym (append-nil whole)) all);
    shorter_front = λ front rest whole parts all. (
      rest ++ all.0,
      subst prints (ap (λ (xs : List ℕ). xs ++ all.0) (sym parts) ∙ append_assoc front rest all.0) all.1,
    );
    refused_front = each;
  }

  -- nothing is printed where it was refused
  pub plain_texts : (text : List ℕ) → prints text → TextLaws prints Fronts (λ answer shown. shown ≡ [])
  plain_texts text is = fronted (λ answer shown. shown ≡ []) text is (λ answer other. refl)
      (λ answer front none. subst Fronts (sym none) (text, is))
