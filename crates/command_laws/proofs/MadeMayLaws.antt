-- What steps may print and answer over any tape, one after the other.
use Rattle.std.proofs.Common.{inl, inr, ℕ, List, [], ◌∷◌, ◌++◌, refl, sym, ap, ◌∙◌, subst, append_assoc, ◌≢◌, append-nil, ◌≡◌}
use Rattle.cartridge_spec.specs.Table.{Entry}
use Rattle.command_laws.proofs.MadeMachineLaws.{done_or_not}
use Rattle.command_spec.specs.Make.{MakeStep, AppendMade, after_item, MayRun, MayDo}
use Rattle.command_laws.specs.MadeTerms.{IsAppendAnswer, after_items}
use Rattle.command_spec.specs.declared.status.Status.{Status}
use Rattle.command_spec.specs.declared.status.Status.TheVariants as status

pub may_both : (seed : ℕ) (words : List ℕ) (es : List Entry) (xs ys : List MakeStep) (a b : List ℕ) (y : Status) →
    MayRun seed words es xs a status.Done → MayRun seed words (after_items seed words es xs) ys b y →
    MayRun seed words es (xs ++ ys) (a ++ b) y
may_both seed words es [] ys a b y (none, done) behind =
    subst (λ (text : List ℕ). MayRun seed words es ys (text ++ b) y) (sym none) behind
may_both seed words es (x ∷ xs) ys a b y (inl (other, does)) behind = absurd (other refl)
may_both seed words es (x ∷ xs) ys a b y (inr (first, rest, parts, does, more)) behind =
    inr (
      first,
      rest ++ b,
      sym (append_assoc first rest b) ∙ ap (λ (text : List ℕ). text ++ b) parts,
      does,
      may_both seed words (after_item seed words es x) xs ys rest b y more behind,
    )

pub may_longer : (seed : ℕ) (words : List ℕ) (es : List Entry) (xs ys : List MakeStep) (a : List ℕ) (x : Status) → x ≢ status.Done →
    MayRun seed words es xs a x → MayRun seed words es (xs ++ ys) a x
may_longer seed words es [] ys a x other (none, done) = absurd (other done)
may_longer seed words es (item ∷ xs) ys a x other (inl refused) = inl refused
may_longer seed words es (item ∷ xs) ys a x other (inr (first, rest, parts, does, more)) =
    inr (first, rest, parts, does, may_longer seed words (after_item seed words es item) xs ys rest x other more)

pub may_append : (seed : ℕ) (words : List ℕ) (es : List Entry) (volume : ℕ) (text : List ℕ) (answer : Status) → text ≡ [] →
    IsAppendAnswer seed words es volume answer →
    MayDo seed words es (AppendMade volume) text answer
may_append seed words es volume text status.Protected none may = none
may_append seed words es volume text status.TableMismatch none may = none
may_append seed words es volume text answer none may = (none, may)

pub may_of : (seed : ℕ) (words : List ℕ) (es : List Entry) (item : MakeStep) (a : List ℕ) (x : Status) →
    MayDo seed words es item a x → MayRun seed words es (item ∷ []) a x
may_of seed words es item a x does = elim (done_or_not x) [
  | inl done ↦ inr (a, [], append-nil a, subst (MayDo seed words es item a) done does, (refl, done))
  | inr other ↦ inl (other, does)
]

pub may_done : (seed : ℕ) (words : List ℕ) (es : List Entry) (item : MakeStep) (a : List ℕ) (x : Status) →
    MayRun seed words es (item ∷ []) a x → MayDo seed words es item a x
may_done seed words es item a x (inl refused) = refused.1
may_done seed words es item a x (inr (first, rest, parts, does, behind)) =
    let all : first ≡ a = sym (append-nil first) ∙ ap (λ (text : List ℕ). first ++ text) (sym behind.0) ∙ parts in
    subst (λ (y : Status). MayDo seed words es item a y) (sym behind.1)
    (subst (λ (text : List ℕ). MayDo seed words es item text status.Done) all does)
