-- Fronts of acts.
use Rattle.std.proofs.Common.{◌≡◌, List, ◌∷◌, ◌++◌, ◌⊎◌, inl, inr, [], refl, ap, ◌∙◌, ◌≢◌, ◌≤◌, length, arith, sym}
use Rattle.std.proofs.lemmas.List.{length-append}
use Rattle.qic_base.proofs.Joins.{steps_of-append}
use Rattle.qic_base.specs.Acts.{Act, steps_of}
use Rattle.qic_base.specs.Step.{Step}

-- a front of two lists of acts ends within the first of them, ..
pub record Within (front rest acts more : List Act) : Type 0 where
  pub act : Act
  pub behind : List Act
  pub whole : front ++ act ∷ behind ≡ acts
  pub rest_is : rest ≡ act ∷ (behind ++ more)

-- .. or has all of it
pub record Past (front rest acts more : List Act) : Type 0 where
  pub next : List Act
  pub front_is : front ≡ acts ++ next
  pub parts : next ++ rest ≡ more

pub ends_in : (front rest acts more : List Act) → front ++ rest ≡ acts ++ more → Within front rest acts more ⊎ Past front rest acts more
ends_in front rest [] more e = inr (record { next = front; front_is = refl; parts = e })
ends_in [] rest (a ∷ acts) more e = inl (record { act = a; behind = acts; whole = refl; rest_is = e })
ends_in (x ∷ front) rest (a ∷ acts) more e =
    let head : x ≡ a = cc in
    let tail : front ++ rest ≡ acts ++ more = cc in
    elim (ends_in front rest acts more tail) [
      | inl w ↦ inl (record {
        act = w.act;
        behind = w.behind;
        whole = ap (λ (xs : List Act). x ∷ xs) w.whole ∙ ap (λ (y : Act). y ∷ acts) head;
        rest_is = w.rest_is;
      })
      | inr p ↦ inr (record {
        next = p.next;
        front_is = ap (λ (xs : List Act). x ∷ xs) p.front_is ∙ ap (λ (y : Act). y ∷ (acts ++ p.next)) head;
        parts = p.parts;
      })
    ]

-- a front of acts and one more, but for all of these, is one of the acts
pub front_within : (front rest acts entry : List Act) → front ++ rest ≡ acts ++ entry → length entry ≤ 1 → (rest ≢ []) ⊎ (entry ≡ []) →
    (more : List Act) × (front ++ more ≡ acts)
front_within [] rest acts entry e short none = (acts, refl)
front_within (x ∷ front) rest [] entry e short (inr is) = absurd (let none : x ∷ (front ++ rest) ≡ [] = e ∙ is in cc)
front_within (x ∷ front) [] [] entry e short (inl none) = absurd (none refl)
front_within (x ∷ front) (r ∷ rest) [] entry e short (inl none) =
    let long : length (x ∷ (front ++ r ∷ rest)) ≡ length entry = ap (λ (xs : List Act). length xs) e in
    absurd (omega (arith, length-append front (r ∷ rest)))
front_within (x ∷ front) rest (a ∷ acts) entry e short none =
    let head : x ≡ a = cc in
    let tail : front ++ rest ≡ acts ++ entry = cc in
    let next = front_within front rest acts entry tail short none in
    (next.0, ap (λ (xs : List Act). x ∷ xs) next.1 ∙ ap (λ (y : Act). y ∷ acts) head)

pub no_nil : (x : Act) (xs : List Act) → x ∷ xs ≢ []
no_nil x xs e = absurd (cc)

pub no_first : (xs ys : List Step) → xs ++ ys ≡ [] → xs ≡ []
no_first [] ys none = refl
no_first (x ∷ xs) ys none = absurd (cc)

-- a front of acts that take no step takes none
pub front_still : (front rest acts : List Act) → front ++ rest ≡ acts → steps_of acts ≡ [] → steps_of front ≡ []
front_still front rest acts parts none = no_first (steps_of front) (steps_of rest)
    (sym (steps_of-append front rest) ∙ ap steps_of parts ∙ none)
