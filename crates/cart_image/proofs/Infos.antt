-- What a look at the head of a file finds.
use Rattle.std.proofs.Common.{◌≡◌, ◌≢◌, ℕ, ◌-◌, min, List, length, take, drop, refl, sym, ◌∙◌, ap, arith, Option, Some, None, IfSome, subst}
use Rattle.std.proofs.lemmas.List.{take_all}
use Rattle.cart_image.specs.declared.layout.Head.{Head}
use Rattle.cart_image.specs.Image.{head_by, head_of}
use Rattle.cart_image.specs.Whole.{IsHeadIn, head-parts, head_of-parts}
use Rattle.cart_image.proofs.Exits.{told-fact}

pub head-told : (told t1 : Option (List ℕ)) (len count : ℕ) (head : List ℕ) (found : Option Head) → t1 ≡ told → count ≡ 24 →
    length head ≡ 24
    → IfSome told (λ b. take count head ≡ take count (drop 0 b)) → IfSome t1 (λ b. len ≡ length b) → found ≡ head_by len head →
    IfSome told (λ b. found ≡ head_of b)
unfolding head_of
head-told None t1 len count head found same full long given length_is is = tt
head-told (Some b) t1 len count head found same full long given length_is is =
    let n : len ≡ length b = told-fact t1 (λ c. len ≡ length c) b same length_is in
    let h : head ≡ take 24 b = sym (take_all 24 head (omega arith)) ∙ subst (λ (n : ℕ). take n head ≡ take n b) full given in
    is ∙ ap (λ x. head_by x head) n ∙ ap (head_by (length b)) h

pub head-short : (told : Option (List ℕ)) (count : ℕ) → count ≢ 24 → IfSome told (λ b. count ≡ min 24 (length b - 0)) →
    IfSome told (λ b. None ≡ head_of b)
head-short None count short amount = tt
head-short (Some b) count short amount = by_head (head_of b) refl
  where
    by_head : (o : Option Head) → head_of b ≡ o → None ≡ o
    by_head None is = refl
    by_head (Some h) is =
        let p = (head_of-parts b h is).fits in
        let least = p.shortest in
        let long = p.long in
        absurd (short (omega arith))

pub head-fits : (len seen : ℕ) (head : List ℕ) (found : Option Head) → seen ≡ len → found ≡ head_by len head →
    IfSome found (λ h. IsHeadIn seen h)
head-fits len seen head None same is = tt
head-fits len seen head (Some h) same is =
    let p = (head-parts len head h (sym is)).fits in
    let long = p.long in
    record { shortest = p.shortest; longest = p.longest; long = omega arith }
