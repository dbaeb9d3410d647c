-- The steps of a run, part by part.
use Rattle.std.proofs.Common.{◌≡◌, ℕ, zero, suc, ◌+◌, List, [], ◌∷◌, ◌++◌, length, refl, arith, Bool, true, false, cond, ap, ◌∙◌, ◌%◌, ◌==◌}
use Rattle.cartridge_spec.specs.Table.{Entry}
use Rattle.cartridge_spec.specs.Volumes.{carrying_segments}
use Rattle.command_laws.proofs.MadeMachineLaws.{after_items-append}
use Rattle.command_laws.specs.MadeTerms.{made_entry, first_two, after_items, wearing}
use Rattle.command_spec.specs.Make.{appending, MakeStep, wearing_in, wearing_volumes}

pub length-made : (seed : ℕ) (words : List ℕ) (es : List Entry) (v n : ℕ) →
    length (after_items seed words es (appending v n)) ≡ length es + n
length-made seed words es v zero = omega arith
length-made seed words es v (suc n) =
    let e : Entry = made_entry seed words es v in
    let one : length (es ++ e ∷ []) ≡ length es + 1 = one_longer es e in
    let rest : length (after_items seed words (es ++ e ∷ []) (appending (v + 1) n)) ≡ length (es ++ e ∷ []) + n =
    length-made seed words (es ++ e ∷ []) (v + 1) n in
    omega arith
  where
    one_longer : (xs : List Entry) (x : Entry) → length (xs ++ x ∷ []) ≡ length xs + 1
    one_longer [] x = refl
    one_longer (y ∷ xs) x = let more = one_longer xs x in omega arith

-- ---- steps that leave the list

pub after_wearing : (seed : ℕ) (words : List ℕ) (es : List Entry) (segment : ℕ) (sectors : List ℕ) →
    after_items seed words es (wearing segment sectors) ≡ es
after_wearing seed words es segment [] = refl
after_wearing seed words es segment (sector ∷ sectors) = after_wearing seed words es segment sectors

after_if : (seed : ℕ) (words : List ℕ) (es : List Entry) (items : List MakeStep) (due : Bool) → after_items seed words es items ≡ es →
    after_items seed words es (cond due items []) ≡ es
after_if seed words es items true kept = kept
after_if seed words es items false kept = refl

after_both : (seed : ℕ) (words : List ℕ) (es : List Entry) (xs ys : List MakeStep) → after_items seed words es xs ≡ es →
    after_items seed words es ys ≡ es →
    after_items seed words es (xs ++ ys) ≡ es
after_both seed words es xs ys one other =
    after_items-append seed words es xs ys ∙ ap (λ (now : List Entry). after_items seed words now ys) one ∙ other

pub after_wearing_in : (seed : ℕ) (words : List ℕ) (es : List Entry) (segments : List ℕ) →
    after_items seed words es (wearing_in words segments) ≡ es
after_wearing_in seed words es [] = refl
after_wearing_in seed words es (s ∷ ss) =
    after_both seed words es (cond (s % 100 == 0) (wearing s (first_two words s)) []) (wearing_in words ss)
    (after_if seed words es (wearing s (first_two words s)) (s % 100 == 0) (after_wearing seed words es s (first_two words s)))
    (after_wearing_in seed words es ss)

pub after_wearing_volumes : (seed : ℕ) (words : List ℕ) (es some : List Entry) → after_items seed words es (wearing_volumes words some) ≡ es
after_wearing_volumes seed words es [] = refl
after_wearing_volumes seed words es (e ∷ some) =
    after_both seed words es (wearing_in words (carrying_segments words e)) (wearing_volumes words some)
    (after_wearing_in seed words es (carrying_segments words e)) (after_wearing_volumes seed words es some)
