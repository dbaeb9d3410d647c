-- What a source gave that was lent as many bytes as were promised.
use Rattle.std.proofs.Common.{◌≡◌, ℕ, ◌+◌, List, ◌++◌, Option, Some, None, refl, sym, ap, ◌-◌, length, take, ◌∙◌, ◌≤◌, drop, arith, IfSome}
use Rattle.std.proofs.Common.{◌<◌, [], append-nil, subst}
use Rattle.std.specs.Option.{option_map}
use Rattle.std.proofs.Math.Seq.{drop-length, take-append_seam}
use Rattle.std.proofs.lemmas.List.{length-append, length-take, length-drop, take_all, drop-take}
use Rattle.qic_base.specs.Source.{IsInput}

-- a source that tells nothing tells nothing later
untold : (p : Option (List ℕ)) (given : List ℕ) → None ≡ option_map (λ rest. given ++ rest) p → p ≡ None
untold None given is = refl
untold (Some rest) given is = absurd (cc)

gives_untold : (p : Option (List ℕ)) (given bytes : List ℕ) → None ≡ option_map (λ rest. given ++ rest) p →
    None ≡ option_map (λ rest. bytes ++ rest) p
gives_untold p given bytes is = sym (ap (option_map (λ rest. bytes ++ rest)) (untold p given is))

-- the front of a list of bytes that are there is what was given
front_given : (all rest given : List ℕ) (n : ℕ) → all ≡ given ++ rest → length given ≡ n → take n all ≡ given
front_given all rest given n is long = ap (take n) is ∙ ap (λ (k : ℕ). take k (given ++ rest)) (sym long) ∙ take-append_seam given rest

-- ---- all of them

told_all : (all rest given input : List ℕ) (n count left : ℕ) → all ≡ given ++ rest → length given ≡ count → n ≡ left + count →
    input ≡ take n all → n ≤ length input →
    take left rest ≡ drop n (take n all) → all ≡ take n input ++ rest
told_all all rest given input n count left is long limit told enough after =
    let sizes = length-take n all in
    let all_long : n ≤ length all = (let e = ap length told in omega arith) in
    let none : length (drop n (take n all)) ≡ 0 = (let d = length-drop n (take n all) in omega arith) in
    let rest_taken = length-take left rest in
    let parts = ap length is in
    let both = length-append given rest in
    let nothing : left ≡ 0 = (let e = ap length after in omega arith) in
    let whole : length given ≡ n = omega arith in
    let front : take n all ≡ given = front_given all rest given n is whole in
    let same : take n input ≡ given = ap (take n) told ∙ take_all n (take n all) (omega arith) ∙ front in
    is ∙ ap (λ (bs : List ℕ). bs ++ rest) (sym same)

pub gave_all : (o p : Option (List ℕ)) (given input : List ℕ) (n count left : ℕ) → o ≡ option_map (λ rest. given ++ rest) p →
    length given ≡ count → n ≡ left + count →
    IsInput (option_map (take n) o) input → n ≤ length input → option_map (take left) p ≡ option_map (drop n) (option_map (take n) o) →
    o ≡ option_map (λ rest. take n input ++ rest) p
gave_all None p given input n count left is long limit told enough after = gives_untold p given (take n input) is
gave_all (Some all) None given input n count left is long limit told enough after = absurd (cc)
gave_all (Some all) (Some rest) given input n count left is long limit told enough after =
    let parts : all ≡ given ++ rest = cc in
    let later : take left rest ≡ drop n (take n all) = cc in
    ap (λ (bs : List ℕ). Some bs) (told_all all rest given input n count left parts long limit told enough later)

-- ---- fewer

-- where the source ended before, it gave what it had
told_short : (all rest given input : List ℕ) (n count left : ℕ) → all ≡ given ++ rest → length given ≡ count → n ≡ left + count →
    input ≡ take n all → length input < n →
    take left rest ≡ drop (length input) (take n all) → (all ≡ input ++ rest) × (rest ≡ [])
told_short all rest given input n count left is long limit told short after =
    let sizes = length-take n all in
    let few : length all < n = (let e = ap length told in omega arith) in
    let parts = ap length is in
    let both = length-append given rest in
    let same : input ≡ all = told ∙ take_all n all (omega arith) in
    let empty : rest ≡ [] =
    sym (take_all left rest (omega arith)) ∙ after ∙ ap (drop (length input)) (sym told) ∙ drop-length input in
    (sym same ∙ sym (append-nil input) ∙ ap (λ (bs : List ℕ). input ++ bs) (sym empty), empty)

pub record GaveFew (o p : Option (List ℕ)) (input : List ℕ) : Type 0 where
  pub gave : o ≡ option_map (λ rest. input ++ rest) p
  pub ended : IfSome p (λ bytes. bytes ≡ [])

pub gave_few : (o p : Option (List ℕ)) (given input : List ℕ) (n count left : ℕ) → o ≡ option_map (λ rest. given ++ rest) p →
    length given ≡ count → n ≡ left + count →
    IsInput (option_map (take n) o) input → length input < n → option_map (take left) p ≡ option_map (drop (length input))
    (option_map (take n) o) → GaveFew o p input
gave_few None p given input n count left is long limit told short after =
    record {
      gave = gives_untold p given input is;
      ended = subst (λ (q : Option (List ℕ)). IfSome q (λ bytes. bytes ≡ []))
          (sym (untold p given is)) tt;
    }
gave_few (Some all) None given input n count left is long limit told short after = absurd (cc)
gave_few (Some all) (Some rest) given input n count left is long limit told short after =
    let parts : all ≡ given ++ rest = cc in
    let later : take left rest ≡ drop (length input) (take n all) = cc in
    let both = told_short all rest given input n count left parts long limit told short later in
    record { gave = ap (λ (bs : List ℕ). Some bs) both.0; ended = both.1 }

-- ---- whatever is left

-- What the source tells, or this input where it tells nothing; of as many bytes as were promised they are alike.
pub record Behind (o : Option (List ℕ)) (n : ℕ) (input : List ℕ) : Type 0 where
  pub rest : List ℕ
  pub told : IfSome o (λ bytes. bytes ≡ rest)
  pub front : take n rest ≡ take n input
  pub enough : n ≤ length rest → n ≤ length input
  pub few : length rest < n → input ≡ rest

pub behind : (o : Option (List ℕ)) (n : ℕ) (input : List ℕ) → IsInput (option_map (take n) o) input → Behind o n input
behind None n input told = record { rest = input; told = tt; front = refl; enough = λ e. e; few = λ e. refl }
behind (Some all) n input told = record {
  rest = all;
  told = refl;
  front = sym (ap (take n) told ∙ take_all n (take n all) (let l = length-take n all in omega arith));
  enough = λ e. (let l = length-take n all in let m = ap length told in omega arith);
  few = λ e. told ∙ take_all n all (omega arith);
}

-- ---- one read of a limited source

pub limited_left : (n l : ℕ) (o p : Option (List ℕ)) → n ≤ l → p ≡ option_map (drop n) o → option_map (take (l - n)) p ≡ option_map (drop n)
    (option_map (take l) o)
limited_left n l None p within is = ap (option_map (take (l - n))) is
limited_left n l (Some bytes) p within is =
    let parts : n + (l - n) ≡ l = omega arith in
    ap (option_map (take (l - n))) is ∙ ap (λ (bs : List ℕ). Some bs)
    (sym (drop-take n (l - n) bytes) ∙ ap (λ (m : ℕ). drop n (take m bytes)) parts)
