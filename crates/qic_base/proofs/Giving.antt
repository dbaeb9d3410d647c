-- What a source gave, call after call.
use Rattle.std.proofs.Common.{◌≡◌, ℕ, ◌+◌, List, [], ◌++◌, Option, Some, None, refl, sym, ◌∙◌, ap, append_assoc, append-nil, IfSome, take}
use Rattle.std.proofs.Common.{drop, ◌≤◌, length, arith}
use Rattle.std.specs.Option.{option_map}
use Rattle.std.proofs.lemmas.List.{take-append-drop, length-take-le}
use Rattle.qic_base.specs.Source.{Meaning}
use Rattle.qic_base.specs.SourceCalls.{Gave, HasEnded, Gives, GaveSome, WereGiven, NoneLeft}
use Rattle.std.proofs.lemmas.List as lists

-- nothing was given where the bytes left are the same
same_option : (o : Option (List ℕ)) → o ≡ option_map (λ rest. [] ++ rest) o
same_option None = refl
same_option (Some bytes) = refl

pub Gave-nothing : {S : Type 0} (m : Meaning S) (a b : S) → m.left b ≡ m.left a → Gave m a b []
Gave-nothing m a b same = sym same ∙ same_option (m.left b)

-- bytes given one after the other are given as one list
pub WereGiven-both : (xs ys : List ℕ) (o p q : Option (List ℕ)) → WereGiven o p xs → WereGiven p q ys → WereGiven o q (xs ++ ys)
WereGiven-both xs ys o p None first next = first ∙ ap (option_map (λ rest. xs ++ rest)) next
WereGiven-both xs ys o p (Some bytes) first next =
    first ∙ ap (option_map (λ rest. xs ++ rest)) next ∙ ap (λ (text : List ℕ). Some text) (sym (append_assoc xs ys bytes))

pub Gave-Gave : {S : Type 0} (m : Meaning S) (a b c : S) (xs ys : List ℕ) → Gave m a b xs → Gave m b c ys → Gave m a c (xs ++ ys)
Gave-Gave m a b c xs ys first next = WereGiven-both xs ys (m.left a) (m.left b) (m.left c) first next

pub Gave-end : {S : Type 0} (m : Meaning S) (a b c : S) (xs : List ℕ) → Gave m a b xs → Gave m b c [] → Gave m a c xs
Gave-end m a b c xs first next = rw append-nil at (Gave-Gave m a b c xs [] first next)

-- what is left at the end of a source is nothing also behind it
pub NoneLeft-now : (o p : Option (List ℕ)) → NoneLeft o → WereGiven o p [] → NoneLeft p
NoneLeft-now o None ended same = tt
NoneLeft-now o (Some bytes) ended same = rw same at ended

pub HasEnded-Gave : {S : Type 0} (m : Meaning S) (a b : S) → HasEnded m a → Gave m a b [] → HasEnded m b
HasEnded-Gave m a b ended same = NoneLeft-now (m.left a) (m.left b) ended same

-- what one read gave
read_option : (o p : Option (List ℕ)) (into : List ℕ) (n : ℕ) → IfSome o (λ bytes. Gives bytes into n) → p ≡ option_map (drop n) o →
    o ≡ option_map (λ rest. take n into ++ rest) p
read_option None p into n gives left = sym (ap (option_map (λ rest. take n into ++ rest)) left)
read_option (Some bytes) p into n gives left =
    sym (ap (option_map (λ rest. take n into ++ rest)) left
    ∙ ap (λ (text : List ℕ). Some text) (ap (λ front. front ++ drop n bytes) gives.front ∙ take-append-drop n bytes))

pub Gave-read : {S : Type 0} (m : Meaning S) (a b : S) (into : List ℕ) (n : ℕ) → IfSome (m.left a) (λ bytes. Gives bytes into n) →
    m.left b ≡ option_map (drop n) (m.left a) → Gave m a b (take n into)
Gave-read m a b into n gives left = read_option (m.left a) (m.left b) into n gives left

-- some bytes, and a read's
pub GaveSome-read : {S : Type 0} (m : Meaning S) (a b c : S) (into : List ℕ) (k n s : ℕ) → GaveSome m a b k →
    IfSome (m.left b) (λ bytes. Gives bytes into n) → m.left c ≡ option_map (drop n) (m.left b) → n ≤ length into → s ≡ k + n →
    GaveSome m a c s
GaveSome-read m a b c into k n s some gives left within sum = (
  some.0 ++ take n into,
  (let l = lists.length-append some.0 (take n into) in omega (arith, length-take-le n into within, some.1)),
  Gave-Gave m a b c some.0 (take n into) some.2 (Gave-read m b c into n gives left),
)

pub GaveSome-same : {S : Type 0} (m : Meaning S) (a b c : S) (k : ℕ) → GaveSome m a b k → m.left c ≡ m.left b → GaveSome m a c k
GaveSome-same m a b c k some same = (some.0, some.1, Gave-end m a b c some.0 some.2 (Gave-nothing m b c same))
