-- How texts that were written one after the other join.
use Rattle.std.proofs.Common.{◌≡◌, ◌≢◌, ℕ, List, [], ◌∷◌, ◌++◌, refl, sym, ap, ◌∙◌, arith, append_assoc}
use Rattle.qic_base.specs.Sink.{Meaning, Wrote}
use Rattle.qic_base.specs.SinkCalls.{BrokeOff}
use Rattle.qic_base.proofs.Steps.{Rose-after}

-- two lists taken one after the other are taken as one
abbrev pub TakesBoth : {K : Type 0} → Meaning K → Type 0
TakesBoth {K} m = (a b c : K) (xs ys : List ℕ) → m.took a xs b → m.took b ys c → m.took a (xs ++ ys) c

pub Wrote-Wrote : {K : Type 0} {m : Meaning K} {a b c : K} {xs ys : List ℕ} → TakesBoth m → Wrote m a b xs → Wrote m b c ys →
    Wrote m a c (xs ++ ys)
Wrote-Wrote {a = a} {b = b} {c = c} {xs = xs} {ys = ys} both first next = record {
  took = both a b c xs ys first.took next.took;
  later = let e = first.later in let f = next.later in omega arith;
}

pub Wrote-BrokeOff : {K : Type 0} {m : Meaning K} {a b c : K} {xs ys : List ℕ} → TakesBoth m → Wrote m a b xs → BrokeOff m b c ys →
    BrokeOff m a c (xs ++ ys)
Wrote-BrokeOff {m = m} {a = a} {b = b} {c = c} {xs = xs} both first next = record {
  front = xs ++ next.front;
  rest = next.rest;
  parts = append_assoc xs next.front next.rest ∙ ap (λ ys. xs ++ ys) next.parts;
  some = next.some;
  took = both a b c xs next.front first.took next.took;
  cause = Rose-after (m.faults a) (m.faults b) (m.faults c) first.later next.cause;
  later = let e = first.later in let f = next.later in omega arith;
}

pub some_longer : (xs ys : List ℕ) → xs ≢ [] → xs ++ ys ≢ []
some_longer [] ys some none = some refl
some_longer (x ∷ xs) ys some none = absurd (cc)

-- what broke off a text broke off a longer one
pub BrokeOff-longer : {K : Type 0} {m : Meaning K} {a b : K} {xs : List ℕ} (ys text : List ℕ) → xs ++ ys ≡ text → BrokeOff m a b xs →
    BrokeOff m a b text
BrokeOff-longer ys text parts broke = record {
  front = broke.front;
  rest = broke.rest ++ ys;
  parts = sym (append_assoc broke.front broke.rest ys) ∙ ap (λ xs. xs ++ ys) broke.parts ∙ parts;
  some = some_longer broke.rest ys broke.some;
  took = broke.took;
  cause = broke.cause;
  later = broke.later;
}
