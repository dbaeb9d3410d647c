-- How what several calls did to a tape joins: calls one after the other are one list of steps.
use Rattle.std.proofs.Common.{◌≡◌, ℕ, ◌⊎◌, inl, inr, true, List, [], ◌∷◌, ◌++◌, refl, sym, ◌∙◌, ap, arith, Option, Some, None, is_some}
use Rattle.std.proofs.Common.{IfSome, subst, Result, Ok, Err}
use Rattle.std.proofs.lemmas.Bool.{lt-ltb}
use Rattle.std.proofs.lemmas.List.{append-nil}
use Rattle.std.specs.Prelude.{nat_lt}
use Rattle.std.specs.Option.{option_map}
use Rattle.qic_base.specs.Tape.{Rose, Meaning, Stops, Done, Broke}
use Rattle.qic_base.specs.Cartridge.{Cartridge}
use Rattle.qic_base.specs.Step.{Step, effect, effects, Torn}
use Rattle.qic_base.specs.TapeCalls.{Tells, IsLeftNow, Does}

-- a rise in a part of a call, of which the rest left the count as it was, is a rise in the call
pub Rose-after : (a b c : ℕ) → b ≡ a → Rose b c → Rose a c
Rose-after a b c stood rose = omega arith

-- a count that rose is not 0
pub Rose-some : (before after : ℕ) → Rose before after → nat_lt 0 after ≡ true
Rose-some before after rose = lt-ltb 0 after (omega arith)

-- two lists of steps, one after the other, are one
pub effects-append : (xs ys : List Step) (held : Option Cartridge) → effects (xs ++ ys) held ≡ effects ys (effects xs held)
effects-append [] ys held = refl
effects-append (x ∷ xs) ys held = effects-append xs ys (effect x held)

option_map-effects-append : (xs ys : List Step) (told : Option (Option Cartridge)) →
    option_map (effects (xs ++ ys)) told ≡ option_map (effects ys) (option_map (effects xs) told)
option_map-effects-append xs ys None = refl
option_map-effects-append xs ys (Some held) = ap Some (effects-append xs ys held)

pub option_map-effects-none : (told : Option (Option Cartridge)) → option_map (effects []) told ≡ told
option_map-effects-none None = refl
option_map-effects-none (Some held) = refl

pub is_some-option_map : {A B : Type 0} (f : A → B) (o : Option A) → is_some (option_map f o) ≡ is_some o
is_some-option_map f None = refl
is_some-option_map f (Some x) = refl

-- a stop may come before the first step, ..
pub Torn-nothing : (ss : List Step) (held : Option Cartridge) → Torn ss held held
Torn-nothing [] held = refl
Torn-nothing (s ∷ ss) held = inl refl

-- .. and behind the last
pub Torn-all : (ss : List Step) (held : Option Cartridge) → Torn ss held (effects ss held)
Torn-all [] held = refl
Torn-all (s ∷ ss) held = inr (inr (Torn-all ss (effect s held)))

-- what a stop in a front of the steps leaves, a stop in all of them leaves
pub Torn-front : (xs ys : List Step) (held left : Option Cartridge) → Torn xs held left → Torn (xs ++ ys) held left
Torn-front [] ys held left torn = subst (λ (l : Option Cartridge). Torn ys held l) (sym torn) (Torn-nothing ys held)
Torn-front (x ∷ xs) ys held left (inl before) = inl before
Torn-front (x ∷ xs) ys held left (inr (inl inside)) = inr (inl inside)
Torn-front (x ∷ xs) ys held left (inr (inr behind)) = inr (inr (Torn-front xs ys (effect x held) left behind))

-- what a stop in the later steps leaves, a stop in all of them leaves
pub Torn-behind : (xs ys : List Step) (held left : Option Cartridge) → Torn ys (effects xs held) left → Torn (xs ++ ys) held left
Torn-behind [] ys held left torn = torn
Torn-behind (x ∷ xs) ys held left torn = inr (inr (Torn-behind xs ys (effect x held) left torn))

-- a stop in two lists of steps, one after the other, is a stop in the first or in the second
pub Torn-append : (xs ys : List Step) (held left : Option Cartridge) → Torn (xs ++ ys) held left → Torn xs held left
    ⊎ Torn ys (effects xs held) left
Torn-append [] ys held left torn = inr torn
Torn-append (x ∷ xs) ys held left (inl before) = inl (inl before)
Torn-append (x ∷ xs) ys held left (inr (inl inside)) = inl (inr (inl inside))
Torn-append (x ∷ xs) ys held left (inr (inr behind)) =
    elim (Torn-append xs ys (effect x held) left behind) [
      | inl front ↦ inl (inr (inr front))
      | inr rest ↦ inr rest
    ]

-- a call in which no time went by
pub Stops-nothing : {S : Type 0} (m : Meaning S) (s : S) → Stops m s s []
Stops-nothing m s = record {
  telling = refl;
  clock = omega arith;
  kept = λ t left early was. was;
  parted = λ t u left order early is. inl is;
  since = λ t held left told early is. inl is;
}

-- stops in one call and then in the next
pub Stops-Stops : {S : Type 0} {m : Meaning S} {a b c : S} {xs ys : List Step} → m.told b ≡ option_map (effects xs) (m.told a) →
    Stops m a b xs → Stops m b c ys → Stops m a c (xs ++ ys)
Stops-Stops {m = m} {a = a} {b = b} {c = c} {xs = xs} {ys = ys} done first next = record {
  telling = next.telling ∙ first.telling;
  clock = let e = first.clock in let f = next.clock in omega arith;
  kept = λ t left early was. next.kept t left (let e = first.clock in omega arith) (first.kept t left early was);
  parted = λ t u left order early is.
      elim (next.parted t u left order (let e = first.clock in omega arith) is) [
        | inl earlier ↦ elim (first.parted t u left order early earlier) [
          | inl was ↦ inl was
          | inr later ↦ inr (next.kept u left (let e = first.clock in omega arith) later)
        ]
        | inr later ↦ inr later
      ];
  since = λ t held left told early is.
      elim (next.since t (effects xs held) left (done ∙ ap (option_map (effects xs)) told) (let e = first.clock in omega arith) is) [
        | inl earlier ↦ elim (first.since t held left told early earlier) [
          | inl was ↦ inl was
          | inr torn ↦ inr (Torn-front xs ys held left torn)
        ]
        | inr torn ↦ inr (Torn-behind xs ys held left torn)
      ];
}

-- stops in a front of the steps are stops in all of them
pub Stops-front : {S : Type 0} {m : Meaning S} {a b : S} {xs : List Step} (ys : List Step) → Stops m a b xs → Stops m a b (xs ++ ys)
Stops-front {xs = xs} ys stops = record {
  telling = stops.telling;
  clock = stops.clock;
  kept = stops.kept;
  parted = stops.parted;
  since = λ t held left told early is. elim (stops.since t held left told early is) [
    | inl was ↦ inl was
    | inr torn ↦ inr (Torn-front xs ys held left torn)
  ];
}

-- what a stop since the first call's start might have left, where the tape tells its stops
pub Stops-left : {S : Type 0} {m : Meaning S} {a b : S} {xs : List Step} (held left : Option Cartridge) → IsLeftNow m a →
    m.tells_stops a ≡ true → m.told a ≡ Some held → Stops m a b xs → m.left_since b (m.moment a) left → Torn xs held left
Stops-left {m = m} {a = a} {b = b} {xs = xs} held left now telling told stops is =
    elim (stops.since (m.moment a) held left told (omega arith) is) [
      | inl was ↦
          let same : Some left ≡ Some held = sym (now.only left telling was) ∙ told in
          let one : left ≡ held = cc in
          subst (λ (l : Option Cartridge). Torn xs held l) (sym one) (Torn-nothing xs held)
      | inr torn ↦ torn
    ]

-- no call did nothing
pub Done-nothing : {S : Type 0} (m : Meaning S) (s : S) → Done m s s []
Done-nothing m s = record { told = sym (option_map-effects-none (m.told s)); later = omega arith; stops = Stops-nothing m s }

-- calls that only read left the told cartridge as it was
pub Done-told : {S : Type 0} {m : Meaning S} {a b : S} → Done m a b [] → m.told b ≡ m.told a
Done-told {m = m} {a = a} d = d.told ∙ option_map-effects-none (m.told a)

-- .. and so did one that failed
pub Broke-told : {S : Type 0} {m : Meaning S} {a b : S} → Broke m a b [] → m.told b ≡ m.told a
Broke-told {m = m} {a = a} {b = b} broke = by_told (m.told a) (m.told b) refl refl broke.tells
  where
    by_told : (old new : Option (Option Cartridge)) → m.told a ≡ old → m.told b ≡ new → is_some (m.told b) ≡ is_some (m.told a) →
        m.told b ≡ m.told a
    by_told None None p q tells = q ∙ sym p
    by_told None (Some left) p q tells = cc
    by_told (Some held) None p q tells = cc
    by_told (Some held) (Some left) p q tells = q ∙ ap Some (broke.torn held left p q) ∙ sym p

-- done, then done
pub Done-Done : {S : Type 0} {m : Meaning S} {a b c : S} {xs ys : List Step} → Done m a b xs → Done m b c ys → Done m a c (xs ++ ys)
Done-Done {m = m} {a = a} {xs = xs} {ys = ys} first next = record {
  told = next.told ∙ ap (option_map (effects ys)) first.told ∙ sym (option_map-effects-append xs ys (m.told a));
  later = let e = first.later in let f = next.later in omega arith;
  stops = Stops-Stops first.told first.stops next.stops;
}

-- done, then broken off
pub Done-Broke : {S : Type 0} {m : Meaning S} {a b c : S} {xs ys : List Step} → Done m a b xs → Broke m b c ys → Broke m a c (xs ++ ys)
Done-Broke {m = m} {a = a} {b = b} {c = c} {xs = xs} {ys = ys} first next = record {
  cause = Rose-after (m.faults a) (m.faults b) (m.faults c) first.later next.cause;
  later = let e = first.later in let f = next.later in omega arith;
  last = next.last;
  tells = next.tells ∙ ap is_some first.told ∙ is_some-option_map (effects xs) (m.told a);
  torn = λ held left before after.
      Torn-behind xs ys held left (next.torn (effects xs held) left (first.told ∙ ap (option_map (effects xs)) before) after);
  stops = Stops-Stops first.told first.stops next.stops;
}

-- what broke off a front of the steps broke off the whole
pub Broke-front : {S : Type 0} {m : Meaning S} {a b : S} {xs : List Step} (ys : List Step) → Broke m a b xs → Broke m a b (xs ++ ys)
Broke-front {xs = xs} ys broke = record {
  cause = broke.cause;
  later = broke.later;
  last = broke.last;
  tells = broke.tells;
  torn = λ held left before after. Torn-front xs ys held left (broke.torn held left before after);
  stops = Stops-front ys broke.stops;
}

-- calls that only read, before what was done or behind it, add no step
pub Done-after_reads : {S : Type 0} {m : Meaning S} {a b c : S} {ys : List Step} → Done m a b [] → Done m b c ys → Done m a c ys
Done-after_reads first next = Done-Done first next

pub Broke-after_reads : {S : Type 0} {m : Meaning S} {a b c : S} {ys : List Step} → Done m a b [] → Broke m b c ys → Broke m a c ys
Broke-after_reads first next = Done-Broke first next

pub Done-before_reads : {S : Type 0} {m : Meaning S} {a b c : S} {xs : List Step} → Done m a b xs → Done m b c [] → Done m a c xs
Done-before_reads {S = S} {m = m} {a = a} {c = c} {xs = xs} first next =
    let both : Done m a c (xs ++ []) = Done-Done first next in
    subst (Done m a c) (append-nil xs) both

pub Broke-before_reads : {S : Type 0} {m : Meaning S} {a b c : S} {xs : List Step} → Done m a b xs → Broke m b c [] → Broke m a c xs
Broke-before_reads {S = S} {m = m} {a = a} {c = c} {xs = xs} first next =
    let both : Broke m a c (xs ++ []) = Done-Broke first next in
    subst (Broke m a c) (append-nil xs) both

-- how calls of a tape join, where all but one of them only read
pub ruleset joins = (Done-after_reads, Broke-after_reads, Done-before_reads, Broke-before_reads, Done-nothing)

-- a fact that follows from a told fact is told
pub Tells-map : {S : Type 0} (m : Meaning S) (s : S) (P Q : Cartridge → Type 0) → ((c : Cartridge) → P c → Q c) → Tells m s P → Tells m s Q
Tells-map m s P Q follows told = by_cases (m.told s) told
  where
    by_cases : (held : Option (Option Cartridge)) → IfSome held (λ h. IfSome h P) → IfSome held (λ h. IfSome h Q)
    by_cases None fact = tt
    by_cases (Some None) fact = tt
    by_cases (Some (Some c)) fact = follows c fact

-- a fact told of a tape is told of it after calls that only read
pub Tells-read : {S : Type 0} {m : Meaning S} {a b : S} (P : Cartridge → Type 0) → Done m a b [] → Tells m b P → Tells m a P
Tells-read {m = m} P read told =
    let telling : Option (Option Cartridge) → Type 0 = λ held. IfSome held (λ h. IfSome h P) in
    subst telling (Done-told read) told

-- what a call did after what was done
pub Done-Does : {S T E : Type 0} (m : Meaning S) (a b c : S) (xs ys : List Step) (r : Result T E) → Done m a b xs → Does m b c ys r →
    Does m a c (xs ++ ys) r
Done-Does m a b c xs ys (Ok x) before more = Done-Done {xs = xs} {ys = ys} before more
Done-Does m a b c xs ys (Err e) before more = Done-Broke {xs = xs} {ys = ys} before more

-- two facts that are told of a cartridge
pub tells_two : {T : Type 0} (m : Meaning T) (s : T) (P Q R : Cartridge → Type 0) → ((c : Cartridge) → P c → Q c → R c) → Tells m s P →
    Tells m s Q → Tells m s R
tells_two m s P Q R follows first second = by_cases (m.told s) first second
  where
    by_cases : (held : Option (Option Cartridge)) → IfSome held (λ h. IfSome h P) → IfSome held (λ h. IfSome h Q) →
        IfSome held (λ h. IfSome h R)
    by_cases None one two = tt
    by_cases (Some None) one two = tt
    by_cases (Some (Some c)) one two = follows c one two
