-- Sets of places, the cells outside them, and how many cells are unreadable then.
use Rattle.std.proofs.Common.{ℕ, ◌/◌, ◌%◌, ◌^◌, Bool, ◌≡◌, ◌⊎◌, List, [], ◌∷◌, ◌≢◌, inl, inr, sym, ◌∙◌, ap, arith, true, max, bit_or, ◌<◌}
use Rattle.std.proofs.Common.{subst, false, suc, refl, length, zero, ◌+◌, slice_get, Some, All, ◌≤◌, not, ◌&&◌}
use Rattle.std.specs.Prelude.{◌==◌, if◌then◌else◌}
use Rattle.std.specs.Int.{bit_at}
use Rattle.std.proofs.lemmas.Bool.{cases_eq, eq-eqb, eqb-true, cases_Bool, ne_eqb}
use Rattle.std.proofs.lemmas.Nat.Bits.{bit_at-zero, bit_at_or, bit_at-pow_other, bit_at-lt, bit_at-pow_same}
use Rattle.std.proofs.lemmas.List.Elements.{All-nil, All-cons, All-head, All-tail}
use Rattle.cartridge_laws.proofs.Cells.{unreadable_at, lost_below-cells}
use Rattle.cartridge_spec.specs.Says.{hidden_from, unreadable_count, set_of, unreadable_from}
use Rattle.cartridge_laws.specs.TableCells.{unreadable_places}
use Rattle.cartridge_laws.specs.Segment.{hidden}
use Rattle.cartridge_spec.specs.Shape.{is_unreadable}
use Rattle.gf256_qic.specs.Code.{lost_below}
use Rattle.qic_base.specs.CartridgeTerms.{IsView, is_lost}
use Rattle.qic_base.specs.declared.tape.SectorView.{SectorView}
use Rattle.qic_base.specs.declared.tape.SectorView.TheVariants.{Lost, Holds}
use Rattle.gf256_qic.proofs.Agreement.{one_if}

-- ---- the places of a set

-- the place is one of these
abbrev pub IsOneOf : List ℕ → ℕ → Type 0
IsOneOf [] i = ⊥
IsOneOf (p ∷ ps) i = (i ≡ p) ⊎ IsOneOf ps i

-- and none of these
abbrev pub IsNoneOf : List ℕ → ℕ → Type 0
IsNoneOf [] i = Unit {0}
IsNoneOf (p ∷ ps) i = (i ≢ p) × IsNoneOf ps i

pub named_is_one : (ps : List ℕ) (i : ℕ) → is_lost (set_of ps) i ≡ true → IsOneOf ps i
unfolding set_of
named_is_one [] i named =
    let bit : 0 / 2 ^ i % 2 ≡ 1 = eqb-true (0 / 2 ^ i % 2) 1 named in
    let none : 0 / 2 ^ i % 2 ≡ 0 = bit_at-zero i in
    absurd (omega arith)
named_is_one (p ∷ ps) i named =
    elim (cases_eq i p) [
      | inl same ↦ inl same
      | inr other ↦
          let bit : bit_at (bit_or (2 ^ p) (set_of ps)) i ≡ 1 = eqb-true (bit_at (bit_or (2 ^ p) (set_of ps)) i) 1 named in
          let rest : bit_at (bit_or (2 ^ p) (set_of ps)) i ≡ bit_at (set_of ps) i =
          bit_at_or (2 ^ p) (set_of ps) i ∙ ap (λ (b : ℕ). max b (bit_at (set_of ps) i)) (bit_at-pow_other p i other) ∙ omega arith in
          inr (named_is_one ps i (eq-eqb (bit_at (set_of ps) i) 1 (sym rest ∙ bit)))
    ]

pub one_is_named : (ps : List ℕ) (i : ℕ) → IsOneOf ps i → is_lost (set_of ps) i ≡ true
unfolding set_of
one_is_named [] i one = absurd one
one_is_named (p ∷ ps) i (inl same) =
    let here : bit_at (2 ^ p) i ≡ 1 = subst (λ (j : ℕ). bit_at (2 ^ p) j ≡ 1) (sym same) (bit_at-pow_same p) in
    let few : bit_at (set_of ps) i < 2 = bit_at-lt (set_of ps) i in
    let bit : bit_at (bit_or (2 ^ p) (set_of ps)) i ≡ 1 =
    bit_at_or (2 ^ p) (set_of ps) i ∙ ap (λ (b : ℕ). max b (bit_at (set_of ps) i)) here ∙ omega arith in
    eq-eqb (bit_at (bit_or (2 ^ p) (set_of ps)) i) 1 bit
one_is_named (p ∷ ps) i (inr one) =
    let there : bit_at (set_of ps) i ≡ 1 = eqb-true (bit_at (set_of ps) i) 1 (one_is_named ps i one) in
    let few : bit_at (2 ^ p) i < 2 = bit_at-lt (2 ^ p) i in
    let bit : bit_at (bit_or (2 ^ p) (set_of ps)) i ≡ 1 =
    bit_at_or (2 ^ p) (set_of ps) i ∙ ap (λ (b : ℕ). max (bit_at (2 ^ p) i) b) there ∙ omega arith in
    eq-eqb (bit_at (bit_or (2 ^ p) (set_of ps)) i) 1 bit

none_and_one : (ps : List ℕ) (i : ℕ) → IsNoneOf ps i → IsOneOf ps i → ⊥
none_and_one [] i none one = one
none_and_one (p ∷ ps) i none (inl same) = none.0 same
none_and_one (p ∷ ps) i none (inr one) = none_and_one ps i none.1 one

pub none_is_unnamed : (ps : List ℕ) (i : ℕ) → IsNoneOf ps i → is_lost (set_of ps) i ≡ false
none_is_unnamed ps i none =
    elim (cases_Bool (is_lost (set_of ps) i)) [
      | inl named ↦ absurd (none_and_one ps i none (named_is_one ps i named))
      | inr unnamed ↦ unnamed
    ]

none_from : (ps : List ℕ) (i : ℕ) → (IsOneOf ps i → ⊥) → IsNoneOf ps i
none_from [] i not_one = tt
none_from (p ∷ ps) i not_one = (λ same. not_one (inl same), none_from ps i (λ one. not_one (inr one)))

pub unnamed_is_none : (ps : List ℕ) (i : ℕ) → is_lost (set_of ps) i ≡ false → IsNoneOf ps i
unnamed_is_none ps i unnamed =
    none_from ps i (λ one. let named : is_lost (set_of ps) i ≡ true = one_is_named ps i one in absurd (cc))

-- ---- the cells outside a set

pub length-hidden : (set place : ℕ) (cells : List SectorView) → length (hidden_from set place cells) ≡ length cells
unfolding hidden_from
length-hidden set place [] = refl
length-hidden set place (cell ∷ cells) = ap suc (length-hidden set (suc place) cells)

hidden_or_not : (b : Bool) (cell : SectorView) (bytes : List ℕ) → (if b then Lost else cell) ≡ Holds bytes →
    (b ≡ false) × (cell ≡ Holds bytes)
hidden_or_not true cell bytes held = absurd (cc)
hidden_or_not false cell bytes held = (refl, held)

-- a cell that is seen to hold bytes is outside the set and holds them
held_from : (set place : ℕ) (cells : List SectorView) (i : ℕ) (bytes : List ℕ) →
    slice_get (hidden_from set place cells) i ≡ Some (Holds bytes) →
    (is_lost set (place + i) ≡ false) × (slice_get cells i ≡ Some (Holds bytes))
unfolding hidden_from
held_from set place [] i bytes seen = absurd (cc)
held_from set place (cell ∷ cells) zero bytes seen =
    let first : (if is_lost set place then Lost else cell) ≡ Holds bytes = cc in
    let both = hidden_or_not (is_lost set place) cell bytes first in
    let same : place + 0 ≡ place = omega arith in
    (ap (is_lost set) same ∙ both.0, ap Some both.1)
held_from set place (cell ∷ cells) (suc i) bytes seen =
    let rest = held_from set (suc place) cells i bytes seen in
    let same : place + suc i ≡ suc place + i = omega arith in
    (ap (is_lost set) same ∙ rest.0, rest.1)

pub held_outside : (set : ℕ) (cells : List SectorView) (i : ℕ) (bytes : List ℕ) → slice_get (hidden set cells) i ≡ Some (Holds bytes) →
    (is_lost set i ≡ false) × (slice_get cells i ≡ Some (Holds bytes))
held_outside set cells i bytes seen =
    let here = held_from set 0 cells i bytes seen in
    let same : 0 + i ≡ i = omega arith in
    (ap (is_lost set) (sym same) ∙ here.0, here.1)

-- and such a cell is seen
seen_from : (set place : ℕ) (cells : List SectorView) (i : ℕ) (bytes : List ℕ) → is_lost set (place + i) ≡ false →
    slice_get cells i ≡ Some (Holds bytes) → slice_get (hidden_from set place cells) i ≡ Some (Holds bytes)
unfolding hidden_from
seen_from set place [] i bytes unnamed held = absurd (cc)
seen_from set place (cell ∷ cells) zero bytes unnamed held =
    let same : place + 0 ≡ place = omega arith in
    let outside : is_lost set place ≡ false = ap (is_lost set) (sym same) ∙ unnamed in
    ap (λ (b : Bool). Some (if b then Lost else cell)) outside ∙ held
seen_from set place (cell ∷ cells) (suc i) bytes unnamed held =
    let same : suc place + i ≡ place + suc i = omega arith in
    seen_from set (suc place) cells i bytes (ap (is_lost set) same ∙ unnamed) held

pub seen_outside : (set : ℕ) (cells : List SectorView) (i : ℕ) (bytes : List ℕ) → is_lost set i ≡ false →
    slice_get cells i ≡ Some (Holds bytes) → slice_get (hidden set cells) i ≡ Some (Holds bytes)
seen_outside set cells i bytes unnamed held =
    let same : 0 + i ≡ i = omega arith in
    seen_from set 0 cells i bytes (ap (is_lost set) same ∙ unnamed) held

view_or_lost : (b : Bool) (cell : SectorView) → IsView cell → IsView (if b then Lost else cell)
view_or_lost true cell view = tt
view_or_lost false cell view = view

pub views_hidden : (set place : ℕ) (cells : List SectorView) → All IsView cells → All IsView (hidden_from set place cells)
unfolding hidden_from
views_hidden set place [] views = All-nil IsView
views_hidden set place (cell ∷ cells) views =
    All-cons IsView (if is_lost set place then Lost else cell) (hidden_from set (suc place) cells)
    (view_or_lost (is_lost set place) cell (All-head IsView cell cells views))
    (views_hidden set (suc place) cells (All-tail IsView cell cells views))

-- ---- how many are unreadable

unreadable_or_not : (b : Bool) (cell : SectorView) → is_unreadable (if b then Lost else cell) ≡ true →
    (b ≡ true) ⊎ (is_unreadable cell ≡ true)
unreadable_or_not true cell un = inl refl
unreadable_or_not false cell un = inr un

-- a cell that is seen as unreadable is in the set, or is unreadable
unreadable_seen : (set place : ℕ) (cells : List SectorView) (i : ℕ) → unreadable_at (hidden_from set place cells) i ≡ true →
    (is_lost set (place + i) ≡ true) ⊎ (unreadable_at cells i ≡ true)
unfolding hidden_from unreadable_at
unreadable_seen set place [] i un = absurd (cc)
unreadable_seen set place (cell ∷ cells) zero un =
    let same : place + 0 ≡ place = omega arith in
    elim (unreadable_or_not (is_lost set place) cell un) [
      | inl named ↦ inl (ap (is_lost set) same ∙ named)
      | inr here ↦ inr here
    ]
unreadable_seen set place (cell ∷ cells) (suc i) un =
    let same : place + suc i ≡ suc place + i = omega arith in
    elim (unreadable_seen set (suc place) cells i un) [
      | inl named ↦ inl (ap (is_lost set) same ∙ named)
      | inr here ↦ inr here
    ]

one_further : (b : Bool) (place i : ℕ) (ps : List ℕ) → IsOneOf ps i → IsOneOf (if b then place ∷ ps else ps) i
one_further true place i ps one = inr one
one_further false place i ps one = one

-- an unreadable cell is one of the unreadable places
unreadable_is_one : (place : ℕ) (cells : List SectorView) (i : ℕ) → unreadable_at cells i ≡ true →
    IsOneOf (unreadable_from place cells) (place + i)
unfolding unreadable_at unreadable_from
unreadable_is_one place [] i un = absurd (cc)
unreadable_is_one place (cell ∷ cells) zero un =
    let same : place + 0 ≡ place = omega arith in
    subst (λ (b : Bool). IsOneOf (if b then place ∷ unreadable_from (suc place) cells else unreadable_from (suc place) cells) (place + 0))
    (sym un) (inl same)
unreadable_is_one place (cell ∷ cells) (suc i) un =
    let same : suc place + i ≡ place + suc i = omega arith in
    one_further (is_unreadable cell) place (place + suc i) (unreadable_from (suc place) cells)
    (subst (IsOneOf (unreadable_from (suc place) cells)) same (unreadable_is_one (suc place) cells i un))

pub unreadable_is_named : (cells : List SectorView) (i : ℕ) → unreadable_at cells i ≡ true → IsOneOf (unreadable_places cells) i
unreadable_is_named cells i un =
    let same : 0 + i ≡ i = omega arith in
    subst (IsOneOf (unreadable_places cells)) same (unreadable_is_one 0 cells i un)

none_lost : (lost : ℕ → Bool) (n : ℕ) → ((i : ℕ) → lost i ≡ true → ⊥) → lost_below lost n ≤ 0
unfolding lost_below
none_lost lost zero none = omega arith
none_lost lost (suc n) none =
    let rest : lost_below lost n ≤ 0 = none_lost lost n none in
    elim (cases_Bool (lost n)) [
      | inl gone ↦ absurd (none n gone)
      | inr kept ↦ let here : one_if (lost n) ≡ 0 = ap one_if kept in omega arith
    ]

-- a place apart
but_one : (lost : ℕ → Bool) (p n : ℕ) →
    lost_below lost n ≤ lost_below (λ i. i == p) n + lost_below (λ i. lost i && not (i == p)) n
unfolding lost_below
but_one lost p zero = omega arith
but_one lost p (suc n) =
    let rest : lost_below lost n ≤ lost_below (λ i. i == p) n + lost_below (λ i. lost i && not (i == p)) n = but_one lost p n in
    let here : one_if (lost n) ≤ one_if (n == p) + one_if (lost n && not (n == p)) = by_cases (lost n) (n == p) in
    omega arith
  where
    by_cases : (a b : Bool) → one_if a ≤ one_if b + one_if (a && not b)
    by_cases true true = omega arith
    by_cases true false = omega arith
    by_cases false true = omega arith
    by_cases false false = omega arith

one_place_past : (p n : ℕ) → n ≤ p → lost_below (λ i. i == p) n ≤ 0
unfolding lost_below
one_place_past p zero past = omega arith
one_place_past p (suc n) past =
    let rest : lost_below (λ i. i == p) n ≤ 0 = one_place_past p n (omega arith) in
    let here : one_if (n == p) ≡ 0 = ap one_if (ne_eqb n p (λ e. omega arith)) in
    omega arith

one_place : (p n : ℕ) → lost_below (λ i. i == p) n ≤ 1
unfolding lost_below
one_place p zero = omega arith
one_place p (suc n) =
    elim (cases_eq n p) [
      | inl same ↦
          let rest : lost_below (λ i. i == p) n ≤ 0 = one_place_past p n (omega arith) in
          let here : one_if (n == p) ≡ 1 = ap one_if (eq-eqb n p same) in
          omega arith
      | inr other ↦
          let rest : lost_below (λ i. i == p) n ≤ 1 = one_place p n in
          let here : one_if (n == p) ≡ 0 = ap one_if (ne_eqb n p other) in
          omega arith
    ]

both_true : (a b : Bool) → (a && not b) ≡ true → (a ≡ true) × (b ≡ false)
both_true true true h = absurd (cc)
both_true true false h = (refl, refl)
both_true false b h = absurd (cc)

-- places that are all among some are no more than those
pub few_lost : (ps : List ℕ) (lost : ℕ → Bool) (n : ℕ) → ((i : ℕ) → lost i ≡ true → IsOneOf ps i) → lost_below lost n ≤ length ps
few_lost [] lost n among = none_lost lost n among
few_lost (p ∷ ps) lost n among =
    let others : lost_below (λ i. lost i && not (i == p)) n ≤ length ps =
    few_lost ps (λ i. lost i && not (i == p)) n (λ i h.
    let both = both_true (lost i) (i == p) h in
    elim (among i both.0) [
      | inl same ↦ let yes : (i == p) ≡ true = eq-eqb i p same in absurd (cc)
      | inr one ↦ one
    ]) in
    omega (arith, but_one lost p n, one_place p n)

-- cells of which none but those at some places is unreadable
pub few_unreadable : (cells : List SectorView) (ps : List ℕ) → ((i : ℕ) → unreadable_at cells i ≡ true → IsOneOf ps i) →
    unreadable_count cells ≤ length ps
few_unreadable cells ps among =
    subst (λ (n : ℕ). n ≤ length ps) (lost_below-cells cells) (few_lost ps (unreadable_at cells) (length cells) among)

pub few_outside : (cells : List SectorView) (ps : List ℕ) → ((i : ℕ) → unreadable_at cells i ≡ true → IsOneOf ps i) →
    unreadable_count (hidden (set_of ps) cells) ≤ length ps
few_outside cells ps among =
    few_unreadable (hidden (set_of ps) cells) ps (λ i un.
    let same : i ≡ 0 + i = omega arith in
    elim (unreadable_seen (set_of ps) 0 cells i un) [
      | inl named ↦ named_is_one ps i (ap (is_lost (set_of ps)) same ∙ named)
      | inr here ↦ among i here
    ])
