-- The degrees of the lost places, gathered place by place.
use Rattle.std.proofs.Common.{◌≡◌, ◌≢◌, ℕ, zero, suc, ◌+◌, ◌-◌, ◌/◌, ◌%◌, ◌^◌, ◌<◌, ◌≤◌, refl, sym, ◌∙◌, ap, subst, arith, inl, inr, true}
use Rattle.std.proofs.Common.{cond, List, [], ◌∷◌, length, get_or, set, get_or-set_same, get_or-set_other, add-zero, add-one, Bool}
use Rattle.std.proofs.Math.ListN.{length-append, length-set}
use Rattle.std.proofs.lemmas.Bool.{cases_eq, cases_lt, eqb-true, eq-eqb, ne_eqb}
use Rattle.qic_base.specs.CartridgeTerms.{IsLost, is_lost}
use Rattle.qic_base.specs.Cartridge.{lost_places}
use Rattle.qic_base.proofs.LostSetLaws.{lost_places-lost, lost_places-kept, count_more, count_same}
use Rattle.gf256_qic.specs.Code.{lost_below}
use Rattle.erasure_solve.specs.Lost.{lost_count}
use Rattle.erasure_solve.specs.Correction.{AreDegrees}

-- the lost places below a place are found, and their degrees written down
pub record Gathered (mask count place found : ℕ) (degrees : List ℕ) : Type 0 where
  pub size : length degrees ≡ 3
  pub number : found ≡ length (lost_places mask place)
  pub low : (k : ℕ) → k < found → get_or degrees k 0 < count
  pub high : (k : ℕ) → k < found → count ≤ get_or degrees k 0 + place
  pub rest : (k : ℕ) → found ≤ k → k < 3 → get_or degrees k 0 ≡ 32 + k
  pub apart : (k l : ℕ) → k < found → l < found → k ≢ l → get_or degrees k 0 ≢ get_or degrees l 0
  pub of_lost : (k p : ℕ) → k < found → get_or degrees k 0 + p + 1 ≡ count → is_lost mask p ≡ true
  pub all : (p : ℕ) → p < place → is_lost mask p ≡ true →
      (k : ℕ) × (k < found) × (get_or degrees k 0 + p + 1 ≡ count)

pub lost_from : (mask p : ℕ) → is_lost mask p ≡ true → IsLost mask p
lost_from mask p h = eqb-true (mask / 2 ^ p % 2) 1 h

pub is_lost_from : (mask p : ℕ) → IsLost mask p → is_lost mask p ≡ true
is_lost_from mask p h = eq-eqb (mask / 2 ^ p % 2) 1 h

-- no more places are lost below a place than in all
lost_more : (mask n more : ℕ) → length (lost_places mask n) ≤ length (lost_places mask (n + more))
lost_more mask n zero =
    let e : length (lost_places mask (n + 0)) ≡ length (lost_places mask n) =
    ap (λ (k : ℕ). length (lost_places mask k)) (add-zero n) in
    omega arith
lost_more mask n (suc more) =
    let rest : length (lost_places mask n) ≤ length (lost_places mask (n + more)) = lost_more mask n more in
    let next : n + suc more ≡ n + more + 1 = omega arith in
    let same : length (lost_places mask (n + suc more)) ≡ length (lost_places mask (n + more + 1)) =
    ap (λ (k : ℕ). length (lost_places mask k)) next in
    elim (cases_eq (mask / 2 ^ (n + more) % 2) 1) [
      | inl lost ↦
          let step : length (lost_places mask (n + more + 1)) ≡ length (lost_places mask (n + more)) + 1 =
          ap (λ (l : List ℕ). length l) (lost_places-lost mask (n + more) lost)
          ∙ length-append (lost_places mask (n + more)) ((n + more) ∷ []) in
          omega arith
      | inr kept ↦
          let step : length (lost_places mask (n + more + 1)) ≡ length (lost_places mask (n + more)) =
          ap (λ (l : List ℕ). length l) (lost_places-kept mask (n + more) kept) in
          omega arith
    ]

pub found_below : (mask count place : ℕ) → place < count → count ≤ 32 → IsLost mask place → lost_count mask ≤ 3 →
    length (lost_places mask place) < 3
found_below mask count place lt most lost few =
    let whole : place + 1 + (32 - (place + 1)) ≡ 32 = omega arith in
    let more : length (lost_places mask (place + 1)) ≤ length (lost_places mask (place + 1 + (32 - (place + 1)))) =
    lost_more mask (place + 1) (32 - (place + 1)) in
    let same : length (lost_places mask (place + 1 + (32 - (place + 1)))) ≡ length (lost_places mask 32) =
    ap (λ (k : ℕ). length (lost_places mask k)) whole in
    let one : length (lost_places mask (place + 1)) ≡ length (lost_places mask place) + 1 = count_more mask place lost in
    omega arith

-- ---- the loop's steps

none_number : (mask : ℕ) → 0 ≡ length (lost_places mask 0)
unfolding lost_places
none_number mask = refl

pub gathered_none : (mask count : ℕ) → Gathered mask count 0 0 (32 ∷ 33 ∷ 34 ∷ [])
gathered_none mask count = record {
  size = refl;
  number = none_number mask;
  low = λ k h. absurd (omega arith);
  high = λ k h. absurd (omega arith);
  rest = λ k low h. each k h;
  apart = λ k l hk hl. absurd (omega arith);
  of_lost = λ k p h. absurd (omega arith);
  all = λ p h. absurd (omega arith);
}
  where
    each : (k : ℕ) → k < 3 → get_or (32 ∷ 33 ∷ 34 ∷ []) k 0 ≡ 32 + k
    each zero h = refl
    each (suc zero) h = refl
    each (suc (suc zero)) h = refl
    each (suc (suc (suc k))) h = absurd (omega arith)

pub gathered_kept : (mask count place found : ℕ) (ds : List ℕ) → (IsLost mask place → ⊥) →
    Gathered mask count place found ds → Gathered mask count (place + 1) found ds
gathered_kept mask count place found ds kept g = record {
  size = g.size;
  number = g.number ∙ sym (count_same mask place kept);
  low = g.low;
  high = λ k h. let before : count ≤ get_or ds k 0 + place = g.high k h in omega arith;
  rest = g.rest;
  apart = g.apart;
  of_lost = g.of_lost;
  all = λ p h lost.
      elim (cases_eq p place) [
        | inl e ↦ absurd (kept (lost_from mask place (subst (λ (q : ℕ). is_lost mask q ≡ true) e lost)))
        | inr other ↦ g.all p (omega arith) lost
      ];
}

pub gathered_lost : (mask count place found : ℕ) (ds : List ℕ) → IsLost mask place → place < count → found < 3 →
    Gathered mask count place found ds →
    Gathered mask count (place + 1) (found + 1) (set ds found (count - 1 - place))
gathered_lost mask count place found ds lost lt room g =
    let v : ℕ = count - 1 - place in
    let new : List ℕ = set ds found v in
    let size : length ds ≡ 3 = g.size in
    let long : length new ≡ length ds = length-set ds found v in
    let here : get_or new found 0 ≡ v = get_or-set_same ds found v 0 (omega arith) in
    let other : (k : ℕ) → k ≢ found → get_or new k 0 ≡ get_or ds k 0 = λ k ne. get_or-set_other ds found k v 0 ne in
    let fresh : (k : ℕ) → k < found → get_or ds k 0 ≢ v =
    λ k h e. let before : count ≤ get_or ds k 0 + place = g.high k h in absurd (omega arith) in
    let number : found ≡ length (lost_places mask place) = g.number in
    let more : length (lost_places mask (place + 1)) ≡ length (lost_places mask place) + 1 = count_more mask place lost in
    record {
      size = long ∙ size;
      number = omega arith;
      low = λ k h.
          elim (cases_eq k found) [
            | inl e ↦ let at : get_or new k 0 ≡ v = ap (λ (i : ℕ). get_or new i 0) e ∙ here in omega arith
            | inr ne ↦
                let at : get_or new k 0 ≡ get_or ds k 0 = other k ne in
                let before : get_or ds k 0 < count = g.low k (omega arith) in
                omega arith
          ];
      high = λ k h.
          elim (cases_eq k found) [
            | inl e ↦ let at : get_or new k 0 ≡ v = ap (λ (i : ℕ). get_or new i 0) e ∙ here in omega arith
            | inr ne ↦
                let at : get_or new k 0 ≡ get_or ds k 0 = other k ne in
                let before : count ≤ get_or ds k 0 + place = g.high k (omega arith) in
                omega arith
          ];
      rest = λ k low h. other k (omega arith) ∙ g.rest k (omega arith) h;
      apart = λ k l hk hl ne e.
          elim (cases_eq k found) [
            | inl ek ↦
                let atk : get_or new k 0 ≡ v = ap (λ (i : ℕ). get_or new i 0) ek ∙ here in
                let nl : l ≢ found = λ el. ne (ek ∙ sym el) in
                fresh l (omega (arith, nl)) (sym (other l nl) ∙ sym e ∙ atk)
            | inr nk ↦
                elim (cases_eq l found) [
                  | inl el ↦
                      let atl : get_or new l 0 ≡ v = ap (λ (i : ℕ). get_or new i 0) el ∙ here in
                      fresh k (omega (arith, nk)) (sym (other k nk) ∙ e ∙ atl)
                  | inr nl ↦
                      g.apart k l (omega (arith, nk)) (omega (arith, nl)) ne (sym (other k nk) ∙ e ∙ other l nl)
                ]
          ];
      of_lost = λ k p h e.
          elim (cases_eq k found) [
            | inl ek ↦
                let atk : get_or new k 0 ≡ v = ap (λ (i : ℕ). get_or new i 0) ek ∙ here in
                let same : place ≡ p = omega arith in
                subst (λ (q : ℕ). is_lost mask q ≡ true) same (is_lost_from mask place lost)
            | inr nk ↦
                let at : get_or new k 0 ≡ get_or ds k 0 = other k nk in
                g.of_lost k p (omega (arith, nk)) (omega arith)
          ];
      all = λ p h lost_p.
          elim (cases_eq p place) [
            | inl e ↦ (found, omega arith, omega arith)
            | inr ne ↦
                let before : (k : ℕ) × (k < found) × (get_or ds k 0 + p + 1 ≡ count) = g.all p (omega (arith, ne)) lost_p in
                let k : ℕ = before.0 in
                let hk : k < found = before.1 in
                let ek : get_or ds k 0 + p + 1 ≡ count = before.2 in
                let nk : k ≢ found = omega arith in
                let at : get_or new k 0 ≡ get_or ds k 0 = other k nk in
                (k, omega arith, omega arith)
          ];
    }

-- all places gathered
pub degrees_from : (mask count found : ℕ) (ds : List ℕ) → count ≤ 32 → lost_count mask ≤ 3 →
    Gathered mask count count found ds → AreDegrees mask count ds
degrees_from mask count found ds most few g =
    let number : found ≡ length (lost_places mask count) = g.number in
    let whole : count + (32 - count) ≡ 32 = omega arith in
    let more : length (lost_places mask count) ≤ length (lost_places mask (count + (32 - count))) =
    lost_more mask count (32 - count) in
    let same : length (lost_places mask (count + (32 - count))) ≡ length (lost_places mask 32) =
    ap (λ (k : ℕ). length (lost_places mask k)) whole in
    let room : found ≤ 3 = omega arith in
    let real : (k : ℕ) → k < 3 → get_or ds k 0 < 32 → k < found =
    λ k h small. elim (cases_lt k found) [
      | inl below ↦ below
      | inr above ↦ let at : get_or ds k 0 ≡ 32 + k = g.rest k above h in absurd (omega arith)
    ] in
    record {
      size = g.size;
      small = λ k h. elim (cases_lt k found) [
        | inl below ↦ let at : get_or ds k 0 < count = g.low k below in omega arith
        | inr above ↦ let at : get_or ds k 0 ≡ 32 + k = g.rest k above h in omega arith
      ];
      apart = λ k l hk hl ne e.
          elim (cases_lt k found) [
            | inl below ↦
                let atk : get_or ds k 0 < count = g.low k below in
                elim (cases_lt l found) [
                  | inl below' ↦ g.apart k l below below' ne e
                  | inr above' ↦ let atl : get_or ds l 0 ≡ 32 + l = g.rest l above' hl in absurd (omega arith)
                ]
            | inr above ↦
                let atk : get_or ds k 0 ≡ 32 + k = g.rest k above hk in
                elim (cases_lt l found) [
                  | inl below' ↦ let atl : get_or ds l 0 < count = g.low l below' in absurd (omega arith)
                  | inr above' ↦ let atl : get_or ds l 0 ≡ 32 + l = g.rest l above' hl in ne (omega arith)
                ]
          ];
      within = λ k h small. g.low k (real k h small);
      of_lost = λ k p h e. g.of_lost k p (real k h (omega arith)) e;
      all = λ p h lost.
          let before : (k : ℕ) × (k < found) × (get_or ds k 0 + p + 1 ≡ count) = g.all p h lost in
          let hk : before.0 < found = before.1 in
          (before.0, omega arith, before.2);
    }

abbrev pub one_if : Bool → ℕ
one_if b = cond b 1 0

-- both counts of the lost places are the same
pub lost_below-places : (mask n : ℕ) → lost_below (is_lost mask) n ≡ length (lost_places mask n)
unfolding lost_below
lost_below-places mask zero = none_number mask
lost_below-places mask (suc n) =
    let before : lost_below (is_lost mask) n ≡ length (lost_places mask n) = lost_below-places mask n in
    let next : length (lost_places mask (n + 1)) ≡ length (lost_places mask (suc n)) =
    ap (λ (k : ℕ). length (lost_places mask k)) (add-one n) in
    elim (cases_eq (mask / 2 ^ n % 2) 1) [
      | inl lost ↦
          let one : one_if (is_lost mask n) ≡ 1 = ap one_if (is_lost_from mask n lost) in
          let more : length (lost_places mask (n + 1)) ≡ length (lost_places mask n) + 1 = count_more mask n lost in
          omega arith
      | inr kept ↦
          let none : one_if (is_lost mask n) ≡ 0 = ap one_if (ne_eqb (mask / 2 ^ n % 2) 1 kept) in
          let same : length (lost_places mask (n + 1)) ≡ length (lost_places mask n) = count_same mask n kept in
          omega arith
    ]

-- no more than the mask names in all
pub lost_below-count : (mask n : ℕ) → n ≤ 32 → lost_below (is_lost mask) n ≤ lost_count mask
lost_below-count mask n most =
    let whole : n + (32 - n) ≡ 32 = omega arith in
    let more : length (lost_places mask n) ≤ length (lost_places mask (n + (32 - n))) = lost_more mask n (32 - n) in
    let same : length (lost_places mask (n + (32 - n))) ≡ length (lost_places mask 32) =
    ap (λ (k : ℕ). length (lost_places mask k)) whole in
    let below : lost_below (is_lost mask) n ≡ length (lost_places mask n) = lost_below-places mask n in
    omega arith
