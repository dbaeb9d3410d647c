-- The answers of `locate`, each by what was found.
use Rattle.std.proofs.Common.{◌≡◌, ℕ, ◌<◌, ◌≤◌, ◌↔◌, refl, sym, ◌∙◌, ap, subst, arith, List, length, Some, None, Result, Ok, Err}
use Rattle.qic_base.specs.declared.tape.SectorView.{SectorView}
use Rattle.cartridge_spec.specs.Code.{IsCodeBlock}
use Rattle.gf256_qic.specs.Code.{AgreesOutside, IsSolvable}
use Rattle.erasure_solve.specs.Lost.{lost_count}
use Rattle.silent_locate.specs.declared.Located.{Located}
use Rattle.silent_locate.specs.declared.Located.TheVariants as located
use Rattle.silent_locate.specs.declared.LocateFault.{LocateFault}
use Rattle.silent_locate.specs.declared.LocateFault.TheVariants as fault
use Rattle.cartridge_spec.specs.Says.{unreadable_count}
use Rattle.silent_locate.specs.Deep.{IsAllRight, IsWrongAt, Deep, HasNoReading, cells_without}
use Rattle.silent_locate.specs.Tries.{lost_or}
use Rattle.silent_locate.proofs.Readings.{one_deep_reading}
use Rattle.silent_locate.proofs.Sectors.{IsAmong, cells_among, count_among, all_right, wrong_at, no_reading}
use Rattle.qic_base.specs.CartridgeTerms.{is_lost}

abbrev pub Answer : Type 0
Answer = Result Located LocateFault

abbrev wrong_of : ℕ → Answer
wrong_of place = Ok (located.Wrong place)

abbrev many_of : ℕ → Answer
many_of n = Err (fault.TooMany n)

-- an answer is just what the cells say, with these sectors left
pub record IsOutcome (cells : List SectorView) (new : List (List ℕ)) (result : Answer) : Type 0 where
  pub agrees : (block : List (List ℕ)) → ((result ≡ Ok located.Agrees) × (new ≡ block)) ↔ Deep cells block None
  pub wrong : (place : ℕ) (block : List (List ℕ)) →
      ((result ≡ Ok (located.Wrong place)) × (new ≡ block)) ↔ Deep cells block (Some place)
  pub too_many : (n : ℕ) → (result ≡ Err (fault.TooMany n)) ↔ ((unreadable_count cells ≡ n) × (3 < n))
  pub mismatch : (result ≡ Err fault.Mismatch) ↔ ((unreadable_count cells ≤ 3) × HasNoReading cells)

-- ---- by the cells

found_right : (cells : List SectorView) (new : List (List ℕ)) → IsAllRight cells new → IsOutcome cells new (Ok located.Agrees)
found_right cells new right = record {
  agrees = λ block. (
    λ is. subst (IsAllRight cells) is.1 right,
    λ deep. (refl, (one_deep_reading cells new block None None right deep).0),
  );
  wrong = λ place block. (
    λ is. absurd (cc (is.0)),
    λ deep. absurd (cc ((one_deep_reading cells new block None (Some place) right deep).1)),
  );
  too_many = λ n. (λ is. absurd (cc), λ many. absurd (omega (arith, right.few, many.0, many.1)));
  mismatch = (λ is. absurd (cc), λ none. absurd (none.1 new None right));
}

found_wrong : (cells : List SectorView) (place : ℕ) (new : List (List ℕ)) → IsWrongAt cells place new →
    IsOutcome cells new (wrong_of place)
found_wrong cells place new deep = record {
  agrees = λ block. (
    λ is. absurd (cc (is.0)),
    λ right. absurd (cc ((one_deep_reading cells new block (Some place) None deep right).1)),
  );
  wrong = λ other block. (
    λ is.
        let same : place ≡ other = cc (is.0) in
        subst (IsWrongAt cells other) is.1 (subst (λ (p : ℕ). IsWrongAt cells p new) same deep),
    λ also.
        let one = one_deep_reading cells new block (Some place) (Some other) deep also in
        let same : place ≡ other = cc (one.1) in
        (ap wrong_of same, one.0),
  );
  too_many = λ n. (λ is. absurd (cc), λ many. absurd (omega (arith, deep.few, many.0, many.1)));
  mismatch = (λ is. absurd (cc), λ none. absurd (none.1 new (Some place) deep));
}

found_many : (cells : List SectorView) (n : ℕ) (new : List (List ℕ)) → unreadable_count cells ≡ n → 3 < n →
    IsOutcome cells new (many_of n)
found_many cells n new count many = record {
  agrees = λ block. (λ is. absurd (cc (is.0)), λ right. absurd (omega (arith, right.few)));
  wrong = λ place block. (λ is. absurd (cc (is.0)), λ deep. absurd (omega (arith, deep.few)));
  too_many = λ m. (
    λ is. let same : n ≡ m = cc in (count ∙ same, omega arith),
    λ h. ap many_of (sym count ∙ h.0),
  );
  mismatch = (λ is. absurd (cc), λ none. absurd (omega (arith, none.0)));
}

found_none : (cells : List SectorView) (new : List (List ℕ)) → unreadable_count cells ≤ 3 → HasNoReading cells →
    IsOutcome cells new (Err fault.Mismatch)
found_none cells new few none = record {
  agrees = λ block. (λ is. absurd (cc (is.0)), λ right. absurd (none block None right));
  wrong = λ place block. (λ is. absurd (cc (is.0)), λ deep. absurd (none block (Some place) deep));
  too_many = λ n. (λ is. absurd (cc), λ h. absurd (omega (arith, h.0, h.1)));
  mismatch = (λ is. (few, none), λ h. refl);
}

-- ---- by the sectors and the lost places among them

for_lost : (some lost : ℕ) (old new : List (List ℕ)) (result : Answer) → IsAmong some lost (length old) →
    IsOutcome (cells_without some old) new result → IsOutcome (cells_without lost old) new result
for_lost some lost old new result among =
    subst (λ (cells : List SectorView). IsOutcome cells new result) (cells_among some lost old among)

pub answers_agrees : (some lost : ℕ) (old new : List (List ℕ)) → IsAmong some lost (length old) → length old ≤ 32 →
    lost_count some ≤ 3 → IsCodeBlock new → AgreesOutside (is_lost some) old new →
    IsOutcome (cells_without lost old) new (Ok located.Agrees)
answers_agrees some lost old new among most few code agrees =
    let count : lost_count some ≡ unreadable_count (cells_without some old) = count_among some lost old among most in
    for_lost some lost old new (Ok located.Agrees) among
    (found_right (cells_without some old) new (all_right some old new (omega arith) code agrees))

answers_wrong : (some lost place : ℕ) (old new : List (List ℕ)) → IsAmong some lost (length old) → length old ≤ 32 →
    lost_count some ≤ 1 → (IsSolvable (is_lost some) old → ⊥) → IsCodeBlock new → AgreesOutside (lost_or some place) old new →
    IsOutcome (cells_without lost old) new (wrong_of place)
answers_wrong some lost place old new among most few unsolvable code agrees =
    let count : lost_count some ≡ unreadable_count (cells_without some old) = count_among some lost old among most in
    for_lost some lost old new (wrong_of place) among
    (found_wrong (cells_without some old) place new (wrong_at some place old new (omega arith) unsolvable code agrees))

pub answers_many : (some lost n : ℕ) (old new : List (List ℕ)) → IsAmong some lost (length old) → length old ≤ 32 →
    lost_count some ≡ n → 3 < n → IsOutcome (cells_without lost old) new (many_of n)
answers_many some lost n old new among most number many =
    let count : lost_count some ≡ unreadable_count (cells_without some old) = count_among some lost old among most in
    for_lost some lost old new (many_of n) among (found_many (cells_without some old) n new (sym count ∙ number) many)

answers_none : (some lost : ℕ) (old new : List (List ℕ)) → IsAmong some lost (length old) → length old ≤ 32 →
    lost_count some ≤ 3 → (IsSolvable (is_lost some) old → ⊥) →
    ((place : ℕ) → lost_count some ≤ 1 → place < length old → IsSolvable (lost_or some place) old → ⊥) →
    IsOutcome (cells_without lost old) new (Err fault.Mismatch)
answers_none some lost old new among most few unsolvable none =
    let count : lost_count some ≡ unreadable_count (cells_without some old) = count_among some lost old among most in
    for_lost some lost old new (Err fault.Mismatch) among
    (found_none (cells_without some old) new (omega arith)
    (no_reading some old unsolvable (λ place one within. none place (omega arith) within)))

-- after a solving that left the sectors as they were
pub wrong_after : (some lost place : ℕ) (old mid new : List (List ℕ)) → IsAmong some lost (length old) → length old ≤ 32 →
    mid ≡ old → lost_count some ≤ 1 → (IsSolvable (is_lost some) old → ⊥) → IsCodeBlock new →
    AgreesOutside (lost_or some place) mid new → IsOutcome (cells_without lost old) new (wrong_of place)
wrong_after some lost place old mid new among most same few unsolvable code agrees =
    answers_wrong some lost place old new among most few unsolvable code
    (subst (λ (sectors : List (List ℕ)). AgreesOutside (lost_or some place) sectors new) same agrees)

pub none_after : (some lost : ℕ) (old mid new : List (List ℕ)) → IsAmong some lost (length old) → length old ≤ 32 →
    mid ≡ old → lost_count some ≤ 3 → (IsSolvable (is_lost some) old → ⊥) →
    ((place : ℕ) → lost_count some ≤ 1 → place < length mid → IsSolvable (lost_or some place) mid → ⊥) →
    IsOutcome (cells_without lost old) new (Err fault.Mismatch)
none_after some lost old mid new among most same few unsolvable none =
    answers_none some lost old new among most few unsolvable
    (subst
    (λ (sectors : List (List ℕ)). (place : ℕ) → lost_count some ≤ 1 → place < length sectors →
    IsSolvable (lost_or some place) sectors → ⊥)
    same none)
