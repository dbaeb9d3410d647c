-- The first of the segments in front that has a defect.
use Rattle.std.proofs.Common.{ℕ, ◌<◌, suc, arith, ◌≡◌, ◌⊎◌, inl, inr, ◌≤◌, zero}
use Rattle.std.proofs.lemmas.Bool.{cases_lt}
use Rattle.cartridge_laws.specs.FreshLaws.{HasDefectInFront, FirstDefectOrNone, FirstDefectIsNone, FirstDefectIsOne}
use Rattle.cartridge_spec.specs.Formatting.{IsDefect, HasNoDefectInFront, IsFirstDefectInFront}
use Rattle.qic_base.specs.Cartridge.{Cartridge, view_at}
use Rattle.qic_base.specs.declared.tape.SectorView.{SectorView}
use Rattle.qic_base.specs.declared.tape.SectorView.TheVariants.{Blank, Defect, Lost, Holds}

-- ---- a first number with a property

-- the first number below a bound that has it
record IsFirstBelow (P : ℕ → Type 0) (bound : ℕ) : Type 0 where
  place : ℕ
  within : place < bound
  here : P place
  before : (k : ℕ) → k < place → P k → ⊥

abbrev NoneBelow : (ℕ → Type 0) → ℕ → Type 0
NoneBelow P bound = (k : ℕ) → k < bound → P k → ⊥

longer : {P : ℕ → Type 0} {bound : ℕ} → IsFirstBelow P bound → IsFirstBelow P (suc bound)
longer f = record { place = f.place; within = let b = f.within in omega arith; here = f.here; before = f.before }

none_more : (P : ℕ → Type 0) (bound : ℕ) → NoneBelow P bound → (P bound → ⊥) → NoneBelow P (suc bound)
none_more P bound none not k h = by_place (cases_lt k bound)
  where
    at_bound : (j : ℕ) → j ≡ bound → P j → ⊥
    at_bound j same = rw same not

    by_place : (k < bound) ⊎ (bound ≤ k) → P k → ⊥
    by_place (inl below) = none k below
    by_place (inr past) = at_bound k (omega arith)

first_or_none : (P : ℕ → Type 0) → ((k : ℕ) → P k ⊎ (P k → ⊥)) → (bound : ℕ) → IsFirstBelow P bound ⊎ NoneBelow P bound
first_or_none P decide zero = inr (λ k h. absurd (omega arith))
first_or_none P decide (suc bound) = by_first (first_or_none P decide bound)
  where
    by_last : NoneBelow P bound → P bound ⊎ (P bound → ⊥) → IsFirstBelow P (suc bound) ⊎ NoneBelow P (suc bound)
    by_last none (inl here) = inl (record { place = bound; within = omega arith; here = here; before = none })
    by_last none (inr not) = inr (none_more P bound none not)

    by_first : IsFirstBelow P bound ⊎ NoneBelow P bound → IsFirstBelow P (suc bound) ⊎ NoneBelow P (suc bound)
    by_first (inl first) = inl (longer first)
    by_first (inr none) = by_last none (decide bound)

-- ---- a segment

defect_or_not : (view : SectorView) → IsDefect view ⊎ (IsDefect view → ⊥)
defect_or_not Blank = inr (λ h. h)
defect_or_not Defect = inl tt
defect_or_not Lost = inr (λ h. h)
defect_or_not (Holds bytes) = inr (λ h. h)

-- a sector of the segment is a defect
record HasDefectIn (c : Cartridge) (segment : ℕ) : Type 0 where
  pub index : ℕ
  pub within : index < 32
  pub is_defect : IsDefect (view_at c segment index)

abbrev HasNoDefectIn : Cartridge → (segment : ℕ) → Type 0
HasNoDefectIn c segment = (index : ℕ) → index < 32 → ¬ (IsDefect (view_at c segment index))

abbrev DefectAt : Cartridge → (segment index : ℕ) → Type 0
DefectAt c segment index = IsDefect (view_at c segment index)

segment_or_not : (c : Cartridge) (segment : ℕ) → HasDefectIn c segment ⊎ (HasDefectIn c segment → ⊥)
segment_or_not c segment = by_case (first_or_none (DefectAt c segment) (λ index. defect_or_not (view_at c segment index)) 32)
  where
    by_case : IsFirstBelow (DefectAt c segment) 32 ⊎ NoneBelow (DefectAt c segment) 32 → HasDefectIn c segment ⊎ (HasDefectIn c segment → ⊥)
    by_case (inl first) = inl (record { index = first.place; within = first.within; is_defect = first.here })
    by_case (inr none) = inr (λ (has : HasDefectIn c segment). none has.index has.within has.is_defect)

no_defect : {c : Cartridge} {segment : ℕ} → (HasDefectIn c segment → ⊥) → HasNoDefectIn c segment
no_defect not index within defect = not (record { index = index; within = within; is_defect = defect })

-- ---- the segments in front

pub first_defect_or_none : FirstDefectOrNone
first_defect_or_none c = by_case (first_or_none (HasDefectIn c) (segment_or_not c) 3)
  where
    by_case : IsFirstBelow (HasDefectIn c) 3 ⊎ NoneBelow (HasDefectIn c) 3 → HasDefectInFront c ⊎ HasNoDefectInFront c
    by_case (inl first) = inl (record {
      segment = first.place;
      is_first = record {
        in_front = first.within;
        index = first.here.index;
        within = first.here.within;
        is_defect = first.here.is_defect;
        before = λ t below. no_defect (first.before t below);
      };
    })
    by_case (inr none) = inr (λ segment within. no_defect (none segment within))

pub first_defect_is_none : FirstDefectIsNone
first_defect_is_none c has none =
    let first : IsFirstDefectInFront c has.segment = has.is_first in
    none has.segment first.in_front first.index first.within first.is_defect

not_before : (c : Cartridge) (one other : ℕ) → IsFirstDefectInFront c one → IsFirstDefectInFront c other → one < other → ⊥
not_before c one other first next below =
    next.before one below first.index first.within first.is_defect

pub first_defect_is_one : FirstDefectIsOne
first_defect_is_one c one other first next = by_order (cases_lt one other) (cases_lt other one)
  where
    by_order : (one < other) ⊎ (other ≤ one) → (other < one) ⊎ (one ≤ other) → one ≡ other
    by_order (inl below) turned = absurd (not_before c one other first next below)
    by_order (inr from) (inl below) = absurd (not_before c other one next first below)
    by_order (inr from) (inr upto) = omega arith
