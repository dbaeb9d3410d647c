-- What a plan has prepared, and what it does to sectors.
use Rattle.std.proofs.Common.{◌≡◌, ℕ, ◌-◌, ◌<◌, ◌≤◌, refl, sym, ◌∙◌, ap, subst, arith, inl, inr, bit_xor, List, [], ◌∷◌, length, All}
use Rattle.std.proofs.Common.{get_or, set, slice_get, Some, map, false, zero-add}
use Rattle.std.proofs.Math.ListN.{length-set}
use Rattle.std.proofs.lemmas.Bool.{cases_lt}
use Rattle.std.proofs.lemmas.List.{same_lists}
use Rattle.std.proofs.lemmas.List.FromFn.{length-map-range_with_len, get_or-map-range_with_len}
use Rattle.std.specs.List.{range_with_len}
use Rattle.qic_base.specs.Cartridge.{lost_places, IsSector}
use Rattle.std.proofs.lemmas.Option.{slice_get-get_or}
use Rattle.cartridge_spec.specs.Code.{product, power, value_at, column, IsCodeBlock}
use Rattle.gf256_qic.specs.Code.{AgreesOutside, IsSolvable}
use Rattle.gf256_qic.proofs.Products.{product_zero_right, product_one_left}
use Rattle.gf256_qic.proofs.Values.{value_at-byte}
use Rattle.gf256_qic.proofs.Parities.{bytes_of_column}
use Rattle.erasure_solve.specs.Lost.{lost_count}
use Rattle.erasure_solve.specs.Rows.{IsZero, AreValues, AreZero, Corrects, weighed_sum, weighed_byte, weighed_row}
use Rattle.erasure_solve.specs.Correction.{correction, correction_factors, Corrections, AreDegrees, Found, Agree, Applied, AllApplied}
use Rattle.erasure_solve.specs.Plan.{planned_count, planned_lost, corrections_of, IsPlan, IsFull}
use Rattle.erasure_solve.specs.declared.coefficients.Coefficients.{Coefficients}
use Rattle.erasure_solve.specs.declared.values.Values.{Values}
use Rattle.erasure_solve.specs.declared.plan.Plan.{Plan}
use Rattle.erasure_solve.proofs.Blocks.{ThreeDegrees, three_degrees, third_from_others, any_default_of, get_or-weighed_row, is_correction}
use Rattle.erasure_solve.proofs.Blocks.{made_block, must_agree, none_lost}
use Rattle.qic_base.specs.CartridgeTerms.{is_lost}

found_by :
    (plan : Plan) (values : Values) (ss : List (List ℕ)) → IsPlan plan → length ss ≡ planned_count plan →
    All IsSector ss → AreValues values ss → Found (planned_lost plan) ss (corrections_of plan values)
found_by plan values ss is count all are =
    let d : ℕ = plan.first.degree in
    let e : ℕ = plan.second.degree in
    let f : ℕ = plan.third.degree in
    record {
      sectors_fit = all;
      degrees = subst (λ (n : ℕ). AreDegrees (planned_lost plan) n (d ∷ e ∷ f ∷ [])) (sym count) is.degrees;
      first = is_correction values ss d e f plan.first.factors all are is.first;
      second = is_correction values ss e d f plan.second.factors all are is.second;
      third = is_correction values ss f d e plan.third.factors all are is.third;
    }

-- some sectors are what a correction makes of these
applied_to : (degree : ℕ) (row : List ℕ) (old : List (List ℕ)) → (degree < 32 → degree < length old) →
    (new : List (List ℕ)) × Applied degree row old new
applied_to degree row old inside =
    elim (cases_lt degree 32) [
      | inl low ↦
          let place : ℕ = length old - 1 - degree in
          let real : degree < length old = inside low in
          let byte : ℕ → ℕ = λ j. bit_xor (get_or (get_or old place []) j 0) (get_or row j 0) in
          let s : List ℕ = map byte (range_with_len 0 1024) in
          let same : get_or old place [] ≡ get_or old place s = any_default_of old place [] s (omega arith) in (
            set old place s,
            record {
              beyond = λ high. absurd (omega arith);
              within = λ h. (
                s,
                refl,
                record {
                  size = length-map-range_with_len byte 0 1024;
                  each = λ j lt.
                      get_or-map-range_with_len byte 0 1024 j j 0 lt (zero-add j)
                      ∙ ap (λ (r : List ℕ). bit_xor (get_or r j 0) (get_or row j 0)) same;
                },
              );
            },
          )
      | inr high ↦ (old, record { beyond = λ h. refl; within = λ low. absurd (omega arith) })
    ]

size_of_applied : (degree : ℕ) (row : List ℕ) (old new : List (List ℕ)) → Applied degree row old new → length new ≡ length old
size_of_applied degree row old new applied =
    elim (cases_lt degree 32) [
      | inl low ↦
          let done = applied.within low in
          let s : List ℕ = done.0 in
          let new_is : new ≡ set old (length old - 1 - degree) s = done.1 in
          ap (λ (ss : List (List ℕ)). length ss) new_is ∙ length-set old (length old - 1 - degree) s
      | inr high ↦ ap (λ (ss : List (List ℕ)). length ss) (applied.beyond high)
    ]

all_applied_to : (mask : ℕ) (old : List (List ℕ)) (corrections : Corrections) → Found mask old corrections →
    (new : List (List ℕ)) × AllApplied corrections old new
all_applied_to mask old corrections found =
    let within : (k degree : ℕ) → k < 3 → get_or (corrections.first.degree ∷ corrections.second.degree ∷ corrections.third.degree ∷ []) k
    0 ≡ degree →
    degree < 32 → degree < length old =
    λ k degree hk at small. subst (λ (x : ℕ). x < length old) at (found.degrees.within k hk (subst (λ (x : ℕ). x < 32) (sym at) small)) in
    let one = applied_to corrections.first.degree corrections.first.bytes old (within 0 corrections.first.degree (omega arith) refl) in
    let size1 : length one.0 ≡ length old = size_of_applied corrections.first.degree corrections.first.bytes old one.0 one.1 in
    let two = applied_to corrections.second.degree corrections.second.bytes one.0
    (λ small. let real : corrections.second.degree < length old = within 1 corrections.second.degree (omega arith) refl small in
    omega arith) in
    let size2 : length two.0 ≡ length one.0 = size_of_applied corrections.second.degree corrections.second.bytes one.0 two.0 two.1 in
    let three = applied_to corrections.third.degree corrections.third.bytes two.0
    (λ small. let real : corrections.third.degree < length old = within 2 corrections.third.degree (omega arith) refl small in omega arith)
    in
    (three.0, record { once = one.0; twice = two.0; first = one.1; second = two.1; third = three.1 })

-- corrections that can be made make some code block
agree_solvable : (mask : ℕ) (old : List (List ℕ)) (corrections : Corrections) → 4 ≤ length old → length old ≤ 32 →
    Found mask old corrections → Agree corrections → IsSolvable (is_lost mask) old
agree_solvable mask old corrections least most found agree =
    let applied = all_applied_to mask old corrections found in
    let made = made_block mask old applied.0 corrections least most found agree applied.1 in
    record { block = applied.0; codewords = made.0; agrees = made.1 }

-- values of 0 change nothing
zero_row : (values : Values) (factors : List ℕ) → AreZero values → IsZero (weighed_row values factors)
unfolding weighed_sum
zero_row values factors zeros = record {
  each = λ j h.
      let k : ℕ = product (get_or factors 0 0) values.scale in
      let l : ℕ = get_or factors 1 0 in
      let m : ℕ = get_or factors 2 0 in
      get_or-weighed_row values factors j h
      ∙ ap (λ v. bit_xor (bit_xor (product k v) (product l (get_or values.at_one j 0))) (product m (get_or values.at_generator j 0)))
      (zeros.reversed.each j h)
      ∙ ap (λ v. bit_xor (bit_xor (product k 0) (product l v)) (product m (get_or values.at_generator j 0))) (zeros.at_one.each j h)
      ∙ ap (λ v. bit_xor (bit_xor (product k 0) (product l 0)) (product m v)) (zeros.at_generator.each j h)
      ∙ ap (λ v. bit_xor (bit_xor v (product l 0)) (product m 0)) (product_zero_right k)
      ∙ ap (λ v. bit_xor (bit_xor 0 v) (product m 0)) (product_zero_right l)
      ∙ ap (bit_xor 0) (product_zero_right m);
}

pub zero_agree : (plan : Plan) (values : Values) → AreZero values → Agree (corrections_of plan values)
zero_agree plan values zeros = record {
  first = record { nothing = λ high. zero_row values plan.first.factors zeros };
  second = record { nothing = λ high. zero_row values plan.second.factors zeros };
  third = record { nothing = λ high. zero_row values plan.third.factors zeros };
}

-- where three places are lost no equation is left over
full_agree : (plan : Plan) (values : Values) → IsFull plan → Agree (corrections_of plan values)
full_agree plan values full = record {
  first = record { nothing = λ high. absurd (omega (arith, full.first)) };
  second = record { nothing = λ high. absurd (omega (arith, full.second)) };
  third = record { nothing = λ high. absurd (omega (arith, full.third)) };
}

-- the plan from the degrees and the factors at them
three_elements : (xs : List ℕ) → length xs ≡ 3 → xs ≡ get_or xs 0 0 ∷ get_or xs 1 0 ∷ get_or xs 2 0 ∷ []
three_elements [] h = absurd (cc)
three_elements (a ∷ []) h = absurd (omega arith)
three_elements (a ∷ b ∷ []) h = absurd (omega arith)
three_elements (a ∷ b ∷ c ∷ []) h = refl
three_elements (a ∷ b ∷ c ∷ d ∷ xs) h = absurd (omega arith)

pub degrees_of :
    (mask count : ℕ) (ds : List ℕ) (d e f : ℕ) → AreDegrees mask count ds →
    d ≡ get_or ds 0 0 → e ≡ get_or ds 1 0 → f ≡ get_or ds 2 0 → AreDegrees mask count (d ∷ e ∷ f ∷ [])
degrees_of mask count ds d e f degrees ed ee ef =
    let same : ds ≡ d ∷ e ∷ f ∷ [] =
    three_elements ds degrees.size
    ∙ ap (λ (x : ℕ). x ∷ get_or ds 1 0 ∷ get_or ds 2 0 ∷ []) (sym ed)
    ∙ ap (λ (x : ℕ). d ∷ x ∷ get_or ds 2 0 ∷ []) (sym ee)
    ∙ ap (λ (x : ℕ). d ∷ e ∷ x ∷ []) (sym ef) in
    subst (λ (l : List ℕ). AreDegrees mask count l) same degrees

pub factors_of : (factors : List ℕ) (x y z d e f : ℕ) → factors ≡ correction_factors (power 2 x) (power 2 y) (power 2 z) →
    d ≡ x → e ≡ y → f ≡ z → factors ≡ correction_factors (power 2 d) (power 2 e) (power 2 f)
factors_of factors x y z d e f same ed ee ef =
    same
    ∙ ap (λ (v : ℕ). correction_factors (power 2 v) (power 2 y) (power 2 z)) (sym ed)
    ∙ ap (λ (v : ℕ). correction_factors (power 2 d) (power 2 v) (power 2 z)) (sym ee)
    ∙ ap (λ (v : ℕ). correction_factors (power 2 d) (power 2 e) (power 2 v)) (sym ef)

-- another row of the same bytes
applied_as : (degree : ℕ) (row other : List ℕ) (old new : List (List ℕ)) →
    ((j : ℕ) → j < 1024 → get_or row j 0 ≡ get_or other j 0) → Applied degree row old new → Applied degree other old new
applied_as degree row other old new same applied = record {
  beyond = applied.beyond;
  within = λ low.
      let done = applied.within low in
      let adds = done.2 in (
        done.0,
        done.1,
        record {
          size = adds.size;
          each = λ j h. adds.each j h ∙ ap (bit_xor (get_or (get_or old (length old - 1 - degree) done.0) j 0)) (same j h);
        },
      );
}

pub filled :
    (plan : Plan) (values rows : Values) (old once twice new : List (List ℕ)) → IsPlan plan → length old ≡ planned_count plan →
    All IsSector old → AreValues values old → IsSolvable (is_lost (planned_lost plan)) old →
    Corrects values plan.first.factors plan.second.factors rows →
    Applied plan.first.degree rows.reversed old once → Applied plan.second.degree rows.at_one once twice →
    Applied plan.third.degree rows.at_generator twice new →
    IsCodeBlock new × AgreesOutside (is_lost (planned_lost plan)) old new
filled plan values rows old once twice new is count all are solvable made one two three =
    let least : 4 ≤ planned_count plan = is.least in
    let most : planned_count plan ≤ 32 = is.most in
    let d : ℕ = plan.first.degree in
    let e : ℕ = plan.second.degree in
    let f : ℕ = plan.third.degree in
    let found : Found (planned_lost plan) old (corrections_of plan values) = found_by plan values old is count all are in
    let places : ThreeDegrees d e f = three_degrees (planned_lost plan) (planned_count plan) d e f is.degrees in
    let s : ℕ → ℕ = λ j. value_at 0xC3 (column j old) in
    let t : ℕ → ℕ = λ j. value_at 1 (column j old) in
    let u : ℕ → ℕ = λ j. value_at 2 (column j old) in
    let a : ℕ → ℕ = λ j. correction (power 2 d) (power 2 e) (power 2 f) (s j) (t j) (u j) in
    let b : ℕ → ℕ = λ j. correction (power 2 e) (power 2 d) (power 2 f) (s j) (t j) (u j) in
    let first : (j : ℕ) → j < 1024 → weighed_byte values plan.first.factors j ≡ a j =
    λ j h. sym (get_or-weighed_row values plan.first.factors j h) ∙ found.first.each j h in
    let second : (j : ℕ) → j < 1024 → weighed_byte values plan.second.factors j ≡ b j =
    λ j h. sym (get_or-weighed_row values plan.second.factors j h) ∙ found.second.each j h in
    let row : Coefficients → List ℕ = λ own. weighed_row values own.factors in
    made_block (planned_lost plan) old new (corrections_of plan values) (omega arith) (omega arith) found
    (must_agree (planned_lost plan) old (corrections_of plan values) (omega arith) found solvable)
    (record {
      once = once;
      twice = twice;
      first = applied_as d rows.reversed (row plan.first) old once
          (λ j h. made.at_first j h ∙ sym (get_or-weighed_row values plan.first.factors j h)) one;
      second = applied_as e rows.at_one (row plan.second) once twice
          (λ j h. made.at_second j h ∙ sym (get_or-weighed_row values plan.second.factors j h)) two;
      third = applied_as f rows.at_generator (row plan.third) twice new
          (λ j h.
          made.at_third j h
          ∙ ap (λ v. bit_xor (bit_xor v (weighed_byte values plan.second.factors j)) (get_or values.at_one j 0)) (first j h)
          ∙ ap (λ v. bit_xor (bit_xor (a j) v) (get_or values.at_one j 0)) (second j h)
          ∙ ap (bit_xor (bit_xor (a j) (b j))) (are.at_one.each j h)
          ∙ third_from_others old d e f j places all h
          ∙ sym (found.third.each j h)) three;
    })

pub plan_solvable : (plan : Plan) (values : Values) (ss : List (List ℕ)) → IsPlan plan → length ss ≡ planned_count plan →
    All IsSector ss → AreValues values ss → Agree (corrections_of plan values) → IsSolvable (is_lost (planned_lost plan)) ss
plan_solvable plan values ss is count all are agree =
    let least : 4 ≤ planned_count plan = is.least in
    let most : planned_count plan ≤ 32 = is.most in
    agree_solvable (planned_lost plan) ss (corrections_of plan values) (omega arith) (omega arith)
    (found_by plan values ss is count all are) agree

pub plan_agrees : (plan : Plan) (values : Values) (ss : List (List ℕ)) → IsPlan plan → length ss ≡ planned_count plan →
    All IsSector ss → AreValues values ss → IsSolvable (is_lost (planned_lost plan)) ss → Agree (corrections_of plan values)
plan_agrees plan values ss is count all are solvable =
    let most : planned_count plan ≤ 32 = is.most in
    must_agree (planned_lost plan) ss (corrections_of plan values) (omega arith)
    (found_by plan values ss is count all are) solvable

-- where nothing is lost, a code block that agrees is the sectors themselves
pub solvable_whole : (ss : List (List ℕ)) → IsSolvable (is_lost 0) ss → IsCodeBlock ss
solvable_whole ss solvable =
    let same : ss ≡ solvable.block =
    same_lists ss solvable.block solvable.agrees.size (λ i d lt.
    let kept : is_lost 0 i ≡ false = none_lost i in
    let there : slice_get ss i ≡ slice_get solvable.block i = solvable.agrees.others i lt kept in
    let ltb : i < length solvable.block = omega (arith, solvable.agrees.size) in
    let found : Some (get_or ss i d) ≡ Some (get_or solvable.block i d) =
    sym (slice_get-get_or ss i d lt) ∙ there ∙ slice_get-get_or solvable.block i d ltb in
    cc) in
    subst IsCodeBlock (sym same) solvable.codewords

pub whole_solvable : (ss : List (List ℕ)) → IsCodeBlock ss → IsSolvable (is_lost 0) ss
whole_solvable ss block = record {
  block = ss;
  codewords = block;
  agrees = record { size = refl; others = λ i h kept. refl };
}

pub none_counted : lost_count 0 ≡ 0
unfolding lost_places
none_counted = refl

-- ---- where three places are lost

values_of : List (List ℕ) → Values
values_of ss = record {
  reversed = map (λ j. value_at 0xC3 (column j ss)) (range_with_len 0 1024);
  at_one = map (λ j. value_at 0x01 (column j ss)) (range_with_len 0 1024);
  at_generator = map (λ j. value_at 0x02 (column j ss)) (range_with_len 0 1024);
  scale = 1;
}

are_values_of : (ss : List (List ℕ)) → All IsSector ss → AreValues (values_of ss) ss
unfolding values_of
are_values_of ss all =
    let at : (root j : ℕ) → j < 1024 →
    get_or (map (λ i. value_at root (column i ss)) (range_with_len 0 1024)) j 0 ≡ value_at root (column j ss) =
    λ root j h. get_or-map-range_with_len (λ i. value_at root (column i ss)) 0 1024 j j 0 h (zero-add j) in
    let byte : (j : ℕ) → j < 1024 → value_at 0xC3 (column j ss) < 256 =
    λ j h. value_at-byte 0xC3 (column j ss) (omega arith) (bytes_of_column j ss h all) in
    record {
      bytes = λ j h. subst (λ (v : ℕ). v < 256) (sym (at 0xC3 j h)) (byte j h);
      scale = omega arith;
      at_inverse = λ j h. ap (product 1) (at 0xC3 j h) ∙ product_one_left (value_at 0xC3 (column j ss)) (byte j h);
      at_one = record { each = at 1 };
      at_generator = record { each = at 2 };
    }

pub full_solvable : (plan : Plan) (ss : List (List ℕ)) → IsPlan plan → length ss ≡ planned_count plan →
    All IsSector ss → IsFull plan → IsSolvable (is_lost (planned_lost plan)) ss
full_solvable plan ss is count all full =
    plan_solvable plan (values_of ss) ss is count all (are_values_of ss all) (full_agree plan (values_of ss) full)
