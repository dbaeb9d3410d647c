-- Telling of some segments and then of others: what is told of them, their acts, lines and counts.
use Rattle.std.proofs.Common.{◌≡◌, ℕ, suc, ◌+◌, ◌≤◌, cond, List, [], ◌∷◌, ◌++◌, length, refl, sym, ap, ◌∙◌}
use Rattle.std.proofs.Common.{arith, append_assoc}
use Rattle.std.specs.List.{AllZip, count_by}
use Rattle.std.proofs.lemmas.List.{length-append}
use Rattle.std.proofs.lemmas.List.Sums.{sum_by-append, sum_by-cons, count_by-le-length}
use Rattle.qic_base.specs.Acts.{Act, steps_of, text_of}
use Rattle.command_spec.specs.Scrub.{Looked}
use Rattle.command_spec.specs.Check.{MayBeTold, verdict_acts, verdict_line, verdict_lines, is_mendable, is_bad}
use Rattle.cartridge_check.specs.Telling.{Counted, HasFew}
use Rattle.command_spec.specs.declared.verdict.Verdict.{Verdict}
use Rattle.command_spec.specs.declared.verdict.Verdict.TheVariants.{Sound, Weak, Wrong, Unsettled, Contradicts, Gone}
use Rattle.cartridge_check.specs.declared.tally.Tally.{Tally}

-- ---- one list behind the other

pub zip_join : {A B : Type 0} (R : A → B → Type 0) (xs ys : List A) (us vs : List B) → AllZip R xs us → AllZip R ys vs →
    AllZip R (xs ++ ys) (us ++ vs)
zip_join R [] ys [] vs first next = next
zip_join R [] ys (u ∷ us) vs first next = absurd first
zip_join R (x ∷ xs) ys [] vs first next = absurd first
zip_join R (x ∷ xs) ys (u ∷ us) vs first next = (first.0, zip_join R xs ys us vs first.1 next)

-- what belongs to each of two parts
pub record PartsOf {A B : Type 0} (R : A → B → Type 0) (xs ys : List A) (ws : List B) : Type 0 where
  pub front : List B
  pub rest : List B
  pub parts : ws ≡ front ++ rest
  pub first : AllZip R xs front
  pub next : AllZip R ys rest

pub zip_part : {A B : Type 0} (R : A → B → Type 0) (xs ys : List A) (ws : List B) → AllZip R (xs ++ ys) ws → PartsOf R xs ys ws
zip_part R [] ys ws all = record { front = []; rest = ws; parts = refl; first = tt; next = all }
zip_part {B = B} R (x ∷ xs) ys [] all = absurd all
zip_part {B = B} R (x ∷ xs) ys (w ∷ ws) all =
    let later : PartsOf R xs ys ws = zip_part R xs ys ws all.1 in
    record {
      front = w ∷ later.front;
      rest = later.rest;
      parts = ap (λ (vs : List B). w ∷ vs) later.parts;
      first = (all.0, later.first);
      next = later.next;
    }

pub zip_length : {A B : Type 0} (R : A → B → Type 0) (xs : List A) (us : List B) → AllZip R xs us → length us ≡ length xs
zip_length R [] [] all = refl
zip_length R [] (u ∷ us) all = absurd all
zip_length R (x ∷ xs) [] all = absurd all
zip_length R (x ∷ xs) (u ∷ us) all = ap suc (zip_length R xs us all.1)

-- ---- acts and lines

pub acts_join : (xs ys : List Looked) (us vs : List Verdict) → length us ≡ length xs →
    verdict_acts (xs ++ ys) (us ++ vs) ≡ verdict_acts xs us ++ verdict_acts ys vs
acts_join [] ys [] vs each = refl
acts_join [] ys (u ∷ us) vs each = absurd (omega arith)
acts_join (x ∷ xs) ys [] vs each = absurd (omega arith)
acts_join (x ∷ xs) ys (u ∷ us) vs each =
    ap (λ (acts : List Act). record { steps = []; text = verdict_line x.segment u } ∷ acts) (acts_join xs ys us vs (omega arith))

pub lines_join : (xs ys : List Looked) (us vs : List Verdict) → length us ≡ length xs →
    verdict_lines (xs ++ ys) (us ++ vs) ≡ verdict_lines xs us ++ verdict_lines ys vs
lines_join [] ys [] vs each = refl
lines_join [] ys (u ∷ us) vs each = absurd (omega arith)
lines_join (x ∷ xs) ys [] vs each = absurd (omega arith)
lines_join (x ∷ xs) ys (u ∷ us) vs each =
    ap (λ (text : List ℕ). verdict_line x.segment u ++ text) (lines_join xs ys us vs (omega arith))
    ∙ sym (append_assoc (verdict_line x.segment u) (verdict_lines xs us) (verdict_lines ys vs))

-- none of these acts has a step, so that all steps are those of the acts behind them
pub no_steps : (xs : List Looked) (us : List Verdict) (acts : List Act) → steps_of (verdict_acts xs us ++ acts) ≡ steps_of acts
no_steps [] us acts = refl
no_steps (x ∷ xs) [] acts = refl
no_steps (x ∷ xs) (u ∷ us) acts = no_steps xs us acts

pub text_of_acts : (xs : List Looked) (us : List Verdict) → text_of (verdict_acts xs us) ≡ verdict_lines xs us
text_of_acts [] us = refl
text_of_acts (x ∷ xs) [] = refl
text_of_acts (x ∷ xs) (u ∷ us) = ap (λ (text : List ℕ). verdict_line x.segment u ++ text) (text_of_acts xs us)

-- ---- some verdicts, where nothing is known

abbrev pub sound_all : List Looked → List Verdict
sound_all [] = []
sound_all (x ∷ xs) = Sound ∷ sound_all xs

pub sound_may : (xs : List Looked) → AllZip MayBeTold xs (sound_all xs)
sound_may [] = tt
sound_may (x ∷ xs) = (tt, sound_may xs)

-- ---- counts

pub counted_none : (tally : Tally) → Counted [] tally tally
counted_none tally = record { segments = omega arith; mendable = omega arith; bad = omega arith }

pub counted_both : (us vs : List Verdict) (a b c : Tally) → Counted us a b → Counted vs b c → Counted (us ++ vs) a c
counted_both us vs a b c first next =
    let all : length (us ++ vs) ≡ length us + length vs = length-append us vs in
    let mendable : count_by is_mendable (us ++ vs) ≡ count_by is_mendable us + count_by is_mendable vs =
    sum_by-append (λ (v : Verdict). cond (is_mendable v) 1 0) us vs in
    let bad : count_by is_bad (us ++ vs) ≡ count_by is_bad us + count_by is_bad vs =
    sum_by-append (λ (v : Verdict). cond (is_bad v) 1 0) us vs in
    record {
      segments = (let e = first.segments in let f = next.segments in omega arith);
      mendable = (let e = first.mendable in let f = next.mendable in omega arith);
      bad = (let e = first.bad in let f = next.bad in omega arith);
    }

-- the counts stay few
pub few_after : (us : List Verdict) (most : ℕ) (a b : Tally) → Counted us a b → HasFew most a → HasFew (most + length us) b
few_after us most a b counted few =
    let mendable : count_by is_mendable us ≤ length us = count_by-le-length is_mendable us in
    let bad : count_by is_bad us ≤ length us = count_by-le-length is_bad us in
    record {
      segments = (let e = counted.segments in let f = few.segments in omega arith);
      mendable = (let d = counted.segments in let e = counted.mendable in let f = few.mendable in omega arith);
      bad = (let d = counted.segments in let e = counted.bad in let f = few.bad in omega arith);
    }

pub few_more : (most more : ℕ) (a : Tally) → most ≤ more → HasFew most a → HasFew more a
few_more most more a within few = record {
  segments = (let e = few.segments in omega arith);
  mendable = few.mendable;
  bad = few.bad;
}

-- no segment is counted twice
pub counted_once : (vs : List Verdict) → count_by is_mendable vs + count_by is_bad vs ≤ length vs
counted_once [] = omega arith
counted_once (v ∷ vs) =
    let rest = counted_once vs in
    let mendable : count_by is_mendable (v ∷ vs) ≡ cond (is_mendable v) 1 0 + count_by is_mendable vs =
    sum_by-cons (λ (u : Verdict). cond (is_mendable u) 1 0) v vs in
    let bad : count_by is_bad (v ∷ vs) ≡ cond (is_bad v) 1 0 + count_by is_bad vs =
    sum_by-cons (λ (u : Verdict). cond (is_bad u) 1 0) v vs in
    let one : cond (is_mendable v) 1 0 + cond (is_bad v) 1 0 ≤ 1 = either v in
    omega arith
  where
    either : (u : Verdict) → cond (is_mendable u) 1 0 + cond (is_bad u) 1 0 ≤ 1
    either Sound = omega arith
    either (Weak lost) = omega arith
    either (Wrong sector) = omega arith
    either Unsettled = omega arith
    either Contradicts = omega arith
    either (Gone lost) = omega arith
