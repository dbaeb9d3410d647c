-- The counts of a check.
use Rattle.std.proofs.Common.{◌≡◌, ◌≢◌, ℕ, ◌+◌, ◌==◌, ◌&&◌, Bool, true, false, List, [], ◌∷◌, ◌++◌, if◌then◌else◌, refl, sym, ap, ◌∙◌}
use Rattle.std.proofs.Common.{◌⊎◌, inl, inr, arith}
use Rattle.std.proofs.lemmas.Bool.{ne_eqb}
use Rattle.std.proofs.lemmas.List.{length_push}
use Rattle.std.proofs.lemmas.List.Sums.{sum_by_push}
use Rattle.std.specs.Prelude.{count_by}
use Rattle.dump_spec.specs.Answers.{check_status}
use Rattle.dump_spec.specs.Check.{Finding, is_weak, is_unread}
use Rattle.dump_spec.specs.declared.status.Status.TheVariants as status
use Rattle.dump_volumes.specs.Counts.{HasCounted}
use Rattle.dump_volumes.specs.declared.checking.CheckCounts.{CheckCounts}

one_more : (p : Finding → Bool) (old new : ℕ) (finding : Finding) (findings : List Finding) → old ≡ count_by p findings →
    new ≡ old + (if p finding then 1 else 0) → new ≡ count_by p (findings ++ finding ∷ [])
one_more p old new finding findings is more =
    more ∙ ap (λ (n : ℕ). n + (if p finding then 1 else 0)) is
    ∙ sym (sum_by_push (λ f. if p f then 1 else 0) findings finding)

pub counted_more : (old new : CheckCounts) (finding : Finding) (findings : List Finding) → new.segments ≡ old.segments + 1 →
    new.weak ≡ old.weak + (if is_weak finding then 1 else 0) → new.bad ≡ old.bad + (if is_unread finding then 1 else 0) →
    HasCounted old findings → HasCounted new (findings ++ finding ∷ [])
counted_more old new finding findings segments weak bad is = record {
  segments = let long = length_push findings finding in let before = is.segments in omega arith;
  weak = one_more is_weak old.weak new.weak finding findings is.weak weak;
  bad = one_more is_unread old.bad new.bad finding findings is.bad bad;
}

pub well_status : (counts : CheckCounts) (findings : List Finding) → counts.weak ≡ 0 → counts.bad ≡ 0 → HasCounted counts findings →
    status.Done ≡ check_status findings
well_status counts findings weak bad is =
    let w : count_by is_weak findings ≡ 0 = sym is.weak ∙ weak in
    let b : count_by is_unread findings ≡ 0 = sym is.bad ∙ bad in
    rw (w, b) refl

none_well : (weak bad : ℕ) → (weak ≢ 0) ⊎ (bad ≢ 0) → ((weak == 0) && (bad == 0)) ≡ false
none_well weak bad (inl some) = ap (λ (t : Bool). t && (bad == 0)) (ne_eqb weak 0 some)
none_well weak bad (inr some) = ap (λ (t : Bool). (weak == 0) && t) (ne_eqb bad 0 some) ∙ and_false (weak == 0) where
  and_false : (t : Bool) → (t && false) ≡ false
  and_false true = refl
  and_false false = refl

pub damaged_status : (counts : CheckCounts) (findings : List Finding) → (counts.weak ≢ 0) ⊎ (counts.bad ≢ 0) →
    HasCounted counts findings → status.Damaged counts.weak counts.bad ≡ check_status findings
damaged_status counts findings some is =
    let other : ((counts.weak == 0) && (counts.bad == 0)) ≡ false = none_well counts.weak counts.bad some in
    rw (← is.weak, ← is.bad, other) refl
