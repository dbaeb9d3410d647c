-- What is told of a volume whose segments are written one after the other.
use Rattle.std.proofs.Common.{◌≡◌, ℕ, ◌+◌, ◌-◌, ◌≤◌, List, [], ◌∷◌, ◌++◌, length, refl, sym, ap, ◌∙◌, arith, cond, eqb, Bool}
use Rattle.std.specs.Prelude.{slice_index}
use Rattle.std.proofs.lemmas.Bool.{eq-eqb, ne_eqb}
use Rattle.std.proofs.lemmas.List.{get_or_push, length_push}
use Rattle.volume_input.specs.Next.{grown}
use Rattle.volume_input.specs.declared.written.Written.{Written}

-- the number of bytes, and the first and the last of the segments
pub record Tells (taken : List ℕ) (count : ℕ) (written : Written) : Type 0 where
  pub bytes : written.bytes ≡ count
  pub start : written.start ≡ slice_index taken 0
  pub end : written.end ≡ slice_index taken (length taken - 1)

start_first : (n segment start : ℕ) → n ≡ 0 → cond (eqb n 0) segment start ≡ segment
start_first n segment start none = ap (λ (b : Bool). cond b segment start) (eq-eqb n 0 none)

start_later : (n segment start : ℕ) → 1 ≤ n → cond (eqb n 0) segment start ≡ start
start_later n segment start some = ap (λ (b : Bool). cond b segment start) (ne_eqb n 0 (λ e. omega arith))

last_pushed : (front : List ℕ) (segment : ℕ) → slice_index (front ++ segment ∷ []) (length (front ++ segment ∷ []) - 1) ≡ segment
last_pushed front segment =
    let place : length front ≡ length (front ++ segment ∷ []) - 1 = omega (arith, length_push front segment) in
    get_or_push front segment 0 (length (front ++ segment ∷ []) - 1) place

-- with a segment more
pub tells_more : (front : List ℕ) (segment m n : ℕ) (written : Written) → (length front ≡ 0 → m ≡ 0) → (1 ≤ length front → 1 ≤ m) →
    Tells front m written →
    Tells (front ++ segment ∷ []) (m + n) (grown written segment n)
tells_more [] segment m n written none some tells = record {
  bytes = ap (λ (k : ℕ). k + n) tells.bytes;
  start = start_first written.bytes segment written.start (tells.bytes ∙ none refl);
  end = refl;
}
tells_more (x ∷ xs) segment m n written none some tells = record {
  bytes = ap (λ (k : ℕ). k + n) tells.bytes;
  start = start_later written.bytes segment written.start (let few : 1 ≤ m = some (omega arith) in let same = tells.bytes in omega arith)
      ∙ tells.start;
  end = sym (last_pushed (x ∷ xs) segment);
}
