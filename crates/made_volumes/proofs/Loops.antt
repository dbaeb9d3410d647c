-- The steps of a run, part by part.
use Rattle.std.proofs.Common.{◌≡◌, ℕ, zero, suc, ◌+◌, List, ◌∷◌, ◌++◌, ap, ◌∙◌, arith, [], sym, ◌-◌, ◌≤◌, refl, Result, subst, ◌<◌, length}
use Rattle.std.proofs.Common.{take, ◌%◌, ◌==◌, cond, append_assoc, drop, slice_get, Some, append-nil}
use Rattle.std.proofs.lemmas.List.{take_more, take-append-drop}
use Rattle.std.proofs.lemmas.Option.{slice_get_within, get_or_from_slice_get}
use Rattle.cartridge_spec.specs.Table.{Entry}
use Rattle.cartridge_spec.specs.Volumes.{carrying_segments}
use Rattle.command_laws.proofs.MadeMachineLaws.{after_items-append}
use Rattle.command_spec.specs.Make.{MakeStep, AppendMade, appending, made_list, summing, WearSector, wearing_in, wearing_volumes, SumVolume}
use Rattle.command_laws.specs.MadeTerms.{made_entry, first_two, after_items, wearing}
use Rattle.made_volumes.proofs.Joining.{ends_behind}
use Rattle.made_volumes.specs.Runs.{HasRun, RunEnds}
use Rattle.qic_base.specs.declared.store_fault.StoreFault.{StoreFault}
use Rattle.qic_base.proofs.LostSetLaws.{lost_places-lost, lost_places-kept}
use Rattle.qic_base.proofs.Writing.{TakesBoth}
use Rattle.qic_base.specs.Acts.{Outside}
use Rattle.qic_base.specs.Cartridge.{lost_places}
use Rattle.qic_base.specs.CartridgeTerms.{IsLost}
use Rattle.qic_base.specs.Sink as sinks
use Rattle.qic_base.specs.Tape as tapes
use Rattle.command_spec.specs.declared.status.Status.TheVariants as status

-- ---- appends

appending_part : (v m n : ℕ) → appending v (m + n) ≡ appending v m ++ appending (v + m) n
appending_part v zero n =
    let none : zero + n ≡ n = omega arith in
    let here : v ≡ v + zero = omega arith in
    ap (appending v) none ∙ ap (λ (w : ℕ). appending w n) here
appending_part v (suc m) n =
    let first : suc m + n ≡ suc (m + n) = omega arith in
    let here : v + 1 + m ≡ v + suc m = omega arith in
    ap (appending v) first ∙ ap (λ (xs : List MakeStep). AppendMade v ∷ xs) (appending_part (v + 1) m n)
    ∙ ap (λ (w : ℕ). AppendMade v ∷ (appending (v + 1) m ++ appending w n)) here

-- the appends up to a volume, which is the next one
pub appending_next : (n : ℕ) → appending 1 n ++ AppendMade (1 + n) ∷ [] ≡ appending 1 (n + 1)
appending_next n = sym (appending_part 1 n 1)

pub appending_whole : (n count : ℕ) → n ≤ count → appending 1 n ++ appending (1 + n) (count - n) ≡ appending 1 count
appending_whole n count few =
    let all : n + (count - n) ≡ count = omega arith in
    sym (appending_part 1 n (count - n)) ∙ ap (appending 1) all

pub made_next : (seed n : ℕ) (words : List ℕ) (es : List Entry) →
    made_list seed (n + 1) words es ≡ made_list seed n words es ++ made_entry seed words (made_list seed n words es) (1 + n) ∷ []
made_next seed n words es =
    ap (after_items seed words es) (sym (appending_next n)) ∙ after_items-append seed words es (appending 1 n) (AppendMade (1 + n) ∷ [])

pub after_summing : (seed : ℕ) (words : List ℕ) (es : List Entry) (number count : ℕ) → after_items seed words es (summing number count) ≡ es
after_summing seed words es number zero = refl
after_summing seed words es number (suc count) = after_summing seed words es (number + 1) count

-- behind these, steps go on with the same list
module _ {T K : Type 0} (t : tapes.Meaning T) (k : sinks.Meaning K) (seed : ℕ) (words : List ℕ) (es : List Entry) where
  pub ends_after : TakesBoth k → (xs ys : List MakeStep) (a b c : Outside T (Unit {0}) K) (r : Result (Unit {0}) StoreFault) →
      after_items seed words es xs ≡ es →
      HasRun t k seed words es xs a b status.Done → RunEnds t k seed words es ys b c r → RunEnds t k seed words es (xs ++ ys) a c r
  ends_after both xs ys a b c r kept first next =
      ends_behind t k seed words both es xs ys a b c r first
      (subst (λ (now : List Entry). RunEnds t k seed words now ys b c r) (sym kept) next)

-- ---- worn sectors

-- the first two of some sectors, and of these with one more
two_more : (xs : List ℕ) (x : ℕ) → length (take 2 xs) < 2 → take 2 (xs ++ x ∷ []) ≡ take 2 xs ++ x ∷ []
two_more [] x few = refl
two_more (y ∷ []) x few = refl
two_more (y ∷ z ∷ xs) x few = absurd (omega arith)

pub two_full : (xs ys : List ℕ) → 2 ≤ length (take 2 xs) → take 2 (xs ++ ys) ≡ take 2 xs
two_full [] ys full = absurd (omega arith)
two_full (y ∷ []) ys full = absurd (omega arith)
two_full (y ∷ z ∷ xs) ys full = refl

-- the first two usable sectors below one
abbrev pub two_below : (mask sector : ℕ) → List ℕ
two_below mask sector = take 2 (lost_places mask sector)

pub two_next : (mask sector : ℕ) → IsLost mask sector → length (two_below mask sector) < 2 →
    two_below mask (sector + 1) ≡ two_below mask sector ++ sector ∷ []
two_next mask sector usable few = ap (take 2) (lost_places-lost mask sector usable) ∙ two_more (lost_places mask sector) sector few

pub two_passed : (mask sector : ℕ) → ¬ (IsLost mask sector) → two_below mask (sector + 1) ≡ two_below mask sector
two_passed mask sector bad = ap (take 2) (lost_places-kept mask sector bad)

pub wearing_next : (segment : ℕ) (xs : List ℕ) (x : ℕ) → wearing segment xs ++ WearSector segment x ∷ [] ≡ wearing segment (xs ++ x ∷ [])
wearing_next segment [] x = refl
wearing_next segment (y ∷ xs) x = ap (λ (items : List MakeStep). WearSector segment y ∷ items) (wearing_next segment xs x)

pub wearing_part : (segment : ℕ) (xs ys : List ℕ) → wearing segment (xs ++ ys) ≡ wearing segment xs ++ wearing segment ys
wearing_part segment [] ys = refl
wearing_part segment (x ∷ xs) ys = ap (λ (items : List MakeStep). WearSector segment x ∷ items) (wearing_part segment xs ys)

pub wearing_in_part : (words xs ys : List ℕ) → wearing_in words (xs ++ ys) ≡ wearing_in words xs ++ wearing_in words ys
wearing_in_part words [] ys = refl
wearing_in_part words (x ∷ xs) ys =
    let here : List MakeStep = cond (x % 100 == 0) (wearing x (first_two words x)) [] in
    ap (λ (items : List MakeStep). here ++ items) (wearing_in_part words xs ys)
    ∙ sym (append_assoc here (wearing_in words xs) (wearing_in words ys))

wearing_volumes_part : (words : List ℕ) (xs ys : List Entry) →
    wearing_volumes words (xs ++ ys) ≡ wearing_volumes words xs ++ wearing_volumes words ys
wearing_volumes_part words [] ys = refl
wearing_volumes_part words (x ∷ xs) ys =
    let here : List MakeStep = wearing_in words (carrying_segments words x) in
    ap (λ (items : List MakeStep). here ++ items) (wearing_volumes_part words xs ys)
    ∙ sym (append_assoc here (wearing_volumes words xs) (wearing_volumes words ys))

-- a list without its first ones, at a place
slice_get_behind : (n i : ℕ) (xs : List Entry) → slice_get (drop n xs) i ≡ slice_get xs (n + i)
slice_get_behind zero i xs = let same : i ≡ zero + i = omega arith in ap (slice_get xs) same
slice_get_behind (suc n) i [] = refl
slice_get_behind (suc n) i (x ∷ xs) =
    let next : suc n + i ≡ suc (n + i) = omega arith in
    slice_get_behind n i xs ∙ sym (ap (slice_get (x ∷ xs)) next)

-- one volume more
pub volumes_next : (words : List ℕ) (first n : ℕ) (xs : List Entry) (e : Entry) → slice_get xs (first + n) ≡ Some e →
    wearing_volumes words (take n (drop first xs)) ++ wearing_in words (carrying_segments words e) ≡ wearing_volumes words
    (take (n + 1) (drop first xs))
volumes_next words first n xs e at =
    let rest : List Entry = drop first xs in
    let there : slice_get rest n ≡ Some e = slice_get_behind first n xs ∙ at in
    let next : take (n + 1) rest ≡ take n rest ++ e ∷ [] =
    take_more rest n e (slice_get_within rest n e there) ∙ ap (λ (x : Entry). take n rest ++ x ∷ [])
    (get_or_from_slice_get rest n e e there) in
    sym (ap (wearing_volumes words) next ∙ wearing_volumes_part words (take n rest) (e ∷ [])
    ∙ ap (λ (items : List MakeStep). wearing_volumes words (take n rest) ++ items)
    (append-nil (wearing_in words (carrying_segments words e))))

pub volumes_whole : (words : List ℕ) (n : ℕ) (xs : List Entry) → wearing_volumes words (take n xs) ++ wearing_volumes words
    (drop n xs) ≡ wearing_volumes words xs
volumes_whole words n xs = sym (wearing_volumes_part words (take n xs) (drop n xs)) ∙ ap (wearing_volumes words) (take-append-drop n xs)

-- ---- sums

summing_part : (v m n : ℕ) → summing v (m + n) ≡ summing v m ++ summing (v + m) n
summing_part v zero n =
    let none : zero + n ≡ n = omega arith in
    let here : v ≡ v + zero = omega arith in
    ap (summing v) none ∙ ap (λ (w : ℕ). summing w n) here
summing_part v (suc m) n =
    let first : suc m + n ≡ suc (m + n) = omega arith in
    let here : v + 1 + m ≡ v + suc m = omega arith in
    ap (summing v) first ∙ ap (λ (xs : List MakeStep). SumVolume v ∷ xs) (summing_part (v + 1) m n)
    ∙ ap (λ (w : ℕ). SumVolume v ∷ (summing (v + 1) m ++ summing w n)) here

pub summing_next : (v n : ℕ) → summing v n ++ SumVolume (v + n) ∷ [] ≡ summing v (n + 1)
summing_next v n = sym (summing_part v n 1)

pub summing_whole : (v n count : ℕ) → n ≤ count → summing v n ++ summing (v + n) (count - n) ≡ summing v count
summing_whole v n count few =
    let all : n + (count - n) ≡ count = omega arith in
    sym (summing_part v n (count - n)) ∙ ap (summing v) all
