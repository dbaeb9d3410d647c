-- The lengths of the volumes that a generated run appends.
use Rattle.std.proofs.Common.{◌≡◌, ℕ, ◌+◌, ◌==◌, Bool, true, All, List, [], ◌∷◌, ◌++◌, length, drop, map, ◌∙◌, refl, subst}
use Rattle.std.proofs.Common.{append_assoc}
use Rattle.std.proofs.lemmas.Bool.{eq-eqb, or_left, or_right}
use Rattle.std.proofs.lemmas.List.Elements.{All-append, All-cons, All-map, All-nil}
use Rattle.std.proofs.lemmas.List.Folds.{list_any-append}
use Rattle.std.specs.List.{list_any, range_with_len}
use Rattle.cartridge_spec.specs.Table.{Entry}
use Rattle.command_laws.proofs.MadeOutcomes.{AreWears, wears_volumes}
use Rattle.command_spec.specs.Make.{AppendMade, MakeStep, ScrubAll, SumVolume, WearSector, appending, made_length, made_list, making}
use Rattle.command_spec.specs.Make.{summing, wearing_volumes}

-- some number of a list has the value of this one
abbrev pub has_value : (value : ℕ → ℕ) → List ℕ → (n : ℕ) → Bool
has_value value ns n = list_any (λ m. value m == value n) ns

-- so has each number of it
each_has : (value : ℕ → ℕ) (front rest : List ℕ) → All (λ n. has_value value (front ++ rest) n ≡ true) rest
each_has value front [] = All-nil (λ n. has_value value (front ++ []) n ≡ true)
each_has value front (n ∷ ns) =
    let here : has_value value (front ++ n ∷ ns) n ≡ true =
    list_any-append (λ m. value m == value n) front (n ∷ ns)
    ∙ or_right (has_value value front n) (has_value value (n ∷ ns) n)
    (or_left (value n == value n) (has_value value ns n) (eq-eqb (value n) (value n) refl)) in
    All-cons (λ m. has_value value (front ++ n ∷ ns) m ≡ true) n ns here
    (subst (λ (ms : List ℕ). All (λ m. has_value value ms m ≡ true) ns) (append_assoc front (n ∷ []) ns)
    (each_has value (front ++ n ∷ []) ns))

-- a step appends a volume that is as long as one of the run's
abbrev pub IsOfRun : (seed count : ℕ) → MakeStep → Type 0
IsOfRun seed count (AppendMade volume) = has_value (made_length seed) (range_with_len 1 count) volume ≡ true
IsOfRun seed count other = Unit {0}

wears_of : (seed count : ℕ) (items : List MakeStep) → AreWears items → All (IsOfRun seed count) items
wears_of seed count [] are = All-nil (IsOfRun seed count)
wears_of seed count (AppendMade volume ∷ items) are = absurd are
wears_of seed count (WearSector segment sector ∷ items) are =
    All-cons (IsOfRun seed count) (WearSector segment sector) items tt (wears_of seed count items are)
wears_of seed count (ScrubAll ∷ items) are = absurd are
wears_of seed count (SumVolume number ∷ items) are = absurd are

sums_of : (seed count : ℕ) (ns : List ℕ) → All (IsOfRun seed count) (map SumVolume ns)
sums_of seed count [] = All-nil (IsOfRun seed count)
sums_of seed count (n ∷ ns) = All-cons (IsOfRun seed count) (SumVolume n) (map SumVolume ns) tt (sums_of seed count ns)

-- all of its steps do
pub all_of_run : (seed count : ℕ) (words : List ℕ) (entries : List Entry) → All (IsOfRun seed count) (making seed count words entries)
all_of_run seed count words entries =
    let wears : List MakeStep = wearing_volumes words (drop (length entries) (made_list seed count words entries)) in
    let sums : List MakeStep = summing (length entries + 1) count in
    All-append (IsOfRun seed count) (appending 1 count) (wears ++ ScrubAll ∷ sums)
    (All-map (IsOfRun seed count) AppendMade (range_with_len 1 count) (each_has (made_length seed) [] (range_with_len 1 count)))
    (All-append (IsOfRun seed count) wears (ScrubAll ∷ sums)
    (wears_of seed count wears (wears_volumes words (drop (length entries) (made_list seed count words entries))))
    (All-cons (IsOfRun seed count) ScrubAll sums tt (sums_of seed count (range_with_len (length entries + 1) count))))
