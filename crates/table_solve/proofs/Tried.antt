-- The sets that the reading of the table's segment tries, by its cells and by the sectors that were collected.
use Rattle.std.proofs.Common.{◌≡◌, ◌⊎◌, ℕ, zero, suc, ◌+◌, ◌/◌, ◌%◌, ◌^◌, ◌<◌, ◌≤◌, ◌++◌, inl, inr, refl, sym, ◌∙◌, ap, subst, arith, Bool}
use Rattle.std.proofs.Common.{true, false, List, [], ◌∷◌, length, map, filter, Option, Some, None, slice_get, unwrap_or, IsSomeAnd, nat_lt}
use Rattle.std.proofs.Common.{add-one, IfSome, get_or}
use Rattle.std.specs.Prelude.{◌==◌, if◌then◌else◌}
use Rattle.std.specs.List.{range_with_len}
use Rattle.std.specs.Option.{option_map}
use Rattle.std.proofs.lemmas.Bool.{cases_Bool, cases_eq, eqb-true, eq-eqb, ne_eqb, false≢true}
use Rattle.std.proofs.lemmas.Option.{slice_get_within, slice_get-get_or}
use Rattle.qic_base.specs.CartridgeTerms.{IsLost, is_lost}
use Rattle.qic_base.specs.Cartridge.{lost_places}
use Rattle.qic_base.specs.declared.tape.SectorView.{SectorView}
use Rattle.qic_base.specs.declared.tape.SectorView.TheVariants.{Blank, Defect, Lost, Holds}
use Rattle.erasure_solve.proofs.Places.{is_lost_from, lost_from}
use Rattle.cartridge_laws.specs.Segment.{IsUnreadable, hidden}
use Rattle.cartridge_spec.specs.Shape.{is_unreadable}
use Rattle.cartridge_laws.specs.TableCells.{sets_by_one, sets_by_two, unreadable_places, last_used}
use Rattle.cartridge_laws.specs.Slots.{has_used_slot}
use Rattle.cartridge_spec.specs.Says.{hidden_from, set_of, with_used, sets_by, unreadable_from, last_used_below, shows_used_slot}
use Rattle.cartridge_laws.proofs.Cells.{unreadable_at}
use Rattle.cartridge_laws.proofs.Sets.{IsOneOf, named_is_one, one_is_named}
use Rattle.volume_table.proofs.Used.{shows_lost, shows_kept}
use Rattle.segment_solve.specs.Gathered.{Gathered, NamesUnreadable, IsUnreadableAt}
use Rattle.table_solve.proofs.Places.{places_of_set}
use Rattle.segment_solve.proofs.SolvedCells.{unreadable_from_test}

-- ---- which cells are lost

unreadable_named : (cells : List SectorView) (i : ℕ) → IsUnreadableAt cells i → unreadable_at cells i ≡ true
unfolding unreadable_at
unreadable_named [] i un = absurd un
unreadable_named (cell ∷ cells) zero un = un
unreadable_named (cell ∷ cells) (suc i) un = unreadable_named cells i un

pub same_lost : (cells : List SectorView) (lost i : ℕ) → NamesUnreadable cells lost → is_lost lost i ≡ unreadable_at cells i
same_lost cells lost i names =
    elim (cases_Bool (is_lost lost i)) [
      | inl is ↦ is ∙ sym (unreadable_named cells i ((names i).0 (lost_from lost i is)))
      | inr not ↦ elim (cases_Bool (unreadable_at cells i)) [
        | inl un ↦ absurd (false≢true (sym not ∙ is_lost_from lost i ((names i).1 (unreadable_from_test cells i un))))
        | inr readable ↦ not ∙ sym readable
      ]
    ]

unreadable_filter : (place : ℕ) (cells : List SectorView) (test : ℕ → Bool) →
    ((i : ℕ) → i < length cells → test (place + i) ≡ unreadable_at cells i) →
    unreadable_from place cells ≡ filter test (range_with_len place (length cells))
unfolding unreadable_from unreadable_at
unreadable_filter place [] test same = refl
unreadable_filter place (cell ∷ cells) test same =
    let first : place ≡ place + 0 = omega arith in
    let here : test place ≡ is_unreadable cell = ap test first ∙ same 0 (omega arith) in
    let rest : unreadable_from (suc place) cells ≡ filter test (range_with_len (place + 1) (length cells)) =
    ap (λ (p : ℕ). unreadable_from p cells) (sym (add-one place))
    ∙ unreadable_filter (place + 1) cells test (λ i within.
    let next : place + 1 + i ≡ place + suc i = omega arith in ap test next ∙ same (suc i) (omega arith)) in
    ap (λ (b : Bool). if b then place ∷ unreadable_from (suc place) cells else unreadable_from (suc place) cells) (sym here)
    ∙ ap (λ (l : List ℕ). if test place then place ∷ l else l) rest

-- the unreadable places are those that are lost
pub places_lost : (cells : List SectorView) (lost : ℕ) → length cells ≡ 32 → NamesUnreadable cells lost →
    unreadable_places cells ≡ lost_places lost 32
places_lost cells lost count names =
    unreadable_filter 0 cells (is_lost lost) (λ i within.
    let same : 0 + i ≡ i = omega arith in ap (is_lost lost) same ∙ same_lost cells lost i names)
    ∙ ap (λ (n : ℕ). filter (is_lost lost) (range_with_len 0 n)) count
    ∙ sym (places_of_set lost (is_lost lost) (λ i within. refl))

-- ---- the cells outside a set

abbrev hidden_cell : (set place : ℕ) → SectorView → SectorView
hidden_cell set place cell = if is_lost set place then Lost else cell

hidden_get : (set place : ℕ) (cells : List SectorView) (i : ℕ) →
    slice_get (hidden_from set place cells) i ≡ option_map (hidden_cell set (place + i)) (slice_get cells i)
unfolding hidden_from
hidden_get set place [] i = refl
hidden_get set place (cell ∷ cells) zero =
    let same : place ≡ place + 0 = omega arith in ap (λ (p : ℕ). Some (hidden_cell set p cell)) same
hidden_get set place (cell ∷ cells) (suc i) =
    let same : suc place + i ≡ place + suc i = omega arith in
    hidden_get set (suc place) cells i ∙ ap (λ (p : ℕ). option_map (hidden_cell set p) (slice_get cells i)) same

hidden_at : (set : ℕ) (cells : List SectorView) (i : ℕ) → slice_get (hidden set cells) i ≡ option_map (hidden_cell set i)
    (slice_get cells i)
hidden_at set cells i =
    let same : 0 + i ≡ i = omega arith in
    hidden_get set 0 cells i ∙ ap (λ (p : ℕ). option_map (hidden_cell set p) (slice_get cells i)) same

pub hidden_kept : (set : ℕ) (cells : List SectorView) (i : ℕ) → ¬ (IsLost set i) → slice_get (hidden set cells) i ≡ slice_get cells i
hidden_kept set cells i kept =
    hidden_at set cells i ∙ by_cell (slice_get cells i)
  where
    by_cell : (o : Option SectorView) → option_map (hidden_cell set i) o ≡ o
    by_cell None = refl
    by_cell (Some cell) = ap (λ (b : Bool). Some (if b then Lost else cell)) (ne_eqb (set / 2 ^ i % 2) 1 kept)

hidden_lost : (set : ℕ) (cells : List SectorView) (i : ℕ) → i < length cells → IsLost set i → slice_get (hidden set cells) i ≡ Some Lost
hidden_lost set cells i within is =
    hidden_at set cells i ∙ ap (λ (o : Option SectorView). option_map (hidden_cell set i) o) (slice_get-get_or cells i Blank within)
    ∙ ap (λ (b : Bool). Some (if b then Lost else get_or cells i Blank)) (eq-eqb (set / 2 ^ i % 2) 1 is)

-- a cell that is seen to hold bytes is outside the set
held_kept : (set : ℕ) (cells : List SectorView) (i : ℕ) (bytes : List ℕ) → slice_get (hidden set cells) i ≡ Some (Holds bytes) →
    ¬ (IsLost set i)
held_kept set cells i bytes seen = λ is.
    let within : i < length (hidden set cells) = slice_get_within (hidden set cells) i (Holds bytes) seen in
    by_cell (slice_get cells i) is (sym (hidden_at set cells i) ∙ seen)
  where
    by_cell : (o : Option SectorView) → IsLost set i → option_map (hidden_cell set i) o ≡ Some (Holds bytes) → ⊥
    by_cell None is at = absurd (cc)
    by_cell (Some cell) is at =
        let gone : Some Lost ≡ Some (Holds bytes) = sym (ap (λ (b : Bool). Some (if b then Lost else cell)) (eq-eqb (set / 2 ^ i % 2) 1 is))
        ∙ at in
        absurd (cc)

-- what was gathered of the cells was gathered of those outside a set that has the lost places
pub gathered_hidden : (cells : List SectorView) (lost set : ℕ) (sectors : List (List ℕ)) → length cells ≡ 32 → Gathered cells lost sectors →
    ((i : ℕ) → IsLost lost i → IsLost set i) → ((i : ℕ) → IsLost set i → i < 32) → Gathered (hidden set cells) set sectors
gathered_hidden cells lost set sectors count gathered covers within = record {
  unreadable = λ i. (
    λ is. subst (λ (o : Option SectorView). IsSomeAnd o IsUnreadable) (sym (hidden_lost set cells i (omega (arith, within i is)) is)) refl,
    λ un.
        elim (cases_eq (set / 2 ^ i % 2) 1) [
          | inl is ↦ is
          | inr kept ↦ covers i ((gathered.unreadable i).1
              (subst (λ (o : Option SectorView). IsSomeAnd o IsUnreadable) (hidden_kept set cells i kept) un))
        ],
  );
  readable = λ i bytes at.
      gathered.readable i bytes (sym (hidden_kept set cells i (held_kept set cells i bytes at)) ∙ at);
}

-- ---- the last sector with a used slot

last_same : (one other : List SectorView) (n : ℕ) →
    ((i : ℕ) → i < n → shows_used_slot (unwrap_or (slice_get one i) Lost) ≡ shows_used_slot (unwrap_or (slice_get other i) Lost)) →
    last_used_below one n ≡ last_used_below other n
unfolding last_used_below
last_same one other zero same = refl
last_same one other (suc n) same =
    ap (λ (b : Bool). if b then Some n else last_used_below one n) (same n (omega arith))
    ∙ ap (λ (o : Option ℕ). if shows_used_slot (unwrap_or (slice_get other n) Lost) then Some n else o)
    (last_same one other n (λ i within. same i (omega arith)))

shows_unreadable : (o : Option SectorView) → IsSomeAnd o IsUnreadable → shows_used_slot (unwrap_or o Lost) ≡ false
shows_unreadable None un = absurd un
shows_unreadable (Some Blank) un = refl
shows_unreadable (Some Defect) un = refl
shows_unreadable (Some Lost) un = refl
shows_unreadable (Some (Holds bytes)) un = absurd (false≢true un)

readable_holds : (o : Option SectorView) → IsSomeAnd o (λ cell. Unit {0}) → ¬ (IsSomeAnd o IsUnreadable) → (bytes : List ℕ)
    × (o ≡ Some (Holds bytes))
readable_holds None there none = absurd there
readable_holds (Some Blank) there none = absurd (none refl)
readable_holds (Some Defect) there none = absurd (none refl)
readable_holds (Some Lost) there none = absurd (none refl)
readable_holds (Some (Holds bytes)) there none = (bytes, refl)

-- a cell that is not lost holds the bytes that stand in its place
pub held_at : (cells : List SectorView) (lost : ℕ) (i : ℕ) → i < length cells → NamesUnreadable cells lost → ¬ (IsLost lost i) →
    (bytes : List ℕ) × (slice_get cells i ≡ Some (Holds bytes))
held_at cells lost i within names kept =
    readable_holds (slice_get cells i) (subst (λ (o : Option SectorView). IsSomeAnd o (λ cell. Unit {0}))
    (sym (slice_get-get_or cells i Blank within)) tt)
    (λ un. kept ((names i).1 un))

pub last_lost : (cells : List SectorView) (lost : ℕ) (sectors : List (List ℕ)) → length cells ≡ 32 → length sectors ≡ 29 →
    NamesUnreadable cells lost →
    ((i : ℕ) (bytes : List ℕ) → i < 29 → slice_get cells i ≡ Some (Holds bytes) → slice_get sectors i ≡ Some bytes) →
    last_used cells ≡ last_used (hidden lost (map Holds sectors))
last_lost cells lost sectors count size names readable =
    last_same cells (hidden lost (map Holds sectors)) 29 (λ i within.
    elim (cases_eq (lost / 2 ^ i % 2) 1) [
      | inl is ↦
          shows_unreadable (slice_get cells i) ((names i).0 is)
          ∙ sym (shows_lost sectors lost i (omega arith) is)
      | inr kept ↦
          let held = held_at cells lost i (omega arith) names kept in
          ap (λ (o : Option SectorView). shows_used_slot (unwrap_or o Lost)) held.1
          ∙ ap has_used_slot (sym (ap (λ (o : Option (List ℕ)). unwrap_or o []) (readable i held.0 within held.1)))
          ∙ sym (shows_kept sectors lost i (omega arith) kept)
    ])

-- ---- the further sets

-- each of them is so
abbrev pub EachSet : (P : ℕ → Type 0) → List ℕ → Type 0
EachSet P [] = Unit {0}
EachSet P (set ∷ sets) = P set × EachSet P sets

-- A set that is tried where these places are lost: it has them, and no place from 32 on; and where it has another sector of
-- data, that is the last used one, and nothing else is in it.
pub record Fits (used : Option ℕ) (places : List ℕ) (set : ℕ) : Type 0 where
  pub covers : (i : ℕ) → IsOneOf places i → is_lost set i ≡ true
  pub within : (i : ℕ) → is_lost set i ≡ true → i < 32
  pub by_used : (i : ℕ) → i < 29 → is_lost set i ≡ true → (IsOneOf places i → ⊥) → (used ≡ Some i) × (set ≡ set_of (i ∷ places))

one_of_both : (ps rs : List ℕ) (i : ℕ) → IsOneOf (ps ++ rs) i → IsOneOf ps i ⊎ IsOneOf rs i
one_of_both [] rs i one = inr one
one_of_both (p ∷ ps) rs i (inl same) = inl (inl same)
one_of_both (p ∷ ps) rs i (inr one) =
    elim (one_of_both ps rs i one) [
      | inl first ↦ inl (inr first)
      | inr other ↦ inr other
    ]

one_of_first : (ps rs : List ℕ) (i : ℕ) → IsOneOf ps i → IsOneOf (ps ++ rs) i
one_of_first [] rs i one = absurd one
one_of_first (p ∷ ps) rs i (inl same) = inl same
one_of_first (p ∷ ps) rs i (inr one) = inr (one_of_first ps rs i one)

abbrev AreBelow : ℕ → List ℕ → Type 0
AreBelow n ps = (i : ℕ) → IsOneOf ps i → i < n

-- with places of parity
fits_parity : (used : Option ℕ) (ps rs : List ℕ) → AreBelow 32 ps → ((i : ℕ) → IsOneOf rs i → (29 ≤ i) × (i < 32)) →
    Fits used ps (set_of (ps ++ rs))
fits_parity used ps rs small parity = record {
  covers = λ i one. one_is_named (ps ++ rs) i (one_of_first ps rs i one);
  within = λ i named.
      elim (one_of_both ps rs i (named_is_one (ps ++ rs) i named)) [
        | inl one ↦ small i one
        | inr one ↦ (parity i one).1
      ];
  by_used = λ i data_sector named other.
      elim (one_of_both ps rs i (named_is_one (ps ++ rs) i named)) [
        | inl one ↦ absurd (other one)
        | inr one ↦ absurd (omega (arith, (parity i one).0))
      ];
}

fits_used : (k : ℕ) (ps : List ℕ) → k < 29 → AreBelow 32 ps → Fits (Some k) ps (set_of (k ∷ ps))
fits_used k ps data_sector small = record {
  covers = λ i one. one_is_named (k ∷ ps) i (inr one);
  within = λ i named. by_one i (named_is_one (k ∷ ps) i named);
  by_used = λ i lower named other. used_one i (named_is_one (k ∷ ps) i named) other;
}
  where
    by_one : (i : ℕ) → IsOneOf (k ∷ ps) i → i < 32
    by_one i (inl same) = omega arith
    by_one i (inr one) = small i one

    used_one : (i : ℕ) → IsOneOf (k ∷ ps) i → (IsOneOf ps i → ⊥) → (Some k ≡ Some i) × (set_of (k ∷ ps) ≡ set_of (i ∷ ps))
    used_one i (inl same) other = (ap Some (sym same), ap (λ (j : ℕ). set_of (j ∷ ps)) (sym same))
    used_one i (inr one) other = absurd (other one)

each_with_used : (used : Option ℕ) (ps : List ℕ) → IfSome used (λ k. k < 29) → AreBelow 32 ps → EachSet (Fits used ps) (with_used used ps)
each_with_used None ps data_sector small = tt
each_with_used (Some k) ps data_sector small = (fits_used k ps data_sector small, tt)

each_both : (P : ℕ → Type 0) (xs ys : List ℕ) → EachSet P xs → EachSet P ys → EachSet P (xs ++ ys)
each_both P [] ys hx hy = hy
each_both P (x ∷ xs) ys hx hy = (hx.0, each_both P xs ys hx.1 hy)

each_if : (P : ℕ → Type 0) (b : Bool) (xs ys : List ℕ) → EachSet P xs → EachSet P ys → EachSet P (if b then xs else ys)
each_if P true xs ys hx hy = hx
each_if P false xs ys hx hy = hy

is_31 : (i : ℕ) → IsOneOf (31 ∷ []) i → (29 ≤ i) × (i < 32)
is_31 i (inl same) = (omega arith, omega arith)
is_31 i (inr none) = absurd none

is_29 : (i : ℕ) → IsOneOf (29 ∷ []) i → (29 ≤ i) × (i < 32)
is_29 i (inl same) = (omega arith, omega arith)
is_29 i (inr none) = absurd none

is_30_or_31 : (i : ℕ) → IsOneOf (30 ∷ 31 ∷ []) i → (29 ≤ i) × (i < 32)
is_30_or_31 i (inl same) = (omega arith, omega arith)
is_30_or_31 i (inr one) = is_31 i one

by_one : (used : Option ℕ) (m : ℕ) → IfSome used (λ k. k < 29) → AreBelow 32 (m ∷ []) → EachSet (Fits used (m ∷ [])) (sets_by_one used m)
by_one used m data_sector small = (
  fits_parity used (m ∷ []) (31 ∷ []) small is_31,
  (
    fits_parity used (m ∷ []) (29 ∷ []) small is_29,
    each_both (Fits used (m ∷ [])) (with_used used (m ∷ [])) (set_of (m ∷ 30 ∷ 31 ∷ []) ∷ [])
        (each_with_used used (m ∷ []) data_sector small)
        (fits_parity used (m ∷ []) (30 ∷ 31 ∷ []) small is_30_or_31, tt),
  ),
)

by_tests : (used : Option ℕ) (m other : ℕ) (a b : Bool) → (a ≡ true → other ≡ 29) → (b ≡ true → other ≡ 30) → IfSome used (λ k. k < 29) →
    AreBelow 32 (m ∷ other ∷ []) →
    EachSet (Fits used (m ∷ other ∷ [])) (if a then with_used used (m ∷ 29 ∷ []) else if b then set_of (m ∷ 30 ∷ 31 ∷ []) ∷ [] else [])
by_tests used m other true b first second data_sector small =
    subst (λ (p : ℕ). EachSet (Fits used (m ∷ p ∷ [])) (with_used used (m ∷ 29 ∷ []))) (sym (first refl))
    (each_with_used used (m ∷ 29 ∷ []) data_sector (subst (λ (p : ℕ). AreBelow 32 (m ∷ p ∷ [])) (first refl) small))
by_tests used m other false true first second data_sector small =
    subst (λ (p : ℕ). EachSet (Fits used (m ∷ p ∷ [])) (set_of (m ∷ 30 ∷ 31 ∷ []) ∷ [])) (sym (second refl))
    (fits_parity used (m ∷ 30 ∷ []) (31 ∷ []) (subst (λ (p : ℕ). AreBelow 32 (m ∷ p ∷ [])) (second refl) small) is_31, tt)
by_tests used m other false false first second data_sector small = tt

pub each_fits : (used : Option ℕ) (ps : List ℕ) → IfSome used (λ k. k < 29) → AreBelow 32 ps → EachSet (Fits used ps) (sets_by used ps)
each_fits used [] data_sector small = tt
each_fits used (m ∷ []) data_sector small =
    each_if (Fits used (m ∷ [])) (nat_lt m 29) (sets_by_one used m) [] (by_one used m data_sector small) tt
each_fits used (m ∷ other ∷ []) data_sector small =
    each_if (Fits used (m ∷ other ∷ [])) (nat_lt m 29) (sets_by_two used m other) []
    (by_tests used m other (other == 29) (other == 30) (eqb-true other 29) (eqb-true other 30) data_sector small) tt
each_fits used (m ∷ other ∷ third ∷ more) data_sector small = tt
