-- Cells gathered one by one: the places of the unreadable ones, and the bytes of the others.
use Rattle.std.proofs.Common.{◌≡◌, ◌≢◌, ℕ, zero, suc, ◌+◌, ◌*◌, ◌/◌, ◌%◌, ◌^◌, ◌<◌, ◌≤◌, ◌↔◌, refl, sym, ◌∙◌, ap, subst, arith, inl, inr}
use Rattle.std.proofs.Common.{List, [], ◌∷◌, ◌++◌, length, map, set, slice_get, Some, get_or, Bool, true, false}
use Rattle.std.specs.Prelude.{◌&&◌}
use Rattle.std.specs.Int.{w32}
use Rattle.std.specs.Int.RustNames.{bit_or}
use Rattle.std.proofs.lemmas.Bool.{cases_lt, cases_eq, false≢true, eq-eqb}
use Rattle.std.proofs.lemmas.List.{length_push, length-map, map_push, length-set, get_or-set_other}
use Rattle.std.proofs.lemmas.Nat.Bits.{bit_at-zero, bit_at_set_same, bit_at_set_other}
use Rattle.std.proofs.lemmas.Option.{slice_get_within}
use Rattle.std.proofs.lemmas.Nat.{or_lt}
use Rattle.std.proofs.Math.Pow.{pow-lt}
use Rattle.qic_base.specs.Cartridge.{lost_places}
use Rattle.qic_base.specs.CartridgeTerms.{IsLost, is_lost}
use Rattle.qic_base.proofs.LostSetLaws.{lost_places-lost, lost_places-kept, count_more, count_same}
use Rattle.qic_base.specs.TapeCalls.{ReadsSectors, is_readable, bytes_read}
use Rattle.qic_base.specs.declared.tape.SectorView.{SectorView}
use Rattle.qic_base.specs.declared.tape.SectorView.TheVariants.{Blank, Defect, Lost, Holds}
use Rattle.cartridge_laws.specs.Segment.{IsUnreadable}
use Rattle.segment_solve.specs.Gathered.{IsUnreadableAt, NamesUnreadable, Gathered}
use Rattle.cartridge_laws.proofs.Places.{none_below, count_below}
use Rattle.cartridge_laws.proofs.Writing.{slice_get-set_same}
use Rattle.cartridge_spec.specs.Shape.{usable_count}
use Rattle.qic_base.proofs.Arrays.{slice_get-set_other}

-- ---- one element more

slice_get-front : {A : Type 0} (xs : List A) (y : A) (i : ℕ) → i < length xs → slice_get (xs ++ y ∷ []) i ≡ slice_get xs i
slice_get-front [] y i h = absurd (omega arith)
slice_get-front (x ∷ xs) y zero h = refl
slice_get-front (x ∷ xs) y (suc i) h = slice_get-front xs y i (omega arith)

slice_get-last : {A : Type 0} (xs : List A) (y : A) → slice_get (xs ++ y ∷ []) (length xs) ≡ Some y
slice_get-last [] y = refl
slice_get-last (x ∷ xs) y = slice_get-last xs y

-- ---- one cell more

-- none yet
pub gathered_none : (sectors : List (List ℕ)) → Gathered [] 0 sectors
gathered_none sectors = record {
  unreadable = λ i. (λ lost. let none : 0 / 2 ^ i % 2 ≡ 0 = bit_at-zero i in omega arith, λ absent. absurd absent);
  readable = λ i bytes at. absurd (cc);
}

-- an unreadable cell lies within them
unreadable_within : (cells : List SectorView) (i : ℕ) → IsUnreadableAt cells i → i < length cells
unreadable_within [] i h = absurd h
unreadable_within (cell ∷ cells) zero h = omega arith
unreadable_within (cell ∷ cells) (suc i) h = let rest : i < length cells = unreadable_within cells i h in omega arith

-- the places of the set are places of the cells
pub lost_within : (cells : List SectorView) (lost i : ℕ) → NamesUnreadable cells lost → IsLost lost i → i < length cells
lost_within cells lost i names is = unreadable_within cells i ((names i).0 is)

-- what is unreadable among the cells and one more
unreadable_front : (cells : List SectorView) (cell : SectorView) (i : ℕ) → i < length cells →
    IsUnreadableAt cells i ↔ IsUnreadableAt (cells ++ cell ∷ []) i
unreadable_front [] cell i h = absurd (omega arith)
unreadable_front (c ∷ cells) cell zero h = (λ u. u, λ u. u)
unreadable_front (c ∷ cells) cell (suc i) h = unreadable_front cells cell i (omega arith)

unreadable_last : (cells : List SectorView) (cell : SectorView) → IsUnreadable cell ↔ IsUnreadableAt (cells ++ cell ∷ []) (length cells)
unreadable_last [] cell = (λ u. u, λ u. u)
unreadable_last (c ∷ cells) cell = unreadable_last cells cell

-- a cell that holds bytes
names_readable : (cells : List SectorView) (lost : ℕ) (bytes : List ℕ) → NamesUnreadable cells lost →
    NamesUnreadable (cells ++ Holds bytes ∷ []) lost
names_readable cells lost bytes names i = (
  λ is. (unreadable_front cells (Holds bytes) i (lost_within cells lost i names is)).0 ((names i).0 is),
  λ u. elim (cases_lt i (length cells)) [
    | inl lower ↦ (names i).1 ((unreadable_front cells (Holds bytes) i lower).1 u)
    | inr past ↦
        let within : i < length (cells ++ Holds bytes ∷ []) = unreadable_within (cells ++ Holds bytes ∷ []) i u in
        let last : i ≡ length cells = omega (arith, length_push cells (Holds bytes)) in
        absurd (false≢true ((unreadable_last cells (Holds bytes)).1 (subst (IsUnreadableAt (cells ++ Holds bytes ∷ [])) last u)))
  ],
)

-- the set with one place more
abbrev pub with_unread : (lost place : ℕ) → ℕ
with_unread lost place = bit_or lost (1 * 2 ^ place % 2 ^ 32)

pub with_unread-below : (lost place : ℕ) → lost < 2 ^ place → place < 32 → with_unread lost place < 2 ^ (place + 1)
with_unread-below lost place below few =
    let next : 2 ^ place < 2 ^ (place + 1) = pow-lt {i = place} {j = place + 1} (omega arith) in
    let small : 2 ^ place < 2 ^ 32 = pow-lt {i = place} {j = 32} few in
    or_lt (place + 1) lost (1 * 2 ^ place % 2 ^ 32) (omega arith) (omega arith)

-- a cell that is unreadable
names_unreadable : (cells : List SectorView) (lost : ℕ) (cell : SectorView) → length cells < 32 → IsUnreadable cell →
    NamesUnreadable cells lost → NamesUnreadable (cells ++ cell ∷ []) (with_unread lost (length cells))
names_unreadable cells lost cell few unreadable names i =
    elim (cases_eq i (length cells)) [
      | inl last ↦ (
        λ is. subst (IsUnreadableAt (cells ++ cell ∷ [])) (sym last) ((unreadable_last cells cell).0 unreadable),
        λ u. subst (IsLost (with_unread lost (length cells))) (sym last) (bit_at_set_same w32 lost (length cells) few),
      )
      | inr other ↦
          let same : with_unread lost (length cells) / 2 ^ i % 2 ≡ lost / 2 ^ i % 2 =
          bit_at_set_other w32 lost (length cells) few i other in (
            λ is. let was : IsLost lost i = sym same ∙ is in
                (unreadable_front cells cell i (lost_within cells lost i names was)).0 ((names i).0 was),
            λ u.
                let within : i < length (cells ++ cell ∷ []) = unreadable_within (cells ++ cell ∷ []) i u in
                let lower : i < length cells = omega (arith, length_push cells cell, other) in
                same ∙ (names i).1 ((unreadable_front cells cell i lower).1 u),
          )
    ]

-- the bytes of the cells before it stand as they were
readable_front : (cells : List SectorView) (cell : SectorView) (sectors : List (List ℕ)) (now : List ℕ) (i : ℕ) (bytes : List ℕ) →
    ((j : ℕ) (held : List ℕ) → slice_get cells j ≡ Some (Holds held) → slice_get sectors j ≡ Some held) →
    i < length cells → slice_get (cells ++ cell ∷ []) i ≡ Some (Holds bytes) →
    slice_get (set sectors (length cells) now) i ≡ Some bytes
readable_front cells cell sectors now i bytes readable lower at =
    let apart : i ≢ length cells = omega arith in
    slice_get-set_other sectors (length cells) i now apart
    ∙ readable i bytes (sym (slice_get-front cells cell i lower) ∙ at)

-- where a place is one of the cells or of the one more
at_end : {A : Type 0} (xs : List A) (y z : A) (i : ℕ) → length xs ≤ i → slice_get (xs ++ y ∷ []) i ≡ Some z → i ≡ length xs
at_end xs y z i past at =
    let within : i < length (xs ++ y ∷ []) = slice_get_within (xs ++ y ∷ []) i z at in
    omega (arith, length_push xs y)

gathered_readable : (cells : List SectorView) (lost : ℕ) (sectors : List (List ℕ)) (bytes : List ℕ) →
    length cells < length sectors → Gathered cells lost sectors →
    Gathered (cells ++ Holds bytes ∷ []) lost (set sectors (length cells) bytes)
gathered_readable cells lost sectors bytes room g = record {
  unreadable = names_readable cells lost bytes g.unreadable;
  readable = λ i held at.
      elim (cases_lt i (length cells)) [
        | inl lower ↦ readable_front cells (Holds bytes) sectors bytes i held g.readable lower at
        | inr past ↦
            let last : i ≡ length cells = at_end cells (Holds bytes) (Holds held) i past at in
            let here : slice_get (cells ++ Holds bytes ∷ []) i ≡ Some (Holds bytes) =
            ap (slice_get (cells ++ Holds bytes ∷ [])) last ∙ slice_get-last cells (Holds bytes) in
            let same : Some (Holds held) ≡ Some (Holds bytes) = sym at ∙ here in
            let one : bytes ≡ held = cc in
            ap (slice_get (set sectors (length cells) bytes)) last
            ∙ slice_get-set_same sectors (length cells) bytes room
            ∙ ap Some one
      ];
}

gathered_unreadable : (cells : List SectorView) (lost : ℕ) (sectors : List (List ℕ)) (cell : SectorView) (now : List ℕ) →
    length cells < 32 → IsUnreadable cell → Gathered cells lost sectors →
    Gathered (cells ++ cell ∷ []) (with_unread lost (length cells)) (set sectors (length cells) now)
gathered_unreadable cells lost sectors cell now few unreadable g = record {
  unreadable = names_unreadable cells lost cell few unreadable g.unreadable;
  readable = λ i held at.
      elim (cases_lt i (length cells)) [
        | inl lower ↦ readable_front cells cell sectors now i held g.readable lower at
        | inr past ↦
            let last : i ≡ length cells = at_end cells cell (Holds held) i past at in
            let here : slice_get (cells ++ cell ∷ []) i ≡ Some cell =
            ap (slice_get (cells ++ cell ∷ [])) last ∙ slice_get-last cells cell in
            let same : Some (Holds held) ≡ Some cell = sym at ∙ here in
            let one : cell ≡ Holds held = cc in
            absurd (false≢true (subst IsUnreadable one unreadable))
      ];
}

-- ---- a sector moved behind them

-- the set with one place more, where its sector isn't good
abbrev pub with_bad : (good : Bool) → (lost place : ℕ) → ℕ
with_bad true lost place = lost
with_bad false lost place = with_unread lost place

with_bad-below : (good : Bool) (lost place : ℕ) → lost < 2 ^ place → place < 32 → with_bad good lost place < 2 ^ (place + 1)
with_bad-below true lost place below few = omega (arith, pow-lt {i = place} {j = place + 1} (omega arith))
with_bad-below false lost place below few = with_unread-below lost place below few

-- by what a read of its sector left
gathered_cell : (cells : List SectorView) (cell : SectorView) (good : Bool) (lost : ℕ) (sectors : List (List ℕ)) (before now : List ℕ) →
    length cells < 32 → length sectors ≡ 32 → good ≡ is_readable cell → now ≡ bytes_read true cell before →
    Gathered cells lost sectors →
    Gathered (cells ++ cell ∷ []) (with_bad good lost (length cells)) (set sectors (length cells) now)
gathered_cell cells cell true lost sectors before now few room is bytes g = readable cell is bytes
  where
    readable : (c : SectorView) → true ≡ is_readable c → now ≡ bytes_read true c before →
        Gathered (cells ++ c ∷ []) lost (set sectors (length cells) now)
    readable Blank e held = absurd (cc)
    readable Defect e held = absurd (cc)
    readable Lost e held = absurd (cc)
    readable (Holds own) e held =
        subst (λ (bs : List ℕ). Gathered (cells ++ Holds own ∷ []) lost (set sectors (length cells) bs)) (sym held)
        (gathered_readable cells lost sectors own (omega arith) g)
gathered_cell cells cell false lost sectors before now few room is bytes g =
    gathered_unreadable cells lost sectors cell now few (unreadable cell is) g
  where
    unreadable : (c : SectorView) → false ≡ is_readable c → IsUnreadable c
    unreadable Blank e = refl
    unreadable Defect e = refl
    unreadable Lost e = refl
    unreadable (Holds own) e = absurd (cc)

-- ---- the usable sectors below an index

-- Where a read of the usable sectors left these entries, those below an index are gathered at the front. The entries from there on
-- stand as they did.
pub record IsGathered (usable good lost place index : ℕ) (old now : List (List ℕ)) : Type 0 where
  pub size : length now ≡ 32
  pub count : place ≡ length (lost_places usable index)
  pub gathered : (blank : ℕ) (view : ℕ → SectorView) (before : List (List ℕ)) → ReadsSectors usable good blank view before old →
      Gathered (map view (lost_places usable index)) lost now
  pub rest : (k : ℕ) → index ≤ k → get_or now k [] ≡ get_or old k []
  pub within : lost < 2 ^ place

pub begun : (usable good : ℕ) (old : List (List ℕ)) → length old ≡ 32 → IsGathered usable good 0 0 0 old old
begun usable good old size = record {
  size = size;
  count = sym (ap (λ (l : List ℕ). length l) (none_below usable));
  gathered = λ blank view before reads. subst (λ (l : List ℕ). Gathered (map view l) 0 old) (sym (none_below usable)) (gathered_none old);
  rest = λ k h. refl;
  within = omega arith;
}

pub passed_by : (usable good lost place index : ℕ) (old now : List (List ℕ)) → (IsLost usable index → ⊥) →
    IsGathered usable good lost place index old now → IsGathered usable good lost place (index + 1) old now
passed_by usable good lost place index old now kept g = record {
  size = g.size;
  count = g.count ∙ sym (count_same usable index kept);
  gathered = λ blank view before reads. subst (λ (l : List ℕ). Gathered (map view l) lost now) (sym (lost_places-kept usable index kept))
      (g.gathered blank view before reads);
  rest = λ k h. g.rest k (omega arith);
  within = g.within;
}

pub moved : (usable good lost place index : ℕ) (old now : List (List ℕ)) → IsLost usable index → index < 32 →
    IsGathered usable good lost place index old now →
    IsGathered usable good (with_bad (is_lost good index) lost place) (place + 1) (index + 1) old (set now place (get_or now index []))
moved usable good lost place index old now used within g =
    let count : place ≡ length (lost_places usable index) = g.count in
    let low : length (lost_places usable index) ≤ index = count_below usable index in
    let size : length now ≡ 32 = g.size in
    let bytes : List ℕ = get_or now index [] in
    let set_now : List (List ℕ) = set now place bytes in
    let more : ℕ = with_bad (is_lost good index) lost place in
    let wanted : is_lost usable index ≡ true = eq-eqb (usable / 2 ^ index % 2) 1 used in
    record {
      size = length-set now place bytes ∙ size;
      count = ap (λ (k : ℕ). k + 1) count ∙ sym (count_more usable index used);
      gathered = λ blank view before reads.
          let cells : List SectorView = map view (lost_places usable index) in
          let long : length cells ≡ place = length-map (lost_places usable index) view ∙ sym count in
          let few : length cells < 32 = omega arith in
          let is : is_lost good index ≡ is_readable (view index) =
          reads.good_are index within ∙ ap (λ (b : Bool). b && is_readable (view index)) wanted in
          let held : bytes ≡ bytes_read true (view index) (get_or before index []) =
          g.rest index (omega arith) ∙ reads.bytes index within
          ∙ ap (λ (b : Bool). bytes_read b (view index) (get_or before index [])) wanted in
          subst (λ (cs : List SectorView). Gathered cs more set_now)
          (sym (ap (map view) (lost_places-lost usable index used) ∙ map_push view (lost_places usable index) index))
          (subst (λ (k : ℕ). Gathered (cells ++ view index ∷ []) (with_bad (is_lost good index) lost k) (set now k bytes)) long
          (gathered_cell cells (view index) (is_lost good index) lost now (get_or before index []) bytes few size is held
          (g.gathered blank view before reads)));
      rest = λ k h.
          let apart : k ≢ place = λ e. absurd (omega arith) in
          get_or-set_other now place k bytes [] apart ∙ g.rest k (omega arith);
      within = with_bad-below (is_lost good index) lost place g.within (omega arith);
    }

pub gathered_as : (usable good lost next place after index : ℕ) (old now left : List (List ℕ)) →
    IsGathered usable good lost place index old now → next ≡ lost → after ≡ place → left ≡ now →
    IsGathered usable good next after index old left
gathered_as usable good lost next place after index old now left g set_is place_is sectors_are =
    subst (λ (s : List (List ℕ)). IsGathered usable good next after index old s) (sym sectors_are)
    (subst (λ (p : ℕ). IsGathered usable good next p index old now) (sym place_is)
    (subst (λ (set : ℕ). IsGathered usable good set place index old now) (sym set_is) g))

pub gathered_all : (usable good lost place index : ℕ) (old now : List (List ℕ)) → index ≡ 32 →
    IsGathered usable good lost place index old now → IsGathered usable good lost (usable_count usable) 32 old now
gathered_all usable good lost place index old now end g =
    let count : place ≡ usable_count usable = g.count ∙ ap (λ (i : ℕ). length (lost_places usable i)) end in
    subst (λ (i : ℕ). IsGathered usable good lost (usable_count usable) i old now) end
    (subst (λ (p : ℕ). IsGathered usable good lost p index old now) count g)
