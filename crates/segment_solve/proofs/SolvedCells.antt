-- What gathered cells say: the lost places are as many as the unreadable cells, and the code blocks of the sectors that
-- are not lost are those of the cells.
use Rattle.std.proofs.Common.{◌≡◌, ℕ, zero, suc, ◌+◌, ◌-◌, ◌<◌, ◌≤◌, refl, sym, ◌∙◌, ap, subst, Result, Ok, Err, arith, Bool, true, false}
use Rattle.std.proofs.Common.{List, [], ◌∷◌, ◌++◌, length, take, slice_get, Some, inl, inr}
use Rattle.std.proofs.lemmas.Bool.{ne_eqb, false≢true, cases_lt}
use Rattle.std.proofs.lemmas.List.{length-take-le, take-append-le, take_all}
use Rattle.std.proofs.lemmas.Option.{slice_get_within}
use Rattle.qic_base.specs.Cartridge.{lost_places}
use Rattle.qic_base.proofs.LostSetLaws.{lost_places-above}
use Rattle.qic_base.specs.declared.tape.SectorView.{SectorView}
use Rattle.qic_base.specs.declared.tape.SectorView.TheVariants.{Blank, Defect, Lost, Holds}
use Rattle.cartridge_spec.specs.Code.{IsCodeBlock}
use Rattle.cartridge_spec.specs.Shape.{usable_count}
use Rattle.gf256_qic.specs.Code.{AgreesOutside, IsSolvable}
use Rattle.erasure_solve.specs.Lost.{lost_count}
use Rattle.erasure_solve.proofs.Places.{is_lost_from, lost_below-places}
use Rattle.cartridge_spec.specs.Says.{Agrees, unreadable_count, Says, Data, LostSectors, Mismatch}
use Rattle.cartridge_laws.specs.Segment.{data_of}
use Rattle.cartridge_laws.proofs.Cells.{unreadable_at, readable_at, lost_below-cells, IsReadable}
use Rattle.segment_solve.specs.Gathered.{IsUnreadableAt, NamesUnreadable, Gathered}
use Rattle.segment_solve.specs.declared.fault.SegFault.{SegFault}
use Rattle.segment_solve.specs.declared.fault.SegFault.TheVariants as fault
use Rattle.segment_solve.specs.Reading.{HasSolved, IsSolved, Solves}
use Rattle.segment_solve.proofs.GatheredCells.{lost_within}
use Rattle.qic_base.specs.CartridgeTerms.{is_lost}
use Rattle.gf256_qic.proofs.Agreement.{lost_below-same}

pub slice_get-take : {A : Type 0} (n : ℕ) (xs : List A) (i : ℕ) → i < n → slice_get (take n xs) i ≡ slice_get xs i
slice_get-take zero xs i h = absurd (omega arith)
slice_get-take (suc n) [] i h = refl
slice_get-take (suc n) (x ∷ xs) zero h = refl
slice_get-take (suc n) (x ∷ xs) (suc i) h = slice_get-take n xs i (omega arith)

-- ---- which places are lost

-- the test of the cells finds the unreadable ones
pub unreadable_from_test : (cells : List SectorView) (i : ℕ) → unreadable_at cells i ≡ true → IsUnreadableAt cells i
unfolding unreadable_at
unreadable_from_test [] i h = absurd (cc)
unreadable_from_test (cell ∷ cells) zero h = h
unreadable_from_test (cell ∷ cells) (suc i) h = unreadable_from_test cells i h

-- a cell that holds bytes isn't unreadable
readable_only : (cells : List SectorView) (i : ℕ) (bytes : List ℕ) → slice_get cells i ≡ Some (Holds bytes) → IsUnreadableAt cells i → ⊥
readable_only [] i bytes at u = u
readable_only (Blank ∷ cells) zero bytes at u = absurd (cc)
readable_only (Defect ∷ cells) zero bytes at u = absurd (cc)
readable_only (Lost ∷ cells) zero bytes at u = absurd (cc)
readable_only (Holds held ∷ cells) zero bytes at u = false≢true u
readable_only (cell ∷ cells) (suc i) bytes at u = readable_only cells i bytes at u

-- so its place isn't lost
kept_at : (cells : List SectorView) (lost i : ℕ) (bytes : List ℕ) → NamesUnreadable cells lost →
    slice_get cells i ≡ Some (Holds bytes) → is_lost lost i ≡ false
kept_at cells lost i bytes names at = ne_eqb _ _ (λ is. readable_only cells i bytes at ((names i).0 is))

-- both tests agree
same_test : (cells : List SectorView) (lost i : ℕ) → NamesUnreadable cells lost → i < length cells →
    is_lost lost i ≡ unreadable_at cells i
same_test cells lost i names h = by_test (unreadable_at cells i) refl
  where
    by_test : (b : Bool) → unreadable_at cells i ≡ b → is_lost lost i ≡ unreadable_at cells i
    by_test true is = is_lost_from lost i ((names i).1 (unreadable_from_test cells i is)) ∙ sym is
    by_test false is =
        let held : IsReadable cells i = readable_at cells i h is in
        kept_at cells lost i held.0 names held.1 ∙ sym is

-- as many places are lost as cells are unreadable
pub count_of_lost : (cells : List SectorView) (lost : ℕ) → length cells ≤ 32 → NamesUnreadable cells lost →
    lost_count lost ≡ unreadable_count cells
count_of_lost cells lost few names =
    let n : ℕ = length cells in
    let whole : n + (32 - n) ≡ 32 = omega arith in
    ap (λ (k : ℕ). length (lost_places lost k)) (sym whole)
    ∙ ap (λ (l : List ℕ). length l) (lost_places-above lost n (32 - n) (λ place is. lost_within cells lost place names is))
    ∙ sym (lost_below-places lost n)
    ∙ lost_below-same (is_lost lost) (unreadable_at cells) n (λ i h. same_test cells lost i names h)
    ∙ lost_below-cells cells

-- ---- which code blocks agree

agrees_with_cells : (cells : List SectorView) (lost n : ℕ) (sectors block : List (List ℕ)) → length cells ≡ n → n ≤ length sectors →
    Gathered cells lost sectors → AgreesOutside (is_lost lost) (take n sectors) block → Agrees cells block
agrees_with_cells cells lost n sectors block count room g agrees =
    let long : length (take n sectors) ≡ n = length-take-le n sectors room in
    record {
      size = sym agrees.size ∙ long ∙ sym count;
      each = λ i bytes at.
          let within : i < length cells = slice_get_within cells i (Holds bytes) at in
          sym (agrees.others i (omega arith) (kept_at cells lost i bytes g.unreadable at))
          ∙ slice_get-take n sectors i (omega arith)
          ∙ g.readable i bytes at;
    }

agrees_with_sectors : (cells : List SectorView) (lost n : ℕ) (sectors block : List (List ℕ)) → length cells ≡ n → n ≤ length sectors →
    Gathered cells lost sectors → Agrees cells block → AgreesOutside (is_lost lost) (take n sectors) block
agrees_with_sectors cells lost n sectors block count room g agrees =
    let long : length (take n sectors) ≡ n = length-take-le n sectors room in
    record {
      size = long ∙ sym count ∙ sym agrees.size;
      others = λ i h kept.
          let within : i < length cells = omega arith in
          let held : IsReadable cells i = readable_at cells i within (sym (same_test cells lost i g.unreadable within) ∙ kept) in
          slice_get-take n sectors i (omega arith)
          ∙ g.readable i held.0 held.1
          ∙ sym (agrees.each i held.0 held.1);
    }

-- ---- what the cells say

pub says_data : (cells : List SectorView) (lost n : ℕ) (sectors solved : List (List ℕ)) → length cells ≡ n → n ≤ 32 → n ≤ length sectors →
    Gathered cells lost sectors → lost_count lost ≤ 3 → IsCodeBlock (take n solved) →
    AgreesOutside (is_lost lost) (take n sectors) (take n solved) → HasSolved cells solved
says_data cells lost n sectors solved count few room g at_most code agrees =
    let same : lost_count lost ≡ unreadable_count cells = count_of_lost cells lost (omega arith) g.unreadable in
    let first : take n solved ≡ take (length cells) solved = ap (λ (k : ℕ). take k solved) (sym count) in
    let agreeing : Agrees cells (take n solved) = agrees_with_cells cells lost n sectors (take n solved) count room g agrees in
    let saying : Says cells (Data (data_of (take n solved))) =
    (omega arith, record { block = take n solved; code = code; agrees = agreeing; shown = refl }) in
    record {
      says = subst (λ (block : List (List ℕ)). Says cells (Data (data_of block))) first saying;
      agrees = subst (Agrees cells) first agreeing;
    }

pub says_lost : (cells : List SectorView) (lost n : ℕ) → length cells ≤ 32 → NamesUnreadable cells lost →
    lost_count lost ≡ n → 3 < n → Says cells (LostSectors n)
says_lost cells lost n few names count many = (sym (count_of_lost cells lost few names) ∙ count, many)

pub says_mismatch : (cells : List SectorView) (lost n : ℕ) (sectors : List (List ℕ)) → length cells ≡ n → n ≤ 32 → n ≤ length sectors →
    Gathered cells lost sectors → lost_count lost ≤ 3 → (IsSolvable (is_lost lost) (take n sectors) → ⊥) → Says cells Mismatch
says_mismatch cells lost n sectors count few room g at_most unsolvable =
    let same : lost_count lost ≡ unreadable_count cells = count_of_lost cells lost (omega arith) g.unreadable in (
      omega arith,
      λ block code agrees. unsolvable (record {
        block = block;
        codewords = code;
        agrees = agrees_with_sectors cells lost n sectors block count room g agrees;
      }),
    )

-- ---- what a solving answers

-- the first of a list's two parts
pub take_front : {A : Type 0} (n : ℕ) (front rest : List A) → length front ≡ n → take n (front ++ rest) ≡ front
take_front n front rest long = take-append-le n front rest (omega arith) ∙ take_all n front (omega arith)

-- the sectors are a code block, ..
pub solved_block : (segment usable lost : ℕ) (old new first block : List (List ℕ)) → take (usable_count usable) old ≡ first →
    take (usable_count usable) new ≡ block → lost_count lost ≤ 3 → IsSolvable (is_lost lost) first → IsCodeBlock block →
    AgreesOutside (is_lost lost) first block → IsSolved segment usable lost old new (Ok tt)
solved_block segment usable lost old new first block was is few solvable code agrees = record {
  block = subst IsCodeBlock (sym is) code;
  others = rw (was, is) agrees;
  many = λ named n. (λ e. absurd (cc), λ h. absurd (omega (arith, h.1, h.2)));
  mismatch = λ named. (λ e. absurd (cc), λ h. absurd (h.2 (subst (IsSolvable (is_lost lost)) (sym was) solvable)));
  unchanged = tt;
}

-- .. too many are lost, ..
pub solved_lost : (segment usable lost count : ℕ) (old new : List (List ℕ)) → lost_count lost ≡ count → 3 < count → new ≡ old →
    IsSolved segment usable lost old new (Err (fault.Lost segment count))
solved_lost segment usable lost count old new all many same = record {
  block = tt;
  others = tt;
  many = λ named n. (
    λ e.
        let one : segment ≡ named = cc in
        let two : count ≡ n = cc in
        (sym one, all ∙ two, omega arith),
    λ h.
        let one : named ≡ segment = h.0 in
        let two : count ≡ n = sym all ∙ h.1 in
        cc,
  );
  mismatch = λ named. (λ e. absurd (cc), λ h. absurd (omega (arith, h.1)));
  unchanged = same;
}

-- .. or no code block agrees
pub solved_mismatch : (segment usable lost : ℕ) (old new first : List (List ℕ)) → take (usable_count usable) old ≡ first →
    lost_count lost ≤ 3 → (IsSolvable (is_lost lost) first → ⊥) → new ≡ old →
    IsSolved segment usable lost old new (Err (fault.Mismatch segment))
solved_mismatch segment usable lost old new first was few unsolvable same = record {
  block = tt;
  others = tt;
  many = λ named n. (λ e. absurd (cc), λ h. absurd (omega (arith, h.1, h.2)));
  mismatch = λ named. (
    λ e.
        let one : segment ≡ named = cc in
        (sym one, few, λ is. unsolvable (subst (IsSolvable (is_lost lost)) was is)),
    λ h.
        let one : named ≡ segment = h.0 in
        cc,
  );
  unchanged = same;
}

-- so the cells say it that were gathered
pub solving_says : (segment usable lost : ℕ) (cells : List SectorView) (old new : List (List ℕ)) (answer : Result (Unit {0}) SegFault) →
    usable_count usable ≤ 32 → usable_count usable ≤ length old → length cells ≡ usable_count usable → Gathered cells lost old →
    IsSolved segment usable lost old new answer → Solves segment cells new answer
solving_says segment usable lost cells old new (Ok x) most room count g s =
    let few : lost_count lost ≤ 3 =
    elim (cases_lt 3 (lost_count lost)) [
      | inl many ↦
          let e : Ok x ≡ Err (fault.Lost segment (lost_count lost)) = (s.many segment (lost_count lost)).1 (refl, refl, many) in
          absurd (cc)
      | inr few ↦ few
    ] in
    says_data cells lost (usable_count usable) old new count most room g few s.block s.others
solving_says segment usable lost cells old new (Err (fault.Lost named n)) most room count g s =
    let told = (s.many named n).0 refl in
    (told.0, says_lost cells lost n (omega arith) g.unreadable told.1 told.2)
solving_says segment usable lost cells old new (Err (fault.Mismatch named)) most room count g s =
    let told = (s.mismatch named).0 refl in
    (told.0, says_mismatch cells lost (usable_count usable) old count most room g told.1 told.2)
