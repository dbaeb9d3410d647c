-- The table's segment as it was collected, and what it says.
use Rattle.std.proofs.Common.{◌≡◌, ℕ, ◌-◌, ◌<◌, ◌≤◌, zero, suc, Bool, cond, List, [], ◌∷◌, length, take, Option, Some}
use Rattle.std.proofs.Common.{IsSomeAnd, refl, sym, ap, ◌∙◌, subst, arith, get_or, length-take}
use Rattle.std.specs.List.{slice_get}
use Rattle.std.proofs.lemmas.List.{get_or-take, take_all}
use Rattle.std.proofs.lemmas.Option.{slice_get-get_or, slice_get_within}
use Rattle.qic_base.specs.declared.tape.SectorView.{SectorView}
use Rattle.qic_base.specs.declared.tape.SectorView.TheVariants.{Blank, Defect, Lost, Holds}
use Rattle.cartridge_laws.specs.Segment.{IsUnreadable, unreadable_data, data_of}
use Rattle.cartridge_spec.specs.Shape.{is_unreadable}
use Rattle.cartridge_spec.specs.Says.{unreadable_count, ReadsAll}
use Rattle.cartridge_laws.specs.Says.{LosesData}
use Rattle.cartridge_laws.proofs.Cells.{unreadable_count-first}
use Rattle.cartridge_laws.specs.Shape.{Carries}
use Rattle.cartridge_laws.proofs.Segments.{count_of_whole}
use Rattle.segment_solve.specs.Gathered.{Gathered, IsUnreadableAt}

-- a cell that isn't unreadable holds bytes
readable_holds : (view : SectorView) → ¬ (IsUnreadable view) → (bytes : List ℕ) × (view ≡ Holds bytes)
readable_holds Blank none = absurd (none refl)
readable_holds Defect none = absurd (none refl)
readable_holds Lost none = absurd (none refl)
readable_holds (Holds bytes) none = (bytes, refl)

found-take : (sectors : List (List ℕ)) (n i : ℕ) (bytes : List ℕ) → i < n → slice_get sectors i ≡ Some bytes →
    slice_get (take n sectors) i ≡ Some bytes
found-take sectors n i bytes within there =
    let inside : i < length sectors = slice_get_within sectors i bytes there in
    slice_get-get_or (take n sectors) i [] (omega (arith, length-take n sectors))
    ∙ ap Some (get_or-take n sectors i [] within)
    ∙ sym (slice_get-get_or sectors i [] inside)
    ∙ there

-- where no data sector was lost, all can be read, and stand in their places
pub collected_reads : (cells : List SectorView) (lost : ℕ) (sectors : List (List ℕ)) → length cells ≡ 32 → length sectors ≡ 32 →
    Gathered cells lost sectors → ¬ (LosesData lost) → ReadsAll cells (take 29 sectors)
collected_reads cells lost sectors count room gathered none = record {
  size = omega (arith, length-take 29 sectors);
  each = λ i within.
      let view : SectorView = get_or cells i Blank in
      let there : slice_get cells i ≡ Some view = slice_get-get_or cells i Blank (omega arith) in
      let held = readable_holds view (λ bad.
      none (record {
        place = i;
        data_sector = within;
        is_lost = (gathered.unreadable i).1 (subst (λ (o : Option SectorView). IsSomeAnd o IsUnreadable) (sym there) bad);
      })) in
      let holds : slice_get cells i ≡ Some (Holds held.0) = there ∙ ap Some held.1 in
      (held.0, holds, found-take sectors 29 i held.0 within (gathered.readable i held.0 holds));
}

-- an unreadable cell among the first is counted
counts : (cells : List SectorView) (n i : ℕ) → i < n → IsUnreadableAt cells i → 0 < unreadable_count (take n cells)
counts [] n i within bad = absurd bad
counts (cell ∷ cells) zero i within bad = absurd (omega arith)
counts (cell ∷ cells) (suc n) zero within bad =
    let one : cond {A = ℕ} (is_unreadable cell) 1 0 ≡ 1 = ap (λ (b : Bool). cond {A = ℕ} b 1 0) bad in
    subst (λ (m : ℕ). 0 < m) (sym (unreadable_count-first cell (take n cells))) (omega arith)
counts (cell ∷ cells) (suc n) (suc i) within bad =
    let rest = counts cells n i (omega arith) bad in
    subst (λ (m : ℕ). 0 < m) (sym (unreadable_count-first cell (take n cells))) (omega arith)

pub collected_loses : (cells : List SectorView) (lost : ℕ) (sectors : List (List ℕ)) → Gathered cells lost sectors → LosesData lost →
    0 < unreadable_data cells
collected_loses cells lost sectors gathered loses =
    counts cells 29 loses.place loses.data_sector ((gathered.unreadable loses.place).0 loses.is_lost)

-- the data of a whole segment's block are its first 29 sectors
pub data_of-whole : (sectors : List (List ℕ)) (n : ℕ) → n ≡ 32 → length sectors ≡ 32 → data_of (take n sectors) ≡ take 29 sectors
data_of-whole sectors n count room =
    let all : take n sectors ≡ sectors = take_all n sectors (omega arith) in
    let count_of : length sectors - 3 ≡ 29 = omega arith in
    rw (all, count_of) refl

-- a whole segment carries data
pub carries_whole : Carries 4294967295
carries_whole = subst (λ (n : ℕ). 4 ≤ n) (sym count_of_whole) (omega arith)
