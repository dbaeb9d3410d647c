-- The cells of a segment whose sectors were gathered: they are read as those of the sectors, of which the lost ones can't be.
use Rattle.std.proofs.Common.{◌≡◌, ℕ, ◌/◌, ◌%◌, ◌^◌, ◌<◌, ◌≤◌, ◌↔◌, refl, sym, ◌∙◌, ap, subst, arith, false, List, length, take, slice_get}
use Rattle.std.proofs.Common.{get_or, Option, Some, None, IsSomeAnd, Result, Ok, Err}
use Rattle.std.proofs.lemmas.Bool.{ne_eqb, false≢true}
use Rattle.std.proofs.lemmas.List.{length-take-le}
use Rattle.std.proofs.lemmas.Option.{slice_get_within, slice_get-get_or}
use Rattle.cartridge_laws.proofs.Places.{count_below}
use Rattle.cartridge_laws.specs.Segment.{IsUnreadable}
use Rattle.cartridge_spec.specs.Says.{unreadable_count}
use Rattle.cartridge_spec.specs.Shape.{usable_count}
use Rattle.erasure_solve.proofs.Places.{is_lost_from}
use Rattle.qic_base.specs.declared.tape.SectorView.{SectorView}
use Rattle.qic_base.specs.declared.tape.SectorView.TheVariants.{Blank, Defect, Lost, Holds}
use Rattle.segment_solve.specs.Gathered.{Gathered}
use Rattle.segment_mending.specs.Locating.{Locates}
use Rattle.silent_locate.proofs.Readings.{count_alike, alike_back, deep_by_readable, wrong_place_differs}
use Rattle.silent_locate.proofs.Sectors.{length-cells_without, IsKept, kept_from, kept_to}
use Rattle.silent_locate.specs.Deep.{Deep, HasNoReading, cells_without}
use Rattle.silent_locate.specs.Laws.{ReadAlike}
use Rattle.silent_locate.specs.declared.Located.{Located}
use Rattle.silent_locate.specs.declared.Located.TheVariants.{Agrees, Wrong}
use Rattle.silent_locate.specs.declared.LocateFault.{LocateFault}
use Rattle.silent_locate.specs.declared.LocateFault.TheVariants.{TooMany, Mismatch}
use Rattle.segment_solve.proofs.SolvedCells.{slice_get-take}
use Rattle.qic_base.specs.CartridgeTerms.{is_lost}

-- ---- one cell

-- a place that isn't lost has a cell that holds its sector
kept_holds : (cells : List SectorView) (lost i : ℕ) (sectors : List (List ℕ)) (bytes : List ℕ) → Gathered cells lost sectors →
    is_lost lost i ≡ false → slice_get sectors i ≡ Some bytes → i < length cells → slice_get cells i ≡ Some (Holds bytes)
kept_holds cells lost i sectors bytes g kept held h = by_cell (get_or cells i Blank) (slice_get-get_or cells i Blank h)
  where
    unread : (cell : SectorView) → slice_get cells i ≡ Some cell → IsUnreadable cell → ⊥
    unread cell is fact =
        false≢true (sym kept ∙ is_lost_from lost i
        ((g.unreadable i).1 (subst (λ (o : Option SectorView). IsSomeAnd o IsUnreadable) (sym is) fact)))

    by_cell : (cell : SectorView) → slice_get cells i ≡ Some cell → slice_get cells i ≡ Some (Holds bytes)
    by_cell Blank is = absurd (unread Blank is refl)
    by_cell Defect is = absurd (unread Defect is refl)
    by_cell Lost is = absurd (unread Lost is refl)
    by_cell (Holds old) is =
        let both : Some old ≡ Some bytes = sym (g.readable i old is) ∙ held in
        let same : old ≡ bytes = cc in
        is ∙ ap (λ (x : List ℕ). Some (Holds x)) same

-- and one that is lost has none
holds_kept : (cells : List SectorView) (lost i : ℕ) (sectors : List (List ℕ)) (bytes : List ℕ) → Gathered cells lost sectors →
    slice_get cells i ≡ Some (Holds bytes) → is_lost lost i ≡ false
holds_kept cells lost i sectors bytes g at =
    ne_eqb (lost / 2 ^ i % 2) 1 (λ is. false≢true (subst (λ (o : Option SectorView). IsSomeAnd o IsUnreadable) at ((g.unreadable i).0 is)))

-- ---- all cells

gathered_alike : (cells : List SectorView) (lost n : ℕ) (sectors : List (List ℕ)) → length cells ≡ n → n ≤ length sectors →
    Gathered cells lost sectors → ReadAlike (cells_without lost (take n sectors)) cells
gathered_alike cells lost n sectors count room g =
    let long : length (take n sectors) ≡ n = length-take-le n sectors room in
    record {
      size = length-cells_without lost (take n sectors) ∙ long ∙ sym count;
      each = λ i bytes. (
        λ at.
            let kept : IsKept lost (take n sectors) i bytes = kept_from lost (take n sectors) i bytes at in
            let within : i < length (take n sectors) = slice_get_within (take n sectors) i bytes kept.held in
            kept_holds cells lost i sectors bytes g kept.kept (sym (slice_get-take n sectors i (omega arith)) ∙ kept.held) (omega arith),
        λ at.
            let within : i < length cells = slice_get_within cells i (Holds bytes) at in
            kept_to lost (take n sectors) i bytes (holds_kept cells lost i sectors bytes g at)
            (slice_get-take n sectors i (omega arith) ∙ g.readable i bytes at),
      );
    }

-- cells that are read alike are found to be the same
located_alike : (cells others : List SectorView) (block : List (List ℕ)) (result : Result Located LocateFault) → ReadAlike cells others →
    Locates cells block result → Locates others block result
located_alike cells others block (Ok Agrees) alike found = deep_by_readable cells others block None alike found
located_alike cells others block (Ok (Wrong place)) alike found = deep_by_readable cells others block (Some place) alike found
located_alike cells others block (Err (TooMany n)) alike found = (sym (count_alike cells others alike) ∙ found.0, found.1)
located_alike cells others block (Err Mismatch) alike found = (
  let count = count_alike cells others alike in let few = found.0 in omega arith,
  λ other wrong deep. found.1 other wrong (deep_by_readable others cells other wrong (alike_back cells others alike) deep),
)

-- ---- an answer

-- by what `locate` promises
pub locates_of : (cells : List SectorView) (new : List (List ℕ)) (result : Result Located LocateFault) →
    ((block : List (List ℕ)) → ((result ≡ Ok Agrees) × (new ≡ block)) ↔ Deep cells block None) →
    ((place : ℕ) (block : List (List ℕ)) → ((result ≡ Ok (Wrong place)) × (new ≡ block)) ↔ Deep cells block (Some place)) →
    ((n : ℕ) → (result ≡ Err (TooMany n)) ↔ ((unreadable_count cells ≡ n) × (3 < n))) →
    ((result ≡ Err Mismatch) ↔ ((unreadable_count cells ≤ 3) × HasNoReading cells)) → Locates cells new result
locates_of cells new (Ok Agrees) agrees wrong many none = (agrees new).0 (refl, refl)
locates_of cells new (Ok (Wrong place)) agrees wrong many none = (wrong place new).0 (refl, refl)
locates_of cells new (Err (TooMany n)) agrees wrong many none = (many n).0 refl
locates_of cells new (Err Mismatch) agrees wrong many none = none.0 refl

-- the wrong sector is one of them
pub place_within : (usable lost place : ℕ) (old block : List (List ℕ)) → length old ≡ 32 →
    Deep (cells_without lost (take (usable_count usable) old)) block (Some place) → place < usable_count usable
place_within usable lost place old block room deep =
    let n : ℕ = usable_count usable in
    let most : n ≤ 32 = count_below usable 32 in
    let cells : List SectorView = cells_without lost (take n old) in
    let differs = wrong_place_differs cells block place deep in
    let within : place < length cells = slice_get_within cells place (Holds differs.bytes) differs.held in
    let long : length (take n old) ≡ n = length-take-le n old (omega arith) in
    omega (arith, length-cells_without lost (take n old))

-- and what is found of the sectors is found of the cells of which they were gathered
pub gathered_locates : (cells : List SectorView) (lost usable : ℕ) (old block : List (List ℕ)) (result : Result Located LocateFault) →
    length cells ≡ usable_count usable → length old ≡ 32 → Gathered cells lost old →
    Locates (cells_without lost (take (usable_count usable) old)) block result → Locates cells block result
gathered_locates cells lost usable old block result count room g =
    let n : ℕ = usable_count usable in
    let most : n ≤ 32 = count_below usable 32 in
    located_alike (cells_without lost (take n old)) cells block result (gathered_alike cells lost n old count (omega arith) g)
