-- What a segment gives that was written, and has lost some of its sectors since.
use Rattle.std.proofs.Common.{◌≡◌, ◌⊎◌, inl, inr, ℕ, zero, suc, ◌+◌, ◌-◌, ◌≤◌, false, List, [], ◌∷◌, ◌++◌, length, take, drop}
use Rattle.std.proofs.Common.{All}
use Rattle.std.proofs.Common.{Option, Some, slice_get, refl, sym, ap, subst, ◌∙◌, arith}
use Rattle.std.proofs.Math.ListN.{drop_of_length-le}
use Rattle.std.proofs.Math.Seq.{drop-cons}
use Rattle.std.proofs.lemmas.Bool.{cases_lt}
use Rattle.std.proofs.lemmas.List.{take_at, length-append}
use Rattle.std.proofs.lemmas.Option.{unwrap_or-slice_get}
use Rattle.std.specs.List.{AllZip}
use Rattle.std.specs.Prelude.{unwrap_or}
use Rattle.cartridge_spec.specs.Code.{parity_sectors}
use Rattle.cartridge_spec.specs.Says.{unreadable_count, with_parity, Written}
use Rattle.cartridge_spec.specs.Shape.{sector_at}
use Rattle.gf256_qic.proofs.Parities.{length-parity_sectors, parity_block}
use Rattle.qic_base.specs.Cartridge.{IsSector, zero_sector}
use Rattle.qic_base.specs.declared.tape.SectorView.{SectorView}
use Rattle.qic_base.specs.declared.tape.SectorView.TheVariants.{Blank, Defect, Lost, Holds}
use Rattle.dump_laws.proofs.Determined.{one_case}
use Rattle.dump_spec.specs.Given.{Case, OneBlock, AsRead, IsCase, Given, Gives, given_by, given_cell, given_from, given_area}
use Rattle.dump_spec.specs.declared.form.Form.TheVariants as forms
use Rattle.dump_spec.specs.declared.mark.Mark.TheVariants.{Filled}

-- ---- sectors that are given

-- a sector that is given is this one
abbrev pub IsSame : Given → List ℕ → Type 0
IsSame g sector = g.bytes ≡ sector

-- .. or zero bytes with the mark of a filled one
abbrev pub IsSameOrFilled : Given → List ℕ → Type 0
IsSameOrFilled g sector = (g.bytes ≡ sector) ⊎ ((g.mark ≡ Filled) × (g.bytes ≡ zero_sector))

zip-take : (R : Given → List ℕ → Type 0) (n : ℕ) (gs : List Given) (ss : List (List ℕ)) → AllZip R gs ss →
    AllZip R (take n gs) (take n ss)
zip-take R zero gs ss zip = tt
zip-take R (suc n) [] [] zip = tt
zip-take R (suc n) [] (s ∷ ss) zip = absurd zip
zip-take R (suc n) (g ∷ gs) [] zip = absurd zip
zip-take R (suc n) (g ∷ gs) (s ∷ ss) zip = (zip.0, zip-take R n gs ss zip.1)

pub zip-append : (R : Given → List ℕ → Type 0) (gs hs : List Given) (ss ts : List (List ℕ)) → AllZip R gs ss → AllZip R hs ts →
    AllZip R (gs ++ hs) (ss ++ ts)
zip-append R [] hs [] ts zip more = more
zip-append R [] hs (s ∷ ss) ts zip more = absurd zip
zip-append R (g ∷ gs) hs [] ts zip more = absurd zip
zip-append R (g ∷ gs) hs (s ∷ ss) ts zip more = (zip.0, zip-append R gs hs ss ts zip.1 more)

pub same_area : (gs : List Given) (ss : List (List ℕ)) → AllZip IsSame gs ss → given_area gs ≡ ss
same_area [] [] zip = refl
same_area [] (s ∷ ss) zip = absurd zip
same_area (g ∷ gs) [] zip = absurd zip
same_area (g ∷ gs) (s ∷ ss) zip = ap (λ (x : List ℕ). x ∷ given_area gs) zip.0 ∙ ap (λ (xs : List (List ℕ)). s ∷ xs) (same_area gs ss zip.1)

-- ---- cell by cell

-- each cell, the first of which is at this place, gives so of a block
zip_from : (R : Given → List ℕ → Type 0) (case : Case) (block : List (List ℕ)) (lost place : ℕ) (cells : List SectorView) →
    length block ≡ place + length cells →
    ((i : ℕ) (view : SectorView) → slice_get cells i ≡ Some view →
    R (given_cell case lost (place + i) view) (sector_at block (place + i))) →
    AllZip R (given_from case lost place cells) (drop place block)
unfolding given_from
zip_from R case block lost place [] long each =
    subst (λ (ss : List (List ℕ)). AllZip R [] ss) (sym (drop_of_length-le block (omega arith))) tt
zip_from R case block lost place (view ∷ cells) long each =
    let here : place + 0 ≡ place = omega arith in
    let first : R (given_cell case lost place view) (sector_at block place) =
    subst (λ (k : ℕ). R (given_cell case lost k view) (sector_at block k)) here (each 0 view refl) in
    let rest = zip_from R case block lost (suc place) cells (omega arith)
    (λ i w at.
    let next : place + suc i ≡ suc place + i = omega arith in
    subst (λ (k : ℕ). R (given_cell case lost k w) (sector_at block k)) next (each (suc i) w at)) in
    subst (λ (ss : List (List ℕ)). AllZip R (given_cell case lost place view ∷ given_from case lost (suc place) cells) ss)
    (ap (λ (s : List ℕ). s ∷ drop (suc place) block) (unwrap_or-slice_get block place [])
    ∙ sym (drop-cons block place [] (omega arith)))
    (first, rest)

-- ---- the case

given_is : (cells : List SectorView) (given : List Given) (case : Case) → Gives forms.Sectors false cells given →
    IsCase forms.Sectors cells case → given ≡ given_by case cells
given_is cells given case gives is =
    let here : IsCase forms.Sectors cells gives.case =
    subst (λ (x : List SectorView). IsCase forms.Sectors x gives.case) gives.counts gives.is_case in
    gives.are ∙ ap (given_by gives.case) gives.counts
    ∙ ap (λ (x : Case). given_by x cells) (one_case forms.Sectors cells gives.case case here is)

-- the data of a segment that was written
data_of_written : (sectors : List (List ℕ)) (cells : List SectorView) → Written cells sectors →
    take (length cells - 3) (with_parity sectors) ≡ sectors
data_of_written sectors cells written =
    let three : length (parity_sectors sectors) ≡ 3 = length-parity_sectors sectors in
    let size = written.size in
    take_at sectors (parity_sectors sectors) (length cells - 3) (omega (arith, length-append sectors (parity_sectors sectors)))

zip_by : (R : Given → List ℕ → Type 0) (case : Case) (sectors : List (List ℕ)) (cells : List SectorView) → Written cells sectors →
    ((i : ℕ) (view : SectorView) → slice_get cells i ≡ Some view →
    R (given_cell case (unreadable_count cells) (0 + i) view) (sector_at (with_parity sectors) (0 + i))) →
    AllZip R (given_by case cells) sectors
zip_by R case sectors cells written each =
    let size = written.size in
    subst (λ (ss : List (List ℕ)). AllZip R (given_by case cells) ss) (data_of_written sectors cells written)
    (zip-take R (length cells - 3) (given_from case (unreadable_count cells) 0 cells) (with_parity sectors)
    (zip_from R case (with_parity sectors) (unreadable_count cells) 0 cells (omega arith) each))

-- what is needed of a segment that was written
pub record WasWritten (cells : List SectorView) (sectors : List (List ℕ)) : Type 0 where
  pub written : Written cells sectors
  pub least : 1 ≤ length sectors
  pub most : length sectors ≤ 29
  pub are : All IsSector sectors

solved : (cells : List SectorView) (sectors : List (List ℕ)) → WasWritten cells sectors → unreadable_count cells ≤ 3 →
    IsCase forms.Sectors cells (OneBlock (with_parity sectors))
solved cells sectors was few =
    record { few = few; code = parity_block sectors was.least was.most was.are; agrees = was.written }

-- where at most three sectors are lost it gives what was written
pub given_few : (cells : List SectorView) (sectors : List (List ℕ)) (given : List Given) → WasWritten cells sectors →
    unreadable_count cells ≤ 3 → Gives forms.Sectors false cells given → given_area given ≡ sectors
given_few cells sectors given was few gives =
    ap given_area (given_is cells given (OneBlock (with_parity sectors)) gives (solved cells sectors was few))
    ∙ same_area (given_by (OneBlock (with_parity sectors)) cells) sectors
    (zip_by IsSame (OneBlock (with_parity sectors)) sectors cells was.written (λ i view at. refl))

read_same : (cells : List SectorView) (sectors : List (List ℕ)) (i : ℕ) (view : SectorView) → Written cells sectors →
    slice_get cells i ≡ Some view →
    IsSameOrFilled (given_cell AsRead (unreadable_count cells) (0 + i) view) (sector_at (with_parity sectors) (0 + i))
read_same cells sectors i Blank written at = inr (refl, refl)
read_same cells sectors i Defect written at = inr (refl, refl)
read_same cells sectors i Lost written at = inr (refl, refl)
read_same cells sectors i (Holds bytes) written at =
    let same : i ≡ 0 + i = omega arith in
    inl (sym (ap (λ (o : Option (List ℕ)). unwrap_or o [])
    (ap (slice_get (with_parity sectors)) (sym same) ∙ written.each i bytes at)))

-- and else what can be read of it
pub given_any : (cells : List SectorView) (sectors : List (List ℕ)) (given : List Given) → WasWritten cells sectors →
    Gives forms.Sectors false cells given → AllZip IsSameOrFilled given sectors
given_any cells sectors given was gives = elim (cases_lt 3 (unreadable_count cells)) [
  | inl many ↦
      subst (λ (gs : List Given). AllZip IsSameOrFilled gs sectors) (sym (given_is cells given AsRead gives many))
      (zip_by IsSameOrFilled AsRead sectors cells was.written (λ i view at. read_same cells sectors i view was.written at))
  | inr few ↦
      subst (λ (gs : List Given). AllZip IsSameOrFilled gs sectors)
      (sym (given_is cells given (OneBlock (with_parity sectors)) gives (solved cells sectors was few)))
      (zip_by IsSameOrFilled (OneBlock (with_parity sectors)) sectors cells was.written (λ i view at. inl refl))
]

-- a segment that carries no data gives none
pub given_none : (cells : List SectorView) (given : List Given) → length cells ≤ 3 → Gives forms.Sectors false cells given → given ≡ []
given_none cells given short gives =
    let none : length cells - 3 ≡ 0 = omega arith in
    gives.are ∙ ap (given_by gives.case) gives.counts
    ∙ ap (λ (n : ℕ). take n (given_from gives.case (unreadable_count cells) 0 cells)) none
