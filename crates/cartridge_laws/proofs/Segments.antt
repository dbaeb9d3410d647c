-- The cells of a cartridge's segment: how many, what each of them is, and those of a segment without a bad sector.
use Rattle.std.proofs.Common.{refl, ◌≡◌, ℕ, ap, List, length, ◌∙◌, map, slice_get, Some, zero-add, sym, subst, inl, inr}
use Rattle.std.proofs.lemmas.List.{length-map, get_or_past}
use Rattle.std.specs.List.{range_with_len}
use Rattle.std.proofs.lemmas.List.FromFn.{get_or-map-range_with_len}
use Rattle.std.proofs.lemmas.Option.{slice_get-get_or, unwrap_or-slice_get}
use Rattle.std.proofs.lemmas.Bool.{cases_lt, false≢true}
use Rattle.std.proofs.lemmas.List.Elements.{All-get_or, All-map}
use Rattle.cartridge_laws.proofs.Zeros.{zero_has_no_signature}
use Rattle.cartridge_laws.specs.SayingLaws.{PlacesOfWhole, CountOfCells, CellsOfWhole, CellsAreViews, ZeroDoesNotRead}
use Rattle.cartridge_spec.specs.HeaderCopies.{copy_cells}
use Rattle.cartridge_spec.specs.Says.{whole_mask, cells_of}
use Rattle.cartridge_spec.specs.Shape.{usable_places, usable_count}
use Rattle.qic_base.specs.Cartridge.{view_at, Cartridge, lost_places}
use Rattle.qic_base.specs.CartridgeTerms.{IsCartridge, IsView, place_of}
use Rattle.qic_base.specs.declared.tape.SectorView.TheVariants.{Blank}

pub places_of_whole : PlacesOfWhole
unfolding lost_places
places_of_whole = refl

pub count_of_cells : CountOfCells
count_of_cells c segment mask = length-map (usable_places mask) (view_at c segment)

pub count_of_whole : usable_count whole_mask ≡ 32
count_of_whole = ap (λ (places : List ℕ). length places) places_of_whole

-- a whole segment has 32 cells
pub length-whole_cells : (c : Cartridge) (segment : ℕ) → length (cells_of c segment whole_mask) ≡ 32
length-whole_cells c segment = count_of_cells c segment whole_mask ∙ count_of_whole

pub cells_of_whole : CellsOfWhole
cells_of_whole c segment i h =
    ap (λ (places : List ℕ). slice_get (map (view_at c segment) places) i) places_of_whole
    ∙ slice_get-get_or (map (view_at c segment) (range_with_len 0 32)) i Blank h
    ∙ ap Some (get_or-map-range_with_len (view_at c segment) 0 32 i i Blank h (zero-add i))

-- the view of any sector, on the cartridge or behind its end
pub view_of_cartridge : (c : Cartridge) (segment sector : ℕ) → IsCartridge c → IsView (view_at c segment sector)
view_of_cartridge c segment sector whole =
    subst IsView (sym (unwrap_or-slice_get c.views (place_of segment sector) Blank))
    (elim (cases_lt (place_of segment sector) (length c.views)) [
      | inl inside ↦ All-get_or IsView c.views (place_of segment sector) Blank inside whole.views
      | inr past ↦ subst IsView (sym (get_or_past c.views (place_of segment sector) Blank past)) tt
    ])

pub cells_are_views : CellsAreViews
cells_are_views c segment mask whole =
    All-map IsView (view_at c segment) (usable_places mask) (λ k d h. view_of_cartridge c segment _ whole)

-- ---- header copies

pub zero_does_not_read : ZeroDoesNotRead
zero_does_not_read c copy zeros area reads =
    false≢true
    (sym (zero_has_no_signature (copy_cells c copy) area reads.says zeros (length-whole_cells c copy)) ∙ reads.signature)
