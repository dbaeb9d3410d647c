-- What a change of one segment or of one sector does to the views of a cartridge.
use Rattle.std.proofs.Common.{◌≡◌, ℕ, ◌+◌, ◌*◌, get_or, List, ◌≤◌, length, arith, length-append, length-take, length-drop, ◌<◌, ◌∙◌, ap}
use Rattle.std.proofs.Common.{sym, ◌≢◌, inl, inr, slice_get, Option}
use Rattle.std.proofs.lemmas.Option.{unwrap_or-slice_get}
use Rattle.std.proofs.lemmas.List.{length-map, get_or-set_same, get_or_past, set_past, get_or-set_other}
use Rattle.std.proofs.lemmas.Bool.{cases_lt}
use Rattle.std.specs.Prelude.{unwrap_or}
use Rattle.qic_base.specs.Cartridge.{Cartridge, view_at, with_view}
use Rattle.qic_base.specs.CartridgeTerms.{with_segment, place_of}
use Rattle.qic_base.specs.Step.{SegmentBecame}
use Rattle.qic_base.specs.declared.tape.SectorView.{SectorView}
use Rattle.qic_base.specs.declared.tape.SectorView.TheVariants.{Blank}
use Rattle.qic_base.proofs.Views.{get-below, get-above, get-within}

-- the view of a sector, in the list of views
view_from : (c : Cartridge) (segment sector : ℕ) → view_at c segment sector ≡ get_or c.views (32 * segment + sector) Blank
view_from c segment sector = unwrap_or-slice_get c.views (32 * segment + sector) Blank

-- ---- one segment changed

-- as many views as before
pub length-with_segment : (c : Cartridge) (segment : ℕ) (change : SectorView → SectorView) →
    32 * (segment + 1) ≤ length c.views → length (with_segment c segment change).views ≡ length c.views
length-with_segment c segment change within = simp (length-append, length-map, length-take, length-drop) (omega arith)

-- the segment's sectors are changed
pub view_of_segment : (c : Cartridge) (segment sector : ℕ) (change : SectorView → SectorView) →
    32 * (segment + 1) ≤ length c.views → sector < 32 →
    view_at (with_segment c segment change) segment sector ≡ change (view_at c segment sector)
view_of_segment c segment sector change within h =
    view_from (with_segment c segment change) segment sector
    ∙ get-within c.views segment sector change within h
    ∙ ap change (sym (view_from c segment sector))

-- and no others
pub view_of_other_segment : (c : Cartridge) (segment s i : ℕ) (change : SectorView → SectorView) →
    32 * (segment + 1) ≤ length c.views → i < 32 → s ≢ segment →
    view_at (with_segment c segment change) s i ≡ view_at c s i
view_of_other_segment c segment s i change within h apart =
    view_from (with_segment c segment change) s i
    ∙ elim (cases_lt s segment) [
      | inl lower ↦ get-below c.views segment (32 * s + i) change within (omega arith)
      | inr higher ↦ get-above c.views segment (32 * s + i) change within (omega arith)
    ]
    ∙ sym (view_from c s i)

-- a stop inside the segment's formatting changes no others either
pub view_of_other_stopped : {Became : SectorView → SectorView → Type 0} {c d : Cartridge} (segment s i : ℕ) →
    SegmentBecame Became segment c d → i < 32 → s ≢ segment → view_at d s i ≡ view_at c s i
view_of_other_stopped {c = c} {d = d} segment s i became h apart =
    let same : slice_get d.views (32 * s + i) ≡ slice_get c.views (32 * s + i) =
    elim (cases_lt s segment) [
      | inl lower ↦ became.below (32 * s + i) (omega arith)
      | inr higher ↦ became.above (32 * s + i) (omega arith)
    ] in
    ap (λ (o : Option SectorView). unwrap_or o Blank) same

-- ---- one sector changed

-- the sector is changed, by a change that leaves what is not there
pub view_of_sector : (c : Cartridge) (segment sector : ℕ) (change : SectorView → SectorView) → change Blank ≡ Blank →
    view_at (with_view c segment sector (change (view_at c segment sector))) segment sector ≡ change (view_at c segment sector)
view_of_sector c segment sector change blank =
    let p : ℕ = 32 * segment + sector in
    let view : SectorView = change (view_at c segment sector) in
    view_from (with_view c segment sector view) segment sector
    ∙ elim (cases_lt p (length c.views)) [
      | inl within ↦ get_or-set_same c.views p view Blank within
      | inr past ↦
          ap (λ (views : List SectorView). get_or views p Blank) (set_past c.views p view past)
          ∙ get_or_past c.views p Blank past
          ∙ sym (ap change (view_from c segment sector ∙ get_or_past c.views p Blank past) ∙ blank)
    ]

-- and no others
pub view_of_other_sector : (c : Cartridge) (segment sector s i : ℕ) (view : SectorView) → sector < 32 → i < 32 →
    (s ≡ segment → sector ≡ i → ⊥) → view_at (with_view c segment sector view) s i ≡ view_at c s i
view_of_other_sector c segment sector s i view small h apart =
    let other : place_of s i ≢ place_of segment sector =
    λ e. let same : s ≡ segment = omega arith in let one : sector ≡ i = omega arith in apart same one in
    view_from (with_view c segment sector view) s i
    ∙ get_or-set_other c.views (32 * segment + sector) (32 * s + i) view Blank other
    ∙ sym (view_from c s i)
