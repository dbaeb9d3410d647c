-- What a change of one sector's parts makes of the cartridge that the bytes are read as.
use Rattle.std.proofs.Common.{◌≡◌, ◌≢◌, ℕ, ◌<◌, ◌≤◌, ◌⊎◌, inl, inr, ⊎_elim, List, length, get_or, sym, ◌∙◌, ap, arith, Some}
use Rattle.std.specs.Prelude.{slice_set}
use Rattle.std.proofs.lemmas.Bool.{cases_lt}
use Rattle.std.proofs.lemmas.List.{same_lists, get_or-set_same, get_or-set_other, length-set, set-get_or}
use Rattle.std.proofs.lemmas.List.FromFn.{get_or-map-range_with_len}
use Rattle.std.proofs.lemmas.Option.{unwrap_or-slice_get}
use Rattle.qic_base.specs.declared.tape.SectorView.{SectorView}
use Rattle.qic_base.specs.declared.tape.SectorView.TheVariants.{Blank}
use Rattle.qic_base.specs.Cartridge.{with_view, view_at}
use Rattle.qic_base.specs.CartridgeTerms.{place_of}
use Rattle.cart_image.specs.declared.layout.Head.{Head}
use Rattle.cart_image.specs.declared.layout.Layout.{Layout}
use Rattle.cart_image.specs.declared.layout.Part.{Part}
use Rattle.cart_image.specs.Layout.{version_of, sectors, width, place, end_of}
use Rattle.cart_image.specs.Image.{head_of, info_by, view_in, views_in, read_as, cartridge_of}
use Rattle.cart_image.specs.Whole.{cartridge_of-read, length-views}
use Rattle.cart_image.proofs.Bytes.{OnlyIn, head-same, view-kept}
use Rattle.cart_image.proofs.Layouts.{laid_out}

pub get_or-views : (l : Layout) (bytes : List ℕ) (k : ℕ) (d : SectorView) → k < sectors l.segments_per_track →
    get_or (views_in l bytes) k d ≡ view_in l bytes k
unfolding views_in
get_or-views l bytes k d on = get_or-map-range_with_len (view_in l bytes) 0 (sectors l.segments_per_track) k k d on (omega arith)

pub view_at-read : (h : Head) (bytes : List ℕ) (segment sector : ℕ) → place_of segment sector < sectors h.layout.segments_per_track →
    view_at (read_as h bytes) segment sector ≡ view_in h.layout bytes (place_of segment sector)
view_at-read h bytes segment sector on =
    unwrap_or-slice_get (views_in h.layout bytes) (place_of segment sector) Blank
    ∙ get_or-views h.layout bytes (place_of segment sector) Blank on

-- the bytes changed at one sector alone
pub record Beside (l : Layout) (sector : ℕ) (old new : List ℕ) : Type 0 where
  pub size : length new ≡ length old
  pub head : head_of new ≡ head_of old
  pub others : (k : ℕ) → k < sectors l.segments_per_track → sector ≢ k → view_in l new k ≡ view_in l old k

pub Beside-part : (l : Layout) (p : Part) (sector : ℕ) (old new : List ℕ) → end_of l ≤ length old → sector < sectors l.segments_per_track →
    OnlyIn (place l p sector) (width p) old new → Beside l sector old new
Beside-part l p sector old new whole on only = record {
  size = only.size;
  head =
      let behind = (laid_out l).behind p sector on in
      let before = (laid_out l).before p sector on in
      head-same old new only.size (omega arith) (λ k less. only.below k (omega arith));
  others = λ k there ne. view-kept l p sector old new only whole on k there ne;
}

-- .. so that the cartridge changed there alone
views-beside : (l : Layout) (sector : ℕ) (old new : List ℕ) → sector < sectors l.segments_per_track → Beside l sector old new →
    views_in l new ≡ slice_set (views_in l old) sector (view_in l new sector)
views-beside l sector old new on beside =
    same_lists _ _ (length-views l new ∙ sym (length-set (views_in l old) sector (view_in l new sector) ∙ length-views l old))
    (λ k d h.
    let within : k < sectors l.segments_per_track = omega (arith, length-views l new, h) in
    get_or-views l new k d within ∙ at k d within (eq_or_not k sector))
  where
    eq_or_not : (a b : ℕ) → (a ≡ b) ⊎ (a ≢ b)
    eq_or_not a b = ⊎_elim (λ less. inr (λ e. omega arith))
        (λ le. ⊎_elim (λ more. inr (λ e. omega arith)) (λ ge. inl (omega arith)) (cases_lt b a)) (cases_lt a b)

    at : (k : ℕ) (d : SectorView) → k < sectors l.segments_per_track → (k ≡ sector) ⊎ (k ≢ sector) →
        view_in l new k ≡ get_or (slice_set (views_in l old) sector (view_in l new sector)) k d
    at k d within (inl same) =
        ap (view_in l new) same
        ∙ sym (ap (λ j. get_or (slice_set (views_in l old) sector (view_in l new sector)) j d) same
        ∙ get_or-set_same (views_in l old) sector (view_in l new sector) d (omega (arith, length-views l old)))
    at k d within (inr ne) =
        beside.others k within (λ e. ne (sym e))
        ∙ sym (get_or-set_other (views_in l old) sector k (view_in l new sector) d ne ∙ get_or-views l old k d within)

pub cartridge-beside : (h : Head) (segment sector : ℕ) (old new : List ℕ) (view : SectorView) → head_of old ≡ Some h →
    place_of segment sector < sectors h.layout.segments_per_track → Beside h.layout (place_of segment sector) old new
    → view_in h.layout new (place_of segment sector) ≡ view → cartridge_of new ≡ Some (with_view (read_as h old) segment sector view)
cartridge-beside h segment sector old new view is on beside now =
    cartridge_of-read new h (beside.head ∙ is)
    ∙ ap (λ (vs : List SectorView). Some (record { info = info_by h; version = version_of h.layout.kind; views = vs }))
    (views-beside h.layout (place_of segment sector) old new on beside)
    ∙ ap (λ v. Some (with_view (read_as h old) segment sector v)) now

-- a view put where it stands changes nothing
pub same-view : (h : Head) (bytes : List ℕ) (segment sector : ℕ) (view : SectorView) →
    place_of segment sector < sectors h.layout.segments_per_track → view_in h.layout bytes (place_of segment sector) ≡ view →
    with_view (read_as h bytes) segment sector view ≡ read_as h bytes
same-view h bytes segment sector view on is =
    ap (λ (vs : List SectorView). record { info = info_by h; version = version_of h.layout.kind; views = vs })
    (ap (slice_set (views_in h.layout bytes) (place_of segment sector))
    (sym is ∙ sym (get_or-views h.layout bytes (place_of segment sector) Blank on))
    ∙ set-get_or (views_in h.layout bytes) (place_of segment sector) Blank)
