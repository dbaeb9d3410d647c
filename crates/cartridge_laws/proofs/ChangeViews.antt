-- What a change of one sector does to the cells of each segment.
use Rattle.std.proofs.Common.{◌≡◌, ◌⊎◌, ℕ, inl, inr, List, length, get_or, slice_set, ap, ◌∙◌, sym, ◌<◌, arith, slice_get, refl, Option}
use Rattle.std.proofs.Common.{Some, None, ◌+◌, Bool, [], ◌∷◌, map, cond, zero, suc, take}
use Rattle.std.proofs.lemmas.Bool.{cases_lt, cases_eq}
use Rattle.std.proofs.lemmas.List.{get_or-set_same, get_or-set_other, set_past}
use Rattle.std.proofs.lemmas.Option.{unwrap_or-slice_get, slice_get-map}
use Rattle.std.specs.Prelude.{unwrap_or}
use Rattle.std.specs.Option.{option_map}
use Rattle.cartridge_laws.proofs.Cells.{unreadable_count-first}
use Rattle.cartridge_spec.specs.Says.{cells_of, unreadable_count}
use Rattle.cartridge_spec.specs.Shape.{is_unreadable, usable_places}
use Rattle.qic_base.specs.Cartridge.{Cartridge, view_at, with_view}
use Rattle.qic_base.specs.CartridgeTerms.{place_of}
use Rattle.qic_base.specs.Step.{worn_view, spoiled_view}
use Rattle.qic_base.specs.declared.tape.SectorView.{SectorView}
use Rattle.qic_base.specs.declared.tape.SectorView.TheVariants.{Blank, Holds, Defect, Lost}
use Rattle.cartridge_laws.proofs.FormatWriting.{worn_holds}

-- ---- views

-- after a change of the view at one place the view at another, or at none, is as it was
set_view : (views : List SectorView) (p q : ℕ) (view : SectorView) →
    (get_or (slice_set views p view) q Blank ≡ get_or views q Blank)
    ⊎ ((q ≡ p) × (get_or (slice_set views p view) q Blank ≡ view))
set_view views p q view =
    elim (cases_eq q p) [
      | inl same ↦ elim (cases_lt p (length views)) [
        | inl within ↦ inr (
          same,
          ap (λ (r : ℕ). get_or (slice_set views p view) r Blank) same ∙ get_or-set_same views p view Blank within,
        )
        | inr past ↦ inl (ap (λ (vs : List SectorView). get_or vs q Blank) (set_past views p view past))
      ]
      | inr apart ↦ inl (get_or-set_other views p q view Blank apart)
    ]

view_from : (c : Cartridge) (s i : ℕ) → view_at c s i ≡ get_or c.views (place_of s i) Blank
view_from c s i = unwrap_or-slice_get c.views (place_of s i) Blank

-- a sector in another place stays
pub view_elsewhere : (c : Cartridge) (segment sector s i : ℕ) (view : SectorView) → (place_of s i ≡ place_of segment sector → ⊥) →
    view_at (with_view c segment sector view) s i ≡ view_at c s i
view_elsewhere c segment sector s i view apart =
    view_from (with_view c segment sector view) s i
    ∙ get_or-set_other c.views (place_of segment sector) (place_of s i) view Blank apart
    ∙ sym (view_from c s i)

-- and so does one of another segment
pub view_of_other : (c : Cartridge) (segment sector s i : ℕ) (view : SectorView) → sector < 32 → i < 32 → (s ≡ segment → ⊥) →
    view_at (with_view c segment sector view) s i ≡ view_at c s i
view_of_other c segment sector s i view small h apart =
    view_elsewhere c segment sector s i view (λ same. let one : s ≡ segment = omega arith in apart one)

-- each sector stays, or is changed
pub one_view : (c : Cartridge) (segment sector : ℕ) (change : SectorView → SectorView) (s i : ℕ) →
    (view_at (with_view c segment sector (change (view_at c segment sector))) s i ≡ view_at c s i)
    ⊎ (view_at (with_view c segment sector (change (view_at c segment sector))) s i ≡ change (view_at c s i))
one_view c segment sector change s i =
    let view : SectorView = change (view_at c segment sector) in
    let d : Cartridge = with_view c segment sector view in
    elim (set_view c.views (place_of segment sector) (place_of s i) view) [
      | inl stays ↦ inl (view_from d s i ∙ stays ∙ sym (view_from c s i))
      | inr is ↦ inr (
          view_from d s i
          ∙ is.1
          ∙ ap (λ (p : ℕ). change (unwrap_or (slice_get c.views p) Blank)) (sym is.0)
          )
    ]

-- ---- what can be read

-- each sector that can be read could be read, and held the same
abbrev pub ReadsNoMore : (c d : Cartridge) → Type 0
ReadsNoMore c d = (s i : ℕ) (bytes : List ℕ) → view_at d s i ≡ Holds bytes → view_at c s i ≡ Holds bytes

pub worn_reads_no_more : (c : Cartridge) (segment sector : ℕ) →
    ReadsNoMore c (with_view c segment sector (worn_view (view_at c segment sector)))
worn_reads_no_more c segment sector s i bytes at =
    elim (one_view c segment sector worn_view s i) [
      | inl stays ↦ sym stays ∙ at
      | inr is ↦ absurd (worn_holds (view_at c s i) bytes (sym is ∙ at))
    ]

spoiled_holds : (view : SectorView) (bytes : List ℕ) → spoiled_view view ≡ Holds bytes → view ≡ Holds bytes
spoiled_holds Blank bytes is = absurd (cc)
spoiled_holds Defect bytes is = absurd (cc)
spoiled_holds Lost bytes is = absurd (cc)
spoiled_holds (Holds old) bytes is = is

spoiled_reads_alike : (view : SectorView) → is_unreadable (spoiled_view view) ≡ is_unreadable view
spoiled_reads_alike Blank = refl
spoiled_reads_alike Defect = refl
spoiled_reads_alike Lost = refl
spoiled_reads_alike (Holds old) = refl

-- as many can be read as could, and they hold the same
pub record ReadsAlike (c d : Cartridge) : Type 0 where
  pub no_more : ReadsNoMore c d
  pub no_less : ReadsNoMore d c
  pub unreadable : (s i : ℕ) → is_unreadable (view_at d s i) ≡ is_unreadable (view_at c s i)

pub spoiled_alike : (c : Cartridge) (segment sector : ℕ) →
    ReadsAlike c (with_view c segment sector (spoiled_view (view_at c segment sector)))
spoiled_alike c segment sector = record {
  no_more = λ s i bytes at.
      elim (one_view c segment sector spoiled_view s i) [
        | inl stays ↦ sym stays ∙ at
        | inr is ↦ spoiled_holds (view_at c s i) bytes (sym is ∙ at)
      ];
  no_less = λ s i bytes at.
      elim (one_view c segment sector spoiled_view s i) [
        | inl stays ↦ stays ∙ at
        | inr is ↦ is ∙ ap spoiled_view at
      ];
  unreadable = λ s i.
      elim (one_view c segment sector spoiled_view s i) [
        | inl stays ↦ ap is_unreadable stays
        | inr is ↦ ap is_unreadable is ∙ spoiled_reads_alike (view_at c s i)
      ];
}

-- ---- cells

cell_before : (c d : Cartridge) (s : ℕ) (place : Option ℕ) (bytes : List ℕ) → ReadsNoMore c d →
    option_map (view_at d s) place ≡ Some (Holds bytes) → option_map (view_at c s) place ≡ Some (Holds bytes)
cell_before c d s None bytes less at = absurd (cc)
cell_before c d s (Some p) bytes less at =
    let view : view_at d s p ≡ Holds bytes = cc in
    ap Some (less s p bytes view)

-- a cell that can be read could be read, and held the same
pub held_before : (c d : Cartridge) (s mask i : ℕ) (bytes : List ℕ) → ReadsNoMore c d →
    slice_get (cells_of d s mask) i ≡ Some (Holds bytes) → slice_get (cells_of c s mask) i ≡ Some (Holds bytes)
held_before c d s mask i bytes less at =
    slice_get-map (view_at c s) (usable_places mask) i
    ∙ cell_before c d s (slice_get (usable_places mask) i) bytes less (sym (slice_get-map (view_at d s) (usable_places mask) i) ∙ at)

pub same_count : (f g : ℕ → SectorView) (places : List ℕ) → ((p : ℕ) → is_unreadable (f p) ≡ is_unreadable (g p)) →
    unreadable_count (map f places) ≡ unreadable_count (map g places)
same_count f g [] alike = refl
same_count f g (p ∷ places) alike =
    unreadable_count-first (f p) (map f places)
    ∙ ap (λ (b : Bool). cond b 1 0 + unreadable_count (map f places)) (alike p)
    ∙ ap (λ (n : ℕ). cond (is_unreadable (g p)) 1 0 + n) (same_count f g places alike)
    ∙ sym (unreadable_count-first (g p) (map g places))

-- .. and so among the first of them
pub same_count_front : (f g : ℕ → SectorView) (n : ℕ) (places : List ℕ) → ((p : ℕ) → is_unreadable (f p) ≡ is_unreadable (g p)) →
    unreadable_count (take n (map f places)) ≡ unreadable_count (take n (map g places))
same_count_front f g zero places alike = refl
same_count_front f g (suc n) [] alike = refl
same_count_front f g (suc n) (p ∷ places) alike =
    unreadable_count-first (f p) (take n (map f places))
    ∙ ap (λ (b : Bool). cond b 1 0 + unreadable_count (take n (map f places))) (alike p)
    ∙ ap (λ (count : ℕ). cond (is_unreadable (g p)) 1 0 + count) (same_count_front f g n places alike)
    ∙ sym (unreadable_count-first (g p) (take n (map g places)))
