-- The table's segment says the same where its cells are read alike.
use Rattle.std.proofs.Common.{◌≡◌, ℕ, refl, false, List, sym, ap, Option, Some, None, zero, suc, ◌∙◌, Bool, map, slice_get, [], ◌∷◌, inl}
use Rattle.std.proofs.Common.{inr, ◌<◌, ◌≤◌, subst}
use Rattle.std.specs.Option.{option_map}
use Rattle.std.specs.Prelude.{unwrap_or, if◌then◌else◌}
use Rattle.std.proofs.lemmas.Option.{slice_get-map}
use Rattle.cartridge_laws.proofs.ChangeStanding.{CellsAlike, turned}
use Rattle.cartridge_laws.proofs.ChangeViews.{ReadsAlike, same_count_front}
use Rattle.cartridge_laws.proofs.Sets.{length-hidden, held_outside, seen_outside}
use Rattle.cartridge_spec.specs.TableSegment.{table_cells, TableIs}
use Rattle.cartridge_spec.specs.Says.{whole_mask, Agrees, HasBlock, HasNoBlock, HasFirstBlock, ReadsAll, shows_used_slot, last_used_below}
use Rattle.cartridge_spec.specs.Says.{unreadable_from, sets_by}
use Rattle.cartridge_laws.specs.TableCells.{last_used, unreadable_places, table_sets}
use Rattle.cartridge_laws.specs.Segment.{hidden, unreadable_data}
use Rattle.cartridge_spec.specs.Shape.{is_unreadable, usable_places}
use Rattle.qic_base.specs.Cartridge.{Cartridge, view_at}
use Rattle.qic_base.specs.declared.tape.SectorView.{SectorView}
use Rattle.qic_base.specs.declared.tape.SectorView.TheVariants.{Blank, Defect, Lost, Holds}

-- ---- the sets that are tried

none_shown : (view : SectorView) → ((bytes : List ℕ) → view ≡ Holds bytes → ⊥) → false ≡ shows_used_slot view
none_shown Blank none = refl
none_shown Defect none = refl
none_shown Lost none = refl
none_shown (Holds bytes) none = absurd (none bytes refl)

shows_alike : (v w : SectorView) → ((bytes : List ℕ) → v ≡ Holds bytes → w ≡ Holds bytes) →
    ((bytes : List ℕ) → w ≡ Holds bytes → v ≡ Holds bytes) → shows_used_slot v ≡ shows_used_slot w
shows_alike Blank w to from = none_shown w (λ bytes is. let back = from bytes is in cc)
shows_alike Defect w to from = none_shown w (λ bytes is. let back = from bytes is in cc)
shows_alike Lost w to from = none_shown w (λ bytes is. let back = from bytes is in cc)
shows_alike (Holds bytes) w to from = ap shows_used_slot (sym (to bytes refl))

-- the cell at a place, or none, shows a used slot where the other one does
at_alike : (f g : ℕ → SectorView) (place : Option ℕ) → ((p : ℕ) → shows_used_slot (f p) ≡ shows_used_slot (g p)) →
    shows_used_slot (unwrap_or (option_map f place) Lost) ≡ shows_used_slot (unwrap_or (option_map g place) Lost)
at_alike f g None alike = refl
at_alike f g (Some p) alike = alike p

last_alike : (f g : ℕ → SectorView) (places : List ℕ) (n : ℕ) → ((p : ℕ) → shows_used_slot (f p) ≡ shows_used_slot (g p)) →
    last_used_below (map f places) n ≡ last_used_below (map g places) n
unfolding last_used_below
last_alike f g places zero alike = refl
last_alike f g places (suc i) alike =
    let here : shows_used_slot (unwrap_or (slice_get (map f places) i) Lost) ≡ shows_used_slot
    (unwrap_or (slice_get (map g places) i) Lost) =
    ap (λ (o : Option SectorView). shows_used_slot (unwrap_or o Lost)) (slice_get-map f places i)
    ∙ at_alike f g (slice_get places i) alike
    ∙ ap (λ (o : Option SectorView). shows_used_slot (unwrap_or o Lost)) (sym (slice_get-map g places i)) in
    ap (λ (b : Bool). if b then Some i else last_used_below (map f places) i) here
    ∙ ap (λ (rest : Option ℕ). if shows_used_slot (unwrap_or (slice_get (map g places) i) Lost) then Some i else rest)
    (last_alike f g places i alike)

unreadable_alike : (f g : ℕ → SectorView) (places : List ℕ) (first : ℕ) → ((p : ℕ) → is_unreadable (f p) ≡ is_unreadable (g p)) →
    unreadable_from first (map f places) ≡ unreadable_from first (map g places)
unfolding unreadable_from
unreadable_alike f g [] first alike = refl
unreadable_alike f g (p ∷ places) first alike =
    ap (λ (b : Bool). if b then first ∷ unreadable_from (suc first) (map f places) else unreadable_from (suc first) (map f places))
    (alike p)
    ∙ ap (λ (rest : List ℕ). if is_unreadable (g p) then first ∷ rest else rest) (unreadable_alike f g places (suc first) alike)

sets_alike : (c d : Cartridge) → ReadsAlike c d → table_sets (table_cells c) ≡ table_sets (table_cells d)
sets_alike c d alike =
    let places : List ℕ = usable_places whole_mask in
    ap (λ (used : Option ℕ). 0 ∷ sets_by used (unreadable_places (table_cells c)))
    (last_alike (view_at c 2) (view_at d 2) places 29
    (λ p. shows_alike (view_at c 2 p) (view_at d 2 p) (λ bytes. alike.no_less 2 p bytes) (λ bytes. alike.no_more 2 p bytes)))
    ∙ ap (λ (unreadable : List ℕ). 0 ∷ sets_by (last_used (table_cells d)) unreadable)
    (unreadable_alike (view_at c 2) (view_at d 2) places 0 (λ p. sym (alike.unreadable 2 p)))

-- ---- the blocks outside them

agrees_alike : (set : ℕ) (xs ys : List SectorView) (block : List (List ℕ)) → CellsAlike xs ys → Agrees (hidden set xs) block →
    Agrees (hidden set ys) block
agrees_alike set xs ys block alike agrees = record {
  size = agrees.size ∙ length-hidden set 0 xs ∙ alike.long ∙ sym (length-hidden set 0 ys);
  each = λ i bytes at.
      let out = held_outside set ys i bytes at in
      agrees.each i bytes (seen_outside set xs i bytes out.0 (alike.no_more i bytes out.1));
}

block_alike : (set : ℕ) (xs ys : List SectorView) (area : List (List ℕ)) → CellsAlike xs ys → HasBlock (hidden set xs) area →
    HasBlock (hidden set ys) area
block_alike set xs ys area alike has = record {
  block = has.block;
  code = has.code;
  agrees = agrees_alike set xs ys has.block alike has.agrees;
  shown = has.shown;
}

none_alike : (set : ℕ) (xs ys : List SectorView) → CellsAlike xs ys → HasNoBlock (hidden set xs) → HasNoBlock (hidden set ys)
none_alike set xs ys alike none block code agrees = none block code (agrees_alike set ys xs block (turned alike) agrees)

first_alike : (sets : List ℕ) (xs ys : List SectorView) (area : List (List ℕ)) → CellsAlike xs ys → HasFirstBlock sets xs area →
    HasFirstBlock sets ys area
first_alike [] xs ys area alike has = has
first_alike (set ∷ sets) xs ys area alike (inl has) = inl (block_alike set xs ys area alike has)
first_alike (set ∷ sets) xs ys area alike (inr (none, rest)) =
    inr (none_alike set xs ys alike none, first_alike sets xs ys area alike rest)

-- ---- what it says

reads_alike : (xs ys : List SectorView) (area : List (List ℕ)) → CellsAlike xs ys → ReadsAll xs area → ReadsAll ys area
reads_alike xs ys area alike reads = record {
  size = reads.size;
  each = λ i h. let at = reads.each i h in (at.0, alike.no_less i at.0 at.1, at.2);
}

pub table_alike : (c d : Cartridge) (area : List (List ℕ)) → ReadsAlike c d → CellsAlike (table_cells c) (table_cells d) → TableIs c area →
    TableIs d area
table_alike c d area alike cells (inl reads) = inl (reads_alike (table_cells c) (table_cells d) area cells reads)
table_alike c d area alike cells (inr (some, (few, first))) =
    let same : unreadable_data (table_cells d) ≡ unreadable_data (table_cells c) =
    same_count_front (view_at d 2) (view_at c 2) 29 (usable_places whole_mask) (λ p. alike.unreadable 2 p) in
    inr (
      subst (λ (n : ℕ). 0 < n) (sym same) some,
      (
        subst (λ (n : ℕ). n ≤ 3) cells.count few,
        subst (λ (sets : List ℕ). HasFirstBlock sets (table_cells d) area) (sets_alike c d alike)
            (first_alike (table_sets (table_cells c)) (table_cells c) (table_cells d) area cells first),
      ),
    )
