-- The imported cartridge is whole, and a mask of the sectors that were rescued tells it.
use Rattle.std.proofs.Common.{◌≡◌, inl, inr, ℕ, ◌+◌, ◌-◌, ◌*◌, ◌<◌, ◌≤◌, ◌&&◌, Bool, true, false, List, length, All, get_or, drop, Option}
use Rattle.std.proofs.Common.{Some, None, nat_le, if◌then◌else◌, refl, sym, ap, ◌∙◌, subst, arith, length-drop}
use Rattle.std.proofs.lemmas.Bool.{eqb-true, eqb-false, leb-true, leb-false}
use Rattle.std.proofs.lemmas.List.{get_or_default, length-take-le}
use Rattle.std.proofs.lemmas.List.Elements.{All-drop, All-take}
use Rattle.std.proofs.lemmas.List.FromFn.{get_or-map-range_with_len, length-map-range_with_len}
use Rattle.std.specs.List.{slice_range}
use Rattle.qic_base.specs.Cartridge.{IsSector}
use Rattle.qic_base.specs.CartridgeTerms.{IsView}
use Rattle.qic_base.specs.declared.tape.SectorView.{SectorView}
use Rattle.qic_base.specs.declared.tape.SectorView.TheVariants.{Blank, Holds, Lost}
use Rattle.qic_base.specs.declared.tape.TapeInfo.{TapeInfo}
use Rattle.rescue_map.specs.declared.form.Block.{Block}
use Rattle.rescue_map.specs.Mask.{IsMarked, IsMaskOf}
use Rattle.rescue_map.specs.Text.{is_marked}
use Rattle.flat_dump.specs.Imported.{IsImportedView, imported_view}
use Rattle.flat_dump.specs.Laws.{ImportIsWhole, MaskImports, FullMaskImports}

sector_of : (dump : List ℕ) (q : ℕ) → All (λ b. b < 256) dump → 1024 * q + 1024 ≤ length dump →
    IsSector (slice_range dump (1024 * q) (1024 * q + 1024))
sector_of dump q bytes has = record {
  size = length-take-le (1024 * q + 1024 - 1024 * q) (drop (1024 * q) dump) (let l = length-drop (1024 * q) dump in omega arith)
      ∙ (omega arith);
  each = All-take (λ b. b < 256) (1024 * q + 1024 - 1024 * q) (drop (1024 * q) dump) (All-drop (λ b. b < 256) (1024 * q) dump bytes);
}

view_of : (dump : List ℕ) (blocks : Option (List Block)) (q : ℕ) (view : SectorView) → All (λ b. b < 256) dump →
    IsImportedView dump blocks q view → IsView view
view_of dump blocks q view bytes (inl taken) = subst IsView (sym taken.1) (sector_of dump q bytes taken.0.0)
view_of dump blocks q view bytes (inr lost) = subst IsView (sym lost.1) tt

pub import_is_whole : ImportIsWhole
import_is_whole dump blocks n c bytes long is =
    let same : c.info.segments_per_track ≡ n = ap (λ (i : TapeInfo). i.segments_per_track) is.info in
    let size = is.size in
    let version = is.version in
    record {
      long = rw same long;
      version = record { oldest = omega arith; newest = omega arith };
      sectors = size ∙ ap (λ (m : ℕ). 896 * m) (sym same);
      views = λ q d within. subst IsView (get_or_default c.views q Blank d within)
          (view_of dump blocks q (get_or c.views q Blank) bytes (is.views q (omega arith)));
    }

-- ---- by a mask

by_mask : (dump mask : List ℕ) (blocks : List Block) (q : ℕ) → q < 32 * length mask → IsMaskOf blocks mask →
    IsImportedView dump (Some blocks) q (imported_view dump mask q)
by_mask dump mask blocks q within masks = by_marked (is_marked mask q) refl where
  by_long : (long : Bool) → long ≡ nat_le (1024 * q + 1024) (length dump) → IsMarked mask q →
      IsImportedView dump (Some blocks) q (if long then Holds (slice_range dump (1024 * q) (1024 * q + 1024)) else Lost)
  by_long true e marked = inl ((leb-true (1024 * q + 1024) (length dump) (sym e), (masks q within).0 marked), refl)
  by_long false e marked = inr (
    (λ t. let has : 1024 * q + 1024 ≤ length dump = t.0 in
        let short = leb-false (1024 * q + 1024) (length dump) (sym e) in absurd (omega arith)),
    refl,
  )

  by_marked : (marked : Bool) → marked ≡ is_marked mask q →
      IsImportedView dump (Some blocks) q
      (if marked && nat_le (1024 * q + 1024) (length dump) then Holds (slice_range dump (1024 * q) (1024 * q + 1024)) else Lost)
  by_marked true e = by_long (nat_le (1024 * q + 1024) (length dump)) refl (eqb-true _ 1 (sym e))
  by_marked false e = inr ((λ t. eqb-false _ 1 (sym e) ((masks q within).1 t.1)), refl)

pub mask_imports : MaskImports
mask_imports dump mask blocks n long masks = record {
  info = refl;
  version = refl;
  size = length-map-range_with_len (imported_view dump mask) 0 (896 * n);
  views = λ q within.
      let P : SectorView → Type 0 = λ view. IsImportedView dump (Some blocks) q view in
      subst P (sym (get_or-map-range_with_len (imported_view dump mask) 0 (896 * n) q q Blank within (omega arith)))
      (by_mask dump mask blocks q (omega arith) masks);
}

-- ---- without a map

by_full_mask : (dump mask : List ℕ) (q : ℕ) → IsMarked mask q → IsImportedView dump None q (imported_view dump mask q)
by_full_mask dump mask q marked = by_marked (is_marked mask q) refl where
  by_long : (long : Bool) → long ≡ nat_le (1024 * q + 1024) (length dump) →
      IsImportedView dump None q (if long then Holds (slice_range dump (1024 * q) (1024 * q + 1024)) else Lost)
  by_long true e = inl ((leb-true (1024 * q + 1024) (length dump) (sym e), tt), refl)
  by_long false e = inr (
    (λ t. let has : 1024 * q + 1024 ≤ length dump = t.0 in
        let short = leb-false (1024 * q + 1024) (length dump) (sym e) in absurd (omega arith)),
    refl,
  )

  by_marked : (is : Bool) → is ≡ is_marked mask q →
      IsImportedView dump None q (if is && nat_le (1024 * q + 1024) (length dump) then Holds
      (slice_range dump (1024 * q) (1024 * q + 1024)) else Lost)
  by_marked true e = by_long (nat_le (1024 * q + 1024) (length dump)) refl
  by_marked false e = absurd (eqb-false _ 1 (sym e) marked)

pub full_mask_imports : FullMaskImports
full_mask_imports dump mask n long marked = record {
  info = refl;
  version = refl;
  size = length-map-range_with_len (imported_view dump mask) 0 (896 * n);
  views = λ q within.
      let P : SectorView → Type 0 = λ view. IsImportedView dump None q view in
      subst P (sym (get_or-map-range_with_len (imported_view dump mask) 0 (896 * n) q q Blank within (omega arith)))
      (by_full_mask dump mask q (marked q (omega arith)));
}
