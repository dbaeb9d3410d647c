-- Sectors that take what is written to them go on to do so.
use Rattle.std.proofs.Common.{◌≡◌, ◌⊎◌, ℕ, inl, inr, List, [], ◌∷◌, ◌++◌, get_or, take, drop, map, ap, ◌∙◌, sym, subst, refl, zero, suc}
use Rattle.std.proofs.Common.{◌+◌, ◌*◌, arith, Option, Some, None, IsSomeAnd}
use Rattle.std.proofs.Math.Seq.{take-add}
use Rattle.std.proofs.lemmas.Bool.{cases_eq}
use Rattle.std.proofs.lemmas.List.{take-append-drop}
use Rattle.std.proofs.lemmas.Option.{unwrap_or-slice_get}
use Rattle.cartridge_laws.proofs.ChangeViews.{one_view}
use Rattle.cartridge_laws.proofs.FormatViews.{view_of_other_stopped}
use Rattle.cartridge_laws.proofs.FormatWriting.{some_and}
use Rattle.cartridge_laws.specs.ChangeLaws.{StepsKeepLive}
use Rattle.cartridge_laws.specs.ChangeSteps.{IsNoRenew}
use Rattle.cartridge_spec.specs.TableSegment.{IsTableLive}
use Rattle.cartridge_spec.specs.Shape.{IsLive}
use Rattle.qic_base.proofs.SectorsWritten.{StayWritten, sectors_keep, half_keeps}
use Rattle.qic_base.specs.Cartridge.{Cartridge, view_at, with_view}
use Rattle.qic_base.specs.CartridgeTerms.{with_segment, HalfFormatted}
use Rattle.qic_base.specs.Step.{Step, NewSector, WriteSectors, FormatSegment, SetReferenced, SetProtected, Renew, Wear, Spoil, Upgrade}
use Rattle.qic_base.specs.Step.{changed, written_view, formatted_view, worn_view, spoiled_view, ClosingView, OpeningView}
use Rattle.qic_base.specs.Step.{SegmentBecame, Halfway}
use Rattle.qic_base.specs.declared.tape.SectorView.{SectorView}
use Rattle.qic_base.specs.declared.tape.SectorView.TheVariants.{Blank, Defect, Lost, Holds}

-- ---- one view

written_live : (bytes : List ℕ) (view : SectorView) → IsLive view → IsLive (written_view bytes view)
written_live bytes Blank live = live
written_live bytes Defect live = live
written_live bytes Lost live = tt
written_live bytes (Holds old) live = tt

formatted_live : (view : SectorView) → IsLive view → IsLive (formatted_view view)
formatted_live Blank live = tt
formatted_live Defect live = live
formatted_live Lost live = tt
formatted_live (Holds old) live = tt

pub worn_live : (view : SectorView) → IsLive view → IsLive (worn_view view)
worn_live Blank live = live
worn_live Defect live = live
worn_live Lost live = tt
worn_live (Holds old) live = tt

spoiled_live : (view : SectorView) → IsLive view → IsLive (spoiled_view view)
spoiled_live Blank live = live
spoiled_live Defect live = live
spoiled_live Lost live = tt
spoiled_live (Holds old) live = tt

closing_live : (old new : SectorView) → IsLive old → ClosingView old new → IsLive new
closing_live Blank new live became = absurd live
closing_live Defect new live became = absurd live
closing_live Lost new live became = subst IsLive (sym became) tt
closing_live (Holds bytes) new live (inl same) = subst IsLive (sym same) tt
closing_live (Holds bytes) new live (inr lost) = subst IsLive (sym lost) tt

opening_live : (old new : SectorView) → IsLive old → OpeningView old new → IsLive new
opening_live Blank new live became = absurd live
opening_live Defect new live became = absurd live
opening_live Lost new live (inl lost) = subst IsLive (sym lost) tt
opening_live Lost new live (inr zeros) = subst IsLive (sym zeros) tt
opening_live (Holds bytes) new live (inl lost) = subst IsLive (sym lost) tt
opening_live (Holds bytes) new live (inr zeros) = subst IsLive (sym zeros) tt

-- ---- one sector changed

sector_live : (c : Cartridge) (segment sector : ℕ) (change : SectorView → SectorView) →
    ((view : SectorView) → IsLive view → IsLive (change view)) →
    IsTableLive c → IsTableLive (with_view c segment sector (change (view_at c segment sector)))
sector_live c segment sector change keeps live i h =
    elim (one_view c segment sector change 2 i) [
      | inl stays ↦ subst IsLive (sym stays) (live i h)
      | inr is ↦ subst IsLive (sym is) (keeps (view_at c 2 i) (live i h))
    ]

-- ---- one segment changed

-- a view of three parts, of which the middle one is changed, is as it was, or is changed
part_view : (change : SectorView → SectorView) (front middle rear : List SectorView) (p : ℕ) →
    (get_or (front ++ map change middle ++ rear) p Blank ≡ get_or (front ++ middle ++ rear) p Blank)
    ⊎ (get_or (front ++ map change middle ++ rear) p Blank ≡ change (get_or (front ++ middle ++ rear) p Blank))
part_view change [] [] rear p = inl refl
part_view change [] (view ∷ middle) rear zero = inr refl
part_view change [] (view ∷ middle) rear (suc p) = part_view change [] middle rear p
part_view change (view ∷ front) middle rear zero = inl refl
part_view change (view ∷ front) middle rear (suc p) = part_view change front middle rear p

in_parts : (views : List SectorView) (segment : ℕ) →
    take (32 * segment) views ++ take 32 (drop (32 * segment) views) ++ drop (32 * (segment + 1)) views ≡ views
in_parts views segment =
    let next : 32 * segment + 32 ≡ 32 * (segment + 1) = omega arith in
    ap (λ (front : List SectorView). front ++ drop (32 * (segment + 1)) views) (sym (take-add (32 * segment) 32 views))
    ∙ ap (λ (n : ℕ). take n views ++ drop (32 * (segment + 1)) views) next
    ∙ take-append-drop (32 * (segment + 1)) views

segment_view : (c : Cartridge) (segment : ℕ) (change : SectorView → SectorView) (s i : ℕ) →
    (view_at (with_segment c segment change) s i ≡ view_at c s i) ⊎ (view_at (with_segment c segment change) s i ≡ change (view_at c s i))
segment_view c segment change s i =
    let p : ℕ = 32 * s + i in
    let d : Cartridge = with_segment c segment change in
    let before : get_or (take (32 * segment) c.views ++ take 32 (drop (32 * segment) c.views) ++ drop (32 * (segment + 1)) c.views) p
    Blank ≡ view_at c s i =
    ap (λ (views : List SectorView). get_or views p Blank) (in_parts c.views segment) ∙ sym (unwrap_or-slice_get c.views p Blank) in
    let behind : view_at d s i ≡ get_or d.views p Blank = unwrap_or-slice_get d.views p Blank in
    elim (part_view change (take (32 * segment) c.views) (take 32 (drop (32 * segment) c.views)) (drop (32 * (segment + 1)) c.views) p) [
      | inl stays ↦ inl (behind ∙ stays ∙ before)
      | inr is ↦ inr (behind ∙ is ∙ ap change before)
    ]

format_live : (c : Cartridge) (segment : ℕ) → IsTableLive c → IsTableLive (changed (FormatSegment segment) c)
format_live c segment live i h =
    elim (segment_view c segment formatted_view 2 i) [
      | inl stays ↦ subst IsLive (sym stays) (live i h)
      | inr is ↦ subst IsLive (sym is) (formatted_live (view_at c 2 i) (live i h))
    ]

became_live : {Became : SectorView → SectorView → Type 0} (segment : ℕ) (c d : Cartridge) →
    ((old new : SectorView) → IsLive old → Became old new → IsLive new) → SegmentBecame Became segment c d → IsTableLive c → IsTableLive d
became_live {Became = Became} segment c d keeps became live i h =
    elim (cases_eq 2 segment) [
      | inl same ↦
          let change : Became (view_at c 2 i) (view_at d 2 i) = subst (λ (s : ℕ). Became (view_at c s i) (view_at d s i)) (sym same)
          (became.within i h) in
          keeps (view_at c 2 i) (view_at d 2 i) (live i h) change
      | inr apart ↦ subst IsLive (sym (view_of_other_stopped segment 2 i became h apart)) (live i h)
    ]

half_live : (segment : ℕ) (c : Cartridge) (left : Option Cartridge) → IsTableLive c → HalfFormatted segment (Some c) left →
    IsSomeAnd left IsTableLive
half_live segment c None live half = absurd half
half_live segment c (Some d) live (inl closing) = became_live segment c d closing_live closing live
half_live segment c (Some d) live (inr opening) = became_live segment c d opening_live opening live

-- ---- steps

-- the table's sectors take writes still while some sectors are written, or lost
pub stay_live : (segment : ℕ) (new : List NewSector) → StayWritten IsTableLive segment new
stay_live segment [] = tt
stay_live segment (new ∷ more) = (
  record {
    worn = λ c live. sector_live c segment new.sector worn_view worn_live live;
    written = λ c live. sector_live c segment new.sector (written_view new.bytes) (written_live new.bytes) live;
  },
  stay_live segment more,
)

step_live : (s : Step) (c : Cartridge) → IsNoRenew s → IsTableLive c → IsTableLive (changed s c)
step_live (WriteSectors segment new) c none live = sectors_keep IsTableLive segment new c (stay_live segment new) live
step_live (FormatSegment segment) c none live = format_live c segment live
step_live SetReferenced c none live = live
step_live (SetProtected on) c none live = live
step_live (Renew n) c none live = absurd none
step_live (Wear segment sector) c none live = sector_live c segment sector worn_view worn_live live
step_live (Spoil segment sector) c none live = sector_live c segment sector spoiled_view spoiled_live live
step_live Upgrade c none live = live

step_stopped : (s : Step) (c : Cartridge) (left : Option Cartridge) → IsNoRenew s → IsTableLive c → Halfway s (Some c) left →
    IsSomeAnd left IsTableLive
step_stopped (WriteSectors segment new) c left none live half = half_keeps IsTableLive segment new c left (stay_live segment new) live half
step_stopped (FormatSegment segment) c left none live half = half_live segment c left live half
step_stopped SetReferenced c left none live half = absurd half
step_stopped (SetProtected on) c left none live half = absurd half
step_stopped (Renew n) c left none live half = absurd none
step_stopped (Wear segment sector) c left none live half = absurd half
step_stopped (Spoil segment sector) c left none live half = absurd half
step_stopped Upgrade c left none live half = absurd half

pub steps_keep_live : StepsKeepLive
steps_keep_live [] c left none live is = some_and IsTableLive c left live is
steps_keep_live (s ∷ ss) c left none live (inl is) = some_and IsTableLive c left live is
steps_keep_live (s ∷ ss) c left none live (inr (inl half)) = step_stopped s c left none.0 live half
steps_keep_live (s ∷ ss) c left none live (inr (inr torn)) = steps_keep_live ss (changed s c) left none.1 (step_live s c none.0 live) torn
