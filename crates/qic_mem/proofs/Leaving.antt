-- What a failing call leaves is what a stop inside it may leave.
use Rattle.std.proofs.Common.{◌≡◌, ℕ, ◌+◌, ◌*◌, ◌≤◌, inl, inr, List, [], ◌∷◌, length, Option, Some, None, refl, sym, ap, ◌∙◌, arith}
use Rattle.std.proofs.Common.{IsSomeAnd, length-append, length-take, length-drop}
use Rattle.std.specs.Option.{option_map}
use Rattle.std.proofs.lemmas.List.{length-map}
use Rattle.std.proofs.lemmas.Option.{unwrap_or-slice_get}
use Rattle.qic_base.specs.declared.tape.SectorView.{SectorView}
use Rattle.qic_base.specs.declared.tape.SectorView.TheVariants.{Blank, Defect, Lost, Holds}
use Rattle.qic_base.specs.Cartridge.{Cartridge, IsPlace, view_at}
use Rattle.qic_base.specs.CartridgeTerms.{with_segment, HalfFormatted, changed_views}
use Rattle.qic_base.specs.Step.{Step, NewSector, WriteSectors, FormatSegment, SetReferenced, SetProtected, Renew, Wear, Spoil, Upgrade}
use Rattle.qic_base.specs.Step.{with_worn, worn_view, AreClosing, ClosingView, SegmentBecame, Torn}
use Rattle.qic_base.specs.TapeCalls.{IsToldRight}
use Rattle.qic_mem.specs.declared.tape.outcome.Outcome.{Outcome}
use Rattle.qic_mem.specs.declared.tape.outcome.Outcome.TheVariants as outcome
use Rattle.qic_mem.specs.TapeChange.{IsReached}
use Rattle.qic_mem.specs.Outcome.{with_all_worn, left_by}
use Rattle.qic_mem.proofs.Places.{slice_get-same}
use Rattle.qic_base.proofs.Views.{get-below, get-above, get-within}

-- a worn sector is one whose segment's formatting has begun
closing-worn : (view : SectorView) → ClosingView view (worn_view view)
closing-worn Blank = refl
closing-worn Defect = refl
closing-worn Lost = refl
closing-worn (Holds bytes) = inr refl

-- ---- the views of a cartridge with 32 of them changed

length-changed : (views : List SectorView) (segment : ℕ) (change : SectorView → SectorView) → 32 * (segment + 1) ≤ length views →
    length (changed_views views segment change) ≡ length views
length-changed views segment change within = simp (length-append, length-map, length-take, length-drop) (omega arith)

-- a segment whose readable sectors were worn
segment-worn : (c : Cartridge) (segment : ℕ) → 32 * (segment + 1) ≤ length c.views → SegmentBecame ClosingView segment c
    (with_segment c segment worn_view)
segment-worn c segment within =
    let long : length (changed_views c.views segment worn_view) ≡ length c.views = length-changed c.views segment worn_view within in
    record {
      info = refl;
      version = refl;
      sectors = long;
      within = λ sector in_segment.
          let new : view_at (with_segment c segment worn_view) segment sector ≡ worn_view (view_at c segment sector) =
          unwrap_or-slice_get (changed_views c.views segment worn_view) (32 * segment + sector) Blank
          ∙ get-within c.views segment sector worn_view within in_segment
          ∙ ap worn_view (sym (unwrap_or-slice_get c.views (32 * segment + sector) Blank)) in
          rw new (closing-worn (view_at c segment sector));
      below = λ place under. slice_get-same (changed_views c.views segment worn_view) c.views place Blank long
          (get-below c.views segment place worn_view within under);
      above = λ place over. slice_get-same (changed_views c.views segment worn_view) c.views place Blank long
          (get-above c.views segment place worn_view within over);
    }

half-worn : (size : Option ℕ) (held : Option Cartridge) (segment : ℕ) → IsToldRight (Some held) size →
    IsSomeAnd size (λ n. IsPlace n segment 0) → HalfFormatted segment held (option_map (λ c. with_segment c segment worn_view) held)
half-worn None held segment right on = absurd on
half-worn (Some n) None segment right on = cc
half-worn (Some n) (Some c) segment (whole, same) on =
    inl (segment-worn c segment (let a = on.on_tape in let b = whole.sectors in omega arith))

-- ---- sectors that are written

-- where each of them is lost, none is written yet
closing-all : (segment : ℕ) (new : List NewSector) (c : Cartridge) → AreClosing segment new c (with_all_worn segment new c)
closing-all segment [] c = refl
closing-all segment (new ∷ more) c = inr (closing-all segment more (with_worn segment new.sector c))

-- ---- each outcome

torn-lost : (size : Option ℕ) (held : Option Cartridge) (s : Step) → IsToldRight (Some held) size → IsReached size s →
    Torn (s ∷ []) held (left_by outcome.Lost s held)
torn-lost size None (WriteSectors segment new) right reached = inl refl
torn-lost size (Some c) (WriteSectors segment new) right reached = inr (inl (inl (closing-all segment new c)))
torn-lost size held (FormatSegment segment) right reached = inr (inl (half-worn size held segment right reached))
torn-lost size held SetReferenced right reached = inl refl
torn-lost size held (SetProtected on) right reached = inl refl
torn-lost size held (Renew n) right reached = inr (inl refl)
torn-lost size held (Wear segment sector) right reached = inl refl
torn-lost size held (Spoil segment sector) right reached = inl refl
torn-lost size held Upgrade right reached = inl refl

pub torn-left : (size : Option ℕ) (held : Option Cartridge) (left : Outcome) (s : Step) → IsToldRight (Some held) size → IsReached size s →
    Torn (s ∷ []) held (left_by left s held)
torn-left size held outcome.Old s right reached = inl refl
torn-left size held outcome.Lost s right reached = torn-lost size held s right reached
torn-left size held outcome.New s right reached = inr (inr refl)
