-- What a stop among the steps that clear a cartridge leaves.
use Rattle.std.proofs.Common.{◌⊎◌, ℕ, ◌≡◌, ◌<◌, ◌≤◌, true, sym, ◌∙◌, inl, refl, zero, suc, inr, ap, arith, List, Option, Some, None}
use Rattle.std.proofs.Common.{IsSomeAnd, ◌+◌, ◌*◌, length}
use Rattle.cartridge_laws.proofs.FormatClearing.{formatted_zeros, IsClearedTo, cleared_more, cleared_none}
use Rattle.cartridge_laws.proofs.FormatCopies.{HoldsZeros, Shrank, zero_from_views}
use Rattle.cartridge_laws.proofs.FormatViews.{view_of_other_stopped}
use Rattle.cartridge_laws.proofs.FormatWriting.{some_and}
use Rattle.cartridge_spec.specs.Formatting.{HasNoHeader, clearing_steps}
use Rattle.qic_base.specs.Cartridge.{Cartridge, view_at, zero_sector}
use Rattle.qic_base.specs.CartridgeTerms.{IsCartridge, HalfFormatted}
use Rattle.qic_base.specs.Step.{formatted_view, FormatSegment, changed, SetReferenced, ClosingView, OpeningView, SegmentBecame, Torn}
use Rattle.qic_base.specs.declared.tape.SectorView.{SectorView}
use Rattle.qic_base.specs.declared.tape.SectorView.TheVariants.{Blank, Defect, Lost, Holds}
use Rattle.qic_base.specs.declared.tape.TapeInfo.{TapeInfo}
use Rattle.cartridge_laws.specs.FormatMarks.{formats_from}

-- ---- what is left

-- a header copy's sectors that can be read are as they were, or hold zero bytes
abbrev pub IsKeptCopy : (copy : ℕ) (c d : Cartridge) → Type 0
IsKeptCopy copy c d = Shrank copy c d ⊎ HoldsZeros d copy

-- so do both copies', and the segments behind them are as they were
pub record IsKept (c d : Cartridge) : Type 0 where
  pub segments : d.info.segments_per_track ≡ c.info.segments_per_track
  pub referenced : c.info.referenced ≡ true → d.info.referenced ≡ true
  pub first : IsKeptCopy 0 c d
  pub second : IsKeptCopy 1 c d
  pub others : (s i : ℕ) → 2 ≤ s → i < 32 → view_at d s i ≡ view_at c s i

-- that, or no header copy holds anything but zero bytes
abbrev pub IsKeptOrBare : (c d : Cartridge) → Type 0
IsKeptOrBare c d = IsKept c d ⊎ HasNoHeader d

shrank_from_same : {c d : Cartridge} (segment : ℕ) → ((i : ℕ) → i < 32 → view_at d segment i ≡ view_at c segment i) → Shrank segment c d
shrank_from_same segment same = record { each = λ i bytes h view. sym (same i h) ∙ view }

-- before the first step
kept_whole : (c : Cartridge) → IsKept c c
kept_whole c = record {
  segments = refl;
  referenced = λ is. is;
  first = inl (shrank_from_same 0 (λ i h. refl));
  second = inl (shrank_from_same 1 (λ i h. refl));
  others = λ s i from h. refl;
}

-- the first segments were formatted, those behind the next one are as they were, and it may be on the way
record IsOnTheWay (k : ℕ) (c d : Cartridge) : Type 0 where
  info : d.info ≡ record c.info { referenced = true }
  formatted : (s i : ℕ) → s < k → i < 32 → view_at d s i ≡ formatted_view (view_at c s i)
  here : IsKeptCopy k c d
  rest : (s i : ℕ) → k < s → i < 32 → view_at d s i ≡ view_at c s i

formatted_segment : {k : ℕ} {c d : Cartridge} (segment : ℕ) → IsOnTheWay k c d → segment < k → HoldsZeros d segment
formatted_segment {c = c} segment way below = record {
  each = λ i bytes h view. formatted_zeros (view_at c segment i) bytes (sym (way.formatted segment i below h) ∙ view);
}

left_on_the_way : (k : ℕ) (c d : Cartridge) → IsOnTheWay k c d → IsKeptOrBare c d
left_on_the_way zero c d way = inl (record {
  segments = ap (λ (i : TapeInfo). i.segments_per_track) way.info;
  referenced = λ is. ap (λ (i : TapeInfo). i.referenced) way.info;
  first = way.here;
  second = inl (shrank_from_same 1 (λ i h. way.rest 1 i (omega arith) h));
  others = λ s i from h. way.rest s i (omega arith) h;
})
left_on_the_way (suc zero) c d way = inl (record {
  segments = ap (λ (i : TapeInfo). i.segments_per_track) way.info;
  referenced = λ is. ap (λ (i : TapeInfo). i.referenced) way.info;
  first = inr (formatted_segment 0 way (omega arith));
  second = way.here;
  others = λ s i from h. way.rest s i (omega arith) h;
})
left_on_the_way (suc (suc k)) c d way = inr (record {
  first = inl (zero_from_views (formatted_segment 0 way (omega arith)));
  second = inl (zero_from_views (formatted_segment 1 way (omega arith)));
})

-- ---- between two steps, and inside one

left_between : (k : ℕ) (c d : Cartridge) → IsClearedTo k c d → IsKeptOrBare c d
left_between k c d cleared = left_on_the_way k c d (record {
  info = cleared.info;
  formatted = cleared.formatted;
  here = inl (shrank_from_same k (λ i h. cleared.rest k i (omega arith) h));
  rest = λ s i from h. cleared.rest s i (omega arith) h;
})

closing_held : (old new : SectorView) (bytes : List ℕ) → ClosingView old new → new ≡ Holds bytes → old ≡ Holds bytes
closing_held Blank new bytes became is = absurd (cc)
closing_held Defect new bytes became is = absurd (cc)
closing_held Lost new bytes became is = absurd (cc)
closing_held (Holds old) new bytes (inl same) is = sym same ∙ is
closing_held (Holds old) new bytes (inr lost) is = absurd (cc)

opening_held : (old new : SectorView) (bytes : List ℕ) → OpeningView old new → new ≡ Holds bytes → bytes ≡ zero_sector
opening_held Blank new bytes (inl blank) is = absurd (cc)
opening_held Blank new bytes (inr (inl lost)) is = absurd (cc)
opening_held Blank new bytes (inr (inr zeros)) is = cc
opening_held Defect new bytes became is = absurd (cc)
opening_held Lost new bytes (inl lost) is = absurd (cc)
opening_held Lost new bytes (inr zeros) is = cc
opening_held (Holds old) new bytes (inl lost) is = absurd (cc)
opening_held (Holds old) new bytes (inr zeros) is = cc

on_the_way : {Became : SectorView → SectorView → Type 0} (k : ℕ) (c e d : Cartridge) → IsClearedTo k c e → SegmentBecame Became k e d →
    IsKeptCopy k c d → IsOnTheWay k c d
on_the_way k c e d cleared became here = record {
  info = became.info ∙ cleared.info;
  formatted = λ s i below h. view_of_other_stopped k s i became h (λ same. absurd (omega arith)) ∙ cleared.formatted s i below h;
  here = here;
  rest = λ s i from h. view_of_other_stopped k s i became h (λ same. absurd (omega arith)) ∙ cleared.rest s i (omega arith) h;
}

left_inside : (k : ℕ) (c e : Cartridge) (left : Option Cartridge) → IsClearedTo k c e → HalfFormatted k (Some e) left →
    IsSomeAnd left (IsKeptOrBare c)
left_inside k c e None cleared half = absurd half
left_inside k c e (Some d) cleared (inl closing) =
    left_on_the_way k c d (on_the_way k c e d cleared closing (inl (record {
      each = λ i bytes h view.
          sym (cleared.rest k i (omega arith) h)
          ∙ closing_held (view_at e k i) (view_at d k i) bytes (closing.within i h) view;
    })))
left_inside k c e (Some d) cleared (inr opening) =
    left_on_the_way k c d (on_the_way k c e d cleared opening (inr (record {
      each = λ i bytes h view. opening_held (view_at e k i) (view_at d k i) bytes (opening.within i h) view;
    })))

-- ---- anywhere

formats_stopped : (m k n : ℕ) (c e : Cartridge) (left : Option Cartridge) → k + m ≡ n → 32 * n ≤ length c.views → IsClearedTo k c e →
    Torn (formats_from k m) (Some e) left → IsSomeAnd left (IsKeptOrBare c)
formats_stopped zero k n c e left sum room cleared is = some_and (IsKeptOrBare c) e left (left_between k c e cleared) is
formats_stopped (suc m) k n c e left sum room cleared (inl is) = some_and (IsKeptOrBare c) e left (left_between k c e cleared) is
formats_stopped (suc m) k n c e left sum room cleared (inr (inl half)) = left_inside k c e left cleared half
formats_stopped (suc m) k n c e left sum room cleared (inr (inr torn)) =
    formats_stopped m (k + 1) n c (changed (FormatSegment k) e) left (omega arith) room (cleared_more k c e cleared (omega arith)) torn

pub clearing_stopped : (c : Cartridge) (left : Option Cartridge) → IsCartridge c →
    Torn (clearing_steps c.info.segments_per_track) (Some c) left → IsSomeAnd left (IsKeptOrBare c)
clearing_stopped c left whole (inl is) = some_and (IsKeptOrBare c) c left (inl (kept_whole c)) is
clearing_stopped c left whole (inr (inl inside)) = absurd inside
clearing_stopped c left whole (inr (inr torn)) =
    let n : ℕ = 28 * c.info.segments_per_track in
    let size : length c.views ≡ 896 * c.info.segments_per_track = whole.sectors in
    formats_stopped n 0 n c (changed SetReferenced c) left (omega arith) (omega arith) (cleared_none c) torn
