-- What the steps that clear a cartridge leave, segment after segment.
use Rattle.std.proofs.Common.{◌≡◌, ℕ, ◌<◌, ◌≤◌, length, true, refl, arith, ◌≢◌, ◌+◌, ◌*◌, inl, inr, sym, ap, ◌∙◌, subst, List, zero, suc}
use Rattle.std.proofs.Common.{◌↔◌}
use Rattle.std.proofs.lemmas.Bool.{cases_eq, false≢true}
use Rattle.cartridge_laws.proofs.FormatCopies.{HoldsZeros, zero_from_views, unformatted_from_bare}
use Rattle.cartridge_laws.proofs.FormatViews.{length-with_segment, view_of_segment, view_of_other_segment}
use Rattle.cartridge_laws.specs.FormatLaws.{ClearingClears, ClearedCopiesAreZero, ClearedIsUnformatted, ClearedShowsDefects}
use Rattle.cartridge_laws.specs.FormatMarks.{IsClearedFrom, formats_from}
use Rattle.cartridge_laws.specs.Segment.{IsUnreadable}
use Rattle.cartridge_spec.specs.Formatting.{clearing_steps, IsDefect}
use Rattle.cartridge_spec.specs.Settling.{changed_by}
use Rattle.qic_base.specs.Cartridge.{Cartridge, view_at, zero_sector}
use Rattle.qic_base.specs.CartridgeTerms.{IsCartridge}
use Rattle.qic_base.specs.Step.{formatted_view, SetReferenced, changed, FormatSegment}
use Rattle.qic_base.specs.declared.tape.SectorView.{SectorView}
use Rattle.qic_base.specs.declared.tape.SectorView.TheVariants.{Blank, Defect, Lost, Holds}

-- the reference bursts stand, and the first segments were formatted
pub record IsClearedTo (k : ℕ) (c d : Cartridge) : Type 0 where
  pub info : d.info ≡ record c.info { referenced = true }
  pub size : length d.views ≡ length c.views
  pub formatted : (s i : ℕ) → s < k → i < 32 → view_at d s i ≡ formatted_view (view_at c s i)
  pub rest : (s i : ℕ) → k ≤ s → i < 32 → view_at d s i ≡ view_at c s i

pub cleared_none : (c : Cartridge) → IsClearedTo 0 c (changed SetReferenced c)
cleared_none c = record {
  info = refl;
  size = refl;
  formatted = λ s i below h. absurd (omega arith);
  rest = λ s i from h. refl;
}

pub cleared_more : (k : ℕ) (c d : Cartridge) → IsClearedTo k c d → 32 * (k + 1) ≤ length c.views →
    IsClearedTo (k + 1) c (changed (FormatSegment k) d)
cleared_more k c d cleared room =
    let size : length d.views ≡ length c.views = cleared.size in
    let within : 32 * (k + 1) ≤ length d.views = omega arith in
    record {
      info = cleared.info;
      size = length-with_segment d k formatted_view within ∙ size;
      formatted = λ s i below h.
          elim (cases_eq s k) [
            | inl same ↦ subst (λ (t : ℕ). view_at (changed (FormatSegment k) d) t i ≡ formatted_view (view_at c t i)) (sym same)
                (view_of_segment d k i formatted_view within h ∙ ap formatted_view (cleared.rest k i (omega arith) h))
            | inr apart ↦ view_of_other_segment d k s i formatted_view within h apart ∙ cleared.formatted s i (omega arith) h
          ];
      rest = λ s i from h.
          let apart : s ≢ k = λ e. absurd (omega arith) in
          view_of_other_segment d k s i formatted_view within h apart ∙ cleared.rest s i (omega arith) h;
    }

cleared_all : (m k n : ℕ) (c d : Cartridge) → k + m ≡ n → IsClearedTo k c d → 32 * n ≤ length c.views →
    IsClearedTo n c (changed_by (formats_from k m) d)
cleared_all zero k n c d sum cleared room = let same : k ≡ n = omega arith in subst (λ (j : ℕ). IsClearedTo j c d) same cleared
cleared_all (suc m) k n c d sum cleared room =
    cleared_all m (k + 1) n c (changed (FormatSegment k) d) (omega arith) (cleared_more k c d cleared (omega arith)) room

pub cleared_to_the_end : (c : Cartridge) → IsCartridge c →
    IsClearedTo (28 * c.info.segments_per_track) c (changed_by (clearing_steps c.info.segments_per_track) c)
cleared_to_the_end c whole =
    let n : ℕ = 28 * c.info.segments_per_track in
    let size : length c.views ≡ 896 * c.info.segments_per_track = whole.sectors in
    cleared_all n 0 n c (changed SetReferenced c) (omega arith) (cleared_none c) (omega arith)

pub clearing_clears : ClearingClears
clearing_clears c whole =
    let cleared = cleared_to_the_end c whole in
    record { info = cleared.info; sectors = cleared.formatted }

-- ---- the header copies of a cleared cartridge

pub formatted_zeros : (view : SectorView) (bytes : List ℕ) → formatted_view view ≡ Holds bytes → bytes ≡ zero_sector
formatted_zeros Blank bytes same = cc
formatted_zeros Defect bytes same = absurd (cc)
formatted_zeros Lost bytes same = cc
formatted_zeros (Holds old) bytes same = cc

cleared_segment : (old new : Cartridge) (segment : ℕ) → IsClearedFrom old new → segment < 28 * old.info.segments_per_track →
    HoldsZeros new segment
cleared_segment old new segment cleared on = record {
  each = λ i bytes h view. formatted_zeros (view_at old segment i) bytes (sym (cleared.sectors segment i on h) ∙ view);
}

pub cleared_copies_are_zero : ClearedCopiesAreZero
cleared_copies_are_zero old new copy whole cleared below =
    let least : 3 ≤ old.info.segments_per_track = whole.long.shortest in
    zero_from_views (cleared_segment old new copy cleared (omega arith))

pub cleared_is_unformatted : ClearedIsUnformatted
cleared_is_unformatted old new whole cleared =
    unformatted_from_bare new (record {
      first = inl (cleared_copies_are_zero old new 0 whole cleared (omega arith));
      second = inl (cleared_copies_are_zero old new 1 whole cleared (omega arith));
    })

-- ---- its defects

unreadable_formatted : (view : SectorView) → IsUnreadable (formatted_view view) ↔ IsDefect view
unreadable_formatted Blank = (λ no. absurd (false≢true no), λ no. absurd no)
unreadable_formatted Defect = (λ is. tt, λ is. refl)
unreadable_formatted Lost = (λ no. absurd (false≢true no), λ no. absurd no)
unreadable_formatted (Holds bytes) = (λ no. absurd (false≢true no), λ no. absurd no)

pub cleared_shows_defects : ClearedShowsDefects
cleared_shows_defects old new segment index cleared on h =
    let same = cleared.sectors segment index on h in
    let defects = unreadable_formatted (view_at old segment index) in
    (λ unreadable. defects.0 (subst IsUnreadable same unreadable), λ defect. subst IsUnreadable (sym same) (defects.1 defect))
