-- Behind `scrub deep` a segment is whole that was written and holds enough of its data, and behind a stop it holds enough of them.
use Rattle.std.proofs.Common.{◌≡◌, ◌≢◌, inl, inr, ℕ, List, [], ◌+◌, ◌<◌, ◌≤◌, arith, ap, sym, ◌∙◌, refl, subst, length, slice_get, Option}
use Rattle.std.proofs.Common.{Some, None, Contains}
use Rattle.std.specs.Prelude.{unwrap_or}
use Rattle.std.proofs.lemmas.Bool.{cases_eq}
use Rattle.cartridge_laws.proofs.FormatCopies.{no_fewer_unreadable}
use Rattle.cartridge_laws.proofs.FormatStanding.{same_cells}
use Rattle.cartridge_laws.proofs.FormatWriting.{some_weaker}
use Rattle.cartridge_laws.proofs.Places.{usable_small}
use Rattle.cartridge_laws.proofs.Sayings.{said_is_written}
use Rattle.cartridge_laws.proofs.Segments.{count_of_cells}
use Rattle.cartridge_laws.specs.Segment.{IsUnreadable}
use Rattle.cartridge_spec.specs.Says.{Data, Says, Written, unreadable_count, with_parity}
use Rattle.cartridge_spec.specs.Settling.{changed_by}
use Rattle.cartridge_spec.specs.Shape.{IsLive, is_unreadable, sector_at, usable_count}
use Rattle.cartridge_spec.specs.Table.{Entry}
use Rattle.cartridge_spec.specs.Volumes.{worn}
use Rattle.command_laws.proofs.ScrubForms.{AsSeen, as_seen, mended_as_seen, scrubbed_as_seen, stopped_in_form}
use Rattle.command_laws.proofs.ScrubOneWrong.{count_one_more}
use Rattle.command_laws.proofs.ScrubSeen.{FoundOf, found_of, worn_elsewhere}
use Rattle.command_laws.proofs.ScrubStanding.{mended_in, mended_right, said_kept, same_place}
use Rattle.command_laws.proofs.SilentFound.{FoundSo, cell_view, found_so, long_of, sector_of, so_says, view_cell}
use Rattle.command_laws.specs.ScrubFound.{IsBeingScrubbed, without_all}
use Rattle.command_laws.specs.ScrubMended.{IsMended, IsScrubbed}
use Rattle.command_laws.specs.ScrubSayings.{Rise}
use Rattle.command_laws.specs.SilentLaws.{SegmentsAreMadeWhole, StoppedStayMendable}
use Rattle.command_laws.specs.SilentSectors.{IsSameIn}
use Rattle.command_laws.specs.SilentSegments.{HoldsAllButOne, HoldsEnough, IsMendable}
use Rattle.command_spec.specs.Scrub.{Finding, Looked, cells_at, looked_at, without}
use Rattle.command_spec.specs.declared.depth.Depth.TheVariants.{Deep}
use Rattle.qic_base.specs.Acts.{Act, steps_of}
use Rattle.qic_base.specs.Cartridge.{Cartridge, view_at}
use Rattle.qic_base.specs.Step.{written_view}
use Rattle.qic_base.specs.declared.tape.SectorView.{SectorView}
use Rattle.qic_base.specs.declared.tape.SectorView.TheVariants.{Blank, Defect, Holds, Lost}

-- ---- the segment with the wrong sector lost

-- what is found of it, and what it says then
pub record SeenSo (c e : Cartridge) (l : Looked) (xs : List (List ℕ)) : Type 0 where
  pub wrong : Option ℕ
  pub so : FoundSo c l xs wrong
  pub seen : IsSameIn (without wrong l c) e l.segment
  pub says : Says (cells_at e l) (Data xs)

pub seen_so : (c : Cartridge) (words : List ℕ) (entries : List Entry) (acts : List Act) (l : Looked) (xs : List (List ℕ)) →
    {fs : List Finding} → AsSeen Deep c words entries acts fs → Contains (looked_at words entries) l → IsMendable c l xs →
    SeenSo c (without_all c (looked_at words entries) fs) l xs
seen_so c words entries acts l xs {fs = fs} run among mendable =
    let looked : List Looked = looked_at words entries in
    let e : Cartridge = without_all c looked fs in
    let of : FoundOf Deep c e l = found_of Deep c e looked fs l run.found run.seen.seen among in
    let so : FoundSo c l xs of.finding.wrong = found_so c l xs of.finding.saying of.finding.wrong mendable of.finds in
    record {
      wrong = of.finding.wrong;
      so = so;
      seen = of.seen;
      says = subst (λ (cells : List SectorView). Says cells (Data xs))
          (sym (same_cells (without of.finding.wrong l c) e l.segment l.mask of.seen))
          (so_says c l xs of.finding.wrong mendable.data_of so);
    }

-- ---- all steps done

module _ (looked : List Looked) (c e d : Cartridge) (l : Looked) (xs : List (List ℕ)) (among : Contains looked l)
    (mendable : IsMendable c l xs) (says : Says (cells_at e l) (Data xs)) (scrubbed : IsScrubbed looked e d) where
  mended_at : (place : ℕ) → place < usable_count l.mask → IsUnreadable (view_at e l.segment (sector_of l place)) →
      IsMended e looked l.segment (sector_of l place) (sector_at (with_parity xs) place)
  mended_at place within gone = record {
    at = l;
    among = among;
    here = refl;
    sectors = xs;
    says = says;
    can_be_read = mendable.data_of.can_be_read;
    place = place;
    within = within;
    index = refl;
    unreadable = gone;
    block = refl;
  }

  by_view : (place : ℕ) (view : SectorView) → place < usable_count l.mask → view_at e l.segment (sector_of l place) ≡ view → IsLive view →
      view_at d l.segment (sector_of l place) ≡ Holds (sector_at (with_parity xs) place)
  by_view place Blank within is live = absurd live
  by_view place Defect within is live = absurd live
  by_view place Lost within is live =
      let part : List ℕ = sector_at (with_parity xs) place in
      scrubbed.mended l.segment (sector_of l place) part (usable_small l.mask place within)
      (mended_at place within (ap (λ (v : SectorView). is_unreadable v) is)) ∙ ap (written_view part) is
  by_view place (Holds held) within is live =
      let there : slice_get (with_parity xs) place ≡ Some held =
      (said_is_written (cells_at e l) xs says).each place held (view_cell e l place held within is) in
      let part : sector_at (with_parity xs) place ≡ held = ap (λ (o : Option (List ℕ)). unwrap_or o []) there in
      scrubbed.others l.segment (sector_of l place) (usable_small l.mask place within)
      (λ bytes mended. let gone = mended.unreadable in let read = ap (λ (v : SectorView). is_unreadable v) is in absurd (cc))
      ∙ is ∙ ap (λ (b : List ℕ). Holds b) (sym part)

pub segments_are_made_whole : SegmentsAreMadeWhole
segments_are_made_whole c words entries last acts l xs order scrubs among mendable =
    let looked : List Looked = looked_at words entries in
    let e : Cartridge = without_all c looked scrubs.findings in
    let d : Cartridge = changed_by (steps_of acts) c in
    let run = as_seen Deep c words entries last acts order scrubs in
    let so : SeenSo c e l xs = seen_so c words entries acts l xs run among mendable in
    record {
      live = λ place within live.
          by_view looked c e d l xs among mendable so.says (scrubbed_as_seen Deep c words entries acts scrubs.findings run) place
          (view_at e l.segment (sector_of l place)) within refl
          (elim (run.seen.each l.segment (sector_of l place) (usable_small l.mask place within)) [
            | inl same ↦ subst IsLive (sym same) live
            | inr lost ↦ subst IsLive (sym lost.lost) tt
          ]);
      written = said_kept looked e d l xs run.rise among (mended_as_seen Deep c words entries acts scrubs.findings run) so.says;
    }

-- ---- a stop

module _ (looked : List Looked) (c e d : Cartridge) (l : Looked) (xs : List (List ℕ)) (rise : Rise looked) (among : Contains looked l)
    (mendable : IsMendable c l xs) (says : Says (cells_at e l) (Data xs)) (being : IsBeingScrubbed looked e c d) where
  length_of : length (with_parity xs) ≡ length (cells_at d l)
  length_of = long_of l xs mendable.data_of ∙ sym (count_of_cells d l.segment l.mask)

  -- what can be read holds its own, or what it held
  right_at : (place : ℕ) (held : List ℕ) → slice_get (cells_at d l) place ≡ Some (Holds held) →
      (view_at d l.segment (sector_of l place) ≡ view_at c l.segment (sector_of l place) → slice_get (cells_at c l) place ≡ Some
      (Holds held) →
      slice_get (with_parity xs) place ≡ Some held) → slice_get (with_parity xs) place ≡ Some held
  right_at place held at before =
      let cell = cell_view d l place held at in
      let within : place < usable_count l.mask = cell.within in
      let view : view_at d l.segment (sector_of l place) ≡ Holds held = cell.view in
      elim (being.each l.segment (sector_of l place) (usable_small l.mask place within)) [
        | inl same ↦ before same (view_cell c l place held within (sym same ∙ view))
        | inr has ↦ elim has.became [
          | inl lost ↦ let both : Lost ≡ Holds held = sym lost ∙ view in absurd (cc)
          | inr is ↦
              let both : Holds held ≡ Holds has.bytes = sym view ∙ is in
              let bytes : held ≡ has.bytes = cc in
              mended_right e l xs place has.bytes mendable.data_of.are (said_is_written (cells_at e l) xs says) within
              (mended_in looked e l (sector_of l place) has.bytes rise among has.mended) ∙ ap (λ (b : List ℕ). Some b) (sym bytes)
        ]
      ]

  -- what could be read, and can be with the wrong one lost, can be read still
  stays_at : (place : ℕ) (held : List ℕ) → slice_get (cells_at c l) place ≡ Some (Holds held) →
      view_at e l.segment (sector_of l place) ≡ view_at c l.segment (sector_of l place) → slice_get (cells_at d l) place ≡ Some (Holds held)
  stays_at place held at same_seen =
      let cell = cell_view c l place held at in
      let within : place < usable_count l.mask = cell.within in
      let view : view_at c l.segment (sector_of l place) ≡ Holds held = cell.view in
      elim (being.each l.segment (sector_of l place) (usable_small l.mask place within)) [
        | inl same ↦ view_cell d l place held within (same ∙ view)
        | inr has ↦
            let gone = has.mended.unreadable in
            let read = ap (λ (v : SectorView). is_unreadable v) (same_seen ∙ view) in
            absurd (cc)
      ]

  sizes : length (cells_at c l) ≡ length (cells_at d l)
  sizes = count_of_cells c l.segment l.mask ∙ sym (count_of_cells d l.segment l.mask)

  -- where no sector was found to be wrong
  none_wrong : Written (cells_at c l) xs → unreadable_count (cells_at c l) ≤ 3 → IsSameIn c e l.segment → HoldsEnough d l xs
  none_wrong written few seen =
      let fewer : unreadable_count (cells_at d l) ≤ unreadable_count (cells_at c l) =
      no_fewer_unreadable (cells_at d l) (cells_at c l) (sym sizes) (λ place held at.
      stays_at place held at (seen (sector_of l place) (usable_small l.mask place (cell_view c l place held at).within))) in
      inl (
        record { size = length_of; each = λ place held at. right_at place held at (λ same before. written.each place held before) },
        omega arith,
      )

  -- where one was
  module _ (one : HoldsAllButOne c l xs) (seen : IsSameIn (worn l.segment (sector_of l one.place) c) e l.segment) where
    other_seen : (place : ℕ) → place < usable_count l.mask → place ≢ one.place →
        view_at e l.segment (sector_of l place) ≡ view_at c l.segment (sector_of l place)
    other_seen place within apart =
        seen (sector_of l place) (usable_small l.mask place within)
        ∙ worn_elsewhere c l.segment (sector_of l one.place) l.segment (sector_of l place) (usable_small l.mask one.place one.within)
        (usable_small l.mask place within)
        (λ here same. apart (same_place l.mask place one.place within one.within (sym same)))

    others_stay : (place : ℕ) (held : List ℕ) → place ≢ one.place → slice_get (cells_at c l) place ≡ Some (Holds held) →
        slice_get (cells_at d l) place ≡ Some (Holds held)
    others_stay place held apart at = stays_at place held at (other_seen place (cell_view c l place held at).within apart)

    still_wrong : l.segment ≢ 2 → view_at d l.segment (sector_of l one.place) ≡ view_at c l.segment (sector_of l one.place) →
        HoldsEnough d l xs
    still_wrong other same =
        let few : unreadable_count (cells_at c l) ≤ 1 = one.few in
        let fewer : unreadable_count (cells_at d l) ≤ unreadable_count (cells_at c l) =
        no_fewer_unreadable (cells_at d l) (cells_at c l) (sym sizes) (λ place held at. elim (cases_eq place one.place) [
          | inr apart ↦ others_stay place held apart at
          | inl here ↦
              let cell = cell_view c l place held at in
              view_cell d l place held cell.within
              (subst (λ (p : ℕ). view_at d l.segment (sector_of l p) ≡ view_at c l.segment (sector_of l p)) (sym here) same ∙ cell.view)
        ]) in
        inr (
          other,
          record {
            place = one.place;
            within = one.within;
            others = λ place held apart at. right_at place held at (λ stays before. one.others place held apart before);
            few = omega arith;
          },
        )

    was_written : ((held : List ℕ) → slice_get (cells_at d l) one.place ≡ Some (Holds held) →
        slice_get (with_parity xs) one.place ≡ Some held) →
        HoldsEnough d l xs
    was_written here =
        let few : unreadable_count (cells_at c l) ≤ 1 = one.few in
        let more : unreadable_count (cells_at d l) ≤ unreadable_count (cells_at c l) + 1 =
        count_one_more one.place (cells_at c l) (cells_at d l) sizes (λ place held apart at. others_stay place held apart at) in
        inl (
          record {
            size = length_of;
            each = λ place held at. elim (cases_eq place one.place) [
              | inr apart ↦ right_at place held at (λ stays before. one.others place held apart before)
              | inl same ↦
                  subst (λ (p : ℕ). slice_get (with_parity xs) p ≡ Some held) (sym same)
                  (here held (subst (λ (p : ℕ). slice_get (cells_at d l) p ≡ Some (Holds held)) same at))
            ];
          },
          omega arith,
        )

    one_was_wrong : l.segment ≢ 2 → HoldsEnough d l xs
    one_was_wrong other =
        elim (being.each l.segment (sector_of l one.place) (usable_small l.mask one.place one.within)) [
          | inl same ↦ still_wrong other same
          | inr has ↦ was_written (λ held at. elim has.became [
            | inl lost ↦
                let cell = cell_view d l one.place held at in
                let both : Lost ≡ Holds held = sym lost ∙ cell.view in
                absurd (cc)
            | inr is ↦
                let cell = cell_view d l one.place held at in
                let both : Holds held ≡ Holds has.bytes = sym cell.view ∙ is in
                let bytes : held ≡ has.bytes = cc in
                mended_right e l xs one.place has.bytes mendable.data_of.are (said_is_written (cells_at e l) xs says) one.within
                (mended_in looked e l (sector_of l one.place) has.bytes rise among has.mended) ∙ ap (λ (b : List ℕ). Some b) (sym bytes)
          ])
        ]

holds_by : (looked : List Looked) (c e d : Cartridge) (l : Looked) (xs : List (List ℕ)) (w : Option ℕ) → Rise looked → Contains looked l →
    IsMendable c l xs → Says (cells_at e l) (Data xs) → FoundSo c l xs w → IsSameIn (without w l c) e l.segment →
    IsBeingScrubbed looked e c d →
    HoldsEnough d l xs
holds_by looked c e d l xs None rise among mendable says so seen being =
    none_wrong looked c e d l xs rise among mendable says being so.0 so.1 seen
holds_by looked c e d l xs (Some sector) rise among mendable says so seen being =
    one_was_wrong looked c e d l xs rise among mendable says being so.one
    (subst (λ (i : ℕ). IsSameIn (worn l.segment i c) e l.segment) so.is seen) so.other

pub stopped_stay_mendable : StoppedStayMendable
stopped_stay_mendable c words entries last acts l xs left order scrubs among mendable torn =
    let looked : List Looked = looked_at words entries in
    let e : Cartridge = without_all c looked scrubs.findings in
    let run = as_seen Deep c words entries last acts order scrubs in
    let so : SeenSo c e l xs = seen_so c words entries acts l xs run among mendable in
    some_weaker left
    (λ d being. record {
      data_of = mendable.data_of;
      holds = holds_by looked c e d l xs so.wrong run.rise among mendable so.says so.so so.seen being;
    })
    (stopped_in_form Deep c words entries last acts left order scrubs torn)
