-- What `scrub deep` changes of each sector, what it leaves of a volume, and a run of it, where segments may hold other bytes than
-- what was written.
use Rattle.std.proofs.Common.{◌≡◌, inl, inr, ℕ, List, [], ◌∷◌, ◌≤◌, arith, slice_get, ap, sym, ◌∙◌, refl, subst, map, drop, take, All}
use Rattle.std.proofs.Common.{Contains, Option, Some, IsSomeAnd}
use Rattle.std.proofs.lemmas.List.Elements.{All-nil, All-cons, All-head, All-tail, Contains-append_left, Contains-append_right}
use Rattle.cartridge_laws.proofs.FormatStanding.{same_cells}
use Rattle.cartridge_laws.proofs.FormatWriting.{changed_by-append, some_and, some_weaker}
use Rattle.cartridge_laws.proofs.MountOnce.{mounts_is_function}
use Rattle.cartridge_laws.proofs.MountSettled.{settled_keeps_table, settled_mounts}
use Rattle.cartridge_laws.proofs.MountSettles.{settling_settles}
use Rattle.cartridge_laws.proofs.MountSettling.{stopped_settling}
use Rattle.cartridge_laws.proofs.MountWhole.{settling_effects}
use Rattle.cartridge_laws.proofs.Places.{usable_small}
use Rattle.cartridge_laws.specs.VolumeParts.{PartStands}
use Rattle.cartridge_spec.specs.Header.{Header}
use Rattle.cartridge_spec.specs.HeaderCopies.{last_segment}
use Rattle.cartridge_spec.specs.Mounting.{Mounted, Mounting, Mounts, settled}
use Rattle.cartridge_spec.specs.Says.{Written, unreadable_count}
use Rattle.cartridge_spec.specs.Settling.{changed_by, settling_steps}
use Rattle.cartridge_spec.specs.Shape.{IsLive, data_count, mask_at}
use Rattle.cartridge_spec.specs.Table.{Entry}
use Rattle.cartridge_spec.specs.Volumes.{Part, Volume, carrying_segments, entries_of, parts_of}
use Rattle.command_laws.proofs.CommandPlainLaws.{behind_leaves, stays}
use Rattle.command_laws.proofs.ScrubApart.{by_map, contains_cases, contains_first, contains_more}
use Rattle.command_laws.proofs.ScrubMounted.{mounted_order}
use Rattle.command_laws.proofs.SilentWhole.{segments_are_made_whole, stopped_stay_mendable}
use Rattle.command_laws.specs.Outcomes.{MendsDeep}
use Rattle.command_laws.specs.ScrubTerms.{looked_segments}
use Rattle.command_laws.specs.SilentLaws.{DeepScrubMakesWhole, StoppedDeepScrubStaysMendable, VolumesAreMadeWhole}
use Rattle.command_laws.specs.SilentSectors.{IsSameIn}
use Rattle.command_laws.specs.SilentSegments.{HoldsEnough, IsMadeWhole, IsMendable, segment_of}
use Rattle.command_spec.specs.Outcome.{CommandOutcome, Opened}
use Rattle.command_spec.specs.Scrub.{Looked, ScrubsBy, cells_at, looked_at, looked_volumes, whole_segment}
use Rattle.command_spec.specs.declared.depth.Depth.TheVariants.{Deep}
use Rattle.qic_base.specs.Acts.{steps_of}
use Rattle.qic_base.specs.Cartridge.{Cartridge}
use Rattle.qic_base.specs.Step.{Torn}
use Rattle.qic_base.specs.declared.tape.SectorView.{SectorView}

-- ---- the segments of a volume

volume_among : (words : List ℕ) (volumes : List Volume) (volume : Volume) (l : Looked) → Contains volumes volume →
    Contains (looked_segments words (carrying_segments words volume.entry)) l →
    Contains (looked_volumes words (map (λ v. v.entry) volumes)) l
volume_among words [] volume l among here = let h = among.1 in absurd (omega arith)
volume_among words (v ∷ vs) volume l among here =
    let front : List Looked = looked_segments words (carrying_segments words v.entry) in
    let rear : List Looked = looked_volumes words (map (λ (w : Volume). w.entry) vs) in
    elim (contains_cases v volume vs among) [
      | inl is ↦
          Contains-append_left front rear l
          (subst (λ (w : Volume). Contains (looked_segments words (carrying_segments words w.entry)) l) (sym is) here)
      | inr later ↦ Contains-append_right front rear l (volume_among words vs volume l later here)
    ]

among_looked : (words : List ℕ) (entries : List Entry) (l : Looked) → Contains (looked_volumes words entries) l →
    Contains (looked_at words entries) l
among_looked words entries l here =
    contains_more (whole_segment 0) l (whole_segment 1 ∷ whole_segment 2 ∷ looked_volumes words entries)
    (contains_more (whole_segment 1) l (whole_segment 2 ∷ looked_volumes words entries)
    (contains_more (whole_segment 2) l (looked_volumes words entries) here))

parts_whole : (c d : Cartridge) (words segments : List ℕ) (area : List (List ℕ)) →
    ((l : Looked) (xs : List (List ℕ)) → Contains (looked_segments words segments) l → IsMendable c l xs → Written (cells_at d l) xs) →
    All (λ part. IsMendable c (segment_of words part) part.sectors) (parts_of words segments area) →
    All (PartStands d words) (parts_of words segments area)
parts_whole c d words [] area mends all = All-nil (PartStands d words)
parts_whole c d words (s ∷ ss) area mends all =
    let n : ℕ = data_count (mask_at words s) in
    let part : Part = record { segment = s; sectors = take n area } in
    let rest : List Part = parts_of words ss (drop n area) in
    All-cons (PartStands d words) part rest
    (mends (by_map words s) (take n area) (contains_first (by_map words s) (looked_segments words ss))
    (All-head (λ (p : Part). IsMendable c (segment_of words p) p.sectors) part rest all))
    (parts_whole c d words ss (drop n area)
    (λ l xs here. mends l xs (contains_more (by_map words s) l (looked_segments words ss) here))
    (All-tail (λ (p : Part). IsMendable c (segment_of words p) p.sectors) part rest all))

pub volumes_are_made_whole : VolumesAreMadeWhole
volumes_are_made_whole c plain last acts volume order scrubs among size all =
    let words : List ℕ = plain.words in
    let d : Cartridge = changed_by (steps_of acts) c in
    record {
      parts = parts_whole c d words (carrying_segments words volume.entry) volume.area
          (λ l xs here mendable.
          (segments_are_made_whole c words (entries_of plain) last acts l xs order scrubs
          (among_looked words (entries_of plain) l (volume_among words plain.volumes volume l among here)) mendable).written)
          all;
      size = size;
    }

-- ---- the same segment on two cartridges

holds_same : (c e : Cartridge) (l : Looked) (xs : List (List ℕ)) → cells_at e l ≡ cells_at c l → HoldsEnough c l xs → HoldsEnough e l xs
holds_same c e l xs same (inl all) =
    inl (subst (λ (cells : List SectorView). Written cells xs × (unreadable_count cells ≤ 3)) (sym same) all)
holds_same c e l xs same (inr (other, one)) = inr (
  other,
  record {
    place = one.place;
    within = one.within;
    others = λ i bytes apart at. one.others i bytes apart (sym (ap (λ (cells : List SectorView). slice_get cells i) same) ∙ at);
    few = subst (λ (cells : List SectorView). unreadable_count cells ≤ 1) (sym same) one.few;
  },
)

pub mendable_same : (c e : Cartridge) (l : Looked) (xs : List (List ℕ)) → IsSameIn c e l.segment → IsMendable c l xs → IsMendable e l xs
mendable_same c e l xs same mendable = record {
  data_of = mendable.data_of;
  holds = holds_same c e l xs (same_cells c e l.segment l.mask same) mendable.holds;
}

-- the settling of the table leaves the others
pub settled_same : (c : Cartridge) (header : Header) (words : List ℕ) (table : List (List ℕ)) (entries : List Entry) (l : Looked) →
    Mounts c (Mounted header words table entries) → (l.segment ≡ 2 → ⊥) → IsSameIn c (settled table c) l.segment
settled_same c header words table entries l mounts other i h = (settled_keeps_table c table mounts.reads).others l.segment i h other

-- ---- a run of it

module _ (c : Cartridge) (header : Header) (words : List ℕ) (table : List (List ℕ)) (entries : List Entry) (outcome : CommandOutcome)
    (l : Looked) (xs : List (List ℕ)) (mounts : Mounts c (Mounted header words table entries))
    (among : Contains (looked_at words entries) l) (other : l.segment ≡ 2 → ⊥) (mendable : IsMendable c l xs) where
  abbrev e : Cartridge
  e = settled table c

  then : IsMendable (settled table c) l xs
  then = mendable_same c (settled table c) l xs (settled_same c header words table entries l mounts other) mendable

  by_run : ScrubsBy Deep c header words table entries outcome → IsMadeWhole c (changed_by (steps_of outcome.acts) c) l xs
  by_run on =
      let order = mounted_order (settled table c) header words table entries (settled_mounts c header words table entries mounts) in
      let made : IsMadeWhole (settled table c) (changed_by (steps_of on.acts) (settled table c)) l xs =
      segments_are_made_whole (settled table c) words entries (last_segment (settled table c)) on.acts l xs order on.scrubs among then in
      let settles : changed_by (settling_steps table c) c ≡ settled table c = settling_settles c table mounts.reads in
      let whole : IsMadeWhole c (changed_by (steps_of on.acts) (settled table c)) l xs = record {
        live = λ place within live.
            made.live place within
            (subst IsLive (sym (settled_same c header words table entries l mounts other _ (usable_small l.mask place within))) live);
        written = made.written;
      } in
      subst (λ (o : CommandOutcome). IsMadeWhole c (changed_by (steps_of o.acts) c) l xs) (sym on.is)
      (subst (λ (d : Cartridge). IsMadeWhole c d l xs)
      (sym (changed_by-append (settling_steps table c) (steps_of on.acts) c ∙ ap (changed_by (steps_of on.acts)) settles)) whole)

  by_stop : (left : Option Cartridge) → ScrubsBy Deep c header words table entries outcome → Torn (steps_of outcome.acts) (Some c) left →
      IsSomeAnd left (λ d. IsMendable d l xs)
  by_stop left on torn =
      elim (behind_leaves (settling_steps table c) on.acts (Some c) left outcome _ on.is refl torn) [
        | inl first ↦
            some_weaker left (λ d kept. mendable_same c d l xs (λ i h. kept.others l.segment i h other) mendable)
            (stopped_settling c table left mounts.reads first)
        | inr next ↦
            stopped_stay_mendable (settled table c) words entries (last_segment (settled table c)) on.acts l xs left
            (mounted_order (settled table c) header words table entries (settled_mounts c header words table entries mounts)) on.scrubs
            among then
            (subst (λ (held : Option Cartridge). Torn (steps_of on.acts) held left) (settling_effects c table mounts.reads) next)
      ]

pub deep_scrub_makes_whole : DeepScrubMakesWhole
deep_scrub_makes_whole c header words table entries input outcome l xs mounts free (inl is) among other mendable =
    let locked = is.0 in absurd (cc)
deep_scrub_makes_whole c header words table entries input outcome l xs mounts free
    (inr (unlocked, (m, mounted, opened))) among other mendable =
    let same : m ≡ Mounted header words table entries = mounts_is_function c m (Mounted header words table entries) mounted mounts in
    let on : ScrubsBy Deep c header words table entries outcome = subst (λ (a : Mounting). Opened MendsDeep c a outcome) same opened in
    (ap (λ (o : CommandOutcome). o.status) on.is, by_run c header words table entries outcome l xs mounts among other mendable on)

pub stopped_deep_scrub_stays_mendable : StoppedDeepScrubStaysMendable
stopped_deep_scrub_stays_mendable c header words table entries input outcome l xs left mounts (inl is) among other mendable torn =
    some_and (λ d. IsMendable d l xs) c left mendable (stays (Some c) left outcome _ is.1 refl torn)
stopped_deep_scrub_stays_mendable c header words table entries input outcome l xs left mounts
    (inr (unlocked, (m, mounted, opened))) among other mendable torn =
    let same : m ≡ Mounted header words table entries = mounts_is_function c m (Mounted header words table entries) mounted mounts in
    let on : ScrubsBy Deep c header words table entries outcome = subst (λ (a : Mounting). Opened MendsDeep c a outcome) same opened in
    by_stop c header words table entries outcome l xs mounts among other mendable left on torn
