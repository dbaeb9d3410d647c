-- From what a call does to the disk under a tape to what it does to the tape.
use Rattle.std.proofs.Common.{◌≡◌, ℕ, ◌^◌, ◌<◌, ◌≤◌, Bool, true, false, List, [], ◌∷◌, length, refl, sym, ◌∙◌, ap, arith, Option, Some}
use Rattle.std.proofs.Common.{None, IfSome, IsSome, IsSomeAnd, subst, Result, Ok, Err}
use Rattle.std.proofs.lemmas.Option.{IfSome_then, same_Some}
use Rattle.std.specs.Prelude.{slice_index, slice_index_or, ◌&&◌}
use Rattle.std.specs.Option.{option_map}
use Rattle.qic_base.specs.declared.disk.Disk.{Ghosts}
use Rattle.qic_base.specs.declared.tape.SectorView.{SectorView}
use Rattle.qic_base.specs.declared.tape.TapeInfo.{TapeInfo}
use Rattle.qic_base.specs.declared.TheConstants.{LONGEST}
use Rattle.qic_base.specs.Cartridge.{Cartridge, IsPlace, IsLength, view_at}
use Rattle.qic_base.specs.CartridgeTerms.{is_lost, place_of}
use Rattle.qic_base.specs.Disk as disk
use Rattle.qic_base.specs.Disk.{DiskStep, Look, Failed, IsSettled}
use Rattle.qic_base.specs.Step.{Step, WriteSectors, FormatSegment, SetReferenced, SetProtected}
use Rattle.qic_base.specs.Step.{Renew, Wear, Spoil, Upgrade, effect}
use Rattle.qic_base.specs.TapeCalls.{Tells, ReadsSectors, AreBlank, chosen, is_readable, is_blank, bytes_read}
use Rattle.qic_base.specs.Tape.{Rose, Done, Broke, Stops}
use Rattle.cart_image.specs.declared.layout.Head.{Head}
use Rattle.cart_image.specs.declared.layout.Kind.TheVariants.{Planes, Cells, CellsBehind}
use Rattle.cart_image.specs.declared.layout.Kind.{Kind}
use Rattle.cart_image.specs.declared.layout.Layout.{Layout}
use Rattle.cart_image.specs.declared.segment.SegmentStates.{SegmentStates}
use Rattle.cart_image.specs.declared.tape.ImageTape.{ImageTape}
use Rattle.cart_image.specs.Image.{cartridge_of, head_of, layout_of, info_by, view_in, segment_views, read_as}
use Rattle.cart_image.specs.ImageTape.{image_means, size_by}
use Rattle.cart_image.specs.Layout.{sectors, end_of, image_len, protected_place, referenced_place, wear_steps}
use Rattle.cart_image.specs.Layout.{spoil_steps, mark_steps, format_plan, renew_steps, touches, upgrade_plan, upgrade_steps, upgraded_len}
use Rattle.cart_image.specs.Layout.{version_of, write_sectors_steps}
use Rattle.cart_image.specs.Run.{Looks, Looked, Ran, Carried, CarriedBy, Planned, after_steps}
use Rattle.cart_image.specs.Several.{AreSectors}
use Rattle.cart_image.specs.State.{AreStates}
use Rattle.cart_image.specs.Tape.{disk_means}
use Rattle.cart_image.specs.Whole.{IsHeadIn, some_head, head_of-parts, cartridge_of-read, info_of-cartridge, layout_of-read}
use Rattle.cart_image.proofs.Carries.{Finished, CutShort, Outcome, Means, Outcome-carried}
use Rattle.cart_image.proofs.Changes.{view_at-read}
use Rattle.cart_image.proofs.Exits.{Carried-looked, Carried-runs, CarriedBy-layout, told-fact}
use Rattle.cart_image.proofs.Formats.{format-means}
use Rattle.cart_image.proofs.Heads.{protected-means, referenced-means, TellsLayout}
use Rattle.cart_image.proofs.Known.{on-tape, on-segment, head-under, long-under}
use Rattle.cart_image.proofs.Laid.{carried-laid, carried-passes, some_told, wear-spares, spoil-spares, format-spares}
use Rattle.cart_image.proofs.Laid.{mark-spares, overwrite-spares}
use Rattle.cart_image.proofs.Overwrites.{write_sectors-means}
use Rattle.cart_image.proofs.Renews.{renew-means, renew-laid}
use Rattle.cart_image.proofs.Upgrades.{upgrade-means, upgrade-laid}
use Rattle.cart_image.proofs.Runs.{Looks-settled, Looks-nothing, Ran-told}
use Rattle.cart_image.proofs.Sectors.{wear-means, spoil-means}
use Rattle.cart_image.proofs.Writes.{Spares}
use Rattle.qic_base.proofs.Steps.{Rose-some}

Tape-stops : {D : Type 0} {g : Ghosts D} (old new : ImageTape D g) (steps : List Step) →
    Stops (disk_means g.means) old.disk new.disk steps → Stops (image_means {g = g}) old new steps
Tape-stops old new steps s = record { telling = s.telling; clock = s.clock; kept = s.kept; parted = s.parted; since = s.since }

pub Tape-done : {D : Type 0} {g : Ghosts D} (old new : ImageTape D g) (steps : List Step) →
    Finished (disk_means g.means) old.disk new.disk steps → new.faults ≡ old.faults → Done (image_means {g = g}) old new steps
Tape-done old new steps d stood = record { told = d.told; later = stood; stops = Tape-stops old new steps d.stops }

pub Tape-broke : {D : Type 0} {g : Ghosts D} (old new : ImageTape D g) (steps : List Step) →
    CutShort (disk_means g.means) old.disk new.disk steps → Rose old.faults new.faults → old.faults < 2 ^ 64 →
    Broke (image_means {g = g}) old new steps
Tape-broke old new steps b rose fits = record {
  cause = rose;
  later = omega arith;
  last = Rose-some old.faults new.faults rose;
  tells = b.tells;
  torn = b.torn;
  stops = Tape-stops old new steps b.stops;
}

-- nothing is pending under a tape
pub tape-settled : {D : Type 0} {g : Ghosts D} (s : ImageTape D g) → IsSettled g.means s.disk
tape-settled s = record { only = s.settled }

-- a call that only looked
looked-outcome : {D T E : Type 0} (m : disk.Meaning D) (old new : D) (result : Result T E) → IsSettled m old → Looked m old new result →
    Outcome (disk_means m) old new [] result
looked-outcome m old new result settled looked =
    Outcome-carried m old new (λ bytes. []) [] result settled (Carried-looked m old new result looked)
    (λ bytes told. record { done = refl; torn = λ left crashed. absurd crashed })

-- a plan that keeps the layout of the bytes under a tape
abbrev Plans : {D : Type 0} {g : Ghosts D} (s : ImageTape D g) (plan : List ℕ → List DiskStep) → Type 0
Plans {g = g} s plan = (bytes : List ℕ) → g.means.told s.disk ≡ Some bytes → (64 ≤ length bytes) × Spares TellsLayout (length bytes)
    (plan bytes)

far : (l : Layout) (len : ℕ) → 3 ≤ l.segments_per_track → end_of l ≤ len → 64 ≤ len
far l len least long = omega arith

-- the bytes under a tape of this layout, where the disk tells them
module _ {D : Type 0} {g : Ghosts D} (s : ImageTape D g) (l : Layout) (segment sector : ℕ) (layout : s.layout ≡ Some l)
    (place : IsSomeAnd (size_by s.layout) (λ k. IsPlace k segment sector)) where
  on : place_of segment sector < sectors l.segments_per_track
  on = on-tape s l segment sector layout place

  -- what holds of bytes with a head holds of the bytes under the tape
  at-head : (P : Layout → List ℕ → Type 0)
      → ((h : Head) (bytes : List ℕ) → head_of bytes ≡ Some h → end_of h.layout ≤ length bytes →
      place_of segment sector < sectors h.layout.segments_per_track → P h.layout bytes)
      → (bytes : List ℕ) → g.means.told s.disk ≡ Some bytes → P l bytes
  at-head P holds bytes told =
      let h = head-under s l segment sector layout place bytes told in
      let Q : Layout → Type 0 = λ y. P y bytes in
      subst Q h.2 (holds h.0 bytes h.1 (head_of-parts bytes h.0 h.1).fits.long
      (let o = on in let e = ap (λ (y : Layout). y.segments_per_track) h.2 in omega arith))

  pub wear-at : (bytes : List ℕ) → g.means.told s.disk ≡ Some bytes →
      Means (wear_steps l (place_of segment sector) (view_in l bytes (place_of segment sector))) (Wear segment sector ∷ []) bytes
  wear-at =
      at-head (λ y bytes. Means (wear_steps y (place_of segment sector) (view_in y bytes (place_of segment sector)))
      (Wear segment sector ∷ []) bytes)
      (λ h bytes is whole there. wear-means h bytes segment sector is whole there _ refl)

  pub spoil-at : (bytes : List ℕ) → g.means.told s.disk ≡ Some bytes →
      Means (spoil_steps l (place_of segment sector) (view_in l bytes (place_of segment sector))) (Spoil segment sector ∷ []) bytes
  spoil-at =
      at-head (λ y bytes. Means (spoil_steps y (place_of segment sector) (view_in y bytes (place_of segment sector)))
      (Spoil segment sector ∷ []) bytes)
      (λ h bytes is whole there. spoil-means h bytes segment sector is whole there _ refl)

  least : 3 ≤ l.segments_per_track
  least = s.shortest l layout

  long-at : (bytes : List ℕ) → g.means.told s.disk ≡ Some bytes → end_of l ≤ length bytes
  long-at bytes told = long-under s l segment sector layout place bytes told

  pub wear-plans : (q : ℕ) → q ≡ place_of segment sector → Plans s (λ bytes. wear_steps l q (view_in l bytes q))
  wear-plans q is-q bytes told =
      let e = long-at bytes told in (
        far l (length bytes) least e,
        wear-spares l (length bytes) e q (view_in l bytes q)
            (let o = on in omega arith),
      )

  pub spoil-plans : (q : ℕ) → q ≡ place_of segment sector → Plans s (λ bytes. spoil_steps l q (view_in l bytes q))
  spoil-plans q is-q bytes told =
      let e = long-at bytes told in (
        far l (length bytes) least e,
        spoil-spares l (length bytes) e q (view_in l bytes q)
            (let o = on in omega arith),
      )

  pub format-plans : Plans s (λ bytes. format_plan l segment bytes)
  format-plans bytes told =
      let e = long-at bytes told in (
        far l (length bytes) least e,
        format-spares l (length bytes) e segment bytes
            (on-segment s l segment sector layout place),
      )

  -- a fact of the view that the bytes have is one of the cartridge's view
  pub view-fact : (P : SectorView → Type 0) →
      IfSome (g.means.told s.disk) (λ bytes. end_of l ≤ length bytes → P (view_in l bytes (place_of segment sector)))
      → Tells (image_means {g = g}) s (λ c. P (view_at c segment sector))
  view-fact P fact = by_told (g.means.told s.disk) refl fact
    where
      by_told : (told : Option (List ℕ)) → g.means.told s.disk ≡ told →
          IfSome told (λ bytes. end_of l ≤ length bytes → P (view_in l bytes (place_of segment sector))) →
          IfSome (option_map cartridge_of told) (λ h. IfSome h (λ c. P (view_at c segment sector)))
      by_told None told fact = tt
      by_told (Some bytes) told fact =
          at-head (λ y b. (end_of y ≤ length b → P (view_in y b (place_of segment sector))) →
          IfSome (cartridge_of b) (λ c. P (view_at c segment sector)))
          (λ h b is whole there f.
          let Q : Option Cartridge → Type 0 = λ c. IfSome c (λ c. P (view_at c segment sector)) in
          subst Q (sym (cartridge_of-read b h is)) (subst P (sym (view_at-read h b segment sector there)) (f whole))) bytes told fact

  -- what each call of a sector did to the disk's cartridge, by its answer; q is the sector's number
  module _ {T E : Type 0} (new : D) (result : Result T E) (q : ℕ) (is-q : q ≡ place_of segment sector) where
    pub wear-outcome : Carried g.means s.disk new (λ bytes. wear_steps l q (view_in l bytes q)) result →
        Outcome (disk_means g.means) s.disk new (Wear segment sector ∷ []) result
    wear-outcome carried =
        let C : ℕ → Type 0 = λ k. Carried g.means s.disk new (λ bytes. wear_steps l k (view_in l bytes k)) result in
        Outcome-carried g.means s.disk new (λ bytes. wear_steps l (place_of segment sector) (view_in l bytes (place_of segment sector)))
        (Wear segment sector ∷ []) result (tape-settled s) (subst C is-q carried) wear-at

    pub spoil-outcome : Carried g.means s.disk new (λ bytes. spoil_steps l q (view_in l bytes q)) result →
        Outcome (disk_means g.means) s.disk new (Spoil segment sector ∷ []) result
    spoil-outcome carried =
        let C : ℕ → Type 0 = λ k. Carried g.means s.disk new (λ bytes. spoil_steps l k (view_in l bytes k)) result in
        Outcome-carried g.means s.disk new (λ bytes. spoil_steps l (place_of segment sector) (view_in l bytes (place_of segment sector)))
        (Spoil segment sector ∷ []) result (tape-settled s) (subst C is-q carried) spoil-at

  -- a fact of the view that a call saw is one of the cartridge's view
  pub seen-fact : (q : ℕ) → q ≡ place_of segment sector → (P : SectorView → Type 0) →
      IfSome (g.means.told s.disk) (λ bytes. P (view_in l bytes q)) → Tells (image_means {g = g}) s (λ c. P (view_at c segment sector))
  seen-fact q is-q P fact =
      view-fact P (IfSome_then (g.means.told s.disk) fact (λ bytes p. λ whole. subst (λ (k : ℕ). P (view_in l bytes k)) is-q p))

  pub q-on-tape : (q : ℕ) → q ≡ place_of segment sector → q < sectors l.segments_per_track
  q-on-tape q is-q = let o = on in omega arith

  pub format-outcome : {T E : Type 0} (new : D) (result : Result T E) →
      Carried g.means s.disk new (λ bytes. format_plan l segment bytes) result → Outcome (disk_means g.means) s.disk new
      (FormatSegment segment ∷ []) result
  format-outcome new result carried =
      Outcome-carried g.means s.disk new (λ bytes. format_plan l segment bytes) (FormatSegment segment ∷ []) result (tape-settled s) carried
      (λ bytes told.
      let h = head-under s l segment sector layout place bytes told in
      let P : Layout → Type 0 = λ y. Means (format_plan y segment bytes) (FormatSegment segment ∷ []) bytes in
      subst P h.2 (format-means h.0 bytes segment h.1 (head_of-parts bytes h.0 h.1).fits.long
      (let o = on-segment s l segment sector layout place in let e = ap (λ (y : Layout). y.segments_per_track) h.2 in omega arith)))

  -- several sectors of the segment written
  module _ (written : ℕ) (from : List (List ℕ)) (are : AreSectors from) where
    pub sectors-plans : Plans s (λ bytes. write_sectors_steps l segment written from (segment_views l segment bytes))
    sectors-plans bytes told =
        let e = long-at bytes told in (
          far l (length bytes) least e,
          overwrite-spares l (length bytes) e segment written from (segment_views l segment bytes) are
              (on-segment s l segment sector layout place),
        )

    pub sectors-outcome : {T E : Type 0} (new : D) (result : Result T E) →
        Carried g.means s.disk new (λ bytes. write_sectors_steps l segment written from (segment_views l segment bytes)) result →
        Outcome (disk_means g.means) s.disk new (WriteSectors segment (chosen written from) ∷ []) result
    sectors-outcome new result carried =
        Outcome-carried g.means s.disk new
        (λ bytes. write_sectors_steps l segment written from (segment_views l segment bytes))
        (WriteSectors segment (chosen written from) ∷ []) result (tape-settled s) carried
        (λ bytes told.
        let h = head-under s l segment sector layout place bytes told in
        let P : Layout → Type 0 = λ y. Means (write_sectors_steps y segment written from (segment_views y segment bytes))
        (WriteSectors segment (chosen written from) ∷ []) bytes in
        subst P h.2 (write_sectors-means h.0 bytes segment h.1 (head_of-parts bytes h.0 h.1).fits.long
        (let o = on-segment s l segment sector layout place in let e = ap (λ (y : Layout). y.segments_per_track) h.2 in omega arith)
        written from are))

  -- what was read of the segment
  pub reads-fact : (wanted good blank : ℕ) (old new : List (List ℕ)) →
      IfSome (g.means.told s.disk) (λ bytes. ReadsSectors wanted good blank (λ i. view_in l bytes (place_of segment i)) old new)
      → Tells (image_means {g = g}) s (λ c. ReadsSectors wanted good blank (view_at c segment) old new)
  reads-fact wanted good blank old new fact = by_told (g.means.told s.disk) refl fact
    where
      by_told : (told : Option (List ℕ)) → g.means.told s.disk ≡ told →
          IfSome told (λ bytes. ReadsSectors wanted good blank (λ i. view_in l bytes (place_of segment i)) old new) →
          IfSome (option_map cartridge_of told) (λ h. IfSome h (λ c. ReadsSectors wanted good blank (view_at c segment) old new))
      by_told None told fact = tt
      by_told (Some bytes) told fact =
          let h = head-under s l segment sector layout place bytes told in
          let Q : Option Cartridge → Type 0 = λ c. IfSome c (λ c. ReadsSectors wanted good blank (view_at c segment) old new) in
          let view : (i : ℕ) → i < 32 → view_in l bytes (place_of segment i) ≡ view_at (read_as h.0 bytes) segment i =
          λ i less.
          let o = on-segment s l segment sector layout place in
          let e = ap (λ (y : Layout). y.segments_per_track) h.2 in
          sym (view_at-read h.0 bytes segment i (omega arith) ∙ ap (λ y. view_in y bytes (place_of segment i)) h.2) in
          subst Q (sym (cartridge_of-read bytes h.0 h.1)) (record {
            good_are = λ i less. fact.good_are i less ∙ ap (λ v. is_lost wanted i && is_readable v) (view i less);
            blank_are = λ i less. fact.blank_are i less ∙ ap (λ v. is_lost wanted i && is_blank v) (view i less);
            bytes = λ i less. fact.bytes i less ∙ ap (λ v. bytes_read (is_lost wanted i) v (slice_index_or old i [])) (view i less);
          })

  -- the set of those that took no write
  pub blank-fact : (written blank : ℕ) →
      IfSome (g.means.told s.disk) (λ bytes. AreBlank written blank (λ i. view_in l bytes (place_of segment i)))
      → Tells (image_means {g = g}) s (λ c. AreBlank written blank (view_at c segment))
  blank-fact written blank fact = by_told (g.means.told s.disk) refl fact
    where
      by_told : (told : Option (List ℕ)) → g.means.told s.disk ≡ told →
          IfSome told (λ bytes. AreBlank written blank (λ i. view_in l bytes (place_of segment i))) →
          IfSome (option_map cartridge_of told) (λ h. IfSome h (λ c. AreBlank written blank (view_at c segment)))
      by_told None told fact = tt
      by_told (Some bytes) told fact =
          let h = head-under s l segment sector layout place bytes told in
          let Q : Option Cartridge → Type 0 = λ c. IfSome c (λ c. AreBlank written blank (view_at c segment)) in
          subst Q (sym (cartridge_of-read bytes h.0 h.1)) (λ i less.
          let o = on-segment s l segment sector layout place in
          let e = ap (λ (y : Layout). y.segments_per_track) h.2 in
          let V : SectorView → Type 0 = λ v. is_lost blank i ≡ (is_lost written i && is_blank v) in
          subst V (sym (view_at-read h.0 bytes segment i (omega arith) ∙ ap (λ y. view_in y bytes (place_of segment i)) h.2)) (fact i less))

-- what is known of a segment is right of the disk's bytes
abbrev pub IsRight : {D : Type 0} → disk.Meaning D → D → Option SegmentStates → Type 0
IsRight m d known = (states : SegmentStates) (bytes : List ℕ) → known ≡ Some states → m.told d ≡ Some bytes →
    AreStates states (cartridge_of bytes)

-- the invariants of a tape over this disk, of this layout, of which this is known
abbrev IsTape : {D : Type 0} → disk.Meaning D → D → Option Layout → Option SegmentStates → Type 0
IsTape m d layout known =
    record {
      settled : (bytes left : List ℕ) → m.told d ≡ Some bytes → m.may_leave d left → left ≡ bytes;
      shortest : (l : Layout) → layout ≡ Some l → 3 ≤ l.segments_per_track;
      longest : (l : Layout) → layout ≡ Some l → l.segments_per_track ≤ LONGEST;
      covers : (l : Layout) → layout ≡ Some l → end_of l ≤ m.seen_len d;
      laid : (l : Layout) (bytes : List ℕ) → layout ≡ Some l → m.told d ≡ Some bytes → layout_of bytes ≡ Some l;
      right : IsRight m d known;
    }

some_layout : (o : Option Layout) → IsSome (size_by o) → (l : Layout) × (o ≡ Some l)
some_layout None is = cc
some_layout (Some l) is = (l, refl)

-- what the calls of the marks, and looks, plan
module _ {D : Type 0} {g : Ghosts D} (s : ImageTape D g) where
  mark-plans : (at : ℕ) (on : Bool) → 12 ≤ at → at < 14 → IsSome (size_by s.layout) →
      Plans s (λ bytes. mark_steps at on (slice_index bytes at))
  mark-plans at on late early has bytes told =
      let l = some_layout s.layout has in
      let h = some_head bytes l.0 (s.laid l.0 bytes l.1 told) in
      let f = (head_of-parts bytes h.0 h.1).fits in
      let n = f.long in
      let k = far h.0.layout (length bytes) f.shortest n in
      (k, mark-spares (length bytes) at on (slice_index bytes at) late early (omega arith))

  pub protected-plans : (on : Bool) → IsSome (size_by s.layout) →
      Plans s (λ bytes. mark_steps protected_place on (slice_index bytes protected_place))
  protected-plans on = mark-plans 12 on (omega arith) (omega arith)

  pub referenced-plans : IsSome (size_by s.layout) →
      Plans s (λ bytes. mark_steps referenced_place true (slice_index bytes referenced_place))
  referenced-plans = mark-plans 13 true (omega arith) (omega arith)

  pub no-plans : IsSome (size_by s.layout) → Plans s (λ bytes. [])
  no-plans has bytes told =
      let l = some_layout s.layout has in
      let h = some_head bytes l.0 (s.laid l.0 bytes l.1 told) in
      let f = (head_of-parts bytes h.0 h.1).fits in
      (far h.0.layout (length bytes) f.shortest f.long, tt)

  pub mark-covers : (at : ℕ) → at < 64 → IsSome (size_by s.layout) → at < g.means.seen_len s.disk
  mark-covers at early has =
      let l = some_layout s.layout has in
      let k = far l.0 (g.means.seen_len s.disk) (s.shortest l.0 l.1) (s.covers l.0 l.1) in omega arith

-- a call that keeps the layout
module _ {D : Type 0} {g : Ghosts D} (s : ImageTape D g) {T E : Type 0} (new : D) (result : Result T E) where
  pub looked-settled : Looked g.means s.disk new result → IsSettled g.means new
  looked-settled = by_result result
    where
      by_result : (r : Result T E) → Looked g.means s.disk new r → IsSettled g.means new
      by_result (Ok x) looks = Looks-settled looks (tape-settled s)
      by_result (Err e) looked = looked.2.settled

  -- a tape of the same layout, over the disk that the call left
  module _ (t : ImageTape D g) (layout : t.layout ≡ s.layout) (seen : g.means.seen_len new ≡ g.means.seen_len t.disk)
      (settled : IsSettled g.means new)
      (plan : List ℕ → List DiskStep) (plans : IsSome (size_by s.layout) → Plans s plan)
      (carried : Carried g.means s.disk new plan result) where
    -- .. of which this is known
    pub known-tape : (known : Option SegmentStates) → IsRight g.means new known → IsTape g.means new t.layout known
    known-tape known right = record {
      settled = settled.only;
      shortest = t.shortest;
      longest = t.longest;
      covers = λ l is. (let c = t.covers l is in omega arith);
      laid = λ l bytes is told.
          let was : s.layout ≡ Some l = sym layout ∙ is in
          let has : IsSome (size_by s.layout) = (let P : Option Layout → Type 0 = λ o. IsSome (size_by o) in subst P (sym was) refl) in
          carried-laid g.means s.disk new plan result l (tape-settled s) carried
          (λ b now. (s.laid l b was now, (plans has b now).0, (plans has b now).1)) bytes told;
      right = right;
    }

    -- .. of which nothing is known
    pub unknown-tape : IsTape g.means new t.layout None
    unknown-tape = known-tape None (λ states bytes none told. cc)

  pub protected-outcome : (size : IsSome (size_by s.layout)) (on : Bool) →
      Carried g.means s.disk new (λ bytes. mark_steps protected_place on (slice_index bytes protected_place)) result →
      Outcome (disk_means g.means) s.disk new (SetProtected on ∷ []) result
  protected-outcome size on carried =
      Outcome-carried g.means s.disk new (λ bytes. mark_steps protected_place on (slice_index bytes protected_place))
      (SetProtected on ∷ []) result (tape-settled s) carried
      (λ bytes told.
      let l = some_layout s.layout size in
      let laid = s.laid l.0 bytes l.1 told in
      let h = some_head bytes l.0 laid in
      let f = (head_of-parts bytes h.0 h.1).fits in
      protected-means h.0.layout bytes (layout_of-read bytes h.0 h.1) f.long (far h.0.layout (end_of h.0.layout) f.shortest (omega arith))
      on)

  pub referenced-outcome : (size : IsSome (size_by s.layout)) →
      Carried g.means s.disk new (λ bytes. mark_steps referenced_place true (slice_index bytes referenced_place)) result →
      Outcome (disk_means g.means) s.disk new (SetReferenced ∷ []) result
  referenced-outcome size carried =
      Outcome-carried g.means s.disk new (λ bytes. mark_steps referenced_place true (slice_index bytes referenced_place))
      (SetReferenced ∷ []) result (tape-settled s) carried
      (λ bytes told.
      let l = some_layout s.layout size in
      let laid = s.laid l.0 bytes l.1 told in
      let h = some_head bytes l.0 laid in
      let f = (head_of-parts bytes h.0 h.1).fits in
      referenced-means h.0.layout bytes (layout_of-read bytes h.0 h.1) f.long (far h.0.layout (end_of h.0.layout) f.shortest (omega arith)))

  pub renew-outcome : (n : ℕ) → IsLength n → Carried g.means s.disk new (λ bytes. renew_steps n (slice_index bytes 0)) result →
      Outcome (disk_means g.means) s.disk new (Renew n ∷ []) result
  renew-outcome n long carried =
      Outcome-carried g.means s.disk new (λ bytes. renew_steps n (slice_index bytes 0)) (Renew n ∷ []) result (tape-settled s) carried
      (λ bytes told. renew-means n long bytes)

-- what a look at the head told
pub info-fact : (told : Option (List ℕ)) (head : Option Head) (info : Option TapeInfo) → info ≡ option_map info_by head →
    IfSome told (λ b. head ≡ head_of b) → IfSome (option_map cartridge_of told) (λ held. info ≡ option_map (λ (c : Cartridge). c.info) held)
info-fact None head info is fact = tt
info-fact (Some b) head info is fact = is ∙ ap (option_map info_by) fact ∙ sym (info_of-cartridge b)

pub looked-laid : {D : Type 0} (m : disk.Meaning D) (old new : D) (head : Option Head) (layout : Option Layout) → Looks m old new →
    IfSome (m.told old) (λ b. head ≡ head_of b) → layout ≡ option_map (λ (h : Head). h.layout) head
    → (l : Layout) (bytes : List ℕ) → layout ≡ Some l → m.told new ≡ Some bytes → layout_of bytes ≡ Some l
unfolding layout_of
looked-laid m old new head layout looks fact is l bytes same told =
    ap (option_map (λ (h : Head). h.layout)) (sym (told-fact (m.told old) (λ b. head ≡ head_of b) bytes (sym looks.told ∙ told) fact))
    ∙ sym is ∙ same

pub head-laid-in : (head : Option Head) (seen : ℕ) (layout : Option Layout) → layout ≡ option_map (λ (h : Head). h.layout) head →
    IfSome head (λ h. IsHeadIn seen h)
    → (l : Layout) → layout ≡ Some l → (3 ≤ l.segments_per_track) × (l.segments_per_track ≤ LONGEST) × (end_of l ≤ seen)
head-laid-in None seen layout is fits l same = cc
head-laid-in (Some h) seen layout is fits l same =
    let e : h.layout ≡ l = same_Some _ _ (sym is ∙ same) in
    let P : Layout → Type 0 = λ y. (3 ≤ y.segments_per_track) × (y.segments_per_track ≤ LONGEST) × (end_of y ≤ seen) in
    subst P e (fits.shortest, fits.longest, fits.long)

-- the size by the layout
pub size-same : (a b : Option Layout) → a ≡ b → size_by a ≡ size_by b
size-same a b e = ap size_by e

pub looks-done : {D : Type 0} (m : disk.Meaning D) (old new : D) → IsSettled m old → Looks m old new → Finished (disk_means m) old new []
looks-done m old new settled looks = looked-outcome {T = ℕ} {E = ℕ} m old new (Ok 0) settled looks

pub looks-broke : {D : Type 0} (m : disk.Meaning D) (old new : D) → IsSettled m old →
    ((mid : D) × Looks m old mid × Failed m mid new Look) → CutShort (disk_means m) old new []
looks-broke m old new settled looked = looked-outcome {T = ℕ} {E = ℕ} m old new (Err 0) settled looked

-- a disk that a tape is opened on
pub open-settled : {D : Type 0} (m : disk.Meaning D) (d : D) → disk.IsToldRight m d → (m.tells_stops d ≡ true → IsSettled m d) →
    IsSettled m d
open-settled m d right settled = by_telling (m.tells_stops d) refl
  where
    by_telling : (tells : Bool) → m.tells_stops d ≡ tells → IsSettled m d
    by_telling true is = settled is
    by_telling false is = right.untold is

-- a run of a plan made this layout
made-laid : {D : Type 0} (m : disk.Meaning D) (old mid new : D) (steps : List DiskStep) (plan : List ℕ → List DiskStep) (l : Layout) →
    Looks m old mid → Ran m mid new steps → ((bytes : List ℕ) → m.told old ≡ Some bytes → steps ≡ plan bytes)
    → ((bytes : List ℕ) → m.told old ≡ Some bytes → layout_of (after_steps (plan bytes) bytes) ≡ Some l) →
    ((left : List ℕ) → m.told new ≡ Some left → (bytes : List ℕ) × (m.told old ≡ Some bytes))
    → (k : Layout) (left : List ℕ) → Some l ≡ Some k → m.told new ≡ Some left → layout_of left ≡ Some k
made-laid m old mid new steps plan l looks ran planned makes some k left same now =
    let b = some left now in
    let e : Some left ≡ Some (after_steps (plan b.0) b.0) = sym now ∙ Ran-told m mid new steps b.0 (looks.told ∙ b.1) ran
    ∙ ap (λ ss. Some (after_steps ss b.0)) (planned b.0 b.1) in
    ap layout_of (same_Some _ _ e) ∙ makes b.0 b.1 ∙ same

pub info-size : (head : Option Head) (layout : Option Layout) (info : Option TapeInfo) → layout ≡ option_map (λ (h : Head). h.layout) head →
    info ≡ option_map info_by head → size_by layout ≡ option_map (λ (i : TapeInfo). i.segments_per_track) info
info-size None layout info a b = rw (a, b) refl
info-size (Some h) layout info a b = rw (a, b) refl

pub same-layout : (n : ℕ) (l : Layout) (seen : ℕ) → IsLength n → seen ≡ image_len n →
    Some (record { segments_per_track = n; kind = Cells }) ≡ Some l → (3 ≤ l.segments_per_track) × (l.segments_per_track ≤ LONGEST)
    × (end_of l ≤ seen)
same-layout n l seen long is same =
    let e : record { segments_per_track = n; kind = Cells } ≡ l = same_Some _ _ same in
    let P : Layout → Type 0 = λ y. (3 ≤ y.segments_per_track) × (y.segments_per_track ≤ LONGEST) × (end_of y ≤ seen) in
    subst P e (long.shortest, long.longest, omega arith)

-- a new image has its layout
carried-laid-ok : {D T E : Type 0} (m : disk.Meaning D) (old new : D) (plan : List ℕ → List DiskStep) (l : Layout) (r : Result T E)
    (x : T) → r ≡ Ok x → Carried m old new plan r →
    ((bytes : List ℕ) → m.told old ≡ Some bytes → layout_of (after_steps (plan bytes) bytes) ≡ Some l)
    → (k : Layout) (left : List ℕ) → Some l ≡ Some k → m.told new ≡ Some left → layout_of left ≡ Some k
carried-laid-ok {T = T} {E = E} m old new plan l (Ok y) x is carried makes k left same now =
    let passes = carried-passes {T = T} {E = E} m old new carried.steps (Ok y) carried.went in
    made-laid m old carried.went.0 new carried.steps plan l carried.went.1 carried.went.2 carried.planned makes
    (λ b told. some_told (m.told old) (m.told new) b passes.tells told) k left same now
carried-laid-ok m old new plan l (Err e) x is carried makes k left same now = cc

pub new-laid : {D T E : Type 0} (m : disk.Meaning D) (old new : D) (n : ℕ) → IsLength n → (r : Result T E) (x : T) → r ≡ Ok x →
    Carried m old new (λ bytes. renew_steps n (slice_index bytes 0)) r
    → (k : Layout) (left : List ℕ) → Some (record { segments_per_track = n; kind = Cells }) ≡ Some k → m.told new ≡ Some left →
    layout_of left ≡ Some k
new-laid m old new n long r x is carried = carried-laid-ok m old new _ (record { segments_per_track = n; kind = Cells }) r x is carried
    (λ bytes told. renew-laid n long bytes)

-- a layout of the same length
abbrev with_kind : Layout → Kind → Layout
with_kind l kind = record { segments_per_track = l.segments_per_track; kind = kind }

-- a tape whose image is of version 1
module _ {D : Type 0} {g : Ghosts D} (s : ImageTape D g) (l : Layout) (layout : s.layout ≡ Some l) (planes : touches l.kind ≡ true) where
  in-planes : l ≡ with_kind l Planes
  in-planes = by_kind l.kind planes
    where
      by_kind : (kind : Kind) → touches kind ≡ true → with_kind l kind ≡ with_kind l Planes
      by_kind Planes is = refl
      by_kind Cells is = cc
      by_kind CellsBehind is = cc

  layout-under : (bytes : List ℕ) → g.means.told s.disk ≡ Some bytes →
      layout_of bytes ≡ Some (record { segments_per_track = l.segments_per_track; kind = Planes })
  layout-under bytes told = s.laid l bytes layout told ∙ ap Some in-planes

  image-under : (bytes : List ℕ) → g.means.told s.disk ≡ Some bytes → image_len l.segments_per_track ≤ length bytes
  image-under bytes told =
      let h = some_head bytes _ (layout-under bytes told) in
      let P : Layout → Type 0 = λ y. end_of y ≤ length bytes in
      subst P h.2 (head_of-parts bytes h.0 h.1).fits.long

  pub planes-cover : image_len l.segments_per_track ≤ g.means.seen_len s.disk
  planes-cover =
      let P : Layout → Type 0 = λ y. end_of y ≤ g.means.seen_len s.disk in
      subst P in-planes (s.covers l layout)

  planned-is : (bytes : List ℕ) → upgrade_steps l.segments_per_track bytes ≡ upgrade_plan l bytes
  planned-is bytes = ap (λ y. upgrade_plan y bytes) (sym in-planes)

  module _ {T E : Type 0} (new : D) (r : Result T E) where
    pub upgrade-carried : Planned g.means s.disk new (λ bytes. upgrade_steps l.segments_per_track bytes) r →
        Carried g.means s.disk new (λ bytes. upgrade_plan l bytes) r
    upgrade-carried p = Carried-runs g.means s.disk s.disk new (λ bytes. upgrade_plan l bytes) p.steps r
        (Looks-nothing g.means s.disk) p.runs (λ bytes told. p.planned bytes told ∙ planned-is bytes)

    pub upgrade-outcome : Planned g.means s.disk new (λ bytes. upgrade_steps l.segments_per_track bytes) r →
        Outcome (disk_means g.means) s.disk new (Upgrade ∷ []) r
    upgrade-outcome p =
        Outcome-carried g.means s.disk new (λ bytes. upgrade_plan l bytes) (Upgrade ∷ []) r (tape-settled s) (upgrade-carried p)
        (λ bytes told.
        let M : List DiskStep → Type 0 = λ ss. Means ss (Upgrade ∷ []) bytes in
        subst M (planned-is bytes) (upgrade-means l.segments_per_track (s.shortest l layout) (s.longest l layout) bytes
        (layout-under bytes told) (image-under bytes told)))

    pub upgraded-laid : (x : T) → r ≡ Ok x → Planned g.means s.disk new (λ bytes. upgrade_steps l.segments_per_track bytes) r
        → (k : Layout) (left : List ℕ) → Some (record { segments_per_track = l.segments_per_track; kind = CellsBehind }) ≡ Some k →
        g.means.told new ≡ Some left → layout_of left ≡ Some k
    upgraded-laid x is p =
        carried-laid-ok g.means s.disk new (λ bytes. upgrade_plan l bytes)
        (record { segments_per_track = l.segments_per_track; kind = CellsBehind }) r x is (upgrade-carried p)
        (λ bytes told. ap (λ ss. layout_of (after_steps ss bytes)) (sym (planned-is bytes)) ∙ upgrade-laid l.segments_per_track
        (s.shortest l layout) (s.longest l layout) bytes (layout-under bytes told) (image-under bytes told))

  pub upgraded-fits : (k : Layout) (seen : ℕ) → seen ≡ upgraded_len l.segments_per_track →
      Some (record { segments_per_track = l.segments_per_track; kind = CellsBehind }) ≡ Some k → (3 ≤ k.segments_per_track)
      × (k.segments_per_track ≤ LONGEST) × (end_of k ≤ seen)
  upgraded-fits k seen is same =
      let e : record { segments_per_track = l.segments_per_track; kind = CellsBehind } ≡ k = same_Some _ _ same in
      let P : Layout → Type 0 = λ y. (3 ≤ y.segments_per_track) × (y.segments_per_track ≤ LONGEST) × (end_of y ≤ seen) in
      subst P e (s.shortest l layout, s.longest l layout, omega arith)

-- the same of another answer
pub carried-ok : {D T E U F : Type 0} (m : disk.Meaning D) (old new : D) (plan : List ℕ → List DiskStep) (x : T) (y : U) →
    Carried {T = T} {E = E} m old new plan (Ok x) → Carried {T = U} {E = F} m old new plan (Ok y)
carried-ok m old new plan x y c = record { steps = c.steps; planned = c.planned; went = c.went }

pub carried-err : {D T E U F : Type 0} (m : disk.Meaning D) (old new : D) (plan : List ℕ → List DiskStep) (e : E) (f : F) →
    Carried {T = T} {E = E} m old new plan (Err e) → Carried {T = U} {E = F} m old new plan (Err f)
carried-err m old new plan e f c = record { steps = c.steps; planned = c.planned; went = c.went }

-- one of version 2 stays
module _ {D : Type 0} {g : Ghosts D} (s : ImageTape D g) (l : Layout) (layout : s.layout ≡ Some l) where
  pub version-fact : Tells (image_means {g = g}) s (λ c. version_of l.kind ≡ c.version)
  version-fact = by_told (g.means.told s.disk) refl
    where
      by_told : (told : Option (List ℕ)) → g.means.told s.disk ≡ told → IfSome (option_map cartridge_of told)
          (λ h. IfSome h (λ c. version_of l.kind ≡ c.version))
      by_told None told = tt
      by_told (Some bytes) told =
          let h = some_head bytes l (s.laid l bytes layout told) in
          let Q : Option Cartridge → Type 0 = λ c. IfSome c (λ c. version_of l.kind ≡ c.version) in
          subst Q (sym (cartridge_of-read bytes h.0 h.1)) (ap (λ (y : Layout). version_of y.kind) (sym h.2))

  stays-new : touches l.kind ≡ false → (bytes : List ℕ) → upgrade_plan l bytes ≡ []
  stays-new cells bytes = by_kind l.kind cells
    where
      by_kind : (kind : Kind) → touches kind ≡ false →
          upgrade_plan (record { segments_per_track = l.segments_per_track; kind = kind }) bytes ≡ []
      by_kind Planes is = cc
      by_kind Cells is = refl
      by_kind CellsBehind is = refl

  version-two : touches l.kind ≡ false → version_of l.kind ≡ 2
  version-two cells = by_kind l.kind cells
    where
      by_kind : (kind : Kind) → touches kind ≡ false → version_of kind ≡ 2
      by_kind Planes is = cc
      by_kind Cells is = refl
      by_kind CellsBehind is = refl

  pub stays-carried : {T E : Type 0} (x : T) → touches l.kind ≡ false → Carried {T = T} {E = E} g.means s.disk s.disk
      (λ bytes. upgrade_plan l bytes) (Ok x)
  stays-carried x cells = record {
    steps = [];
    planned = λ bytes told. sym (stays-new cells bytes);
    went = (s.disk, Looks-nothing g.means s.disk, refl);
  }

  pub stays-done : touches l.kind ≡ false → Finished (disk_means g.means) s.disk s.disk (Upgrade ∷ [])
  stays-done cells =
      Outcome-carried {T = ℕ} {E = ℕ} g.means s.disk s.disk (λ bytes. upgrade_plan l bytes) (Upgrade ∷ []) (Ok 0) (tape-settled s)
      (stays-carried 0 cells) (λ bytes told.
      let M : List DiskStep → Type 0 = λ ss. Means ss (Upgrade ∷ []) bytes in
      subst M (sym (stays-new cells bytes)) (record { done = same bytes told; torn = λ left crashed. absurd crashed }))
    where
      same : (bytes : List ℕ) → g.means.told s.disk ≡ Some bytes → cartridge_of bytes ≡ effect Upgrade (cartridge_of bytes)
      same bytes told =
          let h = some_head bytes l (s.laid l bytes layout told) in
          let is = cartridge_of-read bytes h.0 h.1 in
          let v : version_of h.0.layout.kind ≡ 2 = ap (λ (y : Layout). version_of y.kind) h.2 ∙ version-two cells in
          is ∙ ap (λ w. Some (record (read_as h.0 bytes) { version = w })) v ∙ sym (ap (effect Upgrade) is)

  pub version-is : (v : ℕ) → v ≡ version_of l.kind → Tells (image_means {g = g}) s (λ c. v ≡ c.version)
  version-is v is = let P : ℕ → Type 0 = λ w. Tells (image_means {g = g}) s (λ c. w ≡ c.version) in subst P (sym is) version-fact

  pub size-upgraded : (k : Layout) → k.segments_per_track ≡ l.segments_per_track → size_by (Some k) ≡ size_by s.layout
  size-upgraded k same = ap Some same ∙ sym (ap size_by layout)

  pub carried-by : {T E : Type 0} (new : D) (r : Result T E) → Carried g.means s.disk new (λ bytes. upgrade_plan l bytes) r →
      CarriedBy g.means s.disk new s.layout (λ k bytes. upgrade_plan k bytes) r
  carried-by new r carried = CarriedBy-layout g.means s.disk new s.layout l (λ k bytes. upgrade_plan k bytes) r layout carried
