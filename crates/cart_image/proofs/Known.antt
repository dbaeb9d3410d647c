-- What is known of a segment's sectors: as its state bytes are read, and as it stays true when a call changes a sector.
use Rattle.std.proofs.Common.{◌≡◌, ◌≢◌, ℕ, ◌+◌, ◌*◌, ◌<◌, ◌≤◌, ◌⊎◌, inl, inr, ⊎_elim, Bool, false, List, [], ◌∷◌, length, get_or, refl, sym}
use Rattle.std.proofs.Common.{◌∙◌, ap, arith, Option, Some, None, IfSome, IsSomeAnd, subst, Result, Ok, Err}
use Rattle.std.specs.Prelude.{IfOk, slice_index, slice_index_or, slice_range, slice_set, ◌==◌, ◌&&◌, not}
use Rattle.std.specs.Option.{option_map}
use Rattle.std.proofs.lemmas.Bool.{cases_lt}
use Rattle.std.proofs.lemmas.List.{same_lists, get_or_default, length-set, get_or-set_same, get_or-set_other}
use Rattle.std.proofs.lemmas.List.FromFn.{length-map-range_with_len, get_or-map-range_with_len}
use Rattle.std.proofs.lemmas.List.Edits.{get_or-between}
use Rattle.std.proofs.lemmas.Option.{unwrap_or-slice_get, same_Some}
use Rattle.qic_base.specs.declared.disk.Disk.{Ghosts}
use Rattle.qic_base.specs.declared.tape.SectorView.{SectorView}
use Rattle.qic_base.specs.declared.tape.SectorView.TheVariants.{Blank}
use Rattle.qic_base.specs.Cartridge.{Cartridge, IsPlace, view_at, with_view}
use Rattle.qic_base.specs.CartridgeTerms.{place_of}
use Rattle.qic_base.specs.Step.{Step, changed, effects}
use Rattle.cart_image.specs.declared.layout.Head.{Head}
use Rattle.cart_image.specs.declared.layout.Kind.{Kind}
use Rattle.cart_image.specs.declared.layout.Kind.TheVariants.{Planes, Cells, CellsBehind}
use Rattle.cart_image.specs.declared.layout.Layout.{Layout}
use Rattle.cart_image.specs.declared.layout.Part.TheVariants.{GateByte, FormedByte, DefectByte}
use Rattle.cart_image.specs.declared.reading.SectorState.{SectorState}
use Rattle.cart_image.specs.declared.reading.SectorState.TheVariants as state
use Rattle.cart_image.specs.declared.segment.SegmentMarks.{SegmentMarks}
use Rattle.cart_image.specs.declared.segment.SegmentStates.{SegmentStates}
use Rattle.cart_image.specs.declared.tape.ImageTape.{ImageTape}
use Rattle.cart_image.specs.Image.{cartridge_of, head_of, sector_bytes, view_by, view_in, read_as}
use Rattle.cart_image.specs.ImageTape.{size_by}
use Rattle.cart_image.specs.Layout.{cell_len, cells_len}
use Rattle.cart_image.specs.Layout.{place, place_in, plane_place, base_of, end_of, sectors, touches, open_gate, formed_byte, defect_byte}
use Rattle.cart_image.specs.Layout.{those, is_open, is_usable, is_unformed, format_segment_steps, format_plan}
use Rattle.cart_image.specs.Run.{Looked}
use Rattle.cart_image.specs.State.{state_of, HoldsStates, AreStates, AreStatesOf, AreMarks, with_state}
use Rattle.cart_image.specs.Tape.{disk_means}
use Rattle.cart_image.specs.Whole.{cartridge_of-read, head_of-parts, length-views, some_head}
use Rattle.cart_image.proofs.Bytes.{view_in-is}
use Rattle.cart_image.proofs.Carries.{Finished}
use Rattle.cart_image.proofs.Changes.{view_at-read}
use Rattle.cart_image.proofs.Exits.{told-fact}
use Rattle.cart_image.proofs.Layouts.{laid_out}

-- a byte of a part of a plane
pub part-index : (b part : List ℕ) (p q i w : ℕ) → part ≡ slice_range b p (p + w) → i < w → p + i ≡ q → slice_index part i ≡ slice_index b q
part-index b part p q i w is less at =
    ap (λ (xs : List ℕ). get_or xs i 0) is ∙ get_or-between b p (p + w) i 0 (omega arith) ∙ ap (λ j. get_or b j 0) at

-- the state bytes of a segment in planes
pub marks-read : (told t1 t2 : Option (List ℕ)) (l : Layout) (segment pd pf pg : ℕ) (m : SegmentMarks) → t1 ≡ told → t2 ≡ told →
    l.kind ≡ Planes
    → pd ≡ place l DefectByte (32 * segment) → pf ≡ place l FormedByte (32 * segment) → pg ≡ place l GateByte (32 * segment) →
    segment < 28 * l.segments_per_track
    → IfSome told (λ b. pd + 32 ≤ length b → m.defects ≡ slice_range b pd (pd + 32)) →
    IfSome t1 (λ b. pf + 32 ≤ length b → m.formed ≡ slice_range b pf (pf + 32)) →
    IfSome t2 (λ b. pg + 32 ≤ length b → m.gates ≡ slice_range b pg (pg + 32))
    → IfSome told (λ b. end_of l ≤ length b → AreMarks l segment b m)
marks-read None t1 t2 l segment pd pf pg m e1 e2 kind ed ef eg on hd hf hg = tt
marks-read (Some b) t1 t2 l segment pd pf pg m e1 e2 kind ed ef eg on hd hf hg = λ long. by_kind kind ed ef eg long
  where
    by_kind : l.kind ≡ Planes → pd ≡ place l DefectByte (32 * segment) → pf ≡ place l FormedByte (32 * segment) →
        pg ≡ place l GateByte (32 * segment) → end_of l ≤ length b → AreMarks l segment b m
    by_kind kind ed ef eg long = planes l kind ed ef eg long on
      where
        planes : (l : Layout) → l.kind ≡ Planes → pd ≡ place l DefectByte (32 * segment) → pf ≡ place l FormedByte (32 * segment) →
            pg ≡ place l GateByte (32 * segment) → end_of l ≤ length b → segment < 28 * l.segments_per_track → AreMarks l segment b m
        planes l kind ed ef eg long on =
            let n : ℕ = l.segments_per_track in
            let ld : pd ≡ plane_place n DefectByte (32 * segment) = ed
            ∙ ap (λ k. place (record { segments_per_track = n; kind = k }) DefectByte (32 * segment)) kind in
            let lf : pf ≡ plane_place n FormedByte (32 * segment) = ef
            ∙ ap (λ k. place (record { segments_per_track = n; kind = k }) FormedByte (32 * segment)) kind in
            let lg : pg ≡ plane_place n GateByte (32 * segment) = eg
            ∙ ap (λ k. place (record { segments_per_track = n; kind = k }) GateByte (32 * segment)) kind in
            let le : end_of l ≡ 64 + cell_len * sectors n = ap (λ k. end_of (record { segments_per_track = n; kind = k })) kind in
            let d_is : m.defects ≡ slice_range b pd (pd + 32) = hd (omega arith) in
            let f_is : m.formed ≡ slice_range b pf (pf + 32) =
            told-fact t1 (λ c. pf + 32 ≤ length c → m.formed ≡ slice_range c pf (pf + 32)) b e1 hf (omega arith) in
            let g_is : m.gates ≡ slice_range b pg (pg + 32) =
            told-fact t2 (λ c. pg + 32 ≤ length c → m.gates ≡ slice_range c pg (pg + 32)) b e2 hg (omega arith) in
            record {
              gates = λ i less. part-index b m.gates pg (plane_place n GateByte (place_of segment i)) i 32 g_is less (omega arith)
                  ∙ ap (λ k. slice_index b (place (record { segments_per_track = n; kind = k }) GateByte (place_of segment i))) (sym kind);
              formed = λ i less. part-index b m.formed pf (plane_place n FormedByte (place_of segment i)) i 32 f_is less (omega arith)
                  ∙ ap (λ k. slice_index b (place (record { segments_per_track = n; kind = k }) FormedByte (place_of segment i)))
                  (sym kind);
              defects = λ i less. part-index b m.defects pd (plane_place n DefectByte (place_of segment i)) i 32 d_is less (omega arith)
                  ∙ ap (λ k. slice_index b (place (record { segments_per_track = n; kind = k }) DefectByte (place_of segment i)))
                  (sym kind);
            }

-- what holds of a segment's views in the bytes holds of the cartridge that they are read as
are-states : (k : SegmentStates) (held : Option Cartridge) (c : Cartridge) → held ≡ Some c → HoldsStates k c → AreStates k held
are-states k held c is holds d reads = subst (HoldsStates k) (same_Some c d (sym is ∙ reads)) holds

states-of : (h : Head) (bytes : List ℕ) (k : SegmentStates) → head_of bytes ≡ Some h → k.segment < 28 * h.layout.segments_per_track
    → ((i : ℕ) → i < 32 → slice_index_or k.states i state.Blank ≡ state_of (view_in h.layout bytes (place_of k.segment i))) →
    AreStates k (cartridge_of bytes)
states-of h bytes k is on each =
    are-states k (cartridge_of bytes) (read_as h bytes) (cartridge_of-read bytes h is)
    (λ i less. each i less ∙ ap state_of (sym (view_at-read h bytes k.segment i (omega arith))))

-- .. and the other way round
state-of : (h : Head) (bytes : List ℕ) (k : SegmentStates) → head_of bytes ≡ Some h → k.segment < 28 * h.layout.segments_per_track →
    AreStates k (cartridge_of bytes)
    → (i : ℕ) → i < 32 → slice_index_or k.states i state.Blank ≡ state_of (view_in h.layout bytes (place_of k.segment i))
state-of h bytes k is on are i less =
    are (read_as h bytes) (cartridge_of-read bytes h is) i less ∙ ap state_of (view_at-read h bytes k.segment i (omega arith))

-- .. of the same states
pub same-right : (k l : SegmentStates) (held : Option Cartridge) → Some k ≡ Some l → AreStates k held → AreStates l held
same-right k l held same are = let P : SegmentStates → Type 0 = λ x. AreStates x held in subst P (same_Some k l same) are

eq_or_not : (a b : ℕ) → (a ≡ b) ⊎ (a ≢ b)
eq_or_not a b = ⊎_elim (λ less. inr (λ e. omega arith))
    (λ le. ⊎_elim (λ more. inr (λ e. omega arith)) (λ ge. inl (omega arith)) (cases_lt b a)) (cases_lt a b)

-- a cartridge with another view of one sector of the segment
states-with : (c : Cartridge) (k l : SegmentStates) (sector : ℕ) (view : SectorView) (s : SectorState) →
    place_of k.segment sector < length c.views → sector < 32 → length k.states ≡ 32
    → HoldsStates k c → s ≡ state_of view → l.segment ≡ k.segment → l.states ≡ slice_set k.states sector s →
    HoldsStates l (with_view c k.segment sector view)
states-with c k l sector view s on within long are now same_segment same_states i less =
    ap (λ (xs : List SectorState). slice_index_or xs i state.Blank) same_states
    ∙ at (eq_or_not i sector)
    ∙ ap (λ j. state_of (view_at (with_view c k.segment sector view) j i)) (sym same_segment)
  where
    at : (i ≡ sector) ⊎ (i ≢ sector) → slice_index_or (slice_set k.states sector s) i state.Blank ≡ state_of
        (view_at (with_view c k.segment sector view) k.segment i)
    at (inl same) =
        ap (λ j. get_or (slice_set k.states sector s) j state.Blank) same
        ∙ get_or-set_same k.states sector s state.Blank (omega arith)
        ∙ now
        ∙ sym (ap state_of (unwrap_or-slice_get (slice_set c.views (place_of k.segment sector) view) (place_of k.segment i) Blank
        ∙ ap (λ j. get_or (slice_set c.views (place_of k.segment sector) view) (place_of k.segment j) Blank) same
        ∙ get_or-set_same c.views (place_of k.segment sector) view Blank on))
    at (inr ne) =
        get_or-set_other k.states sector i s state.Blank ne
        ∙ are i less
        ∙ ap state_of (unwrap_or-slice_get c.views (place_of k.segment i) Blank)
        ∙ sym (ap state_of (unwrap_or-slice_get (slice_set c.views (place_of k.segment sector) view) (place_of k.segment i) Blank
        ∙ get_or-set_other c.views (place_of k.segment sector) (place_of k.segment i) view Blank (λ e. ne (omega arith))))

-- a fact of told bytes that are the same
pub told-same : {a b : Option (List ℕ)} (P : List ℕ → Type 0) → a ≡ b → IfSome a P → IfSome b P
told-same P same fact = let Q : Option (List ℕ) → Type 0 = λ o. IfSome o P in subst Q same fact

-- what the state bytes of a segment say of its sectors
pub marked-state : (l : Layout) (segment : ℕ) (bytes : List ℕ) (m : SegmentMarks) (states : List SectorState) → AreMarks l segment bytes m
    → ((i : ℕ) (bytes : List ℕ) → i < 32 → slice_index_or states i state.Blank ≡ state_of
    (view_by (slice_index m.defects i) (slice_index m.formed i) (slice_index m.gates i) bytes))
    → (i : ℕ) → i < 32 → slice_index_or states i state.Blank ≡ state_of (view_in l bytes (place_of segment i))
marked-state l segment bytes m states marks by i less =
    by i (sector_bytes l bytes (place_of segment i)) less
    ∙ ap (λ x. state_of (view_by x (slice_index m.formed i) (slice_index m.gates i) (sector_bytes l bytes (place_of segment i))))
    (marks.defects i less)
    ∙ ap (λ x. state_of (view_by (slice_index bytes (place l DefectByte (place_of segment i))) x (slice_index m.gates i)
    (sector_bytes l bytes (place_of segment i)))) (marks.formed i less)
    ∙ ap (λ x. state_of (view_by (slice_index bytes (place l DefectByte (place_of segment i)))
    (slice_index bytes (place l FormedByte (place_of segment i))) x (sector_bytes l bytes (place_of segment i)))) (marks.gates i less)
    ∙ ap state_of (sym (view_in-is l bytes (place_of segment i)))

-- a tape of this layout, and a place on it
module _ {D : Type 0} {g : Ghosts D} (s : ImageTape D g) (l : Layout) (segment sector : ℕ) (layout : s.layout ≡ Some l)
    (spot : IsSomeAnd (size_by s.layout) (λ k. IsPlace k segment sector)) where
  is-place : IsPlace l.segments_per_track segment sector
  is-place = let P : Option Layout → Type 0 = λ o. IsSomeAnd (size_by o) (λ k. IsPlace k segment sector) in subst P layout spot

  pub on-tape : place_of segment sector < sectors l.segments_per_track
  on-tape = let p = is-place in let a = p.on_tape in let b = p.in_segment in omega arith

  pub on-segment : segment < 28 * l.segments_per_track
  on-segment = let p = is-place in p.on_tape

  pub in-segment : sector < 32
  in-segment = let p = is-place in p.in_segment

  -- the head of the bytes under it
  pub head-under : (bytes : List ℕ) → g.means.told s.disk ≡ Some bytes → (h : Head) × (head_of bytes ≡ Some h) × (h.layout ≡ l)
  head-under bytes told = some_head bytes l (s.laid l bytes layout told)

  pub long-under : (bytes : List ℕ) → g.means.told s.disk ≡ Some bytes → end_of l ≤ length bytes
  long-under bytes told =
      let h = head-under bytes told in
      let P : Layout → Type 0 = λ y. end_of y ≤ length bytes in
      subst P h.2 (head_of-parts bytes h.0 h.1).fits.long

  -- what its state bytes say of a segment is right
  pub read-right : (k : SegmentStates) (m : SegmentMarks) (new : Option (List ℕ)) → k.segment ≡ segment → new ≡ g.means.told s.disk →
      IfSome (g.means.told s.disk) (λ b. end_of l ≤ length b → AreMarks l segment b m)
      → ((i : ℕ) (bytes : List ℕ) → i < 32 → slice_index_or k.states i state.Blank ≡ state_of
      (view_by (slice_index m.defects i) (slice_index m.formed i) (slice_index m.gates i) bytes))
      → (bytes : List ℕ) → new ≡ Some bytes → AreStates k (cartridge_of bytes)
  read-right k m new of same fact by bytes told =
      let was : g.means.told s.disk ≡ Some bytes = sym same ∙ told in
      let h = head-under bytes was in
      let p = is-place in
      let marks : AreMarks l segment bytes m = told-fact (g.means.told s.disk) (λ b. end_of l ≤ length b → AreMarks l segment b m) bytes was
      fact (long-under bytes was) in
      states-of h.0 bytes k h.1 (let e = ap (λ (y : Layout). y.segments_per_track) h.2 in let a = p.on_tape in omega arith) (λ i less.
      marked-state l segment bytes m k.states marks by i less
      ∙ ap (λ y. state_of (view_in y bytes (place_of segment i))) (sym h.2)
      ∙ ap (λ t. state_of (view_in h.0.layout bytes (place_of t i))) (sym of))

  -- .. and so is what it knows of it
  pub known-state : (k : SegmentStates) (x : SectorState) (new : Option (List ℕ)) → k.segment ≡ segment → new ≡ g.means.told s.disk →
      ((bytes : List ℕ) → new ≡ Some bytes → AreStates k (cartridge_of bytes))
      → x ≡ slice_index_or k.states sector state.Blank → (bytes : List ℕ) → new ≡ Some bytes →
      x ≡ state_of (view_in l bytes (place_of segment sector))
  known-state k x new of same right x-is bytes told =
      let was : g.means.told s.disk ≡ Some bytes = sym same ∙ told in
      let h = head-under bytes was in
      let p = is-place in
      x-is ∙ state-of h.0 bytes k h.1 (let e = ap (λ (y : Layout). y.segments_per_track) h.2 in let a = p.on_tape in omega arith)
      (right bytes told) sector p.in_segment
      ∙ ap (λ y. state_of (view_in y bytes (place_of k.segment sector))) h.2
      ∙ ap (λ t. state_of (view_in l bytes (place_of t sector))) of

  -- .. as it is of those of its sectors that are asked for
  pub known-states : (k : SegmentStates) (new : Option (List ℕ)) (wanted : ℕ) → k.segment ≡ segment → new ≡ g.means.told s.disk →
      ((bytes : List ℕ) → new ≡ Some bytes → AreStates k (cartridge_of bytes))
      → IfSome (g.means.told s.disk) (λ bytes. AreStatesOf l segment wanted bytes k.states)
  known-states k new wanted of same right = by_told (g.means.told s.disk) refl
    where
      by_told : (told : Option (List ℕ)) → g.means.told s.disk ≡ told → IfSome told (λ bytes. AreStatesOf l segment wanted bytes k.states)
      by_told None was = tt
      by_told (Some bytes) was = λ i less bit.
          let h = head-under bytes was in
          let p = is-place in
          state-of h.0 bytes k h.1 (let e = ap (λ (y : Layout). y.segments_per_track) h.2 in let a = p.on_tape in omega arith)
          (right bytes (same ∙ was)) i less
          ∙ ap (λ y. state_of (view_in y bytes (place_of k.segment i))) h.2
          ∙ ap (λ t. state_of (view_in l bytes (place_of t i))) of

  -- a fact of bytes that hold the whole layout
  pub whole-fact : (P : List ℕ → Type 0) → IfSome (g.means.told s.disk) (λ b. end_of l ≤ length b → P b) → IfSome (g.means.told s.disk) P
  whole-fact P fact = by_told (g.means.told s.disk) refl fact
    where
      by_told : (told : Option (List ℕ)) → g.means.told s.disk ≡ told → IfSome told (λ b. end_of l ≤ length b → P b) → IfSome told P
      by_told None was fact = tt
      by_told (Some bytes) was fact = fact (long-under bytes was)

  pub whole-ok : {T E : Type 0} (r : Result T E) (P : T → List ℕ → Type 0) →
      IfOk r (λ x. IfSome (g.means.told s.disk) (λ b. end_of l ≤ length b → P x b)) → IfOk r (λ x. IfSome (g.means.told s.disk) (P x))
  whole-ok (Err e) P fact = tt
  whole-ok (Ok x) P fact = whole-fact (P x) fact

  -- What is known of the segment stays right where a call changes the sector, whose state was x.
  pub changed-right : (k : SegmentStates) (x y : SectorState) (new : D) (step : Step) (f : SectorView → SectorView) → k.segment ≡ segment →
      ((bytes : List ℕ) → g.means.told s.disk ≡ Some bytes → AreStates k (cartridge_of bytes))
      → ((bytes : List ℕ) → g.means.told s.disk ≡ Some bytes → x ≡ state_of (view_in l bytes (place_of segment sector)))
      → ((c : Cartridge) → changed step c ≡ with_view c segment sector (f (view_at c segment sector))) →
      Finished (disk_means g.means) s.disk new (step ∷ [])
      → ((v : SectorView) → x ≡ state_of v → y ≡ state_of (f v)) → length k.states ≡ 32
      → (bytes : List ℕ) → g.means.told new ≡ Some bytes → AreStates (with_state k sector y) (cartridge_of bytes)
  changed-right k x y new step f of right x-is changes done becomes long bytes now =
      by_told (g.means.told s.disk) refl (sym (ap (option_map cartridge_of) now) ∙ done.told)
    where
      by_told : (told : Option (List ℕ)) → g.means.told s.disk ≡ told → Some (cartridge_of bytes) ≡ option_map (effects (step ∷ []))
          (option_map cartridge_of told) → AreStates (with_state k sector y) (cartridge_of bytes)
      by_told None told was = cc
      by_told (Some b) told was =
          let h = head-under b told in
          let p = is-place in
          let a = p.on_tape in
          let c : Cartridge = read_as h.0 b in
          let reads : cartridge_of b ≡ Some c = cartridge_of-read b h.0 h.1 in
          let e : cartridge_of bytes ≡ effects (step ∷ []) (cartridge_of b) = same_Some _ _ was in
          let v : SectorView = view_at c segment sector in
          let m : h.0.layout.segments_per_track ≡ l.segments_per_track = ap (λ (y : Layout). y.segments_per_track) h.2 in
          let after : cartridge_of bytes ≡ Some (with_view c k.segment sector (f v)) =
          e ∙ ap (effects (step ∷ [])) reads ∙ ap Some (changes c) ∙ ap (λ t. Some (with_view c t sector (f v))) (sym of) in
          let here : x ≡ state_of v =
          x-is b told ∙ ap (λ y. state_of (view_in y b (place_of segment sector))) (sym h.2)
          ∙ ap state_of (sym (view_at-read h.0 b segment sector (let q = p.in_segment in omega arith))) in
          are-states (with_state k sector y) (cartridge_of bytes) (with_view c k.segment sector (f v)) after
          (states-with c k (with_state k sector y) sector (f v) y (let q = p.in_segment in let z = length-views h.0.layout b in omega arith)
          p.in_segment long
          (right b told c reads) (becomes v here) refl refl)

  -- what a look at a cell told
  pub read-state : (x : SectorState) (q : ℕ) (new : Option (List ℕ)) → q ≡ place_of segment sector → new ≡ g.means.told s.disk →
      IfSome (g.means.told s.disk) (λ b. end_of l ≤ length b → x ≡ state_of (view_in l b q))
      → (bytes : List ℕ) → new ≡ Some bytes → x ≡ state_of (view_in l bytes (place_of segment sector))
  read-state x q new is-q same fact bytes told =
      let was : g.means.told s.disk ≡ Some bytes = sym same ∙ told in
      told-fact (g.means.told s.disk) (λ b. end_of l ≤ length b → x ≡ state_of (view_in l b q)) bytes was fact (long-under bytes was)
      ∙ ap (λ j. state_of (view_in l bytes j)) is-q

  -- .. whatever it answered
  pub read-state-ok : {E : Type 0} (r : Result SectorState E) (q : ℕ) (new : D) → q ≡ place_of segment sector → Looked g.means s.disk new r
      → IfOk r (λ x. IfSome (g.means.told s.disk) (λ b. end_of l ≤ length b → x ≡ state_of (view_in l b q)))
      → IfOk r (λ x. (bytes : List ℕ) → g.means.told new ≡ Some bytes → x ≡ state_of (view_in l bytes (place_of segment sector)))
  read-state-ok (Ok x) q new is-q looks fact = read-state x q (g.means.told new) is-q looks.told fact
  read-state-ok (Err e) q new is-q looks fact = tt

  -- what is known after a call that changed the sector
  pub known-right : (t : ImageTape D g) (x y : SectorState) (new : D) (step : Step) (f : SectorView → SectorView)
      (known : Option SegmentStates) → g.means.told t.disk ≡ g.means.told s.disk → IfSome t.known (λ k. k.segment ≡ segment)
      → ((bytes : List ℕ) → g.means.told t.disk ≡ Some bytes → x ≡ state_of (view_in l bytes (place_of segment sector)))
      → ((c : Cartridge) → changed step c ≡ with_view c segment sector (f (view_at c segment sector))) →
      Finished (disk_means g.means) s.disk new (step ∷ [])
      → ((v : SectorView) → x ≡ state_of v → y ≡ state_of (f v)) → known ≡ option_map (λ k. with_state k sector y) t.known →
      IfSome t.known (λ k. length k.states ≡ 32)
      → (states : SegmentStates) (bytes : List ℕ) → known ≡ Some states → g.means.told new ≡ Some bytes →
      AreStates states (cartridge_of bytes)
  known-right t x y new step f known same of x-is changes done becomes made long states bytes is now = by_known t.known refl of made long
    where
      by_known : (o : Option SegmentStates) → t.known ≡ o → IfSome o (λ k. k.segment ≡ segment) →
          known ≡ option_map (λ k. with_state k sector y) o → IfSome o (λ k. length k.states ≡ 32) → AreStates states (cartridge_of bytes)
      by_known None was of made long = let e : None ≡ Some states = sym made ∙ is in cc
      by_known (Some k) was of made long =
          same-right (with_state k sector y) states (cartridge_of bytes) (sym made ∙ is)
          (changed-right k x y new step f of (λ b told. t.right k b was (same ∙ told))
          (λ b told. x-is b (same ∙ told)) changes done becomes long bytes now)

-- a place on the same segment
pub segment-place : (o : Option ℕ) (segment sector : ℕ) → IsSomeAnd o (λ k. IsPlace k segment sector) →
    IsSomeAnd o (λ k. IsPlace k segment 0)
segment-place None segment sector place = place
segment-place (Some n) segment sector place = record { on_tape = place.on_tape; in_segment = omega arith }

-- a fact of each of the told bytes, at the sector's number
pub state-at : (x : SectorState) (l : Layout) (q r : ℕ) (new : Option (List ℕ)) → q ≡ r →
    ((bytes : List ℕ) → new ≡ Some bytes → x ≡ state_of (view_in l bytes r)) → IfSome new (λ bytes. x ≡ state_of (view_in l bytes q))
state-at x l q r None same each = tt
state-at x l q r (Some bytes) same each = each bytes refl ∙ ap (λ j. state_of (view_in l bytes j)) (sym same)

pub known-segment : (known : Option SegmentStates) (states : SegmentStates) (segment : ℕ) → known ≡ Some states → states.segment ≡ segment →
    IfSome known (λ k. k.segment ≡ segment)
known-segment None states segment is of = tt
known-segment (Some k) states segment is of = ap (λ (j : SegmentStates). j.segment) (same_Some k states is) ∙ of

-- the sectors that are chosen by the state bytes that were read are those of the plan
those-are : (segment : ℕ) (f : ℕ → Bool) (xs : List Bool) → length xs ≡ 32 → ((i : ℕ) → i < 32 → get_or xs i false ≡ f (32 * segment + i)) →
    xs ≡ those segment f
those-are segment f xs long each =
    same_lists _ _ (long ∙ sym (length-map-range_with_len f (32 * segment) 32)) (λ i d less.
    get_or_default xs i d false less ∙ each i (omega arith)
    ∙ sym (get_or-map-range_with_len f (32 * segment) 32 i (32 * segment + i) d (omega arith) refl))

pub chosen-planned : (told : Option (List ℕ)) (l : Layout) (segment : ℕ) (m : SegmentMarks) (readable usable unformed : List Bool)
    (bytes : List ℕ) → told ≡ Some bytes → end_of l ≤ length bytes
    → IfSome told (λ b. end_of l ≤ length b → AreMarks l segment b m) → length readable ≡ 32 → length usable ≡ 32 → length unformed ≡ 32
    → ((i : ℕ) → i < 32 → slice_index_or usable i false ≡ not (slice_index m.defects i == defect_byte))
    → ((i : ℕ) → i < 32 → slice_index_or readable i
    false ≡ (not (slice_index m.defects i == defect_byte) && (slice_index m.gates i == open_gate)))
    → ((i : ℕ) → i < 32 → slice_index_or unformed i false ≡ (not (slice_index m.defects i == defect_byte) && not
    (slice_index m.formed i == formed_byte)))
    → format_segment_steps l segment readable usable unformed ≡ format_plan l segment bytes
chosen-planned told l segment m readable usable unformed bytes is long fact rl ul nl us rs ns =
    let are : AreMarks l segment bytes m = told-fact told (λ b. end_of l ≤ length b → AreMarks l segment b m) bytes is fact long in
    let r = those-are segment (is_open l bytes) readable rl
    (λ i less. rs i less ∙ ap (λ d. not (d == defect_byte) && (slice_index m.gates i == open_gate)) (are.defects i less)
    ∙ ap (λ x. is_usable l bytes (32 * segment + i) && (x == open_gate)) (are.gates i less)) in
    let u = those-are segment (is_usable l bytes) usable ul (λ i less. us i less ∙ ap (λ d. not (d == defect_byte)) (are.defects i less)) in
    let f = those-are segment (is_unformed l bytes) unformed nl
    (λ i less. ns i less ∙ ap (λ d. not (d == defect_byte) && not (slice_index m.formed i == formed_byte)) (are.defects i less)
    ∙ ap (λ x. is_usable l bytes (32 * segment + i) && not (x == formed_byte)) (are.formed i less)) in
    ap (λ x. format_segment_steps l segment x usable unformed) r
    ∙ ap (λ x. format_segment_steps l segment (those segment (is_open l bytes)) x unformed) u
    ∙ ap (λ x. format_segment_steps l segment (those segment (is_open l bytes)) (those segment (is_usable l bytes)) x) f

-- the state bytes of a segment in cells that were read so far
pub record ReadSo (told : Option (List ℕ)) (l : Layout) (segment : ℕ) (gates formed defects : List ℕ) (count : ℕ) : Type 0 where
  pub gates_long : length gates ≡ 32
  pub formed_long : length formed ≡ 32
  pub defects_long : length defects ≡ 32
  pub gates_are : (i : ℕ) → i < count → IfSome told
      (λ b. end_of l ≤ length b → slice_index gates i ≡ slice_index b (place l GateByte (place_of segment i)))
  pub formed_are : (i : ℕ) → i < count →
      IfSome told (λ b. end_of l ≤ length b → slice_index formed i ≡ slice_index b (place l FormedByte (place_of segment i)))
  pub defects_are : (i : ℕ) → i < count →
      IfSome told (λ b. end_of l ≤ length b → slice_index defects i ≡ slice_index b (place l DefectByte (place_of segment i)))

pub read-none : (told : Option (List ℕ)) (l : Layout) (segment : ℕ) (gates formed defects : List ℕ) → length gates ≡ 32 →
    length formed ≡ 32 → length defects ≡ 32 → ReadSo told l segment gates formed defects 0
read-none told l segment gates formed defects a b c = record {
  gates_long = a;
  formed_long = b;
  defects_long = c;
  gates_are = λ i less. absurd (omega arith);
  formed_are = λ i less. absurd (omega arith);
  defects_are = λ i less. absurd (omega arith);
}

in-cell : (l : Layout) (q : ℕ) → touches l.kind ≡ false → (place l FormedByte q ≡ place l GateByte q + 1)
    × (place l DefectByte q ≡ place l GateByte q + 2)
in-cell l q cells = by_kind l.kind cells
  where
    by_kind : (kind : Kind) → touches kind ≡ false →
        (place_in kind l.segments_per_track FormedByte q ≡ place_in kind l.segments_per_track GateByte q + 1)
        × (place_in kind l.segments_per_track DefectByte q ≡ place_in kind l.segments_per_track GateByte q + 2)
    by_kind Planes is = cc
    by_kind Cells is = (refl, refl)
    by_kind CellsBehind is = (refl, refl)

-- one more of them
more_are : (told : Option (List ℕ)) (xs : List ℕ) (F : List ℕ → ℕ → ℕ) (long : List ℕ → Type 0) (x count : ℕ) → length xs ≡ 32 → count < 32
    → ((i : ℕ) → i < count → IfSome told (λ b. long b → slice_index xs i ≡ F b i)) → IfSome told (λ b. long b → x ≡ F b count)
    → (i : ℕ) → i < count + 1 → IfSome told (λ b. long b → slice_index (slice_set xs count x) i ≡ F b i)
more_are None xs F long x count size less are now i within = tt
more_are (Some b) xs F long x count size less are now i within = λ fits. ⊎_elim
    (λ earlier. get_or-set_other xs count i x 0 (λ e. omega arith) ∙ are i earlier fits)
    (λ last.
    let same : i ≡ count = omega arith in
    ap (λ j. slice_index (slice_set xs count x) j) same ∙ get_or-set_same xs count x 0 (omega arith) ∙ now fits ∙ ap (F b) (sym same))
    (cases_lt i count)

part-told : (told t1 : Option (List ℕ)) (l : Layout) (q p j at : ℕ) (part : List ℕ) → t1 ≡ told → p ≡ place l GateByte q →
    at ≡ place l GateByte q + j → j < 3 → touches l.kind ≡ false → q < sectors l.segments_per_track
    → IfSome t1 (λ b. p + 3 ≤ length b → part ≡ slice_range b p (p + 3)) →
    IfSome told (λ b. end_of l ≤ length b → slice_index part j ≡ slice_index b at)
part-told None t1 l q p j at part same here there few cells on fact = tt
part-told (Some b) t1 l q p j at part same here there few cells on fact = λ long.
    let d = (in-cell l q cells).1 in
    let e = (laid_out l).before DefectByte q on in
    part-index b part p at j 3 (told-fact t1 (λ c. p + 3 ≤ length c → part ≡ slice_range c p (p + 3)) b same fact (omega arith)) few
    (omega arith)

-- .. where all its bytes were read at once
pub cell-at : (l : Layout) (q : ℕ) → touches l.kind ≡ false → place l GateByte q ≡ base_of l.kind l.segments_per_track + cell_len * q
cell-at l q cells = by_kind l.kind cells
  where
    by_kind : (kind : Kind) → touches kind ≡ false →
        place_in kind l.segments_per_track GateByte q ≡ base_of kind l.segments_per_track + cell_len * q
    by_kind Planes is = cc
    by_kind Cells is = refl
    by_kind CellsBehind is = refl

pub cells-marks : (told : Option (List ℕ)) (l : Layout) (segment p : ℕ) (cells : List ℕ) (m : SegmentMarks) → touches l.kind ≡ false →
    segment < 28 * l.segments_per_track → p ≡ place l GateByte (32 * segment)
    → IfSome told (λ b. p + cells_len ≤ length b → cells ≡ slice_range b p (p + cells_len))
    → ((i : ℕ) → i < 32 → slice_index m.gates i ≡ slice_index cells (cell_len * i)) →
    ((i : ℕ) → i < 32 → slice_index m.formed i ≡ slice_index cells (cell_len * i + 1)) →
    ((i : ℕ) → i < 32 → slice_index m.defects i ≡ slice_index cells (cell_len * i + 2))
    → IfSome told (λ b. end_of l ≤ length b → AreMarks l segment b m)
cells-marks None l segment p cells m in_cells on here fact gates formed defects = tt
cells-marks (Some b) l segment p cells m in_cells on here fact gates formed defects = λ long.
    let first = cell-at l (32 * segment) in_cells in
    let is : cells ≡ slice_range b p (p + cells_len) = fact (omega arith) in
    record {
      gates = λ i less. let at = cell-at l (place_of segment i) in_cells in
          gates i less ∙ part-index b cells p (place l GateByte (place_of segment i)) (cell_len * i) cells_len is (omega arith)
          (omega arith);
      formed = λ i less. let at = cell-at l (place_of segment i) in_cells in let f = (in-cell l (place_of segment i) in_cells).0 in
          formed i less ∙ part-index b cells p (place l FormedByte (place_of segment i)) (cell_len * i + 1) cells_len is (omega arith)
          (omega arith);
      defects = λ i less. let at = cell-at l (place_of segment i) in_cells in let d = (in-cell l (place_of segment i) in_cells).1 in
          defects i less ∙ part-index b cells p (place l DefectByte (place_of segment i)) (cell_len * i + 2) cells_len is (omega arith)
          (omega arith);
    }

pub read-more : (told t1 : Option (List ℕ)) (l : Layout) (segment count p : ℕ) (gates formed defects part : List ℕ) → t1 ≡ told →
    touches l.kind ≡ false → segment < 28 * l.segments_per_track → count < 32 → p ≡ place l GateByte (32 * segment + count)
    → IfSome t1 (λ b. p + 3 ≤ length b → part ≡ slice_range b p (p + 3)) → ReadSo told l segment gates formed defects count
    → ReadSo told l segment (slice_set gates count (slice_index part 0)) (slice_set formed count (slice_index part 1))
    (slice_set defects count (slice_index part 2)) (count + 1)
read-more told t1 l segment count p gates formed defects part same cells on less here fact so =
    let q : ℕ = 32 * segment + count in
    let c = in-cell l (32 * segment + count) cells in
    let zero_at : place l GateByte (32 * segment + count) ≡ place l GateByte (32 * segment + count) + 0 = omega arith in
    record {
      gates_long = length-set _ _ _ ∙ so.gates_long;
      formed_long = length-set _ _ _ ∙ so.formed_long;
      defects_long = length-set _ _ _ ∙ so.defects_long;
      gates_are = more_are told gates (λ b i. slice_index b (place l GateByte (place_of segment i)))
          (λ b. end_of l ≤ length b) _ count so.gates_long less so.gates_are
          (part-told told t1 l (32 * segment + count) p 0 (place l GateByte (32 * segment + count)) part same here zero_at
          (omega arith) cells (omega arith) fact);
      formed_are = more_are told formed (λ b i. slice_index b (place l FormedByte (place_of segment i)))
          (λ b. end_of l ≤ length b) _ count so.formed_long less so.formed_are
          (part-told told t1 l (32 * segment + count) p 1 (place l FormedByte (32 * segment + count)) part same here c.0 (omega arith) cells
          (omega arith) fact);
      defects_are = more_are told defects (λ b i. slice_index b (place l DefectByte (place_of segment i)))
          (λ b. end_of l ≤ length b) _ count so.defects_long less so.defects_are
          (part-told told t1 l (32 * segment + count) p 2 (place l DefectByte (32 * segment + count)) part same here c.1 (omega arith) cells
          (omega arith) fact);
    }

pub read-all : (told : Option (List ℕ)) (l : Layout) (segment count : ℕ) (m : SegmentMarks) → count ≡ 32 →
    ReadSo told l segment m.gates m.formed m.defects count → IfSome told (λ b. end_of l ≤ length b → AreMarks l segment b m)
read-all None l segment count m all so = tt
read-all (Some b) l segment count m all so = λ long. record {
  gates = λ i less. so.gates_are i (omega arith) long;
  formed = λ i less. so.formed_are i (omega arith) long;
  defects = λ i less. so.defects_are i (omega arith) long;
}
