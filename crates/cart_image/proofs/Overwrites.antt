-- What the writes of several sectors of a segment make of the cartridge, at the end and in a crash.
use Rattle.std.proofs.Common.{◌≡◌, ◌≢◌, ℕ, zero, suc, ◌+◌, ◌*◌, ◌-◌, ◌<◌, ◌≤◌, ◌⊎◌, inl, inr, Bool, true, false, List, [], ◌∷◌, ◌++◌}
use Rattle.std.proofs.Common.{length, get_or, refl, sym, ◌∙◌, ap, arith, Option, Some, subst}
use Rattle.std.specs.Prelude.{slice_index_or, ◌==◌, ◌&&◌}
use Rattle.std.specs.List.{flat_map}
use Rattle.std.proofs.lemmas.List.{same_lists, get_or_default, length-append, get_or_append_left, get_or-append_right}
use Rattle.std.proofs.lemmas.List.Edits.{length-between, get_or-between}
use Rattle.std.proofs.lemmas.List.FromFn.{length-map-range_with_len, get_or-map-range_with_len}
use Rattle.qic_base.specs.declared.tape.SectorView.{SectorView}
use Rattle.qic_base.specs.declared.tape.SectorView.TheVariants.{Blank, Holds}
use Rattle.qic_base.specs.Cartridge.{Cartridge}
use Rattle.qic_base.specs.CartridgeTerms.{is_lost, place_of}
use Rattle.qic_base.specs.Disk.{DiskStep}
use Rattle.qic_base.specs.Step.{Step, WriteSectors, written_view, ClosingView, AreClosing, AreOpening, Halfway, Torn, effects}
use Rattle.qic_base.specs.TapeCalls.{is_readable, is_blank, AreBlank, chosen}
use Rattle.cart_image.specs.declared.layout.Head.{Head}
use Rattle.cart_image.specs.declared.layout.Layout.{Layout}
use Rattle.cart_image.specs.declared.layout.Part.TheVariants.{GateByte, FormedByte, Data}
use Rattle.cart_image.specs.declared.reading.SectorState.{SectorState}
use Rattle.cart_image.specs.declared.reading.SectorState.TheVariants as state
use Rattle.cart_image.specs.Layout.{sectors, width, place, end_of, open_gate, formed_byte, closed_gate, synced, fill_writes, even}
use Rattle.cart_image.specs.Several.{takes_write}
use Rattle.cart_image.specs.Layout.{chosen_by, overwrite_all, write_sectors_steps}
use Rattle.cart_image.specs.Image.{head_of, view_in, views_in, segment_views, sector_bytes, read_as, cartridge_of}
use Rattle.cart_image.specs.Run.{after_steps, Crashed}
use Rattle.cart_image.specs.Several.{AreSectors}
use Rattle.cart_image.specs.State.{state_of, AreStatesOf}
use Rattle.cart_image.specs.Whole.{cartridge_of-read, length-views}
use Rattle.cart_image.proofs.Carries.{Means}
use Rattle.cart_image.proofs.EachSector.{TakingView, WhereWritten, BecameOf, closing-became, opening-became, written-became}
use Rattle.cart_image.proofs.EachSector.{chosen-lie, chosen-became}
use Rattle.cart_image.proofs.Fills.{OffChosen, fill-kept, fill-value, fill-crash, length-even, get_or-even}
use Rattle.cart_image.proofs.Layouts.{laid_out}
use Rattle.cart_image.proofs.Stages.{shown, bad_in, formed_in, open_in, closing, closed, Stage, Stage-all, byte-spared, data-spared}
use Rattle.cart_image.proofs.Stages.{next-stage}
use Rattle.cart_image.proofs.Stages.{became, shows, end-at}
use Rattle.cart_image.proofs.Writes.{SameAt, after-both, after-synced, Crashed-synced}

-- ---- sectors joined

abbrev pub joined : List (List ℕ) → List ℕ
joined others = flat_map (λ bytes. bytes) others

other_sectors : (sector : List ℕ) (others : List (List ℕ))
    → ((q : ℕ) → q < length (sector ∷ others) → length (get_or (sector ∷ others) q []) ≡ 1024) →
    (q : ℕ) → q < length others → length (get_or others q []) ≡ 1024
other_sectors sector others each q within = each (suc q) (omega arith)

length-joined : (others : List (List ℕ)) → ((q : ℕ) → q < length others → length (get_or others q []) ≡ 1024) →
    length (joined others) ≡ 1024 * length others
length-joined [] each = refl
length-joined (sector ∷ others) each =
    let one = each zero (omega arith) in
    let rest = length-joined others (other_sectors sector others each) in
    length-append sector (joined others) ∙ (omega arith)

-- a byte of a sector among the joined ones
pub byte_at : (others : List (List ℕ)) (q j : ℕ) → ((k : ℕ) → k < length others → length (get_or others k []) ≡ 1024) → q < length others →
    j < 1024 → get_or (joined others) (1024 * q + j) 0 ≡ get_or (get_or others q []) j 0
byte_at [] q j each within small = absurd (omega arith)
byte_at (sector ∷ others) zero j each within small =
    let one = each zero (omega arith) in
    let here : 1024 * zero + j ≡ j = omega arith in
    ap (λ n. get_or (sector ++ joined others) n 0) here ∙ get_or_append_left sector (joined others) 0 j (omega arith)
byte_at (sector ∷ others) (suc q) j each within small =
    let one = each zero (omega arith) in
    let there : 1024 * suc q + j - 1024 ≡ 1024 * q + j = omega arith in
    get_or-append_right sector (joined others) 1024 (1024 * suc q + j) 0 one (omega arith)
    ∙ ap (λ n. get_or (joined others) n 0) there
    ∙ byte_at others q j (other_sectors sector others each) (omega arith) small

pub sizes : (from : List (List ℕ)) → AreSectors from → (i : ℕ) → i < length from → length (get_or from i []) ≡ 1024
sizes from are i less = let n = are.count in are.each i (omega arith)

pub length-sectors : (from : List (List ℕ)) → AreSectors from → length (joined from) ≡ width Data * 32
length-sectors from are = length-joined from (sizes from are) ∙ (let n = are.count in omega arith)

-- ---- what a sector shows

-- bytes put behind a closed gate, which is torn while it is opened
taking : (bad formed was now : Bool) (s t from : List ℕ) → (bad ≡ false → formed ≡ true → t ≡ from) →
    TakingView from (shown bad formed was s) (shown bad formed now t)
taking true formed was now s t from new = refl
taking false false was now s t from new = refl
taking false true true true s t from new = inr (ap Holds (new refl refl))
taking false true true false s t from new = inl refl
taking false true false true s t from new = inr (ap Holds (new refl refl))
taking false true false false s t from new = inl refl

taken-view : (bad formed was now : Bool) (s t from : List ℕ) → (bad ≡ false → formed ≡ true → now ≡ true) →
    (bad ≡ false → formed ≡ true → t ≡ from) → shown bad formed now t ≡ written_view from (shown bad formed was s)
taken-view true formed was now s t from opened new = refl
taken-view false false was now s t from opened new = refl
taken-view false true was false s t from opened new = let e = opened refl refl in cc
taken-view false true true true s t from opened new = ap Holds (new refl refl)
taken-view false true false true s t from opened new = ap Holds (new refl refl)

shown-same : (bad formed formed' was was' : Bool) (s s' : List ℕ) → formed ≡ formed' → was ≡ was' → s ≡ s' →
    shown bad formed was s ≡ shown bad formed' was' s'
shown-same bad formed formed' was was' s s' p q r = rw (p, q, r) refl

readable-open : (bad formed opens : Bool) (s : List ℕ) → bad ≡ false → formed ≡ true → opens ≡ true →
    is_readable (shown bad formed opens s) ≡ true
readable-open true formed opens s p q r = cc
readable-open false false opens s p q r = cc
readable-open false true true s p q r = refl
readable-open false true false s p q r = cc

readable-shut : (bad formed opens : Bool) (s : List ℕ) → opens ≡ false → is_readable (shown bad formed opens s) ≡ false
readable-shut true formed opens s r = refl
readable-shut false false opens s r = refl
readable-shut false true true s r = cc
readable-shut false true false s r = refl

takes-formed : (bad formed opens : Bool) (s : List ℕ) → bad ≡ false → formed ≡ true → takes_write (shown bad formed opens s) ≡ true
takes-formed true formed opens s p q = cc
takes-formed false false opens s p q = cc
takes-formed false true true s p q = refl
takes-formed false true false s p q = refl

-- ---- the choice

pub length-chosen : (written : ℕ) (views : List SectorView) (f : SectorView → Bool) → length (chosen_by written views f) ≡ 32
length-chosen written views f = length-map-range_with_len (λ i. is_lost written i && f (slice_index_or views i Blank)) 0 32

pub get_or-chosen : (written : ℕ) (views : List SectorView) (f : SectorView → Bool) (i : ℕ) → i < 32 →
    get_or (chosen_by written views f) i false ≡ (is_lost written i && f (slice_index_or views i Blank))
get_or-chosen written views f i less =
    get_or-map-range_with_len (λ i. is_lost written i && f (slice_index_or views i Blank)) 0 32 i i false less (omega arith)

pub get_or-segment_views : (l : Layout) (segment : ℕ) (bytes : List ℕ) (i : ℕ) → i < 32 →
    slice_index_or (segment_views l segment bytes) i Blank ≡ view_in l bytes (32 * segment + i)
unfolding segment_views
get_or-segment_views l segment bytes i less =
    get_or-map-range_with_len (view_in l bytes) (32 * segment) 32 i (32 * segment + i) Blank less refl

-- those that are chosen by the states of the sectors are those of their views
pub chosen-are : (l : Layout) (segment : ℕ) (bytes : List ℕ) (written : ℕ) (states : List SectorState) (f : SectorView → Bool)
    (xs : List Bool) → length xs ≡ 32 → AreStatesOf l segment written bytes states
    → ((view : SectorView) (i : ℕ) → i < 32 → (is_lost written i ≡ true → slice_index_or states i state.Blank ≡ state_of view) →
    slice_index_or xs i false ≡ (is_lost written i && f view)) → xs ≡ chosen_by written (segment_views l segment bytes) f
chosen-are l segment bytes written states f xs long are each =
    let views : List SectorView = segment_views l segment bytes in
    let n = length-chosen written views f in
    same_lists _ _ (long ∙ sym n) (λ i d less.
    let i_less : i < 32 = omega arith in
    get_or_default xs i d false less ∙ each (view_in l bytes (32 * segment + i)) i i_less (λ bit. are i i_less bit)
    ∙ sym (get_or-chosen written views f i i_less ∙ ap (λ v. is_lost written i && f v) (get_or-segment_views l segment bytes i i_less))
    ∙ get_or_default (chosen_by written views f) i false d (omega arith))

pub overwrite-planned : (l : Layout) (segment : ℕ) (bytes : List ℕ) (written : ℕ) (from : List (List ℕ)) (closes takes : List Bool) →
    closes ≡ chosen_by written (segment_views l segment bytes) is_readable
    → takes ≡ chosen_by written (segment_views l segment bytes) takes_write →
    overwrite_all l segment from closes takes ≡ write_sectors_steps l segment written from (segment_views l segment bytes)
overwrite-planned l segment bytes written from closes takes c t =
    ap (λ xs. overwrite_all l segment from xs takes) c
    ∙ ap (λ xs. overwrite_all l segment from (chosen_by written (segment_views l segment bytes) is_readable) xs) t

-- the set of those that were never formatted
pub blank-are : (l : Layout) (segment : ℕ) (bytes : List ℕ) (written : ℕ) (states : List SectorState) (blank : ℕ) →
    AreStatesOf l segment written bytes states
    → ((view : SectorView) (i : ℕ) → i < 32 → (is_lost written i ≡ true → slice_index_or states i state.Blank ≡ state_of view) →
    is_lost blank i ≡ (is_lost written i && is_blank view)) →
    AreBlank written blank (λ i. view_in l bytes (place_of segment i))
blank-are l segment bytes written states blank are each i less =
    each (view_in l bytes (32 * segment + i)) i less (λ bit. are i less bit)

not-chosen : (chosen : List Bool) (first i : ℕ) → get_or chosen i false ≡ false → (j : ℕ) → get_or chosen j false ≡ true →
    first + j ≢ first + i
not-chosen chosen first i out j picked e =
    let same : j ≡ i = omega arith in
    let a : get_or chosen i false ≡ true = ap (λ k. get_or chosen k false) (sym same) ∙ picked in cc

module _ (h : Head) (bytes : List ℕ) (segment : ℕ) (is : head_of bytes ≡ Some h) (whole : end_of h.layout ≤ length bytes)
    (on : segment < 28 * h.layout.segments_per_track) (written : ℕ) (from : List (List ℕ)) (are : AreSectors from) where
  abbrev l : Layout
  l = h.layout

  abbrev first : ℕ
  first = 32 * segment

  within : first + 32 ≤ sectors l.segments_per_track
  within = omega arith

  -- the step of the call
  abbrev step : Step
  step = WriteSectors segment (chosen written from)

  abbrev views : List SectorView
  views = segment_views l segment bytes

  abbrev closes : List Bool
  closes = chosen_by written views is_readable

  abbrev takes : List Bool
  takes = chosen_by written views takes_write

  abbrev values : List ℕ
  values = joined from

  length-values : length values ≡ width Data * 32
  length-values = length-sectors from are

  abbrev bad : ℕ → Bool
  bad i = bad_in l bytes (first + i)

  abbrev formed : List ℕ → ℕ → Bool
  formed s i = formed_in l s (first + i)

  abbrev opened : List ℕ → ℕ → Bool
  opened s i = open_in l s (first + i)

  abbrev held : List ℕ → ℕ → List ℕ
  held s i = sector_bytes l s (first + i)

  staged : Stage l first bytes bytes
  staged = Stage-all l first bytes

  shows_in : (s : List ℕ) → Stage l first bytes s → (i : ℕ) → i < 32 → view_in l s (first + i) ≡ shown (bad i) (formed s i) (opened s i)
      (held s i)
  shows_in = shows h bytes segment is whole on

  ends-at : (s : List ℕ) → Stage l first bytes s → end_of l ≤ length s
  ends-at = end-at h bytes segment is whole on

  chosen-at : (f : SectorView → Bool) (i : ℕ) → i < 32 → get_or (chosen_by written views f) i false ≡ (is_lost written i && f
      (shown (bad i) (formed bytes i) (opened bytes i) (held bytes i)))
  chosen-at f i less =
      get_or-chosen written views f i less
      ∙ ap (λ v. is_lost written i && f v) (get_or-segment_views l segment bytes i less ∙ shows_in bytes staged i less)

  -- one that is not to be written is not chosen
  unwritten : (f : SectorView → Bool) (i : ℕ) → i < 32 → is_lost written i ≡ false → get_or (chosen_by written views f) i false ≡ false
  unwritten f i less out =
      chosen-at f i less ∙ ap (λ b. b && f (shown (bad i) (formed bytes i) (opened bytes i) (held bytes i))) out

  -- .. and one that is, by its view
  picked : (f : SectorView → Bool) (i : ℕ) (b : Bool) → i < 32 → is_lost written i ≡ true →
      f (shown (bad i) (formed bytes i) (opened bytes i) (held bytes i)) ≡ b → get_or (chosen_by written views f) i false ≡ b
  picked f i b less in_set is_so =
      chosen-at f i less ∙ ap (λ b. b && f (shown (bad i) (formed bytes i) (opened bytes i) (held bytes i))) in_set ∙ is_so

  few : (f : SectorView → Bool) → length (chosen_by written views f) ≤ 32
  few f = let n = length-chosen written views f in omega arith

  half : (left : List ℕ) → Stage l first bytes left
      → (AreClosing segment (chosen written from) (read_as h bytes) (read_as h left)
      ⊎ AreOpening segment (chosen written from) (read_as h bytes) (read_as h left))
      → Torn (step ∷ []) (cartridge_of bytes) (cartridge_of left)
  half left stage halves =
      let P : Option Cartridge → Type 0 = λ c. Halfway step c (cartridge_of left) in
      let Q : Option Cartridge → Type 0 = λ c. Halfway step (Some (read_as h bytes)) c in
      inr (inl (subst P (sym (cartridge_of-read bytes h is)) (subst Q (sym (cartridge_of-read left h (stage.head ∙ is))) halves)))

  long : 32 * segment + 32 ≤ length (views_in l bytes)
  long = let n = length-views l bytes in omega arith

  -- what became of each sector, where those that are not written stayed
  each-became : (Became : List ℕ → SectorView → SectorView → Type 0) (left : List ℕ) → Stage l first bytes left
      → ((i : ℕ) → i < 32 → is_lost written i ≡ false → shown (bad i) (formed left i) (opened left i) (held left i) ≡ shown
      (bad i) (formed bytes i) (opened bytes i) (held bytes i))
      → ((i : ℕ) → i < 32 → is_lost written i ≡ true → Became (get_or from i [])
      (shown (bad i) (formed bytes i) (opened bytes i) (held bytes i)) (shown (bad i) (formed left i) (opened left i) (held left i)))
      → BecameOf Became segment (chosen written from) (read_as h bytes) (read_as h left)
  each-became Became left stage same each =
      chosen-became Became segment written from (read_as h bytes) (read_as h left) long
      (became h bytes segment is whole on (λ i. WhereWritten (is_lost written i) (Became (get_or from i []))) left stage (λ i less.
      let P : SectorView → Type 0 = λ u. WhereWritten (is_lost written i) (Became (get_or from i [])) u (view_in l left (first + i)) in
      let Q : SectorView → Type 0 = λ u. WhereWritten (is_lost written i) (Became (get_or from i []))
      (shown (bad i) (formed bytes i) (opened bytes i) (held bytes i)) u in
      subst P (sym (shows_in bytes staged i less)) (subst Q (sym (shows_in left stage i less)) (by_bit i less (is_lost written i) refl))))
    where
      by_bit : (i : ℕ) → i < 32 → (b : Bool) → is_lost written i ≡ b → WhereWritten b (Became (get_or from i []))
          (shown (bad i) (formed bytes i) (opened bytes i) (held bytes i)) (shown (bad i) (formed left i) (opened left i) (held left i))
      by_bit i less true bit = each i less bit
      by_bit i less false bit = same i less bit

  -- ---- the gates are closed
  abbrev b1 : List ℕ
  b1 = after_steps (fill_writes l GateByte (even GateByte closed_gate) first 0 closes 0) bytes

  module _ (left : List ℕ) (kept : SameAt (OffChosen l GateByte first closes) bytes left) where
    gates-stage : Stage l first bytes left
    gates-stage = next-stage l GateByte first closes bytes left (length-chosen written views is_readable) within whole kept bytes
        (λ e. cc) staged

    gates-formed : (i : ℕ) → i < 32 → formed left i ≡ formed bytes i
    gates-formed i less = ap (λ b. b == formed_byte)
        (byte-spared l GateByte first closes bytes left (length-chosen written views is_readable) within whole kept FormedByte (first + i)
        (omega arith) (inl (λ e. cc)))

    gates-data : (i : ℕ) → i < 32 → held left i ≡ held bytes i
    gates-data i less = data-spared l GateByte first closes bytes left (length-chosen written views is_readable) within whole kept
        (first + i) (omega arith) (inl (λ e. cc))

    gates-same : (i : ℕ) → i < 32 → get_or closes i false ≡ false → opened left i ≡ opened bytes i
    gates-same i less out =
        ap (λ b. b == open_gate) (byte-spared l GateByte first closes bytes left
        (length-chosen written views is_readable) within whole kept GateByte (first + i) (omega arith)
        (inr (not-chosen closes first i out)))

    gates-torn : Torn (step ∷ []) (cartridge_of bytes) (cartridge_of left)
    gates-torn = half left gates-stage (inl (closing-became segment (chosen written from) (read_as h bytes) (read_as h left)
        (chosen-lie segment written from (read_as h bytes) long) (each-became (λ from. ClosingView) left gates-stage
        (λ i less out. shown-same (bad i) _ _ _ _ _ _ (gates-formed i less) (gates-same i less (unwritten is_readable i less out))
        (gates-data i less))
        (λ i less bit.
        let P : Bool → Type 0 = λ f. ClosingView (shown (bad i) (formed bytes i) (opened bytes i) (held bytes i))
        (shown (bad i) f (opened left i) (held left i)) in
        subst P (sym (gates-formed i less))
        (closing (bad i) (formed bytes i) (opened bytes i) (opened left i) (held bytes i) (held left i)
        (λ was. gates-same i less (picked is_readable i false less bit (readable-shut (bad i) (formed bytes i) (opened bytes i)
        (held bytes i) was))
        ∙ was)
        (gates-data i less))))))

  kept1 : SameAt (OffChosen l GateByte first closes) bytes b1
  kept1 = fill-kept l GateByte (even GateByte closed_gate) (length bytes) whole first (length-even GateByte closed_gate) within closes
      (few is_readable) bytes refl

  stage1 : Stage l first bytes b1
  stage1 = gates-stage b1 kept1

  end1 : end_of l ≤ length b1
  end1 = ends-at b1 stage1

  shut1 : (i : ℕ) → i < 32 → is_lost written i ≡ true → bad i ≡ false → formed bytes i ≡ true → opened b1 i ≡ false
  shut1 i less bit good formed_is = by_gate (opened bytes i) refl
    where
      by_gate : (o : Bool) → opened bytes i ≡ o → opened b1 i ≡ false
      by_gate true was = ap (λ b. b == open_gate)
          (fill-value l GateByte (even GateByte closed_gate) (length bytes) whole first (length-even GateByte closed_gate) within closes
          (few is_readable) bytes refl i less
          (picked is_readable i true less bit (readable-open (bad i) (formed bytes i) (opened bytes i) (held bytes i) good formed_is was))
          (place l GateByte (first + i)) (omega arith) (omega arith)
          ∙ get_or-even GateByte closed_gate _ (omega arith))
      by_gate false was =
          gates-same b1 kept1 i less
          (picked is_readable i false less bit (readable-shut (bad i) (formed bytes i) (opened bytes i) (held bytes i) was)) ∙ was

  -- ---- the bytes are written
  abbrev b2 : List ℕ
  b2 = after_steps (fill_writes l Data values first 0 takes 0) b1

  module _ (left : List ℕ) (kept : SameAt (OffChosen l Data first takes) b1 left) where
    data-stage : Stage l first bytes left
    data-stage = next-stage l Data first takes b1 left (length-chosen written views takes_write) within end1 kept bytes (λ e. cc) stage1

    data-formed : (i : ℕ) → i < 32 → formed left i ≡ formed bytes i
    data-formed i less = ap (λ b. b == formed_byte)
        (byte-spared l Data first takes b1 left (length-chosen written views takes_write) within end1 kept FormedByte (first + i)
        (omega arith) (inl (λ e. cc))) ∙ gates-formed b1 kept1 i less

    data-gates : (i : ℕ) → i < 32 → opened left i ≡ opened b1 i
    data-gates i less = ap (λ b. b == open_gate)
        (byte-spared l Data first takes b1 left (length-chosen written views takes_write) within end1 kept GateByte (first + i)
        (omega arith) (inl (λ e. cc)))

    data-same : (i : ℕ) → i < 32 → get_or takes i false ≡ false → held left i ≡ held bytes i
    data-same i less out = data-spared l Data first takes b1 left (length-chosen written views takes_write) within end1 kept
        (first + i) (omega arith) (inr (not-chosen takes first i out)) ∙ gates-data b1 kept1 i less

    data-torn : Torn (step ∷ []) (cartridge_of bytes) (cartridge_of left)
    data-torn = half left data-stage (inl (closing-became segment (chosen written from) (read_as h bytes) (read_as h left)
        (chosen-lie segment written from (read_as h bytes) long) (each-became (λ from. ClosingView) left data-stage
        (λ i less out. shown-same (bad i) _ _ _ _ _ _ (data-formed i less)
        (data-gates i less ∙ gates-same b1 kept1 i less (unwritten is_readable i less out))
        (data-same i less (unwritten takes_write i less out)))
        (λ i less bit.
        let P : Bool → Type 0 = λ f. ClosingView (shown (bad i) (formed bytes i) (opened bytes i) (held bytes i))
        (shown (bad i) f (opened left i) (held left i)) in
        subst P (sym (data-formed i less))
        (closed (bad i) (formed bytes i) (opened bytes i) (opened left i) (held bytes i) (held left i)
        (λ good formed_is. data-gates i less ∙ shut1 i less bit good formed_is))))))

  kept2 : SameAt (OffChosen l Data first takes) b1 b2
  kept2 = fill-kept l Data values (length b1) end1 first length-values within takes (few takes_write) b1 refl

  stage2 : Stage l first bytes b2
  stage2 = data-stage b2 kept2

  end2 : end_of l ≤ length b2
  end2 = ends-at b2 stage2

  put2 : (i : ℕ) → i < 32 → get_or takes i false ≡ true → held b2 i ≡ get_or from i []
  put2 i less picked_is =
      let e = end2 in
      let c = are.count in
      let one = are.each i less in
      let b = (laid_out l).before Data (first + i) (omega arith) in
      let n = length-between b2 (place l Data (first + i)) (place l Data (first + i) + 1024) (omega arith) in
      let size : length (held b2 i) ≡ 1024 =
      n ∙ (let e : place l Data (first + i) + 1024 - place l Data (first + i) ≡ 1024 = omega arith in e) in
      same_lists _ _ (size ∙ sym one) (λ k d inside.
      let k_less : k < 1024 = omega arith in
      let there : 1024 * i + (place l Data (first + i) + k - place l Data (first + i)) ≡ 1024 * i + k = omega arith in
      get_or-between b2 (place l Data (first + i)) (place l Data (first + i) + 1024) k d (omega arith)
      ∙ get_or_default b2 (place l Data (first + i) + k) d 0 (omega arith)
      ∙ fill-value l Data values (length b1) end1 first length-values within takes (few takes_write) b1 refl i less picked_is
      (place l Data (first + i) + k) (omega arith) (omega arith)
      ∙ ap (λ j. get_or values j 0) there
      ∙ byte_at from i k (sizes from are) (omega arith) k_less
      ∙ get_or_default (get_or from i []) k 0 d (omega arith))

  -- ---- the gates are opened
  abbrev b3 : List ℕ
  b3 = after_steps (fill_writes l GateByte (even GateByte open_gate) first 0 takes 0) b2

  module _ (left : List ℕ) (kept : SameAt (OffChosen l GateByte first takes) b2 left) where
    open-stage : Stage l first bytes left
    open-stage = next-stage l GateByte first takes b2 left (length-chosen written views takes_write) within end2 kept bytes (λ e. cc) stage2

    open-formed : (i : ℕ) → i < 32 → formed left i ≡ formed bytes i
    open-formed i less = ap (λ b. b == formed_byte)
        (byte-spared l GateByte first takes b2 left (length-chosen written views takes_write) within end2 kept FormedByte (first + i)
        (omega arith) (inl (λ e. cc))) ∙ data-formed b2 kept2 i less

    open-data : (i : ℕ) → i < 32 → held left i ≡ held b2 i
    open-data i less = data-spared l GateByte first takes b2 left (length-chosen written views takes_write) within end2 kept
        (first + i) (omega arith) (inl (λ e. cc))

    open-same : (i : ℕ) → i < 32 → get_or takes i false ≡ false → opened left i ≡ opened b1 i
    open-same i less out =
        ap (λ b. b == open_gate) (byte-spared l GateByte first takes b2 left
        (length-chosen written views takes_write) within end2 kept GateByte (first + i) (omega arith)
        (inr (not-chosen takes first i out))) ∙ data-gates b2 kept2 i less

    -- the bytes of one that takes them
    open-put : (i : ℕ) → i < 32 → is_lost written i ≡ true → bad i ≡ false → formed bytes i ≡ true → held left i ≡ get_or from i []
    open-put i less bit good formed_is =
        open-data i less
        ∙ put2 i less (picked takes_write i true less bit (takes-formed (bad i) (formed bytes i) (opened bytes i) (held bytes i) good
        formed_is))

    -- one that is not written
    open-unwritten : (i : ℕ) → i < 32 → is_lost written i ≡ false → shown (bad i) (formed left i) (opened left i) (held left i) ≡ shown
        (bad i) (formed bytes i) (opened bytes i) (held bytes i)
    open-unwritten i less out =
        shown-same (bad i) _ _ _ _ _ _ (open-formed i less)
        (open-same i less (unwritten takes_write i less out) ∙ gates-same b1 kept1 i less (unwritten is_readable i less out))
        (open-data i less ∙ data-same b2 kept2 i less (unwritten takes_write i less out))

    open-torn : Torn (step ∷ []) (cartridge_of bytes) (cartridge_of left)
    open-torn = half left open-stage (inr (opening-became segment (chosen written from) (read_as h bytes) (read_as h left)
        (chosen-lie segment written from (read_as h bytes) long) (each-became TakingView left open-stage open-unwritten
        (λ i less bit.
        let P : Bool → Type 0 = λ f. TakingView (get_or from i []) (shown (bad i) (formed bytes i) (opened bytes i) (held bytes i))
        (shown (bad i) f (opened left i) (held left i)) in
        subst P (sym (open-formed i less))
        (taking (bad i) (formed bytes i) (opened bytes i) (opened left i) (held bytes i) (held left i) (get_or from i [])
        (open-put i less bit))))))

  kept3 : SameAt (OffChosen l GateByte first takes) b2 b3
  kept3 = fill-kept l GateByte (even GateByte open_gate) (length b2) end2 first (length-even GateByte open_gate) within takes
      (few takes_write) b2 refl

  stage3 : Stage l first bytes b3
  stage3 = open-stage b3 kept3

  opened3 : (i : ℕ) → i < 32 → is_lost written i ≡ true → bad i ≡ false → formed bytes i ≡ true → opened b3 i ≡ true
  opened3 i less bit good formed_is = ap (λ b. b == open_gate)
      (fill-value l GateByte (even GateByte open_gate) (length b2) end2 first (length-even GateByte open_gate) within takes
      (few takes_write) b2 refl i less
      (picked takes_write i true less bit (takes-formed (bad i) (formed bytes i) (opened bytes i) (held bytes i) good formed_is))
      (place l GateByte (first + i)) (omega arith) (omega arith)
      ∙ get_or-even GateByte open_gate _ (omega arith))

  -- ---- in the end
  written3 : cartridge_of b3 ≡ effects (step ∷ []) (cartridge_of bytes)
  written3 =
      cartridge_of-read b3 h (stage3.head ∙ is)
      ∙ ap Some (sym (written-became segment (chosen written from) (read_as h bytes) (read_as h b3)
      (chosen-lie segment written from (read_as h bytes) long)
      (each-became (λ from old now. now ≡ written_view from old) b3 stage3 (open-unwritten b3 kept3) (λ i less bit.
      ap (λ f. shown (bad i) f (opened b3 i) (held b3 i)) (open-formed b3 kept3 i less)
      ∙ taken-view (bad i) (formed bytes i) (opened bytes i) (opened b3 i) (held bytes i) (held b3 i) (get_or from i [])
      (opened3 i less bit) (open-put b3 kept3 i less bit)))))
      ∙ sym (ap (effects (step ∷ [])) (cartridge_of-read bytes h is))

  abbrev f1 : List DiskStep
  f1 = fill_writes l GateByte (even GateByte closed_gate) first 0 closes 0

  abbrev f2 : List DiskStep
  f2 = fill_writes l Data values first 0 takes 0

  abbrev f3 : List DiskStep
  f3 = fill_writes l GateByte (even GateByte open_gate) first 0 takes 0

  abbrev run : List DiskStep
  run = synced f1 ++ (synced f2 ++ synced f3)

  -- the call writes these sectors, and a crash in it leaves what a stop of it leaves
  pub write_sectors-means : Means (write_sectors_steps l segment written from views) (step ∷ []) bytes
  unfolding overwrite_all
  write_sectors-means = record { done = ap cartridge_of ran ∙ written3; torn = torn }
    where
      ran : after_steps run bytes ≡ b3
      ran =
          after-both (synced f1) (synced f2 ++ synced f3) bytes ∙ ap (after_steps (synced f2 ++ synced f3)) (after-synced f1 bytes)
          ∙ after-both (synced f2) (synced f3) b1 ∙ ap (after_steps (synced f3)) (after-synced f2 b1)
          ∙ after-synced f3 b2

      torn : (left : List ℕ) → Crashed (λ b. b ≡ bytes) bytes run left → Torn (step ∷ []) (cartridge_of bytes) (cartridge_of left)
      torn left crashed =
          elim (Crashed-synced f1 (synced f2 ++ synced f3) bytes left crashed) [
            | inl in1 ↦ gates-torn left (fill-crash l GateByte (even GateByte closed_gate) (length bytes) whole first
                (length-even GateByte closed_gate) within closes (few is_readable) bytes left refl in1)
            | inr later1 ↦ elim (Crashed-synced f2 (synced f3) b1 left later1) [
              | inl in2 ↦ data-torn left (fill-crash l Data values (length b1) end1 first length-values within takes (few takes_write) b1
                  left refl in2)
              | inr in3 ↦ open-torn left (fill-crash l GateByte (even GateByte open_gate) (length b2) end2 first
                  (length-even GateByte open_gate) within takes (few takes_write) b2 left refl in3)
            ]
          ]
