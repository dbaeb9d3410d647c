-- What the writes of a segment's formatting make of the cartridge, at the end and in a crash.
use Rattle.std.proofs.Common.{◌≡◌, ◌≢◌, ℕ, ◌+◌, ◌*◌, ◌-◌, ◌<◌, ◌≤◌, ◌⊎◌, inl, inr, Bool, true, false, List, [], ◌∷◌, ◌++◌, length}
use Rattle.std.proofs.Common.{get_or, take, drop, map, refl, sym, ◌∙◌, ap, arith, Option, Some, subst}
use Rattle.std.specs.Prelude.{slice_index, ◌==◌, ◌&&◌, not}
use Rattle.std.proofs.lemmas.List.{same_lists, length-replicate, get_or-replicate, get_or-map, length-map, get_or_default}
use Rattle.std.proofs.lemmas.List.{length-take-le, length-drop, get_or-take, get_or-drop}
use Rattle.std.proofs.lemmas.List.Edits.{length-between, get_or-between}
use Rattle.std.proofs.lemmas.List.FromFn.{length-map-range_with_len, get_or-map-range_with_len}
use Rattle.qic_base.specs.declared.tape.SectorView.{SectorView}
use Rattle.qic_base.specs.declared.tape.SectorView.TheVariants.{Holds}
use Rattle.qic_base.specs.Cartridge.{Cartridge, zero_sector}
use Rattle.qic_base.specs.Disk.{DiskStep}
use Rattle.qic_base.specs.Step.{FormatSegment, effect, formatted_view, Torn, ClosingView, OpeningView, SegmentBecame}
use Rattle.qic_base.specs.CartridgeTerms.{HalfFormatted}
use Rattle.cart_image.specs.declared.layout.Head.{Head}
use Rattle.cart_image.specs.declared.layout.Layout.{Layout}
use Rattle.cart_image.specs.declared.layout.Part.{Part}
use Rattle.cart_image.specs.declared.layout.Part.TheVariants.{GateByte, FormedByte, DefectByte, Data}
use Rattle.cart_image.specs.Layout.{sectors, width, place, end_of, open_gate, closed_gate, formed_byte, defect_byte, synced}
use Rattle.cart_image.specs.Layout.{fill_writes, even, those, is_usable, is_open, is_unformed, format_segment_steps}
use Rattle.cart_image.specs.Image.{head_of, view_in, views_in, sector_bytes, read_as, cartridge_of}
use Rattle.cart_image.specs.Run.{after_steps, Crashed}
use Rattle.cart_image.specs.Whole.{cartridge_of-read, length-views}
use Rattle.cart_image.proofs.Carries.{Means}
use Rattle.cart_image.proofs.Changes.{get_or-views}
use Rattle.cart_image.proofs.Fills.{OffChosen, fill-kept, fill-value, fill-crash, length-even, get_or-even}
use Rattle.cart_image.proofs.Layouts.{laid_out, width-less}
use Rattle.cart_image.proofs.Stages.{shown, closing, closed, Stage, Stage-all, byte-spared, data-spared, next-stage, became, changed-views}
use Rattle.cart_image.proofs.Stages.{read-with, shows, end-at}
use Rattle.cart_image.proofs.Writes.{SameAt, after-both, after-synced, Crashed-synced}

-- formed bytes torn behind closed gates
forming : (bad formed was formed_now now : Bool) (s t : List ℕ) → (bad ≡ false → now ≡ false) → (formed ≡ true → formed_now ≡ true) →
    OpeningView (shown bad formed was s) (shown bad formed_now now t)
forming true formed was formed_now now s t shut kept = refl
forming false formed was formed_now true s t shut kept = let e = shut refl in cc
forming false false was true false s t shut kept = inr (inl refl)
forming false false was false false s t shut kept = inl refl
forming false true was false false s t shut kept = let e = kept refl in cc
forming false true true true false s t shut kept = inl refl
forming false true false true false s t shut kept = inl refl

-- gates of zero sectors torn while they are opened
opening : (bad formed was formed_now now : Bool) (s t : List ℕ) → (bad ≡ false → formed_now ≡ true) → (bad ≡ false → t ≡ zero_sector) →
    OpeningView (shown bad formed was s) (shown bad formed_now now t)
opening true formed was formed_now now s t are zero = refl
opening false formed was false now s t are zero = let e = are refl in cc
opening false false was true true s t are zero = inr (inr (ap Holds (zero refl)))
opening false false was true false s t are zero = inr (inl refl)
opening false true true true true s t are zero = inr (ap Holds (zero refl))
opening false true true true false s t are zero = inl refl
opening false true false true true s t are zero = inr (ap Holds (zero refl))
opening false true false true false s t are zero = inl refl

formatted : (bad formed was formed_now now : Bool) (s t : List ℕ) → (bad ≡ false → formed_now ≡ true) → (bad ≡ false → now ≡ true) →
    (bad ≡ false → t ≡ zero_sector) → shown bad formed_now now t ≡ formatted_view (shown bad formed was s)
formatted true formed was formed_now now s t are opened zero = refl
formatted false formed was false now s t are opened zero = let e = are refl in cc
formatted false formed was true false s t are opened zero = let e = opened refl in cc
formatted false false was true true s t are opened zero = ap Holds (zero refl)
formatted false true true true true s t are opened zero = ap Holds (zero refl)
formatted false true false true true s t are opened zero = ap Holds (zero refl)

-- the chosen ones are sectors of the segment
pub those-length : (segment : ℕ) (f : ℕ → Bool) → length (those segment f) ≡ 32
those-length segment f = length-map-range_with_len f (32 * segment) 32

pub those-few : (segment : ℕ) (f : ℕ → Bool) → length (those segment f) ≤ 32
those-few segment f = let long = those-length segment f in omega arith

module _ (h : Head) (bytes : List ℕ) (segment : ℕ) (is : head_of bytes ≡ Some h) (whole : end_of h.layout ≤ length bytes)
    (on : segment < 28 * h.layout.segments_per_track) where
  abbrev l : Layout
  l = h.layout

  abbrev first : ℕ
  first = 32 * segment

  within : first + 32 ≤ sectors l.segments_per_track
  within = omega arith

  -- a segment whose sectors all became so
  in_segment : (Became : SectorView → SectorView → Type 0) (left : List ℕ) → Stage l first bytes left
      → ((i : ℕ) → i < 32 → Became (view_in l bytes (first + i)) (view_in l left (first + i)))
      → SegmentBecame Became segment (read_as h bytes) (read_as h left)
  in_segment Became left stage each =
      let b = became h bytes segment is whole on (λ i. Became) left stage each in
      record {
        info = b.info;
        version = b.version;
        sectors = b.sectors;
        within = b.within;
        below = b.below;
        above = b.above;
      }

  half : (left : List ℕ) → Stage l first bytes left → SegmentBecame ClosingView segment (read_as h bytes) (read_as h left)
      ⊎ SegmentBecame OpeningView segment (read_as h bytes) (read_as h left)
      → HalfFormatted segment (cartridge_of bytes) (cartridge_of left)
  half left stage halves =
      let P : Option Cartridge → Type 0 = λ c. HalfFormatted segment c (cartridge_of left) in
      let Q : Option Cartridge → Type 0 = λ c. HalfFormatted segment (Some (read_as h bytes)) c in
      subst P (sym (cartridge_of-read bytes h is)) (subst Q (sym (cartridge_of-read left h (stage.head ∙ is))) halves)

  -- the whole segment formatted
  all-formatted : (left : List ℕ) → Stage l first bytes left
      → ((i : ℕ) → i < 32 → view_in l left (first + i) ≡ formatted_view (view_in l bytes (first + i)))
      → cartridge_of left ≡ effect (FormatSegment segment) (cartridge_of bytes)
  all-formatted left stage each =
      read-with h bytes segment is whole on left _ stage
      (changed-views h bytes segment is whole on left (map formatted_view (take 32 (drop first (views_in l bytes)))) stage
      (length-map (take 32 (drop first (views_in l bytes))) formatted_view ∙ few)
      (λ i d less.
      let there : first + i < sectors l.segments_per_track = omega arith in
      let n = few in
      each i less
      ∙ sym (get_or-map formatted_view (take 32 (drop first (views_in l bytes))) i d d (omega arith)
      ∙ ap formatted_view (get_or-take 32 (drop first (views_in l bytes)) i d less ∙ get_or-drop first (views_in l bytes) i d
      ∙ get_or-views l bytes (first + i) d there))))
      ∙ ap (effect (FormatSegment segment)) (sym (cartridge_of-read bytes h is))
    where
      few : length (take 32 (drop first (views_in l bytes))) ≡ 32
      few = length-take-le 32 (drop first (views_in l bytes))
          (let n = length-views l bytes in let d = length-drop first (views_in l bytes) in omega arith)

  -- the chosen ones
  abbrev readable : List Bool
  readable = those segment (is_open l bytes)

  abbrev usable : List Bool
  usable = those segment (is_usable l bytes)

  abbrev unformed : List Bool
  unformed = those segment (is_unformed l bytes)

  those-at : (f : ℕ → Bool) (i : ℕ) → i < 32 → get_or (those segment f) i false ≡ f (first + i)
  those-at f i less = get_or-map-range_with_len f first 32 i (first + i) false less refl

  fits : (f : ℕ → Bool) → length (those segment f) ≤ 32
  fits f = those-few segment f

  -- a sector that is not chosen keeps its part
  not-chosen : (f : ℕ → Bool) (i : ℕ) → i < 32 → f (first + i) ≡ false → (j : ℕ) → get_or (those segment f) j false ≡ true →
      first + j ≢ first + i
  not-chosen f i less out j picked e =
      let same : j ≡ i = omega arith in
      let a : get_or (those segment f) i false ≡ true = ap (λ k. get_or (those segment f) k false) (sym same) ∙ picked in
      let b = those-at f i less in cc

  abbrev bad : ℕ → Bool
  bad i = slice_index bytes (place l DefectByte (first + i)) == defect_byte

  abbrev formed : List ℕ → ℕ → Bool
  formed s i = slice_index s (place l FormedByte (first + i)) == formed_byte

  abbrev opened : List ℕ → ℕ → Bool
  opened s i = slice_index s (place l GateByte (first + i)) == open_gate

  abbrev held : List ℕ → ℕ → List ℕ
  held s i = sector_bytes l s (first + i)

  shows_in : (s : List ℕ) → Stage l first bytes s → (i : ℕ) → i < 32 → view_in l s (first + i) ≡ shown (bad i) (formed s i) (opened s i)
      (held s i)
  shows_in = shows h bytes segment is whole on

  staged : Stage l first bytes bytes
  staged = Stage-all l first bytes

  ends-at : (s : List ℕ) → Stage l first bytes s → end_of l ≤ length s
  ends-at = end-at h bytes segment is whole on

  closing-half : (left : List ℕ) → Stage l first bytes left →
      ((i : ℕ) → i < 32 → ClosingView (shown (bad i) (formed bytes i) (opened bytes i) (held bytes i))
      (shown (bad i) (formed left i) (opened left i) (held left i)))
      → HalfFormatted segment (cartridge_of bytes) (cartridge_of left)
  closing-half left stage each = half left stage (inl (in_segment ClosingView left stage (λ i less.
      let P : SectorView → Type 0 = λ u. ClosingView u (view_in l left (first + i)) in
      let Q : SectorView → Type 0 = λ u. ClosingView (shown (bad i) (formed bytes i) (opened bytes i) (held bytes i)) u in
      subst P (sym (shows_in bytes staged i less)) (subst Q (sym (shows_in left stage i less)) (each i less)))))

  opening-half : (left : List ℕ) → Stage l first bytes left →
      ((i : ℕ) → i < 32 → OpeningView (shown (bad i) (formed bytes i) (opened bytes i) (held bytes i))
      (shown (bad i) (formed left i) (opened left i) (held left i)))
      → HalfFormatted segment (cartridge_of bytes) (cartridge_of left)
  opening-half left stage each = half left stage (inr (in_segment OpeningView left stage (λ i less.
      let P : SectorView → Type 0 = λ u. OpeningView u (view_in l left (first + i)) in
      let Q : SectorView → Type 0 = λ u. OpeningView (shown (bad i) (formed bytes i) (opened bytes i) (held bytes i)) u in
      subst P (sym (shows_in bytes staged i less)) (subst Q (sym (shows_in left stage i less)) (each i less)))))

  not-both : (a b : Bool) → a ≡ false → (not a && b) ≡ b
  not-both true b is = cc
  not-both false b is = refl

  and-no : (a b : Bool) → b ≡ false → (a && b) ≡ false
  and-no true b is = is
  and-no false b is = refl

  not-no : (b : Bool) → b ≡ true → not b ≡ false
  not-no true is = refl
  not-no false is = cc

  -- what a fill of a byte leaves of it
  filled : (p : Part) (value : ℕ) (f : ℕ → Bool) (s : List ℕ) → end_of l ≤ length s → (i : ℕ) → i < 32 → f (first + i) ≡ true →
      width p ≡ 1 → slice_index (after_steps (fill_writes l p (even p value) first 0 (those segment f) 0) s)
      (place l p (first + i)) ≡ value
  filled p value f s there i less picked one =
      fill-value l p (even p value) (length s) there first (length-even p value) within (those segment f) (fits f) s refl i less
      (those-at f i less ∙ picked) (place l p (first + i)) (omega arith) (omega arith)
      ∙ get_or-even p value _ (omega (arith, width-less p i 32 less))

  keeps : (p : Part) (value : ℕ) (f : ℕ → Bool) (s : List ℕ) → end_of l ≤ length s → SameAt (OffChosen l p first (those segment f)) s
      (after_steps (fill_writes l p (even p value) first 0 (those segment f) 0) s)
  keeps p value f s there =
      fill-kept l p (even p value) (length s) there first (length-even p value) within (those segment f) (fits f) s refl

  -- the gates are closed
  abbrev b1 : List ℕ
  b1 = after_steps (fill_writes l GateByte (even GateByte closed_gate) first 0 readable 0) bytes

  module _ (left : List ℕ) (kept : SameAt (OffChosen l GateByte first readable) bytes left) where
    gates-stage : Stage l first bytes left
    gates-stage = next-stage l GateByte first readable bytes left (those-length segment (is_open l bytes)) within whole kept bytes
        (λ e. cc) staged

    gates-formed : (i : ℕ) → i < 32 → formed left i ≡ formed bytes i
    gates-formed i less = ap (λ b. b == formed_byte)
        (byte-spared l GateByte first readable bytes left (those-length segment (is_open l bytes)) within whole kept FormedByte (first + i)
        (omega arith) (inl (λ e. cc)))

    gates-data : (i : ℕ) → i < 32 → held left i ≡ held bytes i
    gates-data i less = data-spared l GateByte first readable bytes left (those-length segment (is_open l bytes)) within whole kept
        (first + i) (omega arith) (inl (λ e. cc))

    gates-shut : (i : ℕ) → i < 32 → opened bytes i ≡ false → opened left i ≡ false
    gates-shut i less shut =
        ap (λ b. b == open_gate) (byte-spared l GateByte first readable bytes left
        (those-length segment (is_open l bytes)) within whole kept GateByte (first + i) (omega arith)
        (inr (not-chosen (is_open l bytes) i less (and-no (not (bad i)) (opened bytes i) shut)))) ∙ shut

    gates-torn : HalfFormatted segment (cartridge_of bytes) (cartridge_of left)
    gates-torn = closing-half left gates-stage (λ i less.
        let P : Bool → Type 0 = λ f. ClosingView (shown (bad i) (formed bytes i) (opened bytes i) (held bytes i))
        (shown (bad i) f (opened left i) (held left i)) in
        subst P (sym (gates-formed i less))
        (closing (bad i) (formed bytes i) (opened bytes i) (opened left i) (held bytes i) (held left i) (gates-shut i less)
        (gates-data i less)))

  kept1 : SameAt (OffChosen l GateByte first readable) bytes b1
  kept1 = keeps GateByte closed_gate (is_open l bytes) bytes whole

  stage1 : Stage l first bytes b1
  stage1 = gates-stage b1 kept1

  end1 : end_of l ≤ length b1
  end1 = ends-at b1 stage1

  shut1 : (i : ℕ) → i < 32 → bad i ≡ false → opened b1 i ≡ false
  shut1 i less good = by_gate (opened bytes i) refl
    where
      by_gate : (o : Bool) → opened bytes i ≡ o → opened b1 i ≡ false
      by_gate true was = ap (λ b. b == open_gate)
          (filled GateByte closed_gate (is_open l bytes) bytes whole i less (not-both (bad i) (opened bytes i) good ∙ was) refl)
      by_gate false was = gates-shut b1 kept1 i less was

  -- the sectors are zeroed
  abbrev b2 : List ℕ
  b2 = after_steps (fill_writes l Data (even Data 0) first 0 usable 0) b1

  module _ (left : List ℕ) (kept : SameAt (OffChosen l Data first usable) b1 left) where
    zeroed-stage : Stage l first bytes left
    zeroed-stage = next-stage l Data first usable b1 left (those-length segment (is_usable l bytes)) within end1 kept bytes (λ e. cc) stage1

    zeroed-formed : (i : ℕ) → i < 32 → formed left i ≡ formed bytes i
    zeroed-formed i less = ap (λ b. b == formed_byte)
        (byte-spared l Data first usable b1 left (those-length segment (is_usable l bytes)) within end1 kept FormedByte (first + i)
        (omega arith) (inl (λ e. cc))) ∙ gates-formed b1 kept1 i less

    zeroed-shut : (i : ℕ) → i < 32 → bad i ≡ false → opened left i ≡ false
    zeroed-shut i less good = ap (λ b. b == open_gate)
        (byte-spared l Data first usable b1 left (those-length segment (is_usable l bytes)) within end1 kept GateByte (first + i)
        (omega arith) (inl (λ e. cc))) ∙ shut1 i less good

    zeroed-torn : HalfFormatted segment (cartridge_of bytes) (cartridge_of left)
    zeroed-torn = closing-half left zeroed-stage (λ i less.
        let P : Bool → Type 0 = λ f. ClosingView (shown (bad i) (formed bytes i) (opened bytes i) (held bytes i))
        (shown (bad i) f (opened left i) (held left i)) in
        subst P (sym (zeroed-formed i less))
        (closed (bad i) (formed bytes i) (opened bytes i) (opened left i) (held bytes i) (held left i)
        (λ good formed_is. zeroed-shut i less good)))

  kept2 : SameAt (OffChosen l Data first usable) b1 b2
  kept2 = keeps Data 0 (is_usable l bytes) b1 end1

  stage2 : Stage l first bytes b2
  stage2 = zeroed-stage b2 kept2

  end2 : end_of l ≤ length b2
  end2 = ends-at b2 stage2

  zero_sector-length : length zero_sector ≡ 1024
  unfolding zero_sector
  zero_sector-length = length-replicate {A = ℕ} 1024 0

  zero_sector-zero : (k : ℕ) → k < 1024 → get_or zero_sector k 0 ≡ 0
  unfolding zero_sector
  zero_sector-zero k less = get_or-replicate {A = ℕ} 1024 k 0 0 less

  zeros2 : (i : ℕ) → i < 32 → bad i ≡ false → held b2 i ≡ zero_sector
  zeros2 i less good =
      let e = end2 in
      let b = (laid_out l).before Data (first + i) (omega arith) in
      let n = length-between b2 (place l Data (first + i)) (place l Data (first + i) + 1024) (omega arith) in
      let z = zero_sector-length in
      same_lists _ _ (n ∙ (let e : place l Data (first + i) + 1024 - place l Data (first + i) ≡ 1024 = omega arith in e)
      ∙ sym zero_sector-length) (λ k d h.
      let k_less : k < 1024 = omega arith in
      get_or-between b2 (place l Data (first + i)) (place l Data (first + i) + 1024) k d (omega arith)
      ∙ get_or_default b2 (place l Data (first + i) + k) d 0 (omega arith)
      ∙ fill-value l Data (even Data 0) (length b1) end1 first (length-even Data 0) within usable (fits (is_usable l bytes)) b1 refl i less
      (those-at (is_usable l bytes) i less ∙ ap not good) (place l Data (first + i) + k) (omega arith) (omega arith)
      ∙ get_or-even Data 0 _ (omega arith)
      ∙ sym (zero_sector-zero k k_less)
      ∙ get_or_default zero_sector k 0 d (omega arith))

  -- the sectors are formed
  abbrev b3 : List ℕ
  b3 = after_steps (fill_writes l FormedByte (even FormedByte formed_byte) first 0 unformed 0) b2

  module _ (left : List ℕ) (kept : SameAt (OffChosen l FormedByte first unformed) b2 left) where
    form-stage : Stage l first bytes left
    form-stage = next-stage l FormedByte first unformed b2 left (those-length segment (is_unformed l bytes)) within end2 kept bytes
        (λ e. cc) stage2

    form-shut : (i : ℕ) → i < 32 → bad i ≡ false → opened left i ≡ false
    form-shut i less good = ap (λ b. b == open_gate)
        (byte-spared l FormedByte first unformed b2 left (those-length segment (is_unformed l bytes)) within end2 kept GateByte (first + i)
        (omega arith) (inl (λ e. cc))) ∙ zeroed-shut b2 kept2 i less good

    form-zero : (i : ℕ) → i < 32 → bad i ≡ false → held left i ≡ zero_sector
    form-zero i less good = data-spared l FormedByte first unformed b2 left (those-length segment (is_unformed l bytes)) within end2 kept
        (first + i) (omega arith) (inl (λ e. cc)) ∙ zeros2 i less good

    form-kept : (i : ℕ) → i < 32 → formed bytes i ≡ true → formed left i ≡ true
    form-kept i less is_formed =
        ap (λ b. b == formed_byte) (byte-spared l FormedByte first unformed b2 left
        (those-length segment (is_unformed l bytes)) within end2 kept FormedByte (first + i) (omega arith)
        (inr (not-chosen (is_unformed l bytes) i less (and-no (not (bad i)) (not (formed bytes i)) (not-no (formed bytes i) is_formed)))))
        ∙ zeroed-formed b2 kept2 i less ∙ is_formed

    form-torn : HalfFormatted segment (cartridge_of bytes) (cartridge_of left)
    form-torn = opening-half left form-stage
        (λ i less. forming (bad i) (formed bytes i) (opened bytes i) (formed left i) (opened left i) (held bytes i) (held left i)
        (form-shut i less) (form-kept i less))

  kept3 : SameAt (OffChosen l FormedByte first unformed) b2 b3
  kept3 = keeps FormedByte formed_byte (is_unformed l bytes) b2 end2

  stage3 : Stage l first bytes b3
  stage3 = form-stage b3 kept3

  end3 : end_of l ≤ length b3
  end3 = ends-at b3 stage3

  formed3 : (i : ℕ) → i < 32 → bad i ≡ false → formed b3 i ≡ true
  formed3 i less good = by_formed (formed bytes i) refl
    where
      by_formed : (f : Bool) → formed bytes i ≡ f → formed b3 i ≡ true
      by_formed true was = form-kept b3 kept3 i less was
      by_formed false was = ap (λ b. b == formed_byte)
          (filled FormedByte formed_byte (is_unformed l bytes) b2 end2 i less (not-both (bad i) (not (formed bytes i)) good ∙ ap not was)
          refl)

  -- the gates are opened
  abbrev b4 : List ℕ
  b4 = after_steps (fill_writes l GateByte (even GateByte open_gate) first 0 usable 0) b3

  module _ (left : List ℕ) (kept : SameAt (OffChosen l GateByte first usable) b3 left) where
    open-stage : Stage l first bytes left
    open-stage = next-stage l GateByte first usable b3 left (those-length segment (is_usable l bytes)) within end3 kept bytes
        (λ e. cc) stage3

    open-formed : (i : ℕ) → i < 32 → bad i ≡ false → formed left i ≡ true
    open-formed i less good = ap (λ b. b == formed_byte)
        (byte-spared l GateByte first usable b3 left (those-length segment (is_usable l bytes)) within end3 kept FormedByte (first + i)
        (omega arith) (inl (λ e. cc))) ∙ formed3 i less good

    open-zero : (i : ℕ) → i < 32 → bad i ≡ false → held left i ≡ zero_sector
    open-zero i less good = data-spared l GateByte first usable b3 left (those-length segment (is_usable l bytes)) within end3 kept
        (first + i) (omega arith) (inl (λ e. cc)) ∙ form-zero b3 kept3 i less good

    open-torn : HalfFormatted segment (cartridge_of bytes) (cartridge_of left)
    open-torn = opening-half left open-stage
        (λ i less. opening (bad i) (formed bytes i) (opened bytes i) (formed left i) (opened left i) (held bytes i) (held left i)
        (open-formed i less) (open-zero i less))

  kept4 : SameAt (OffChosen l GateByte first usable) b3 b4
  kept4 = keeps GateByte open_gate (is_usable l bytes) b3 end3

  formatted4 : cartridge_of b4 ≡ effect (FormatSegment segment) (cartridge_of bytes)
  formatted4 = all-formatted b4 (open-stage b4 kept4) (λ i less.
      shows_in b4 (open-stage b4 kept4) i less
      ∙ formatted (bad i) (formed bytes i) (opened bytes i) (formed b4 i) (opened b4 i) (held bytes i) (held b4 i)
      (open-formed b4 kept4 i less)
      (λ good. ap (λ b. b == open_gate) (filled GateByte open_gate (is_usable l bytes) b3 end3 i less (ap not good) refl))
      (open-zero b4 kept4 i less)
      ∙ ap formatted_view (sym (shows_in bytes staged i less)))

  abbrev f1 : List DiskStep
  f1 = fill_writes l GateByte (even GateByte closed_gate) first 0 readable 0

  abbrev f2 : List DiskStep
  f2 = fill_writes l Data (even Data 0) first 0 usable 0

  abbrev f3 : List DiskStep
  f3 = fill_writes l FormedByte (even FormedByte formed_byte) first 0 unformed 0

  abbrev f4 : List DiskStep
  f4 = fill_writes l GateByte (even GateByte open_gate) first 0 usable 0

  abbrev run : List DiskStep
  run = synced f1 ++ (synced f2 ++ (synced f3 ++ synced f4))

  -- the call leaves the effect of its step, and a crash in it a stop of it
  pub format-means : Means (format_segment_steps l segment readable usable unformed) (FormatSegment segment ∷ []) bytes
  unfolding format_segment_steps
  format-means = record { done = ap cartridge_of ran ∙ formatted4; torn = torn }
    where
      ran : after_steps run bytes ≡ b4
      ran =
          after-both (synced f1) (synced f2 ++ (synced f3 ++ synced f4)) bytes ∙ ap (after_steps (synced f2 ++ (synced f3 ++ synced f4)))
          (after-synced f1 bytes)
          ∙ after-both (synced f2) (synced f3 ++ synced f4) b1 ∙ ap (after_steps (synced f3 ++ synced f4)) (after-synced f2 b1)
          ∙ after-both (synced f3) (synced f4) b2 ∙ ap (after_steps (synced f4)) (after-synced f3 b2)
          ∙ after-synced f4 b3

      torn : (left : List ℕ) → Crashed (λ b. b ≡ bytes) bytes run left → Torn (FormatSegment segment ∷ []) (cartridge_of bytes)
          (cartridge_of left)
      torn left crashed =
          elim (Crashed-synced f1 (synced f2 ++ (synced f3 ++ synced f4)) bytes left crashed) [
            | inl in1 ↦ inr (inl (gates-torn left
                (fill-crash l GateByte (even GateByte closed_gate) (length bytes) whole first (length-even GateByte closed_gate) within
                readable (fits (is_open l bytes)) bytes left refl in1)))
            | inr later1 ↦ elim (Crashed-synced f2 (synced f3 ++ synced f4) b1 left later1) [
              | inl in2 ↦ inr (inl (zeroed-torn left
                  (fill-crash l Data (even Data 0) (length b1) end1 first (length-even Data 0) within usable (fits (is_usable l bytes)) b1
                  left refl in2)))
              | inr later2 ↦ elim (Crashed-synced f3 (synced f4) b2 left later2) [
                | inl in3 ↦ inr (inl (form-torn left
                    (fill-crash l FormedByte (even FormedByte formed_byte) (length b2) end2 first (length-even FormedByte formed_byte)
                    within unformed (fits (is_unformed l bytes)) b2 left refl in3)))
                | inr in4 ↦ inr (inl (open-torn left
                    (fill-crash l GateByte (even GateByte open_gate) (length b3) end3 first (length-even GateByte open_gate) within usable
                    (fits (is_usable l bytes)) b3 left refl in4)))
              ]
            ]
          ]
