-- Bytes of an image while a call changes sectors of one segment, and the cartridge that they are read as.
use Rattle.std.proofs.Common.{◌≡◌, ◌≢◌, ℕ, ◌+◌, ◌*◌, ◌-◌, ◌<◌, ◌≤◌, ◌⊎◌, inl, inr, ⊎_elim, Bool, true, false, List, ◌++◌, length}
use Rattle.std.proofs.Common.{get_or, take, drop, refl, sym, ◌∙◌, ap, arith, Some, subst}
use Rattle.std.specs.Prelude.{slice_get, slice_index, ◌==◌, if◌then◌else◌}
use Rattle.std.proofs.lemmas.Bool.{cases_lt}
use Rattle.std.proofs.lemmas.List.{same_lists, get_or_past}
use Rattle.std.proofs.lemmas.List.{length-take-le, length-drop, length-append, get_or-take, get_or-drop, get_or_append_left}
use Rattle.std.proofs.lemmas.List.{get_or-append_right}
use Rattle.std.proofs.lemmas.Option.{slice_get-get_or, slice_get_past}
use Rattle.qic_base.specs.declared.tape.SectorView.{SectorView}
use Rattle.qic_base.specs.declared.tape.SectorView.TheVariants.{Blank, Defect, Lost, Holds}
use Rattle.qic_base.specs.Cartridge.{view_at}
use Rattle.qic_base.specs.Step.{ClosingView}
use Rattle.cart_image.specs.declared.layout.Head.{Head}
use Rattle.cart_image.specs.declared.layout.Layout.{Layout}
use Rattle.cart_image.specs.declared.layout.Part.{Part}
use Rattle.cart_image.specs.declared.layout.Part.TheVariants.{GateByte, FormedByte, DefectByte, Data}
use Rattle.cart_image.specs.Layout.{version_of, sectors, width, place, end_of, open_gate, formed_byte, defect_byte}
use Rattle.cart_image.specs.Image.{head_of, info_by, view_in, views_in, sector_bytes, read_as, cartridge_of}
use Rattle.cart_image.proofs.EachSector.{SectorsBecame}
use Rattle.cart_image.specs.Whole.{cartridge_of-read, length-views}
use Rattle.cart_image.proofs.Bytes.{head-same, range-same, view-same, view_in-is}
use Rattle.cart_image.proofs.Changes.{get_or-views, view_at-read}
use Rattle.cart_image.proofs.Layouts.{laid_out, width-some}
use Rattle.cart_image.proofs.Writes.{SameAt}

-- a sector's view by the tests of its bytes
abbrev pub shown : (bad formed open_is : Bool) (bytes : List ℕ) → SectorView
shown bad formed open_is bytes = if bad then Defect else (if formed then (if open_is then Holds bytes else Lost) else Blank)

-- .. of each of them
abbrev pub bad_in : (l : Layout) (s : List ℕ) (sector : ℕ) → Bool
bad_in l s sector = slice_index s (place l DefectByte sector) == defect_byte

abbrev pub formed_in : (l : Layout) (s : List ℕ) (sector : ℕ) → Bool
formed_in l s sector = slice_index s (place l FormedByte sector) == formed_byte

abbrev pub open_in : (l : Layout) (s : List ℕ) (sector : ℕ) → Bool
open_in l s sector = slice_index s (place l GateByte sector) == open_gate

-- gates closed, or torn while they are closed
pub closing : (bad formed was now : Bool) (s t : List ℕ) → (was ≡ false → now ≡ false) → t ≡ s → ClosingView (shown bad formed was s)
    (shown bad formed now t)
closing true formed was now s t kept same = refl
closing false false was now s t kept same = refl
closing false true true true s t kept same = inl (ap Holds same)
closing false true true false s t kept same = inr refl
closing false true false true s t kept same = let e = kept refl in cc
closing false true false false s t kept same = refl

-- bytes written behind closed gates
pub closed : (bad formed was now : Bool) (s t : List ℕ) → (bad ≡ false → formed ≡ true → now ≡ false) → ClosingView (shown bad formed was s)
    (shown bad formed now t)
closed true formed was now s t shut = refl
closed false false was now s t shut = refl
closed false true was true s t shut = let e = shut refl refl in cc
closed false true true false s t shut = inr refl
closed false true false false s t shut = refl

pub within-chosen : (chosen : List Bool) → length chosen ≡ 32 → (i : ℕ) → get_or chosen i false ≡ true → i < 32
within-chosen chosen long i is = ⊎_elim (λ less. less) (λ past. let e = get_or_past chosen i false (omega arith) in cc) (cases_lt i 32)

-- bytes that differ from these in one segment alone, and not in its defects
pub record Stage (l : Layout) (first : ℕ) (bytes now : List ℕ) : Type 0 where
  pub size : length now ≡ length bytes
  pub head : head_of now ≡ head_of bytes
  pub others : (j : ℕ) → j < sectors l.segments_per_track → (j < first) ⊎ (first + 32 ≤ j) → view_in l now j ≡ view_in l bytes j
  pub defects : (j : ℕ) → j < sectors l.segments_per_track → slice_index now (place l DefectByte j) ≡ slice_index bytes
      (place l DefectByte j)

pub Stage-all : (l : Layout) (first : ℕ) (bytes : List ℕ) → Stage l first bytes bytes
Stage-all l first bytes = record { size = refl; head = refl; others = λ j on out. refl; defects = λ j on. refl }

-- what a change in a part of chosen sectors of a segment keeps
module _ (l : Layout) (p : Part) (first : ℕ) (chosen : List Bool) (a b : List ℕ) (long : length chosen ≡ 32)
    (within : first + 32 ≤ sectors l.segments_per_track) (whole : end_of l ≤ length a)
    (kept : SameAt (λ k. (i : ℕ) → get_or chosen i false ≡ true → (k < place l p (first + i)) ⊎ (place l p (first + i) + width p ≤ k)) a b)
  where
    -- parts of another kind or of sectors that are not chosen
    abbrev NotChosen : (r : Part) (j : ℕ) → Type 0
    NotChosen r j = (p ≢ r) ⊎ ((i : ℕ) → get_or chosen i false ≡ true → first + i ≢ j)

    off : (r : Part) (j : ℕ) → j < sectors l.segments_per_track → NotChosen r j → (k : ℕ) → place l r j ≤ k → k < place l r j + width r
        → (i : ℕ) → get_or chosen i false ≡ true → (k < place l p (first + i)) ⊎ (place l p (first + i) + width p ≤ k)
    off r j on none k at_least less i is =
        let inside = within-chosen chosen long i is in
        let out = laid_out l in
        ⊎_elim (λ later. inr (omega arith)) (λ earlier. inl (omega arith))
        (out.apart p r (first + i) j (omega arith) on (⊎_elim (λ ne. inl ne) (λ ne. inr (ne i is)) none))

    pub byte-spared : (r : Part) (j : ℕ) → j < sectors l.segments_per_track → NotChosen r j → slice_index b (place l r j) ≡ slice_index a
        (place l r j)
    byte-spared r j on none = kept.same (place l r j) (off r j on none (place l r j) (omega arith) (let w = width-some r in omega arith))

    pub data-spared : (j : ℕ) → j < sectors l.segments_per_track → NotChosen Data j → sector_bytes l b j ≡ sector_bytes l a j
    data-spared j on none =
        let end = (laid_out l).before Data j on in
        let size = kept.size in
        range-same a b (place l Data j) (place l Data j + 1024) (omega arith) (omega arith) (omega arith)
        (λ k at_least less. kept.same k (off Data j on none k at_least (omega arith)))

    pub next-stage : (bytes : List ℕ) → p ≢ DefectByte → Stage l first bytes a → Stage l first bytes b
    next-stage bytes other stage = record {
      size = kept.size ∙ stage.size;
      head =
          (let e : end_of l ≤ length a = whole in
          let far = (laid_out l).behind GateByte first (omega arith) in
          let end = (laid_out l).before GateByte first (omega arith) in
          head-same a b kept.size (omega arith)
          (λ k less. kept.same k (λ i is. let inside = within-chosen chosen long i is in
          let behind = (laid_out l).behind p (first + i) (omega arith) in inl (omega arith)))) ∙ stage.head;
      others = λ j on out.
          let none : (i : ℕ) → get_or chosen i false ≡ true → first + i ≢ j = λ i is e. outside j out i is e in
          view-same l a b j (λ r. byte-spared r j on (inr none)) (data-spared j on (inr none)) ∙ stage.others j on out;
      defects = λ j on. byte-spared DefectByte j on (inl other) ∙ stage.defects j on;
    }
      where
        outside : (j : ℕ) → (j < first) ⊎ (first + 32 ≤ j) → (i : ℕ) → get_or chosen i false ≡ true → first + i ≡ j → ⊥
        outside j (inl below) i is e = omega arith
        outside j (inr above) i is e = let inside = within-chosen chosen long i is in omega arith

-- lists of views that agree outside a segment, and what the new one has in it
pub segment-views : (old new middle : List SectorView) (segment : ℕ) → 32 * segment + 32 ≤ length old → length new ≡ length old →
    length middle ≡ 32
    → ((k : ℕ) (d : SectorView) → k < 32 * segment → get_or new k d ≡ get_or old k d)
    → ((k : ℕ) (d : SectorView) → 32 * segment + 32 ≤ k → k < length old → get_or new k d ≡ get_or old k d)
    → ((i : ℕ) (d : SectorView) → i < 32 → get_or new (32 * segment + i) d ≡ get_or middle i d)
    → new ≡ take (32 * segment) old ++ middle ++ drop (32 * (segment + 1)) old
segment-views old new middle segment within size middle-length below above inside =
    same_lists _ _ (size ∙ sym whole) (λ k d less. at k d (omega arith))
  where
    front-length : length (take (32 * segment) old) ≡ 32 * segment
    front-length = length-take-le (32 * segment) old (omega arith)

    both-length : length (take (32 * segment) old ++ middle) ≡ 32 * segment + 32
    both-length = let e = length-append (take (32 * segment) old) middle in
        let f = front-length in omega arith

    whole : length (take (32 * segment) old ++ middle ++ drop
        (32 * (segment + 1)) old) ≡ length old
    whole =
        let e = length-append (take (32 * segment) old ++ middle)
        (drop (32 * (segment + 1)) old) in
        let f = both-length in
        let g = length-drop (32 * (segment + 1)) old in
        omega arith

    at : (k : ℕ) (d : SectorView) → k < length old →
        get_or new k d ≡ get_or (take (32 * segment) old ++ middle ++ drop
        (32 * (segment + 1)) old) k d
    at k d less = ⊎_elim
        (λ first.
        below k d first
        ∙ sym (get_or_append_left (take (32 * segment) old ++ middle)
        (drop (32 * (segment + 1)) old) d k (let b = both-length in omega arith)
        ∙ get_or_append_left (take (32 * segment) old) middle d k
        (let b = front-length in omega arith)
        ∙ get_or-take (32 * segment) old k d first))
        (λ later. ⊎_elim
        (λ mid.
        let i : ℕ = k - 32 * segment in
        let there : k ≡ 32 * segment + (k - 32 * segment) = omega arith in
        ap (λ j. get_or new j d) there ∙ inside (k - 32 * segment) d (omega arith)
        ∙ sym (get_or_append_left (take (32 * segment) old ++ middle)
        (drop (32 * (segment + 1)) old) d k (let b = both-length in omega arith)
        ∙ get_or-append_right (take (32 * segment) old) middle
        (32 * segment) k d front-length later
        ))
        (λ last.
        let there : 32 * (segment + 1) + (k - (32 * segment + 32)) ≡ k = omega arith in
        above k d last less
        ∙ sym (get_or-append_right (take (32 * segment) old ++ middle)
        (drop (32 * (segment + 1)) old) (32 * segment + 32) k d both-length last
        ∙ get_or-drop (32 * (segment + 1)) old (k - (32 * segment + 32)) d
        ∙ ap (λ j. get_or old j d) there))
        (cases_lt k (32 * segment + 32)))
        (cases_lt k (32 * segment))

module _ (h : Head) (bytes : List ℕ) (segment : ℕ) (is : head_of bytes ≡ Some h) (whole : end_of h.layout ≤ length bytes)
    (on : segment < 28 * h.layout.segments_per_track) where
  abbrev pub l : Layout
  l = h.layout

  abbrev pub first : ℕ
  first = 32 * segment

  pub within : first + 32 ≤ sectors l.segments_per_track
  within = omega arith

  -- a segment whose sectors, by their indexes, all became so
  pub became : (Became : ℕ → SectorView → SectorView → Type 0) (left : List ℕ) → Stage l first bytes left
      → ((i : ℕ) → i < 32 → Became i (view_in l bytes (first + i)) (view_in l left (first + i)))
      → SectorsBecame Became segment (read_as h bytes) (read_as h left)
  became Became left stage each = record {
    info = refl;
    version = refl;
    sectors = length-views l left ∙ sym (length-views l bytes);
    within = λ i less.
        let there : first + i < sectors l.segments_per_track = omega arith in
        let P : SectorView → Type 0 = λ v. Became i v (view_at (read_as h left) segment i) in
        let Q : SectorView → Type 0 = λ v. Became i (view_in l bytes (first + i)) v in
        subst P (sym (view_at-read h bytes segment i there)) (subst Q (sym (view_at-read h left segment i there)) (each i less));
    below = λ place less. at place (omega arith) (inl less);
    above = λ place more. ⊎_elim (λ there. at place there (inr (omega arith)))
        (λ past. slice_get_past (views_in l left) place (let n = length-views l left in omega arith)
        ∙ sym (slice_get_past (views_in l bytes) place (let n = length-views l bytes in omega arith)))
        (cases_lt place (sectors l.segments_per_track));
  }
    where
      at : (place : ℕ) → place < sectors l.segments_per_track → (place < first) ⊎ (first + 32 ≤ place) →
          slice_get (views_in l left) place ≡ slice_get (views_in l bytes) place
      at place there out =
          slice_get-get_or (views_in l left) place Blank (let n = length-views l left in omega arith)
          ∙ ap Some (get_or-views l left place Blank there ∙ stage.others place there out ∙ sym (get_or-views l bytes place Blank there))
          ∙ sym (slice_get-get_or (views_in l bytes) place Blank (let n = length-views l bytes in omega arith))

  -- the whole segment changed: the views that it has then
  pub changed-views : (left : List ℕ) (middle : List SectorView) → Stage l first bytes left → length middle ≡ 32
      → ((i : ℕ) (d : SectorView) → i < 32 → view_in l left (first + i) ≡ get_or middle i d)
      → views_in l left ≡ take first (views_in l bytes) ++ middle ++ drop (32 * (segment + 1)) (views_in l bytes)
  changed-views left middle stage long each =
      segment-views (views_in l bytes) (views_in l left) middle segment (let n = lengths in omega arith)
      (length-views l left ∙ sym lengths) long
      (λ k d less. outside k d (let n = lengths in omega arith) (inl less))
      (λ k d more less. outside k d (let n = lengths in omega arith) (inr (omega arith)))
      (λ i d less. get_or-views l left (first + i) d (omega arith) ∙ each i d less)
    where
      lengths : length (views_in l bytes) ≡ sectors l.segments_per_track
      lengths = length-views l bytes

      outside : (k : ℕ) (d : SectorView) → k < sectors l.segments_per_track → (k < first) ⊎ (first + 32 ≤ k) →
          get_or (views_in l left) k d ≡ get_or (views_in l bytes) k d
      outside k d there out = get_or-views l left k d there ∙ stage.others k there out ∙ sym (get_or-views l bytes k d there)

  -- .. so that the cartridge is this
  pub read-with : (left : List ℕ) (vs : List SectorView) → Stage l first bytes left → views_in l left ≡ vs →
      cartridge_of left ≡ Some (record { info = info_by h; version = version_of l.kind; views = vs })
  read-with left vs stage same =
      cartridge_of-read left h (stage.head ∙ is)
      ∙ ap (λ (vs : List SectorView). Some (record { info = info_by h; version = version_of l.kind; views = vs })) same

  -- what a sector shows in a stage
  pub shows : (s : List ℕ) → Stage l first bytes s → (i : ℕ) → i < 32 → view_in l s (first + i) ≡ shown (bad_in l bytes (first + i))
      (formed_in l s (first + i)) (open_in l s (first + i)) (sector_bytes l s (first + i))
  shows s stage i less =
      view_in-is l s (first + i)
      ∙ ap (λ d. shown (d == defect_byte) (formed_in l s (first + i)) (open_in l s (first + i)) (sector_bytes l s (first + i)))
      (stage.defects (first + i) (omega arith))

  pub end-at : (s : List ℕ) → Stage l first bytes s → end_of l ≤ length s
  end-at s stage = let size = stage.size in omega arith
