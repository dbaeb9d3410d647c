-- The copy of the sectors of a version 1 image behind its planes: what it writes, and what it leaves as it is.
use Rattle.std.proofs.Common.{◌≡◌, ℕ, zero, suc, ◌+◌, ◌*◌, ◌-◌, ◌/◌, ◌%◌, ◌<◌, ◌≤◌, ◌⊎◌, inl, inr, ⊎_elim, List, [], ◌∷◌, ◌++◌, length}
use Rattle.std.proofs.Common.{get_or, add-one, refl, sym, ◌∙◌, ap, arith, Option, Some, None, IfSome, subst, Result, Ok, Err}
use Rattle.std.specs.Prelude.{slice_range}
use Rattle.std.specs.Option.{option_map}
use Rattle.std.proofs.lemmas.Bool.{cases_lt}
use Rattle.std.proofs.lemmas.List.{same_lists}
use Rattle.std.proofs.lemmas.List.Edits.{length-between, get_or-between}
use Rattle.qic_base.specs.Disk.{Meaning, DiskStep, Look, WriteAt, SetLen, Sync, stored, Stored, Failed, resized}
use Rattle.qic_base.specs.Field.{little_endian_bytes}
use Rattle.qic_base.specs.Tape.{Rose}
use Rattle.cart_image.specs.declared.layout.Kind.TheVariants.{Planes}
use Rattle.cart_image.specs.declared.layout.Part.TheVariants.{GateByte, FormedByte, DefectByte, Data}
use Rattle.cart_image.specs.declared.segment.SegmentMarks.{SegmentMarks}
use Rattle.cart_image.specs.Layout.{cell_len}
use Rattle.cart_image.specs.Layout.{sectors, image_len, upgraded_len, plane_place, cell_place, cell, cell_with, cells_by, copy_segment}
use Rattle.cart_image.specs.Layout.{copy_steps, upgrade_steps, put, resize, base_place, layout_place, mark_byte}
use Rattle.cart_image.specs.Run.{Looks, Ran, Halted, Runs, Planned, after_steps}
use Rattle.cart_image.specs.State.{AreMarks}
use Rattle.cart_image.proofs.Bytes.{range-same}
use Rattle.cart_image.proofs.Exits.{told-fact, Runs-after}
use Rattle.cart_image.proofs.Renews.{length-resized, get_or-resized}
use Rattle.cart_image.proofs.Runs.{Passes-Passes, Looks-Passes, Failed-Passes, Ran-Ran, Ran-Halted, Halted-front, Ran-told}
use Rattle.cart_image.proofs.Writes.{SameAt-all, Spares, Spares-both, spared, Even, Even-both, Reached, Reached-first, Reached-later}

-- the places that stay
abbrev pub Stays : (n : ℕ) → ℕ → Type 0
Stays n k = (k < 16) ⊎ ((64 ≤ k) × (k < image_len n))

module _ (n : ℕ) (bytes : List ℕ) (long : image_len n ≤ length bytes) where
  pub cell-length : (q : ℕ) → q < sectors n → length (cell n bytes q) ≡ cell_len
  unfolding cell
  cell-length q on = let k = length-between bytes (plane_place n Data q) (plane_place n Data q + 1024) (omega arith) in omega arith

  -- the byte that is copied to a place
  abbrev pub copied : ℕ → ℕ
  copied k = get_or (cell n bytes ((k - image_len n) / cell_len)) ((k - image_len n) % cell_len) 0

  pub copied-at : (q i : ℕ) → i < cell_len → copied (image_len n + cell_len * q + i) ≡ get_or (cell n bytes q) i 0
  copied-at q i less =
      let a : image_len n + cell_len * q + i - image_len n ≡ cell_len * q + i = omega arith in
      let d : (cell_len * q + i) / cell_len ≡ q = omega arith in
      let m : (cell_len * q + i) % cell_len ≡ i = omega arith in
      ap (λ k. get_or (cell n bytes (k / cell_len)) (k % cell_len) 0) a
      ∙ ap (λ c. get_or (cell n bytes c) ((cell_len * q + i) % cell_len) 0) d
      ∙ ap (λ j. get_or (cell n bytes q) j 0) m

  module _ (first : ℕ) where
    abbrev cells : ℕ → List DiskStep
    cells count = cells_by n first (λ i. cell n bytes (first + i)) count

    cells-even : (count : ℕ) → first + count ≤ sectors n → Even copied (upgraded_len n) (cells count)
    cells-even zero on = tt
    cells-even (suc count) on =
        let size = cell-length (first + count) (omega arith) in
        Even-both copied (upgraded_len n) (cells count) _ (cells-even count (omega arith))
        (omega arith, (λ i less. sym (copied-at (first + count) i (omega arith))), tt)

    cells-spare : (count : ℕ) → first + count ≤ sectors n → Spares (Stays n) (upgraded_len n) (cells count)
    cells-spare zero on = tt
    cells-spare (suc count) on =
        let size = cell-length (first + count) (omega arith) in
        Spares-both (Stays n) (upgraded_len n) (cells count) _ (cells-spare count (omega arith))
        (omega arith, (λ k at. ⊎_elim (λ low. inl (omega arith)) (λ mid. let b = mid.1 in inl (omega arith)) at), tt)

    cells-reach : (count j i : ℕ) → first + count ≤ sectors n → j < count → i < cell_len →
        Reached (image_len n + cell_len * (first + j) + i)
        (cells count)
    cells-reach zero j i on less within = absurd (omega arith)
    cells-reach (suc count) j i on less within = ⊎_elim
        (λ earlier. Reached-first _ (cells count) _ (cells-reach count j i (omega arith) earlier within))
        (λ last.
        let size = cell-length (first + count) (omega arith) in
        let same : j ≡ count = omega arith in
        Reached-later _ (cells count) _ (inl (omega arith, omega arith)))
        (cases_lt j count)

  abbrev copy : ℕ → List DiskStep
  copy count = copy_steps n bytes count

  pub copy-even : (count : ℕ) → count ≤ 28 * n → Even copied (upgraded_len n) (copy count)
  copy-even zero on = tt
  copy-even (suc count) on = Even-both copied (upgraded_len n) (copy count) (copy_segment n count bytes) (copy-even count (omega arith))
      (cells-even (32 * count) 32 (omega arith))

  pub copy-spare : (count : ℕ) → count ≤ 28 * n → Spares (Stays n) (upgraded_len n) (copy count)
  copy-spare zero on = tt
  copy-spare (suc count) on = Spares-both (Stays n) (upgraded_len n) (copy count) (copy_segment n count bytes)
      (copy-spare count (omega arith)) (cells-spare (32 * count) 32 (omega arith))

  pub copy-reach : (count q i : ℕ) → count ≤ 28 * n → q < 32 * count → i < cell_len → Reached (image_len n + cell_len * q + i) (copy count)
  copy-reach zero q i on less within = absurd (omega arith)
  copy-reach (suc count) q i on less within = ⊎_elim
      (λ earlier. Reached-first _ (copy count) (copy_segment n count bytes) (copy-reach count q i (omega arith) earlier within))
      (λ last.
      let there : 32 * count + (q - 32 * count) ≡ q = omega arith in
      Reached-later _ (copy count) (copy_segment n count bytes)
      (subst (λ (p : ℕ). Reached (image_len n + cell_len * p + i) (copy_segment n count bytes)) there
      (cells-reach (32 * count) 32 (q - 32 * count) i (omega arith) (omega arith) within)))
      (cases_lt q (32 * count))

  -- cells of bytes that are the same below the end of the planes
  pub cell-kept : (b : List ℕ) (q : ℕ) → image_len n ≤ length b → ((k : ℕ) → 64 ≤ k → k < image_len n → get_or b k 0 ≡ get_or bytes k 0) →
      q < sectors n → cell n b q ≡ cell n bytes q
  unfolding cell
  cell-kept b q there same on =
      by_parts _ _ _ _ _ _ _ _ (same (plane_place n GateByte q) (omega arith) (omega arith))
      (same (plane_place n FormedByte q) (omega arith) (omega arith)) (same (plane_place n DefectByte q) (omega arith) (omega arith))
      (range-same bytes b (plane_place n Data q) (plane_place n Data q + 1024) (omega arith) (omega arith) (omega arith)
      (λ k a less. same k (omega arith) (omega arith)))
    where
      by_parts : (g g' f f' d d' : ℕ) (s s' : List ℕ) → g ≡ g' → f ≡ f' → d ≡ d' → s ≡ s' → (g ∷ f ∷ d ∷ s) ≡ (g' ∷ f' ∷ d' ∷ s')
      by_parts g g' f f' d d' s s' e1 e2 e3 e4 = rw (e1, e2, e3, e4) refl

-- the same writes
cells-same : (n sector : ℕ) (f g : ℕ → List ℕ) (count : ℕ) → ((i : ℕ) → i < count → f i ≡ g i) →
    cells_by n sector f count ≡ cells_by n sector g count
cells-same n sector f g zero same = refl
cells-same n sector f g (suc count) same =
    ap (λ ss. ss ++ WriteAt (cell_place (image_len n) GateByte (sector + count)) (f count) ∷ [])
    (cells-same n sector f g count (λ i less. same i (omega arith)))
    ∙ ap (λ c. cells_by n sector g count ++ WriteAt (cell_place (image_len n) GateByte (sector + count)) c ∷ []) (same count (omega arith))

segment-same : (n : ℕ) (bytes b : List ℕ) (segment : ℕ) → image_len n ≤ length bytes → image_len n ≤ length b →
    ((k : ℕ) → 64 ≤ k → k < image_len n → get_or b k 0 ≡ get_or bytes k 0) → segment < 28 * n →
    copy_segment n segment b ≡ copy_segment n segment bytes
segment-same n bytes b segment long there same on =
    ap (λ ss. Look ∷ ss) (cells-same n (32 * segment) (λ i. cell n b (32 * segment + i)) (λ i. cell n bytes (32 * segment + i)) 32
    (λ i less. cell-kept n bytes long b (32 * segment + i) there same (omega arith)))

copy-same : (n : ℕ) (bytes b : List ℕ) (count : ℕ) → image_len n ≤ length bytes → image_len n ≤ length b →
    ((k : ℕ) → 64 ≤ k → k < image_len n → get_or b k 0 ≡ get_or bytes k 0) → count ≤ 28 * n →
    copy_steps n b count ≡ copy_steps n bytes count
copy-same n bytes b zero long there same on = refl
copy-same n bytes b (suc count) long there same on =
    ap (λ ss. ss ++ copy_segment n count b) (copy-same n bytes b count long there same (omega arith))
    ∙ ap (λ ss. copy_steps n bytes count ++ ss) (segment-same n bytes b count long there same (omega arith))

-- a segment as it is read
pub segment-cells : (told t1 : Option (List ℕ)) (n segment p : ℕ) (m : SegmentMarks) (block : List ℕ) → t1 ≡ told →
    p ≡ plane_place n Data (32 * segment) → segment < 28 * n
    → IfSome told (λ b. image_len n ≤ length b → AreMarks (record { segments_per_track = n; kind = Planes }) segment b m) →
    IfSome t1 (λ b. p + 32768 ≤ length b → block ≡ slice_range b p (p + 32768))
    → IfSome told (λ b. image_len n ≤ length b → (i : ℕ) → i < 32 → cell_with m.gates m.formed m.defects block i ≡ cell n b
    (32 * segment + i))
unfolding cell cell_with
segment-cells None t1 n segment p m block same at on marks given = tt
segment-cells (Some b) t1 n segment p m block same at on marks given = λ long i less.
    let is : block ≡ slice_range b p (p + 32768) = told-fact t1 (λ c. p + 32768 ≤ length c → block ≡ slice_range c p (p + 32768)) b same
    given (omega arith) in
    let are = marks long in
    by_parts _ _ _ _ _ _ _ _ (are.gates i less) (are.formed i less) (are.defects i less)
    (ap (λ s. slice_range s (1024 * i) (1024 * i + 1024)) is ∙ inner long i less)
  where
    by_parts : (g g' f f' d d' : ℕ) (s s' : List ℕ) → g ≡ g' → f ≡ f' → d ≡ d' → s ≡ s' → (g ∷ f ∷ d ∷ s) ≡ (g' ∷ f' ∷ d' ∷ s')
    by_parts g g' f f' d d' s s' e1 e2 e3 e4 = rw (e1, e2, e3, e4) refl

    inner : image_len n ≤ length b → (i : ℕ) → i < 32 → slice_range (slice_range b p (p + 32768)) (1024 * i)
        (1024 * i + 1024) ≡ slice_range b (plane_place n Data (32 * segment + i)) (plane_place n Data (32 * segment + i) + 1024)
    inner long i less =
        let w = length-between b p (p + 32768) (omega arith) in
        let x = length-between (slice_range b p (p + 32768)) (1024 * i) (1024 * i + 1024) (omega arith) in
        let y = length-between b (plane_place n Data (32 * segment + i)) (plane_place n Data (32 * segment + i) + 1024) (omega arith) in
        same_lists _ _ (let e : 1024 * i + 1024 - 1024 * i ≡ plane_place n Data (32 * segment + i) + 1024 - plane_place n Data
        (32 * segment + i) = omega arith in x ∙ e ∙ sym y) (λ k d h.
        let there : p + (1024 * i + k) ≡ plane_place n Data (32 * segment + i) + k = omega arith in
        get_or-between (slice_range b p (p + 32768)) (1024 * i) (1024 * i + 1024) k d (omega arith)
        ∙ get_or-between b p (p + 32768) (1024 * i + k) d (omega arith)
        ∙ ap (λ j. get_or b j d) there
        ∙ sym (get_or-between b (plane_place n Data (32 * segment + i)) (plane_place n Data (32 * segment + i) + 1024) k d (omega arith)))

-- looks are one look
option_same : (told : Option (List ℕ)) → told ≡ option_map (stored Look) told
option_same None = refl
option_same (Some bytes) = refl

looks-stored : {D : Type 0} (m : Meaning D) (a b : D) → Looks m a b → m.faults b ≡ m.faults a → Stored m a b Look
looks-stored m a b looks stood = record {
  told = looks.told ∙ option_same (m.told a);
  later = stood;
  changes = looks.changes;
  leaves = λ left is. (left, looks.leaves left is, refl);
  crashes = record {
    telling = looks.telling;
    clock = looks.clock;
    kept = looks.kept;
    parted = looks.parted;
    since = λ t left early is. elim (looks.since t left early is) [
      | inl was ↦ inl was
      | inr now ↦ inr (left, now, refl)
    ];
  };
}

looks-failed : {D : Type 0} (m : Meaning D) (a b c : D) → Looks m a b → Failed m b c Look → Rose (m.faults a) (m.faults c) →
    Failed m a c Look
looks-failed m a b c looks failed rose =
    let both = Passes-Passes (Looks-Passes looks) (Failed-Passes failed) in
    record {
      cause = rose;
      later = both.later;
      changes = failed.changes ∙ looks.changes;
      tells = both.tells;
      torn = λ left is. let i = failed.torn left is in (i.0, looks.leaves i.0 i.1, i.2);
      leaves = λ left is. let i = failed.leaves left is in (i.0, looks.leaves i.0 i.1, i.2);
      settled = failed.settled;
      crashes = record {
        telling = both.telling;
        clock = both.clock;
        kept = both.kept;
        parted = both.parted;
        since = λ t left early is. elim (failed.crashes.since t left (let e = looks.clock in omega arith) is) [
          | inl earlier ↦ elim (looks.since t left early earlier) [
            | inl was ↦ inl was
            | inr now ↦ inr (left, now, refl)
          ]
          | inr inside ↦ inr (inside.0, looks.leaves inside.0 inside.1, inside.2)
        ];
      };
    }

-- the cells, one after the other
pub cells-more : {D : Type 0} (m : Meaning D) (a b c : D) (n first : ℕ) (parts : ℕ → List ℕ) (i p : ℕ) (part : List ℕ) →
    Ran m a b (cells_by n first parts i) → p ≡ cell_place (image_len n) GateByte (first + i) → part ≡ parts i →
    Stored m b c (WriteAt p part)
    → Ran m a c (cells_by n first parts (i + 1))
cells-more m a b c n first parts i p part ran at is s =
    let P : ℕ → Type 0 = λ k. Ran m a c (cells_by n first parts k) in
    subst P (sym (add-one i)) (Ran-Ran m a b c (cells_by n first parts i)
    (WriteAt (cell_place (image_len n) GateByte (first + i)) (parts i) ∷ []) ran (
      c,
      subst (λ x. Stored m b c (WriteAt (cell_place (image_len n) GateByte (first + i)) x)) is
          (subst (λ (x : ℕ). Stored m b c (WriteAt x part)) at s),
      refl,
    ))

longer : {D : Type 0} (m : Meaning D) (a b : D) (n first : ℕ) (parts : ℕ → List ℕ) (i count : ℕ) → i ≤ count →
    Halted m a b (cells_by n first parts i) → Halted m a b (cells_by n first parts count)
longer m a b n first parts i zero few halted = let none : i ≡ 0 = omega arith in
    subst (λ (k : ℕ). Halted m a b (cells_by n first parts k)) none halted
longer m a b n first parts i (suc count) few halted = ⊎_elim
    (λ less. Halted-front m a b (cells_by n first parts count)
    (WriteAt (cell_place (image_len n) GateByte (first + count)) (parts count) ∷ [])
    (longer m a b n first parts i count (omega arith) halted))
    (λ all. let same : i ≡ suc count = omega arith in subst (λ (k : ℕ). Halted m a b (cells_by n first parts k)) same halted)
    (cases_lt i (suc count))

pub cells-halted : {D : Type 0} (m : Meaning D) (a b c : D) (n first : ℕ) (parts : ℕ → List ℕ) (i p : ℕ) (part : List ℕ) →
    Ran m a b (cells_by n first parts i) → p ≡ cell_place (image_len n) GateByte (first + i) → part ≡ parts i → i < 32 →
    Failed m b c (WriteAt p part)
    → Halted m a c (cells_by n first parts 32)
cells-halted m a b c n first parts i p part ran at is less failed =
    longer m a c n first parts (suc i) 32 (omega arith)
    (Ran-Halted m a b c (cells_by n first parts i) (WriteAt (cell_place (image_len n) GateByte (first + i)) (parts i) ∷ []) ran
    (inl (subst (λ x. Failed m b c (WriteAt (cell_place (image_len n) GateByte (first + i)) x)) is
    (subst (λ (x : ℕ). Failed m b c (WriteAt x part)) at failed))))

pub cells-end : {D : Type 0} (m : Meaning D) (a b : D) (n first : ℕ) (parts : ℕ → List ℕ) (i end : ℕ) → i ≡ end →
    Ran m a b (cells_by n first parts i) → Ran m a b (cells_by n first parts end)
cells-end m a b n first parts i end same ran = subst (λ (k : ℕ). Ran m a b (cells_by n first parts k)) same ran

-- a segment, looked at and written
abbrev look_first : (n segment : ℕ) → Option (List ℕ) → List DiskStep
look_first n segment None = Look ∷ []
look_first n segment (Some bytes) = copy_segment n segment bytes

pub segment-failed : {D T E : Type 0} (m : Meaning D) (a b : D) (n segment : ℕ) (r : Result T E) (e : E) → r ≡ Err e →
    ((mid : D) × Looks m a mid × Failed m mid b Look) → Rose (m.faults a) (m.faults b) →
    Planned m a b (λ bytes. copy_segment n segment bytes) r
segment-failed m a b n segment (Ok x) e is looked rose = cc
segment-failed m a b n segment (Err f) e is looked rose = record {
  steps = look_first n segment (m.told a);
  planned = λ bytes told. ap (look_first n segment) told;
  runs = by_told (m.told a) (looks-failed m a looked.0 b looked.1 looked.2 rose);
}
  where
    by_told : (told : Option (List ℕ)) → Failed m a b Look → Halted m a b (look_first n segment told)
    by_told None failed = inl failed
    by_told (Some bytes) failed = inl failed

pub segment-planned : {D T E : Type 0} (m : Meaning D) (a b c : D) (n segment : ℕ) (parts : ℕ → List ℕ) (r : Result T E) → Looks m a b →
    m.faults b ≡ m.faults a → Runs m b c (cells_by n (32 * segment) parts 32) r
    → ((bytes : List ℕ) → m.told a ≡ Some bytes → (i : ℕ) → i < 32 → parts i ≡ cell n bytes (32 * segment + i)) →
    Planned m a c (λ bytes. copy_segment n segment bytes) r
segment-planned {T = T} {E = E} m a b c n segment parts r looks stood runs same = record {
  steps = Look ∷ cells_by n (32 * segment) parts 32;
  planned = λ bytes told. ap (λ ss. Look ∷ ss)
      (cells-same n (32 * segment) parts (λ i. cell n bytes (32 * segment + i)) 32 (same bytes told));
  runs = by_result r runs;
}
  where
    by_result : (r : Result T E) → Runs m b c (cells_by n (32 * segment) parts 32) r →
        Runs m a c (Look ∷ cells_by n (32 * segment) parts 32) r
    by_result (Ok x) ran = (b, looks-stored m a b looks stood, ran)
    by_result (Err e) halted = inr (b, looks-stored m a b looks stood, halted)

-- the steps of the copy that a disk tells, and others where it tells none
abbrev all_steps : (n : ℕ) (others : List DiskStep) → Option (List ℕ) → List DiskStep
all_steps n others None = others
all_steps n others (Some bytes) = copy_steps n bytes (28 * n)

copy-longer : {D : Type 0} (m : Meaning D) (a b : D) (n : ℕ) (bytes : List ℕ) (i count : ℕ) → i ≤ count →
    Halted m a b (copy_steps n bytes i) → Halted m a b (copy_steps n bytes count)
copy-longer m a b n bytes i zero few halted = let none : i ≡ 0 = omega arith in
    subst (λ (k : ℕ). Halted m a b (copy_steps n bytes k)) none halted
copy-longer m a b n bytes i (suc count) few halted = ⊎_elim
    (λ less. Halted-front m a b (copy_steps n bytes count) (copy_segment n count bytes)
    (copy-longer m a b n bytes i count (omega arith) halted))
    (λ all. let same : i ≡ suc count = omega arith in subst (λ (k : ℕ). Halted m a b (copy_steps n bytes k)) same halted)
    (cases_lt i (suc count))

Spares-long : (P : ℕ → Type 0) (len more : ℕ) (steps : List DiskStep) → len ≤ more → Spares P len steps → Spares P more steps
Spares-long P len more [] fits spares = tt
Spares-long P len more (Look ∷ steps) fits spares = Spares-long P len more steps fits spares
Spares-long P len more (Sync ∷ steps) fits spares = Spares-long P len more steps fits spares
Spares-long P len more (SetLen n ∷ steps) fits spares = absurd spares
Spares-long P len more (WriteAt place part ∷ steps) fits spares =
    (let a = spares.0 in omega arith, spares.1, Spares-long P len more steps fits spares.2)

-- the segments so far
pub record Copying {D : Type 0} (m : Meaning D) (old now : D) (n count : ℕ) : Type 0 where
  pub steps : List DiskStep
  pub planned : (bytes : List ℕ) → m.told old ≡ Some bytes → steps ≡ copy_steps n bytes count
  pub ran : Ran m old now steps

pub copying-none : {D : Type 0} (m : Meaning D) (old : D) (n : ℕ) → Copying m old old n 0
copying-none m old n = record { steps = []; planned = λ bytes told. refl; ran = refl }

-- .. leave the planes as they were
still : {D : Type 0} (m : Meaning D) (old now : D) (n count : ℕ) (bytes : List ℕ) (c : Copying m old now n count) →
    m.told old ≡ Some bytes → upgraded_len n ≤ length bytes → count < 28 * n
    → (b : List ℕ) × (m.told now ≡ Some b) × (copy_segment n count b ≡ copy_segment n count bytes)
still m old now n count bytes c told long on =
    let is = c.planned bytes told in
    let kept = spared (Stays n) (copy_steps n bytes count) bytes bytes
    (Spares-long (Stays n) (upgraded_len n) (length bytes) (copy_steps n bytes count) long
    (copy-spare n bytes (omega arith) count (omega arith))) (SameAt-all _ bytes) in
    let size = kept.size in (
      after_steps c.steps bytes,
      Ran-told m old now c.steps bytes told c.ran,
      ap (λ ss. copy_segment n count (after_steps ss bytes)) is
          ∙ segment-same n bytes (after_steps (copy_steps n bytes count) bytes) count (omega arith) (omega arith)
          (λ k a less. kept.same k (inr (a, less))) on,
    )

module _ {D : Type 0} (m : Meaning D) (old now next : D) (n count : ℕ) (c : Copying m old now n count)
    (long : (bytes : List ℕ) → m.told old ≡ Some bytes → upgraded_len n ≤ length bytes) (on : count < 28 * n) where
  more-planned : {T E : Type 0} (r : Result T E) (p : Planned m now next (λ bytes. copy_segment n count bytes) r) (bytes : List ℕ) →
      m.told old ≡ Some bytes → c.steps ++ p.steps ≡ copy_steps n bytes (suc count)
  more-planned r p bytes told =
      let s = still m old now n count bytes c told (long bytes told) on in
      ap (λ ss. ss ++ p.steps) (c.planned bytes told) ∙ ap (λ ss. copy_steps n bytes count ++ ss) (p.planned s.0 s.1 ∙ s.2)

  pub copying-more : {T E : Type 0} (r : Result T E) (x : T) → r ≡ Ok x → Planned m now next (λ bytes. copy_segment n count bytes) r →
      Copying m old next n (count + 1)
  copying-more (Ok y) x is p = record {
    steps = c.steps ++ p.steps;
    planned = λ bytes told. more-planned _ p bytes told ∙ ap (copy_steps n bytes) (sym (add-one count));
    ran = Ran-Ran m old now next c.steps p.steps c.ran p.runs;
  }
  copying-more (Err e) x is p = cc

  pub copying-failed : {T E S : Type 0} (r : Result T E) (e : E) (q : Result S E) (f : E) → r ≡ Err e → q ≡ Err f →
      Planned m now next (λ bytes. copy_segment n count bytes) r → Planned m old next (λ bytes. copy_steps n bytes (28 * n)) q
  copying-failed r e (Ok y) f is was p = cc
  copying-failed (Ok x) e (Err g) f is was p = cc
  copying-failed (Err h) e (Err g) f is was p = record {
    steps = all_steps n (c.steps ++ p.steps) (m.told old);
    planned = λ bytes told. ap (all_steps n (c.steps ++ p.steps)) told;
    runs = by_told (m.told old) refl;
  }
    where
      by_told : (told : Option (List ℕ)) → m.told old ≡ told → Halted m old next (all_steps n (c.steps ++ p.steps) told)
      by_told None told = Ran-Halted m old now next c.steps p.steps c.ran p.runs
      by_told (Some bytes) told =
          let P : List DiskStep → Type 0 = λ ss. Halted m old next ss in
          copy-longer m old next n bytes (suc count) (28 * n) (omega arith)
          (subst P (more-planned _ p bytes told) (Ran-Halted m old now next c.steps p.steps c.ran p.runs))

pub copying-all : {D T E : Type 0} (m : Meaning D) (old now : D) (n count : ℕ) (r : Result T E) (x : T) → r ≡ Ok x → count ≡ 28 * n →
    Copying m old now n count → Planned m old now (λ bytes. copy_steps n bytes (28 * n)) r
copying-all m old now n count (Ok y) x is all c = record {
  steps = c.steps;
  planned = λ bytes told. c.planned bytes told ∙ ap (copy_steps n bytes) all;
  runs = c.ran;
}
copying-all m old now n count (Err e) x is all c = cc

-- all steps of an upgrade, by those of its copy
abbrev pub around : (n : ℕ) → List DiskStep → List DiskStep
around n steps = (resize (upgraded_len n) ++ (steps ++ (Sync ∷ [] ++ put base_place (little_endian_bytes 8 (image_len n))))) ++ put
    layout_place (mark_byte ∷ [])

around-is : (n : ℕ) (bytes : List ℕ) → around n (copy_steps n bytes (28 * n)) ≡ upgrade_steps n bytes
unfolding upgrade_steps
around-is n bytes = refl

module _ {D : Type 0} (m : Meaning D) (a : D) (n : ℕ) (long : (bytes : List ℕ) → m.told a ≡ Some bytes → image_len n ≤ length bytes) where
  abbrev base_put : List DiskStep
  base_put = put base_place (little_endian_bytes 8 (image_len n))

  abbrev mark_put : List DiskStep
  mark_put = put layout_place (mark_byte ∷ [])

  abbrev behind : List DiskStep → List DiskStep
  behind steps = steps ++ (Sync ∷ [] ++ base_put)

  pub length-failed : {T E : Type 0} (b : D) (r : Result T E) (e : E) → r ≡ Err e → Halted m a b (resize (upgraded_len n)) →
      Planned m a b (λ bytes. upgrade_steps n bytes) r
  length-failed b (Ok x) e is halted = cc
  length-failed b (Err f) e is halted = record {
    steps = around n (all_steps n [] (m.told a));
    planned = λ bytes told. ap (λ o. around n (all_steps n [] o)) told ∙ around-is n bytes;
    runs = Halted-front m a b (resize (upgraded_len n) ++ behind (all_steps n [] (m.told a))) mark_put
        (Halted-front m a b (resize (upgraded_len n)) (behind (all_steps n [] (m.told a))) halted);
  }

  module _ (b : D) (longer_now : Ran m a b (resize (upgraded_len n))) where
    copied-steps : {T E : Type 0} (c : D) (r : Result T E) (p : Planned m b c (λ bytes. copy_steps n bytes (28 * n)) r) (bytes : List ℕ) →
        m.told a ≡ Some bytes → around n p.steps ≡ upgrade_steps n bytes
    copied-steps c r p bytes told =
        let fits = long bytes told in
        let size = length-resized (upgraded_len n) bytes in
        ap (around n)
        (p.planned (resized (upgraded_len n) bytes) (Ran-told m a b (resize (upgraded_len n)) bytes told longer_now)
        ∙ copy-same n bytes (resized (upgraded_len n) bytes) (28 * n) fits (omega arith)
        (λ k late less. get_or-resized (upgraded_len n) bytes k (omega arith)) (omega arith))
        ∙ around-is n bytes

    pub copy-failed : {T E S : Type 0} (c : D) (r : Result T E) (e : E) (q : Result S E) (f : E) → r ≡ Err e → q ≡ Err f →
        Planned m b c (λ bytes. copy_steps n bytes (28 * n)) r → Planned m a c (λ bytes. upgrade_steps n bytes) q
    copy-failed c (Ok x) e q f is was p = cc
    copy-failed c (Err g) e (Ok y) f is was p = cc
    copy-failed c (Err g) e (Err h) f is was p = record {
      steps = around n p.steps;
      planned = copied-steps c (Err g) p;
      runs = Halted-front m a c (resize (upgraded_len n) ++ behind p.steps) mark_put
          (Ran-Halted m a b c (resize (upgraded_len n)) (behind p.steps) longer_now
          (Halted-front m b c p.steps (Sync ∷ [] ++ base_put) p.runs));
    }

    module _ {T E : Type 0} (c : D) (x : T) (p : Planned {T = T} {E = E} m b c (λ bytes. copy_steps n bytes (28 * n)) (Ok x)) where
      late-halted : {S F : Type 0} (d : D) (q : Result S F) (f : F) → q ≡ Err f → Halted m c d (Sync ∷ [] ++ base_put) →
          Planned m a d (λ bytes. upgrade_steps n bytes) q
      late-halted d (Ok y) f was halted = cc
      late-halted d (Err h) f was halted = record {
        steps = around n p.steps;
        planned = copied-steps c (Ok x) p;
        runs = Halted-front m a d (resize (upgraded_len n) ++ behind p.steps) mark_put
            (Ran-Halted m a b d (resize (upgraded_len n)) (behind p.steps) longer_now
            (Ran-Halted m b c d p.steps (Sync ∷ [] ++ base_put) p.runs halted));
      }

      pub sync-failed : {S F : Type 0} (d : D) (q : Result S F) (f : F) → q ≡ Err f → Failed m c d Sync →
          Planned m a d (λ bytes. upgrade_steps n bytes) q
      sync-failed d q f was failed = late-halted d q f was (inl failed)

      pub base-failed : {S F : Type 0} (d e : D) (q : Result S F) (f : F) (at : List ℕ) → q ≡ Err f → Stored m c d Sync →
          at ≡ little_endian_bytes 8 (image_len n) → Halted m d e (put base_place at) → Planned m a e (λ bytes. upgrade_steps n bytes) q
      base-failed d e q f at was synced is halted =
          let P : List ℕ → Type 0 = λ y. Halted m d e (put base_place y) in
          late-halted e q f was (inr (d, synced, subst P is halted))

      pub upgrade-ran : {S F : Type 0} (d e f : D) (q : Result S F) (at : List ℕ) → Stored m c d Sync →
          at ≡ little_endian_bytes 8 (image_len n) → Ran m d e (put base_place at) → Runs m e f (put layout_place (mark_byte ∷ [])) q →
          Planned m a f (λ bytes. upgrade_steps n bytes) q
      upgrade-ran d e f q at synced is ran runs =
          let P : List ℕ → Type 0 = λ y. Ran m d e (put base_place y) in
          record {
            steps = around n p.steps;
            planned = copied-steps c (Ok x) p;
            runs = Runs-after m a e f (resize (upgraded_len n) ++ behind p.steps) mark_put q
                (Ran-Ran m a b e (resize (upgraded_len n)) (behind p.steps) longer_now
                (Ran-Ran m b c e p.steps (Sync ∷ [] ++ base_put) p.runs (d, synced, subst P is ran))) runs;
          }
