-- What the writes of an upgrade make of the cartridge: it stays as it was, in version 1 until the layout mark stands and in
-- version 2 from then on.
use Rattle.std.proofs.Common.{◌≡◌, ℕ, suc, ◌+◌, ◌*◌, ◌-◌, ◌<◌, ◌≤◌, ◌⊎◌, inl, inr, ⊎_elim, Bool, true, false, List, [], ◌∷◌, ◌++◌, length}
use Rattle.std.proofs.Common.{get_or, append_assoc, refl, sym, ◌∙◌, ap, arith, Some, None, subst}
use Rattle.std.specs.Prelude.{slice_index, slice_range, ◌==◌, if◌then◌else◌}
use Rattle.std.proofs.lemmas.Bool.{eqb-true, eq-eqb, le-leb}
use Rattle.std.proofs.lemmas.List.{same_lists, get_or_default}
use Rattle.std.proofs.lemmas.List.Edits.{length-between, get_or-between}
use Rattle.qic_base.specs.declared.tape.SectorView.{SectorView}
use Rattle.qic_base.specs.declared.TheConstants.{LONGEST}
use Rattle.qic_base.specs.Disk.{DiskStep, WriteAt, Sync, resized}
use Rattle.qic_base.specs.Field.{little_endian, little_endian_bytes, number_at, overwritten}
use Rattle.qic_base.specs.Step.{Upgrade, effect, Torn}
use Rattle.qic_base.proofs.FieldLaws.{length-little_endian_bytes, number_at-overwritten}
use Rattle.cart_image.specs.declared.layout.Kind.{Kind}
use Rattle.cart_image.specs.declared.layout.Kind.TheVariants.{Planes, Cells, CellsBehind}
use Rattle.cart_image.specs.declared.layout.Layout.{Layout}
use Rattle.cart_image.specs.declared.layout.Part.TheVariants.{Data}
use Rattle.cart_image.specs.Layout.{cell_len}
use Rattle.cart_image.specs.Layout.{sectors, image_len, upgraded_len, protected_place, referenced_place, layout_place, base_place}
use Rattle.cart_image.specs.Layout.{mark_byte, end_of, plane_place, put, resize, cell, copy_steps, upgrade_steps}
use Rattle.cart_image.specs.Image.{read_len, is_signed, is_length, base_kind, kind_by, head_of, view_in, views_in, sector_bytes, read_as}
use Rattle.cart_image.specs.Image.{cartridge_of, layout_of}
use Rattle.cart_image.specs.Run.{after_steps, Crashed}
use Rattle.cart_image.specs.Whole.{head-made, head_of-parts, cartridge_of-read, layout_of-read, length-views}
use Rattle.cart_image.proofs.Bytes.{OnlyIn, OnlyIn-torn, OnlyIn-written, same_at, range-same, cell-is, view_in-is}
use Rattle.cart_image.proofs.Carries.{Means}
use Rattle.cart_image.proofs.Changes.{get_or-views}
use Rattle.cart_image.proofs.Copies.{Stays, copied, copied-at, copy-even, copy-spare, copy-reach}
use Rattle.cart_image.proofs.Heads.{head-byte, head-laid, number-same, signed-same, views-kept}
use Rattle.cart_image.proofs.Renews.{Crashed-resize, length-resized, get_or-resized}
use Rattle.cart_image.proofs.Sectors.{Crashed-put, byte-written}
use Rattle.cart_image.proofs.Writes.{SameAt, SameAt-all, Spares, Spares-both, spared, spared-crash, Crashed-front, after-both, Even}
use Rattle.cart_image.proofs.Writes.{has-value}

-- a head of version 1 has no layout mark, and its version word is 1
planes-kind : (m b v n : ℕ) → (if m == mark_byte then base_kind n b else (if v == 1 then Some Planes else None)) ≡ Some Planes →
    ((m == mark_byte) ≡ false) × ((v == 1) ≡ true)
planes-kind m b v n is = by_tests (m == mark_byte) (v == 1) (b == 64) (b == image_len n) is
  where
    by_tests : (x y c d : Bool) → (if x then (if c then Some Cells else (if d then Some CellsBehind else None)) else
        (if y then Some Planes else None)) ≡ Some Planes → (x ≡ false) × (y ≡ true)
    by_tests true y true d is = cc
    by_tests true y false true is = cc
    by_tests true y false false is = cc
    by_tests false true c d is = (refl, refl)
    by_tests false false c d is = cc

head-number : (bytes : List ℕ) (i w : ℕ) → 24 ≤ length bytes → i + w ≤ 24 →
    number_at (slice_range bytes 0 read_len) i w ≡ number_at bytes i w
unfolding number_at
head-number bytes i w long within =
    let n = length-between bytes 0 24 long in
    ap little_endian (range-same bytes (slice_range bytes 0 read_len) i (i + w) (omega arith) (omega arith) (omega arith)
    (λ k a b. head-byte bytes k long (omega arith)))

module _ (n : ℕ) (short : 3 ≤ n) (most : n ≤ LONGEST) (bytes : List ℕ)
    (laid : layout_of bytes ≡ Some (record { segments_per_track = n; kind = Planes })) (long : image_len n ≤ length bytes) where
  abbrev old : Layout
  old = record { segments_per_track = n; kind = Planes }

  abbrev new : Layout
  new = record { segments_per_track = n; kind = CellsBehind }

  abbrev head : List ℕ
  head = slice_range bytes 0 read_len

  -- the head of these bytes
  head-is : head_of bytes ≡ Some (record {
    layout = old;
    protected = slice_index bytes protected_place == mark_byte;
    referenced =
        slice_index bytes referenced_place == mark_byte;
  })
  head-is = head-laid bytes old (omega arith) laid

  signed-here : is_signed head ≡ true
  signed-here = (head_of-parts bytes _ head-is).signed

  number-here : number_at head 10 2 ≡ n
  number-here = (head_of-parts bytes _ head-is).length_is

  kind-here : ((slice_index head layout_place == mark_byte) ≡ false) × ((number_at head 8 2 == 1) ≡ true)
  kind-here = planes-kind (slice_index head layout_place) (number_at head base_place 8) (number_at head 8 2) n
      (head_of-parts bytes _ head-is).kind_is

  length-here : is_length n ≡ true
  length-here = let a = le-leb 3 n short in let b = le-leb n LONGEST most in rw (a, b) refl

  reads : cartridge_of bytes ≡ Some (read_as
      (record {
        layout = old;
        protected = slice_index bytes protected_place == mark_byte;
        referenced =
            slice_index bytes referenced_place == mark_byte;
      }) bytes)
  reads = cartridge_of-read bytes _ head-is

  -- bytes whose head tells the same but for the layout mark and what stands behind it
  module _ (left : List ℕ) (kind : Kind) (fits : end_of (record { segments_per_track = n; kind = kind }) ≤ length left)
      (there : image_len n ≤ length left) (same : (k : ℕ) → k < 14 → get_or left k 0 ≡ get_or bytes k 0)
      (kind_is : kind_by n (slice_range left 0 read_len) ≡ Some kind) where
    head-left : head_of left ≡ Some (record {
      layout = record { segments_per_track = n; kind = kind };
      protected =
          slice_index bytes protected_place == mark_byte;
      referenced = slice_index bytes referenced_place == mark_byte;
    })
    unfolding head_of
    head-left =
        head-made (length left) n kind (slice_range left 0 read_len)
        (signed-same bytes left (omega arith) (omega arith) (λ k less. same k (omega arith)) ∙ signed-here) length-here
        (number-same bytes left 10 2 (omega arith) (omega arith) (omega arith) (λ k a b. same k (omega arith)) ∙ number-here) kind_is
        (le-leb _ _ fits)
        ∙ ap (λ p. Some (record {
          layout = record { segments_per_track = n; kind = kind };
          protected = p == mark_byte;
          referenced =
              slice_index (slice_range left 0 read_len) referenced_place == mark_byte;
        }))
        (head-byte left 12 (omega arith) (omega arith) ∙ same 12 (omega arith))
        ∙ ap (λ r. Some (record {
          layout = record { segments_per_track = n; kind = kind };
          protected =
              slice_index bytes protected_place == mark_byte;
          referenced = r == mark_byte;
        }))
        (head-byte left 13 (omega arith) (omega arith) ∙ same 13 (omega arith))

  -- Without the layout mark they are read as before.
  still-old : (left : List ℕ) → image_len n ≤ length left →
      ((k : ℕ) → (k < 14) ⊎ ((64 ≤ k) × (k < image_len n)) → get_or left k 0 ≡ get_or bytes k 0) →
      (slice_index left layout_place == mark_byte) ≡ false → cartridge_of left ≡ cartridge_of bytes
  still-old left there same unmarked =
      cartridge_of-read left _ (head-left left Planes there there (λ k less. same k (inl less)) kind_is)
      ∙ ap (λ (vs : List SectorView). Some
      (record {
        info = record {
          segments_per_track = n;
          protected = slice_index bytes protected_place == mark_byte;
          referenced =
              slice_index bytes referenced_place == mark_byte;
        };
        version = 1;
        views = vs;
      }))
      (views-kept old bytes left long there (λ k a b. same k (inr (a, b))))
      ∙ sym reads
    where
      kind_is : kind_by n (slice_range left 0 read_len) ≡ Some Planes
      kind_is =
          ap (λ m. if m == mark_byte then base_kind n (number_at (slice_range left 0 read_len) base_place 8) else
          (if number_at (slice_range left 0 read_len) 8 2 == 1 then Some Planes else None))
          (head-byte left 14 (omega arith) (omega arith))
          ∙ ap (λ b. if b then base_kind n (number_at (slice_range left 0 read_len) base_place 8) else
          (if number_at (slice_range left 0 read_len) 8 2 == 1 then Some Planes else None)) unmarked
          ∙ ap (λ v. if v == 1 then Some Planes else None)
          (number-same bytes left 8 2 (omega arith) (omega arith) (omega arith) (λ k a b. same k (inl (omega arith))))
          ∙ ap (λ b. if b then Some Planes else None) kind-here.1

  -- With it, the base and the cells, they are the same cartridge in version 2.
  not-first : (image_len n == 64) ≡ false
  not-first = by_test (image_len n == 64) refl
    where
      by_test : (b : Bool) → (image_len n == 64) ≡ b → b ≡ false
      by_test true is = let e = eqb-true (image_len n) 64 is in absurd (omega arith)
      by_test false is = refl

  kind-new : (left : List ℕ) → upgraded_len n ≤ length left → (slice_index left layout_place == mark_byte) ≡ true →
      number_at left 16 8 ≡ image_len n → kind_by n (slice_range left 0 read_len) ≡ Some CellsBehind
  kind-new left there marked base =
      ap (λ m. if m == mark_byte then base_kind n (number_at (slice_range left 0 read_len) base_place 8) else
      (if number_at (slice_range left 0 read_len) 8 2 == 1 then Some Planes else None)) (head-byte left 14 (omega arith) (omega arith))
      ∙ ap (λ b. if b then base_kind n (number_at (slice_range left 0 read_len) base_place 8) else
      (if number_at (slice_range left 0 read_len) 8 2 == 1 then Some Planes else None)) marked
      ∙ ap (base_kind n) (head-number left 16 8 (omega arith) (omega arith) ∙ base)
      ∙ ap (λ b. if b then Some Cells else (if image_len n == image_len n then Some CellsBehind else None)) not-first
      ∙ ap (λ b. if b then Some CellsBehind else None) (eq-eqb (image_len n) (image_len n) refl)

  head-new : (left : List ℕ) → upgraded_len n ≤ length left → ((k : ℕ) → k < 14 → get_or left k 0 ≡ get_or bytes k 0) →
      (slice_index left layout_place == mark_byte) ≡ true → number_at left 16 8 ≡ image_len n
      → head_of left ≡ Some (record {
        layout = new;
        protected = slice_index bytes protected_place == mark_byte;
        referenced =
            slice_index bytes referenced_place == mark_byte;
      })
  head-new left there same marked base = head-left left CellsBehind (omega arith) (omega arith) same (kind-new left there marked base)

  now-new : (left : List ℕ) → upgraded_len n ≤ length left → ((k : ℕ) → k < 14 → get_or left k 0 ≡ get_or bytes k 0) →
      (slice_index left layout_place == mark_byte) ≡ true → number_at left 16 8 ≡ image_len n
      → views_in new left ≡ views_in old bytes → cartridge_of left ≡ effect Upgrade (cartridge_of bytes)
  now-new left there same marked base views =
      cartridge_of-read left _ (head-new left there same marked base)
      ∙ ap (λ (vs : List SectorView). Some
      (record {
        info = record {
          segments_per_track = n;
          protected = slice_index bytes protected_place == mark_byte;
          referenced =
              slice_index bytes referenced_place == mark_byte;
        };
        version = 2;
        views = vs;
      })) views
      ∙ sym (ap (effect Upgrade) reads)

  -- the copy
  abbrev copy : ℕ → List DiskStep
  copy count = copy_steps n bytes count

  -- the stages

  abbrev b1 : List ℕ
  b1 = resized (upgraded_len n) bytes

  length1 : length b1 ≡ upgraded_len n
  length1 = length-resized (upgraded_len n) bytes

  same1 : (k : ℕ) → k < image_len n → get_or b1 k 0 ≡ get_or bytes k 0
  same1 k less = get_or-resized (upgraded_len n) bytes k (omega arith)

  abbrev b2 : List ℕ
  b2 = after_steps (copy (28 * n)) b1

  kept2 : SameAt (Stays n) b1 b2
  kept2 = spared (Stays n) (copy (28 * n)) b1 b1
      (subst (λ (len : ℕ). Spares (Stays n) len (copy (28 * n))) (sym length1) (copy-spare n bytes long (28 * n) (omega arith)))
      (SameAt-all _ b1)

  cell2 : (q i : ℕ) → q < sectors n → i < cell_len → get_or b2 (image_len n + cell_len * q + i) 0 ≡ get_or (cell n bytes q) i 0
  cell2 q i on less =
      has-value (copied n bytes long) (image_len n + cell_len * q + i) (copy (28 * n)) b1
      (subst (λ (len : ℕ). Even (copied n bytes long) len (copy (28 * n))) (sym length1)
      (copy-even n bytes long (28 * n) (omega arith))) (inr (copy-reach n bytes long (28 * n) q i (omega arith) (omega arith) less))
      ∙ copied-at n bytes long q i less

  abbrev base : List ℕ
  base = little_endian_bytes 8 (image_len n)

  base-length : length base ≡ 8
  base-length = length-little_endian_bytes 8 (image_len n)

  abbrev b3 : List ℕ
  b3 = overwritten b2 16 base

  length2 : length b2 ≡ upgraded_len n
  length2 = let k = kept2 in k.size ∙ length1

  only3 : OnlyIn 16 (length base) b2 b3
  only3 = let l = length2 in let b = base-length in OnlyIn-written 16 b2 base (omega arith)

  length3 : length b3 ≡ upgraded_len n
  length3 = let o = only3 in o.size ∙ length2

  base3 : number_at b3 16 8 ≡ image_len n
  base3 = let l = length2 in number_at-overwritten b2 16 8 (image_len n) (omega arith) (omega arith)

  same3 : (k : ℕ) → (k < 16) ⊎ ((64 ≤ k) × (k < image_len n)) → get_or b3 k 0 ≡ get_or bytes k 0
  same3 k at =
      let o = only3 in
      let b = base-length in
      let c = kept2 in
      ⊎_elim (λ low. o.below k low ∙ c.same k at ∙ same1 k (omega arith))
      (λ mid. let a = mid.0 in let less = mid.1 in o.above k (omega arith) ∙ c.same k at ∙ same1 k less) at

  -- bytes that differ from them in the layout mark alone
  module _ (left : List ℕ) (only : OnlyIn 14 1 b3 left) where
    length-left : length left ≡ upgraded_len n
    length-left = only.size ∙ length3

    cell-left : (q i : ℕ) → q < sectors n → i < cell_len → get_or left (image_len n + cell_len * q + i) 0 ≡ get_or (cell n bytes q) i 0
    cell-left q i on less =
        let o = only3 in
        let b = base-length in
        only.above (image_len n + cell_len * q + i) (omega arith) ∙ o.above (image_len n + cell_len * q + i) (omega arith)
        ∙ cell2 q i on less

    view-left : (q : ℕ) → q < sectors n → view_in new left q ≡ view_in old bytes q
    unfolding cell
    view-left q on =
        let l = length-left in
        let zero_at : image_len n + cell_len * q ≡ image_len n + cell_len * q + 0 = omega arith in
        view_in-is new left q
        ∙ cell-is _ _ _ _ _ _ _ _ (cell-left q 2 on (omega arith)) (cell-left q 1 on (omega arith))
        (ap (λ k. get_or left k 0) zero_at ∙ cell-left q 0 on (omega arith))
        (let a = length-between left (image_len n + cell_len * q + 3) (image_len n + cell_len * q + 3 + 1024) (omega arith) in
        let b = length-between bytes (plane_place n Data q) (plane_place n Data q + 1024) (omega arith) in
        same_lists _ _
        (let e : image_len n + cell_len * q + 3 + 1024 - (image_len n + cell_len * q + 3) ≡ plane_place n Data q + 1024 - plane_place
        n Data q = omega arith in a ∙ e ∙ sym b) (λ i d less.
        let at : image_len n + cell_len * q + 3 + i ≡ image_len n + cell_len * q + (suc (suc (suc i))) = omega arith in
        get_or-between left (image_len n + cell_len * q + 3) (image_len n + cell_len * q + 3 + 1024) i d (omega arith)
        ∙ get_or_default left (image_len n + cell_len * q + 3 + i) d 0 (omega arith)
        ∙ ap (λ k. get_or left k 0) at ∙ cell-left q (suc (suc (suc i))) on (omega arith)
        ∙ get_or_default (sector_bytes old bytes q) i 0 d (omega arith)))
        ∙ sym (view_in-is old bytes q)

    views-left : views_in new left ≡ views_in old bytes
    views-left = same_lists _ _ (length-views new left ∙ sym (length-views old bytes)) (λ k d less.
        let on : k < sectors n = let v = length-views new left in omega arith in
        get_or-views new left k d on ∙ view-left k on ∙ sym (get_or-views old bytes k d on))

    same-left : (k : ℕ) → (k < 14) ⊎ ((64 ≤ k) × (k < image_len n)) → get_or left k 0 ≡ get_or bytes k 0
    same-left k at = ⊎_elim (λ low. only.below k low ∙ same3 k (inl (omega arith)))
        (λ mid. let a = mid.0 in only.above k (omega arith) ∙ same3 k (inr mid)) at

    base-left : number_at left 16 8 ≡ image_len n
    unfolding number_at
    base-left = let l = length-left in let m = length3 in
        ap little_endian (range-same b3 left 16 (16 + 8) (omega arith) (omega arith) (omega arith) (λ k a b. only.above k (omega arith)))
        ∙ base3

    marked-new : (slice_index left layout_place == mark_byte) ≡ true → cartridge_of left ≡ effect Upgrade (cartridge_of bytes)
    marked-new marked = let l = length-left in now-new left (omega arith) (λ k less. same-left k (inl less)) marked base-left views-left

    either : Torn (Upgrade ∷ []) (cartridge_of bytes) (cartridge_of left)
    either = by_mark (slice_index left layout_place == mark_byte) refl
      where
        by_mark : (b : Bool) → (slice_index left layout_place == mark_byte) ≡ b → Torn (Upgrade ∷ []) (cartridge_of bytes)
            (cartridge_of left)
        by_mark true is = inr (inr (marked-new is))
        by_mark false is = inl (let l = length-left in still-old left (omega arith) same-left is)

  unmarked-here : (slice_index bytes layout_place == mark_byte) ≡ false
  unmarked-here = ap (λ m. m == mark_byte) (sym (head-byte bytes 14 (omega arith) (omega arith))) ∙ kind-here.0

  -- before the mark
  before : (left : List ℕ) → image_len n ≤ length left →
      ((k : ℕ) → (k < 16) ⊎ ((64 ≤ k) × (k < image_len n)) → get_or left k 0 ≡ get_or bytes k 0) → Torn (Upgrade ∷ []) (cartridge_of bytes)
      (cartridge_of left)
  before left there same =
      inl (still-old left there (λ k at. same k (⊎_elim (λ low. inl (omega arith)) (λ mid. inr mid) at))
      (ap (λ m. m == mark_byte) (same 14 (inl (omega arith))) ∙ unmarked-here))

  abbrev body : List DiskStep
  body = copy (28 * n) ++ (Sync ∷ WriteAt 16 base ∷ [])

  abbrev last : List DiskStep
  last = put layout_place (mark_byte ∷ [])

  abbrev whole : List DiskStep
  whole = resize (upgraded_len n) ++ ((body ++ Sync ∷ []) ++ last)

  whole-is : upgrade_steps n bytes ≡ whole
  unfolding upgrade_steps
  whole-is = ap (λ ss. resize (upgraded_len n) ++ (ss ++ last))
      (sym (append_assoc (copy (28 * n)) (Sync ∷ WriteAt 16 base ∷ []) (Sync ∷ [])))

  body-after : after_steps body b1 ≡ b3
  body-after = after-both (copy (28 * n)) (Sync ∷ WriteAt 16 base ∷ []) b1

  whole-after : after_steps whole bytes ≡ overwritten b3 14 (mark_byte ∷ [])
  whole-after =
      after-both (body ++ Sync ∷ []) last b1
      ∙ ap (after_steps last) (after-both body (Sync ∷ []) b1 ∙ body-after)

  only4 : OnlyIn 14 1 b3 (overwritten b3 14 (mark_byte ∷ []))
  only4 = let l = length3 in OnlyIn-written 14 b3 (mark_byte ∷ []) (omega arith)

  marked4 : (slice_index (overwritten b3 14 (mark_byte ∷ [])) layout_place == mark_byte) ≡ true
  marked4 = let l = length3 in ap (λ m. m == mark_byte) (byte-written b3 14 mark_byte (omega arith))

  body-spare : Spares (Stays n) (upgraded_len n) (body ++ Sync ∷ [])
  body-spare =
      let b = base-length in
      Spares-both (Stays n) (upgraded_len n) body (Sync ∷ [])
      (Spares-both (Stays n) (upgraded_len n) (copy (28 * n)) (Sync ∷ WriteAt 16 base ∷ []) (copy-spare n bytes long (28 * n) (omega arith))
      (omega arith, (λ k at. ⊎_elim (λ low. inl low) (λ mid. let a = mid.0 in inr (omega arith)) at), tt)) tt

  torn-whole : (left : List ℕ) → Crashed (λ b. b ≡ bytes) bytes whole left → Torn (Upgrade ∷ []) (cartridge_of bytes) (cartridge_of left)
  torn-whole left crashed =
      elim (Crashed-resize (upgraded_len n) bytes left ((body ++ Sync ∷ []) ++ last) crashed) [
        | inl same ↦ inl (ap cartridge_of same)
        | inr (inl torn) ↦
            let size = torn.size in
            before left (omega arith) (λ k at. same_at bytes left k
            (let less : k < image_len n = ⊎_elim (λ low. omega arith) (λ mid. mid.1) at in torn.kept k (omega arith) (omega arith)))
        | inr (inr later) ↦ elim (Crashed-front (λ b. b ≡ b1) body last b1 left later) [
          | inl in_body ↦
              let kept = spared-crash (Stays n) (body ++ Sync ∷ []) b1 b1 left (λ b. b ≡ b1)
              (subst (λ (len : ℕ). Spares (Stays n) len (body ++ Sync ∷ [])) (sym length1) body-spare) (SameAt-all _ b1)
              (λ b same. let Q : List ℕ → Type 0 = λ c. SameAt (Stays n) b1 c in subst Q (sym same) (SameAt-all _ b1)) in_body in
              let size = kept.size in
              let l = length1 in
              before left (omega arith) (λ k at. kept.same k at ∙ same1 k (⊎_elim (λ low. omega arith) (λ mid. mid.1) at))
          | inr at_last ↦
              let Q : List ℕ → Type 0 = λ b. Crashed (λ c. c ≡ b) b last left in
              elim (Crashed-put layout_place (mark_byte ∷ []) b3 left [] (subst Q body-after at_last)) [
                | inl torn ↦ either left (OnlyIn-torn _ _ _ _ torn)
                | inr none ↦ absurd none
              ]
        ]
      ]

  -- the call leaves the same cartridge in version 2, and a crash in it either version of it
  pub upgrade-means : Means (upgrade_steps n bytes) (Upgrade ∷ []) bytes
  upgrade-means =
      let M : List DiskStep → Type 0 = λ ss. Means ss (Upgrade ∷ []) bytes in
      subst M (sym whole-is) (record {
        done = ap cartridge_of whole-after ∙ marked-new _ only4 marked4;
        torn = torn-whole;
      })

  -- .. in its layout
  pub upgrade-laid : layout_of (after_steps (upgrade_steps n bytes) bytes) ≡ Some (record { segments_per_track = n; kind = CellsBehind })
  upgrade-laid =
      let l = length3 in
      let o = only4 in
      let size = o.size in
      ap (λ ss. layout_of (after_steps ss bytes)) whole-is ∙ ap layout_of whole-after
      ∙ layout_of-read _ _ (head-new (overwritten b3 14 (mark_byte ∷ [])) (omega arith) (λ k less. same-left _ only4 k (inl less)) marked4
      (base-left _ only4))
