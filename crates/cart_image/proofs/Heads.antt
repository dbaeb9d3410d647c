-- The head of an image: what of it tells the layout, and what a change of a mark makes of the cartridge.
use Rattle.std.proofs.Common.{◌≡◌, ◌≢◌, ℕ, ◌+◌, ◌<◌, ◌≤◌, ◌⊎◌, inl, inr, ⊎_elim, Bool, true, false, List, [], ◌∷◌, length, get_or, refl}
use Rattle.std.proofs.Common.{sym, ◌∙◌, ap, arith, Option, Some, None}
use Rattle.std.specs.Prelude.{slice_index, slice_range, ◌==◌, ◌&&◌, if◌then◌else◌}
use Rattle.std.specs.Option.{option_map}
use Rattle.std.specs.Str.{bytes_eq}
use Rattle.std.proofs.lemmas.List.{same_lists}
use Rattle.std.proofs.lemmas.List.Edits.{length-between, get_or-between}
use Rattle.qic_base.specs.declared.tape.SectorView.{SectorView}
use Rattle.qic_base.specs.Cartridge.{Cartridge}
use Rattle.qic_base.specs.Field.{little_endian, number_at}
use Rattle.qic_base.specs.Step.{SetProtected, SetReferenced, effect, Torn}
use Rattle.cart_image.specs.declared.layout.Head.{Head}
use Rattle.cart_image.specs.declared.layout.Kind.TheVariants.{Planes}
use Rattle.cart_image.specs.declared.layout.Layout.{Layout}
use Rattle.cart_image.specs.declared.layout.Part.TheVariants.{Data}
use Rattle.cart_image.specs.Layout.{signature, protected_place, referenced_place, layout_place, mark_byte, sectors, end_of, version_of}
use Rattle.cart_image.specs.Layout.{place, put, mark_steps}
use Rattle.cart_image.specs.Image.{read_len, is_signed, is_length, base_kind, layout_in, layout_by, marks, head_of, view_in, views_in}
use Rattle.cart_image.specs.Image.{cartridge_of, layout_of}
use Rattle.cart_image.specs.Whole.{cartridge_of-read, length-views}
use Rattle.cart_image.proofs.Bytes.{OnlyIn, OnlyIn-torn, OnlyIn-written, OnlyIn-all, range-same, view-same}
use Rattle.cart_image.proofs.Carries.{Means}
use Rattle.cart_image.proofs.Changes.{get_or-views}
use Rattle.cart_image.proofs.Layouts.{laid_out, width-some}
use Rattle.cart_image.proofs.Sectors.{Crashed-put, byte-written}

-- the bytes of the head that tell the layout
abbrev pub TellsLayout : ℕ → Type 0
TellsLayout k = (k < 12) ⊎ ((14 ≤ k) × (k < 24))

layout_of-is : (bytes : List ℕ) → layout_of bytes ≡ layout_by (length bytes) (slice_range bytes 0 read_len)
unfolding layout_of head_of
layout_of-is bytes = by_layout (layout_by (length bytes) (slice_range bytes 0 read_len))
  where
    by_layout : (o : Option Layout) → option_map (λ (h : Head). h.layout) (option_map (marks (slice_range bytes 0 read_len)) o) ≡ o
    by_layout None = refl
    by_layout (Some l) = refl

-- a byte of the head
pub head-byte : (bytes : List ℕ) (k : ℕ) → 24 ≤ length bytes → k < 24 → slice_index (slice_range bytes 0 read_len) k ≡ slice_index bytes k
head-byte bytes k long less =
    let at : 0 + k ≡ k = omega arith in
    get_or-between bytes 0 24 k 0 (omega arith) ∙ ap (slice_index bytes) at

head-long : (bytes : List ℕ) → 24 ≤ length bytes → length (slice_range bytes 0 read_len) ≡ 24
head-long bytes long = length-between bytes 0 24 long

-- a part of the head whose bytes are the same
head-part : (old new : List ℕ) (i j : ℕ) → 24 ≤ length old → 24 ≤ length new → i ≤ j → j ≤ 24 →
    ((k : ℕ) → i ≤ k → k < j → get_or new k 0 ≡ get_or old k 0)
    → slice_range (slice_range new 0 read_len) i j ≡ slice_range (slice_range old 0 read_len) i j
head-part old new i j long there order within same =
    let a = head-long old long in
    let b = head-long new there in
    range-same (slice_range old 0 read_len) (slice_range new 0 read_len) i j (omega arith) (omega arith) order (λ k h less.
    head-byte new k there (omega arith) ∙ same k h less ∙ sym (head-byte old k long (omega arith)))

pub signed-same : (old new : List ℕ) → 24 ≤ length old → 24 ≤ length new → ((k : ℕ) → k < 12 → get_or new k 0 ≡ get_or old k 0) →
    is_signed (slice_range new 0 read_len) ≡ is_signed (slice_range old 0 read_len)
signed-same old new long there same = ap (λ b. bytes_eq b signature)
    (head-part old new 0 8 long there (omega arith) (omega arith) (λ k h less. same k (omega arith)))

pub number-same : (old new : List ℕ) (i w : ℕ) → 24 ≤ length old → 24 ≤ length new → i + w ≤ 24 →
    ((k : ℕ) → i ≤ k → k < i + w → get_or new k 0 ≡ get_or old k 0) → number_at (slice_range new 0 read_len) i w ≡ number_at
    (slice_range old 0 read_len) i w
unfolding number_at
number-same old new i w long there within same = ap little_endian (head-part old new i (i + w) long there (omega arith) within same)

pub layout-same : (old new : List ℕ) → 24 ≤ length old → length new ≡ length old →
    ((k : ℕ) → TellsLayout k → get_or new k 0 ≡ get_or old k 0) → layout_of new ≡ layout_of old
unfolding layout_by
layout-same old new long size same =
    let there : 24 ≤ length new = omega arith in
    let signed = signed-same old new long there (λ k less. same k (inl less)) in
    let n = number-same old new 10 2 long there (omega arith) (λ k h less. same k (inl (omega arith))) in
    let version = number-same old new 8 2 long there (omega arith) (λ k h less. same k (inl (omega arith))) in
    let base = number-same old new 16 8 long there (omega arith) (λ k h less. same k (inr (omega arith, omega arith))) in
    let mark : slice_index (slice_range new 0 read_len) layout_place ≡ slice_index (slice_range old 0 read_len) layout_place =
    head-byte new 14 there (omega arith) ∙ same 14 (inr (omega arith, omega arith)) ∙ sym (head-byte old 14 long (omega arith)) in
    layout_of-is new ∙ by_parts (length new) (length old) _ _ _ _ _ _ _ _ _ _ size signed n mark base version ∙ sym (layout_of-is old)
  where
    by_parts : (len len' : ℕ) (s s' : Bool) (n n' : ℕ) (m m' : ℕ) (b b' : ℕ) (v v' : ℕ) → len ≡ len' → s ≡ s' → n ≡ n' → m ≡ m' → b ≡ b' →
        v ≡ v'
        → (if s && is_length n then layout_in len n (if m == mark_byte then base_kind n b else (if v == 1 then Some Planes else None)) else
        None)
        ≡ (if s' && is_length n' then layout_in len' n'
        (if m' == mark_byte then base_kind n' b' else (if v' == 1 then Some Planes else None)) else None)
    by_parts len len' s s' n n' m m' b b' v v' e1 e2 e3 e4 e5 e6 = rw (e1, e2, e3, e4, e5, e6) refl

-- a head by its layout
pub head-laid : (bytes : List ℕ) (l : Layout) → 24 ≤ length bytes → layout_of bytes ≡ Some l →
    head_of bytes ≡ Some (record {
      layout = l;
      protected = slice_index bytes protected_place == mark_byte;
      referenced =
          slice_index bytes referenced_place == mark_byte;
    })
unfolding head_of
head-laid bytes l long laid =
    ap (option_map (marks (slice_range bytes 0 read_len))) (sym (layout_of-is bytes) ∙ laid)
    ∙ ap (λ p. Some (record {
      layout = l;
      protected = p == mark_byte;
      referenced =
          slice_index (slice_range bytes 0 read_len) referenced_place == mark_byte;
    })) (head-byte bytes 12 long (omega arith))
    ∙ ap (λ r. Some (record { layout = l; protected = slice_index bytes protected_place == mark_byte; referenced = r == mark_byte }))
    (head-byte bytes 13 long (omega arith))

-- bytes that are the same between the head and the end of a layout have the same views
pub views-kept : (l : Layout) (old new : List ℕ) → end_of l ≤ length old → end_of l ≤ length new →
    ((k : ℕ) → 64 ≤ k → k < end_of l → get_or new k 0 ≡ get_or old k 0) → views_in l new ≡ views_in l old
views-kept l old new long there same =
    same_lists _ _ (length-views l new ∙ sym (length-views l old)) (λ k d less.
    let on : k < sectors l.segments_per_track = let n = length-views l new in omega arith in
    get_or-views l new k d on ∙ view k on ∙ sym (get_or-views l old k d on))
  where
    view : (k : ℕ) → k < sectors l.segments_per_track → view_in l new k ≡ view_in l old k
    view k on =
        let out = laid_out l in
        view-same l old new k
        (λ r. let a = out.behind r k on in let b = out.before r k on in let w = width-some r in same (place l r k) a (omega arith))
        (let a = out.behind Data k on in let b = out.before Data k on in
        range-same old new (place l Data k) (place l Data k + 1024) (omega arith) (omega arith) (omega arith)
        (λ j h less. same j (omega arith) (omega arith)))

-- a cartridge with these marks
abbrev with_marks : Layout → Bool → Bool → List SectorView → Cartridge
with_marks l protected referenced views =
    record {
      info = record { segments_per_track = l.segments_per_track; protected = protected; referenced = referenced };
      version = version_of l.kind;
      views = views;
    }

module _ (l : Layout) (bytes : List ℕ) (laid : layout_of bytes ≡ Some l) (long : end_of l ≤ length bytes) (far : 64 ≤ end_of l) where
  abbrev views : List SectorView
  views = views_in l bytes

  marks-read : (mark : ℕ) (left : List ℕ) → 12 ≤ mark → mark < 14 → OnlyIn mark 1 bytes left
      → cartridge_of left ≡ Some (with_marks l (slice_index left protected_place == mark_byte)
      (slice_index left referenced_place == mark_byte) views)
  marks-read mark left behind low only =
      let size = only.size in
      let there : 24 ≤ length left = omega arith in
      let is = layout-same bytes left (omega arith) size
      (λ k tells. ⊎_elim (λ below. only.below k (omega arith)) (λ above. let a = above.0 in only.above k (omega arith)) tells) ∙ laid in
      cartridge_of-read left _ (head-laid left l there is)
      ∙ ap (λ vs. Some (with_marks l (slice_index left protected_place == mark_byte) (slice_index left referenced_place == mark_byte) vs))
      (views-kept l bytes left long (omega arith) (λ k h less. only.above k (omega arith)))

  marks-now : cartridge_of bytes ≡ Some (with_marks l (slice_index bytes protected_place == mark_byte)
      (slice_index bytes referenced_place == mark_byte) views)
  marks-now = marks-read 12 bytes (omega arith) (omega arith) (OnlyIn-all 12 1 bytes)

  -- the protect mark
  protected-left : (left : List ℕ) → OnlyIn protected_place 1 bytes left
      → cartridge_of left ≡ Some (with_marks l (slice_index left protected_place == mark_byte)
      (slice_index bytes referenced_place == mark_byte) views)
  protected-left left only =
      marks-read 12 left (omega arith) (omega arith) only
      ∙ ap (λ b. Some (with_marks l (slice_index left protected_place == mark_byte) (b == mark_byte) views)) (only.above 13 (omega arith))

  protected-effect : (on : Bool) → effect (SetProtected on) (cartridge_of bytes) ≡ Some
      (with_marks l on (slice_index bytes referenced_place == mark_byte) views)
  protected-effect on = ap (effect (SetProtected on)) marks-now

  protected-same : (on : Bool) → (slice_index bytes protected_place == mark_byte) ≡ on → cartridge_of bytes ≡ effect (SetProtected on)
      (cartridge_of bytes)
  protected-same on same = marks-now ∙ ap (λ p. Some (with_marks l p (slice_index bytes referenced_place == mark_byte) views)) same
      ∙ sym (protected-effect on)

  protected-ends : (on was : Bool) (left : List ℕ) → OnlyIn protected_place 1 bytes left →
      (slice_index bytes protected_place == mark_byte) ≡ was → was ≢ on → (now : Bool) →
      (slice_index left protected_place == mark_byte) ≡ now → Torn (SetProtected on ∷ []) (cartridge_of bytes) (cartridge_of left)
  protected-ends on was left only was_is differ now is_now = by_bools on was now differ was_is is_now
    where
      to_old : (was : Bool) → (slice_index bytes protected_place == mark_byte) ≡ was →
          (slice_index left protected_place == mark_byte) ≡ was → cartridge_of left ≡ cartridge_of bytes
      to_old was a b = protected-left left only ∙ ap (λ p. Some (with_marks l p (slice_index bytes referenced_place == mark_byte) views))
          (b ∙ sym a) ∙ sym marks-now

      to_new : (on : Bool) → (slice_index left protected_place == mark_byte) ≡ on → cartridge_of left ≡ effect (SetProtected on)
          (cartridge_of bytes)
      to_new on b = protected-left left only ∙ ap (λ p. Some (with_marks l p (slice_index bytes referenced_place == mark_byte) views)) b
          ∙ sym (protected-effect on)

      by_bools : (on was now : Bool) → was ≢ on → (slice_index bytes protected_place == mark_byte) ≡ was →
          (slice_index left protected_place == mark_byte) ≡ now → Torn (SetProtected on ∷ []) (cartridge_of bytes) (cartridge_of left)
      by_bools true true now ne a b = absurd (ne refl)
      by_bools false false now ne a b = absurd (ne refl)
      by_bools true false true ne a b = inr (inr (to_new true b))
      by_bools true false false ne a b = inl (to_old false a b)
      by_bools false true true ne a b = inl (to_old true a b)
      by_bools false true false ne a b = inr (inr (to_new false b))

  protected-put : (on was : Bool) (value : ℕ) → (slice_index bytes protected_place == mark_byte) ≡ was → was ≢ on →
      (value == mark_byte) ≡ on → Means (put protected_place (value ∷ [])) (SetProtected on ∷ []) bytes
  protected-put on was value was_is differ value_is =
      let n = long in
      let only = OnlyIn-written 12 bytes (value ∷ []) (omega arith) in
      record {
        done = protected-left _ only ∙ ap (λ p. Some (with_marks l p (slice_index bytes referenced_place == mark_byte) views))
            (ap (λ b. b == mark_byte) (byte-written bytes 12 value (omega arith)) ∙ value_is) ∙ sym (protected-effect on);
        torn = λ left crashed. elim (Crashed-put 12 (value ∷ []) bytes left [] crashed) [
          | inl torn ↦ protected-ends on was left (OnlyIn-torn _ _ _ _ torn) was_is differ _ refl
          | inr none ↦ absurd none
        ];
      }

  protected-by : (on was : Bool) → (slice_index bytes protected_place == mark_byte) ≡ was →
      Means (if was then (if on then [] else put protected_place (0 ∷ [])) else (if on then put protected_place (mark_byte ∷ []) else []))
      (SetProtected on ∷ []) bytes
  protected-by true true is_was = record { done = protected-same true is_was; torn = λ left crashed. absurd crashed }
  protected-by false false is_was = record { done = protected-same false is_was; torn = λ left crashed. absurd crashed }
  protected-by true false is_was = protected-put true false mark_byte is_was (λ e. cc) refl
  protected-by false true is_was = protected-put false true 0 is_was (λ e. cc) refl

  pub protected-means : (on : Bool) → Means (mark_steps protected_place on (slice_index bytes protected_place)) (SetProtected on ∷ []) bytes
  protected-means true = by_test (slice_index bytes protected_place == mark_byte) refl
    where
      by_test : (was : Bool) → (slice_index bytes protected_place == mark_byte) ≡ was →
          Means (if was then [] else put protected_place (mark_byte ∷ [])) (SetProtected true ∷ []) bytes
      by_test true is_was = protected-by true true is_was
      by_test false is_was = protected-by true false is_was
  protected-means false = by_test (slice_index bytes protected_place == mark_byte) refl
    where
      by_test : (was : Bool) → (slice_index bytes protected_place == mark_byte) ≡ was →
          Means (if was then put protected_place (0 ∷ []) else []) (SetProtected false ∷ []) bytes
      by_test true is_was = protected-by false true is_was
      by_test false is_was = protected-by false false is_was

  -- the referenced mark
  referenced-left : (left : List ℕ) → OnlyIn referenced_place 1 bytes left
      → cartridge_of left ≡ Some (with_marks l (slice_index bytes protected_place == mark_byte)
      (slice_index left referenced_place == mark_byte) views)
  referenced-left left only =
      marks-read 13 left (omega arith) (omega arith) only
      ∙ ap (λ b. Some (with_marks l (b == mark_byte) (slice_index left referenced_place == mark_byte) views)) (only.below 12 (omega arith))

  referenced-effect : effect SetReferenced (cartridge_of bytes) ≡ Some
      (with_marks l (slice_index bytes protected_place == mark_byte) true views)
  referenced-effect = ap (effect SetReferenced) marks-now

  to_referenced : (left : List ℕ) → OnlyIn referenced_place 1 bytes left → (slice_index left referenced_place == mark_byte) ≡ true →
      cartridge_of left ≡ effect SetReferenced (cartridge_of bytes)
  to_referenced left only holds = referenced-left left only
      ∙ ap (λ r. Some (with_marks l (slice_index bytes protected_place == mark_byte) r views)) holds ∙ sym referenced-effect

  pub referenced-means : Means (mark_steps referenced_place true (slice_index bytes referenced_place)) (SetReferenced ∷ []) bytes
  referenced-means = by_test (slice_index bytes referenced_place == mark_byte) refl
    where
      ends : (left : List ℕ) → OnlyIn referenced_place 1 bytes left → (slice_index bytes referenced_place == mark_byte) ≡ false →
          (now : Bool) → (slice_index left referenced_place == mark_byte) ≡ now → Torn (SetReferenced ∷ []) (cartridge_of bytes)
          (cartridge_of left)
      ends left only was true is_now = inr (inr (to_referenced left only is_now))
      ends left only was false is_now = inl
          (referenced-left left only ∙ ap (λ r. Some (with_marks l (slice_index bytes protected_place == mark_byte) r views))
          (is_now ∙ sym was) ∙ sym marks-now)

      by_test : (was : Bool) → (slice_index bytes referenced_place == mark_byte) ≡ was →
          Means (if was then [] else put referenced_place (mark_byte ∷ [])) (SetReferenced ∷ []) bytes
      by_test true is_was = record { done = to_referenced bytes (OnlyIn-all 13 1 bytes) is_was; torn = λ left crashed. absurd crashed }
      by_test false is_was =
          let n = long in
          let only = OnlyIn-written 13 bytes (mark_byte ∷ []) (omega arith) in
          record {
            done = to_referenced _ only (ap (λ b. b == mark_byte) (byte-written bytes 13 mark_byte (omega arith)));
            torn = λ left crashed. elim (Crashed-put 13 (mark_byte ∷ []) bytes left [] crashed) [
              | inl torn ↦ ends left (OnlyIn-torn _ _ _ _ torn) is_was _ refl
              | inr none ↦ absurd none
            ];
          }
