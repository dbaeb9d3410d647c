-- How the reading of bytes as a cartridge depends on the bytes.
use Rattle.std.proofs.Common.{◌≡◌, ◌≢◌, ℕ, ◌+◌, ◌<◌, ◌≤◌, ◌⊎◌, inl, inr, ⊎_elim, List, length, get_or, refl, sym, ◌∙◌, ap, arith, Option}
use Rattle.std.specs.Prelude.{slice_get, slice_index, slice_range, unwrap_or}
use Rattle.std.proofs.lemmas.List.{same_lists, get_or_default}
use Rattle.std.proofs.lemmas.List.Edits.{length-between, get_or-between}
use Rattle.std.proofs.lemmas.Option.{unwrap_or-slice_get}
use Rattle.qic_base.specs.Disk.{TornRange}
use Rattle.qic_base.specs.Field.{overwritten}
use Rattle.qic_base.proofs.FieldLaws.{length-overwritten, get_or-overwritten_below, get_or-overwritten_above}
use Rattle.cart_image.specs.declared.layout.Layout.{Layout}
use Rattle.cart_image.specs.declared.layout.Part.{Part}
use Rattle.cart_image.specs.declared.layout.Part.TheVariants.{GateByte, FormedByte, DefectByte, Data}
use Rattle.cart_image.specs.Layout.{sectors, width, place, end_of}
use Rattle.cart_image.specs.Image.{read_len, head_by, head_of, view_by, view_in, sector_bytes}
use Rattle.cart_image.proofs.Layouts.{laid_out, width-some}

-- new bytes that differ from old ones in one range at most
pub record OnlyIn (place count : ℕ) (old new : List ℕ) : Type 0 where
  pub size : length new ≡ length old
  pub below : (k : ℕ) → k < place → get_or new k 0 ≡ get_or old k 0
  pub above : (k : ℕ) → place + count ≤ k → get_or new k 0 ≡ get_or old k 0

pub same_at : (old new : List ℕ) (k : ℕ) → slice_get new k ≡ slice_get old k → get_or new k 0 ≡ get_or old k 0
same_at old new k same = sym (unwrap_or-slice_get new k 0) ∙ ap (λ (o : Option ℕ). unwrap_or o 0) same ∙ unwrap_or-slice_get old k 0

pub OnlyIn-torn : (place count : ℕ) (old new : List ℕ) → TornRange place count old new → OnlyIn place count old new
OnlyIn-torn place count old new torn = record {
  size = torn.size;
  below = λ k h. same_at old new k (torn.below k h);
  above = λ k h. same_at old new k (torn.above k h);
}

pub OnlyIn-written : (place : ℕ) (old part : List ℕ) → place + length part ≤ length old →
    OnlyIn place (length part) old (overwritten old place part)
OnlyIn-written place old part h = record {
  size = length-overwritten old part place h;
  below = λ k l. get_or-overwritten_below old part place k 0 (omega arith) l;
  above = λ k l. get_or-overwritten_above old part place k 0 (omega arith) l;
}

pub OnlyIn-all : (place count : ℕ) (bytes : List ℕ) → OnlyIn place count bytes bytes
OnlyIn-all place count bytes = record { size = refl; below = λ k h. refl; above = λ k h. refl }

-- parts of two lists whose bytes are the same there
pub range-same : (old new : List ℕ) (i j : ℕ) → j ≤ length new → j ≤ length old → i ≤ j →
    ((k : ℕ) → i ≤ k → k < j → get_or new k 0 ≡ get_or old k 0) → slice_range new i j ≡ slice_range old i j
range-same old new i j there within order same =
    let a = length-between new i j there in
    let b = length-between old i j within in
    same_lists _ _ (a ∙ sym b)
    (λ k d h.
    get_or-between new i j k d (omega arith)
    ∙ get_or_default new (i + k) d 0 (omega arith)
    ∙ same (i + k) (omega arith) (omega arith)
    ∙ get_or_default old (i + k) 0 d (omega arith)
    ∙ sym (get_or-between old i j k d (omega arith)))

-- A sector's state bytes and its own.
pub view_in-is : (l : Layout) (bytes : List ℕ) (sector : ℕ) →
    view_in l bytes sector ≡ view_by (slice_index bytes (place l DefectByte sector)) (slice_index bytes (place l FormedByte sector))
    (slice_index bytes (place l GateByte sector)) (sector_bytes l bytes sector)
unfolding view_in
view_in-is l bytes sector = refl

pub cell-is : (d d' f f' g g' : ℕ) (b b' : List ℕ) → d ≡ d' → f ≡ f' → g ≡ g' → b ≡ b' → view_by d f g b ≡ view_by d' f' g' b'
cell-is d d' f f' g g' b b' p q r s = rw (p, q, r, s) refl

-- the view of a sector whose parts are all kept
pub view-same : (l : Layout) (old new : List ℕ) (k : ℕ) → ((r : Part) → slice_index new (place l r k) ≡ slice_index old (place l r k)) →
    sector_bytes l new k ≡ sector_bytes l old k → view_in l new k ≡ view_in l old k
view-same l old new k bytes whole =
    view_in-is l new k ∙ cell-is _ _ _ _ _ _ _ _ (bytes DefectByte) (bytes FormedByte) (bytes GateByte) whole ∙ sym (view_in-is l old k)

-- a change in a part of one sector leaves all other parts as they were
module _ (l : Layout) (p : Part) (q : ℕ) (old new : List ℕ) (only : OnlyIn (place l p q) (width p) old new) (whole : end_of l ≤ length old)
    (on : q < sectors l.segments_per_track) where
  pub byte-kept : (r : Part) (k : ℕ) → k < sectors l.segments_per_track → (p ≢ r) ⊎ (q ≢ k) →
      slice_index new (place l r k) ≡ slice_index old (place l r k)
  byte-kept r k there ne =
      let out = laid_out l in
      let some = width-some r in
      ⊎_elim (λ later. only.above (place l r k) later) (λ earlier. only.below (place l r k) (omega arith)) (out.apart p r q k on there ne)

  pub data-kept : (k : ℕ) → k < sectors l.segments_per_track → (p ≢ Data) ⊎ (q ≢ k) → sector_bytes l new k ≡ sector_bytes l old k
  data-kept k there ne =
      let out = laid_out l in
      let end = out.before Data k there in
      let size = only.size in
      range-same old new (place l Data k) (place l Data k + 1024) (omega arith) (omega arith) (omega arith) (λ j a b.
      ⊎_elim (λ later. only.above j (omega arith)) (λ earlier. only.below j (omega arith)) (out.apart p Data q k on there ne))

  pub view-kept : (k : ℕ) → k < sectors l.segments_per_track → q ≢ k → view_in l new k ≡ view_in l old k
  view-kept k there ne = view-same l old new k (λ r. byte-kept r k there (inr ne)) (data-kept k there (inr ne))

-- .. so that it is seen in that part alone
pub gate-view : (l : Layout) (q : ℕ) (old new : List ℕ) → OnlyIn (place l GateByte q) 1 old new → end_of l ≤ length old →
    q < sectors l.segments_per_track
    → view_in l new q ≡ view_by (slice_index old (place l DefectByte q)) (slice_index old (place l FormedByte q))
    (slice_index new (place l GateByte q)) (sector_bytes l old q)
gate-view l q old new only whole on =
    view_in-is l new q
    ∙ cell-is _ _ _ _ _ _ _ _ (byte-kept l GateByte q old new only whole on DefectByte q on (inl (λ e. cc)))
    (byte-kept l GateByte q old new only whole on FormedByte q on (inl (λ e. cc))) refl
    (data-kept l GateByte q old new only whole on q on (inl (λ e. cc)))

pub defect-view : (l : Layout) (q : ℕ) (old new : List ℕ) → OnlyIn (place l DefectByte q) 1 old new → end_of l ≤ length old →
    q < sectors l.segments_per_track
    → view_in l new q ≡ view_by (slice_index new (place l DefectByte q)) (slice_index old (place l FormedByte q))
    (slice_index old (place l GateByte q)) (sector_bytes l old q)
defect-view l q old new only whole on =
    view_in-is l new q
    ∙ cell-is _ _ _ _ _ _ _ _ refl (byte-kept l DefectByte q old new only whole on FormedByte q on (inl (λ e. cc)))
    (byte-kept l DefectByte q old new only whole on GateByte q on (inl (λ e. cc)))
    (data-kept l DefectByte q old new only whole on q on (inl (λ e. cc)))

-- the head

-- bytes that keep their head and their length are an image as before
pub head-same : (old new : List ℕ) → length new ≡ length old → 24 ≤ length old → ((k : ℕ) → k < 24 → get_or new k 0 ≡ get_or old k 0) →
    head_of new ≡ head_of old
unfolding head_of
head-same old new size long same =
    ap (λ len. head_by len (slice_range new 0 read_len)) size
    ∙ ap (head_by (length old)) (range-same old new 0 read_len (omega arith) long (omega arith) (λ k h l. same k l))
