-- What bytes that are read as a cartridge are: the cartridge is whole.
use Rattle.std.proofs.Common.{◌≡◌, ℕ, ◌+◌, ◌*◌, ◌<◌, ◌≤◌, Bool, true, false, List, length, refl, sym, ◌∙◌, ap, arith, Option, Some, None}
use Rattle.std.proofs.Common.{subst, leb-true}
use Rattle.std.specs.Prelude.{slice_index, slice_index_or, slice_range, ◌==◌, ◌&&◌, nat_le, if◌then◌else◌, All}
use Rattle.std.specs.Option.{option_map}
use Rattle.std.specs.List.{range_with_len}
use Rattle.std.proofs.lemmas.List.Elements.{All-map, All-take, All-drop}
use Rattle.std.proofs.lemmas.List.Edits.{length-between}
use Rattle.std.proofs.lemmas.List.FromFn.{length-map-range_with_len, get_or-range_with_len, length-range_with_len}
use Rattle.qic_base.specs.declared.tape.SectorView.TheVariants.{Blank, Defect, Lost, Holds}
use Rattle.qic_base.specs.declared.TheConstants.{LONGEST}
use Rattle.qic_base.specs.Cartridge.{Cartridge, IsSector}
use Rattle.qic_base.specs.CartridgeTerms.{IsVersion, IsCartridge, IsView}
use Rattle.qic_base.specs.Disk.{AreBytes}
use Rattle.qic_base.specs.Field.{number_at}
use Rattle.cart_image.specs.declared.layout.Head.{Head}
use Rattle.cart_image.specs.declared.layout.Kind.{Kind}
use Rattle.cart_image.specs.declared.layout.Kind.TheVariants.{Planes, Cells, CellsBehind}
use Rattle.cart_image.specs.declared.layout.Layout.{Layout}
use Rattle.cart_image.specs.declared.layout.Part.TheVariants.{GateByte, FormedByte, DefectByte, Data}
use Rattle.cart_image.specs.Layout.{length_place, defect_byte, formed_byte, open_gate, sectors, version_of, end_of, place, place_in}
use Rattle.cart_image.specs.Layout.{base_of, cell_len}
use Rattle.cart_image.specs.Image.{read_len, is_signed, is_length, kind_by, layout_in, layout_by, marks, head_by, head_of, info_by, view_in}
use Rattle.cart_image.specs.Image.{views_in, sector_bytes, read_as, cartridge_of, layout_of}

pub and_true : (a b : Bool) → (a && b) ≡ true → (a ≡ true) × (b ≡ true)
and_true true b is = (refl, is)
and_true false b is = cc

some_if : {A : Type 0} (b : Bool) (x : Option A) (y : A) → (if b then x else None) ≡ Some y → (b ≡ true) × (x ≡ Some y)
some_if true x y is = (refl, is)
some_if false x y is = cc

some_map : {A B : Type 0} (f : A → B) (o : Option A) (y : B) → option_map f o ≡ Some y → (x : A) × (o ≡ Some x) × (f x ≡ y)
some_map f None y is = cc
some_map f (Some x) y is = (x, refl, (let e : Some (f x) ≡ Some y = is in cc))

-- a layout of a cartridge whose image is not longer than this
pub record IsLayoutIn (len : ℕ) (l : Layout) : Type 0 where
  pub shortest : 3 ≤ l.segments_per_track
  pub longest : l.segments_per_track ≤ LONGEST
  pub long : end_of l ≤ len

-- what the head of an image tells
pub record IsHead (len : ℕ) (head : List ℕ) (h : Head) : Type 0 where
  pub signed : is_signed head ≡ true
  pub length_is : number_at head length_place 2 ≡ h.layout.segments_per_track
  pub kind_is : kind_by h.layout.segments_per_track head ≡ Some h.layout.kind
  pub marks_are : marks head h.layout ≡ h
  pub fits : IsLayoutIn len h.layout

-- its layout fits into a file that is this long
abbrev pub IsHeadIn : (len : ℕ) → Head → Type 0
IsHeadIn len h = IsLayoutIn len h.layout

laid_in : (len n : ℕ) (o : Option Kind) (l : Layout) → layout_in len n o ≡ Some l → (o ≡ Some l.kind) × (n ≡ l.segments_per_track)
    × (end_of l ≤ len)
laid_in len n None l is = cc
laid_in len n (Some kind) l is =
    let s = some_if (nat_le (end_of (record { segments_per_track = n; kind = kind })) len)
    (Some (record { segments_per_track = n; kind = kind })) l is in
    let e : Some (record { segments_per_track = n; kind = kind }) ≡ Some l = s.1 in
    let same : record { segments_per_track = n; kind = kind } ≡ l = cc in
    let P : Layout → Type 0 = λ m. (Some kind ≡ Some m.kind) × (n ≡ m.segments_per_track) × (end_of m ≤ len) in
    subst P same (refl, refl, leb-true (end_of (record { segments_per_track = n; kind = kind })) len s.0)

pub head-parts : (len : ℕ) (head : List ℕ) (h : Head) → head_by len head ≡ Some h → IsHead len head h
unfolding layout_by
head-parts len head h is =
    let m = some_map (marks head) (layout_by len head) h is in
    let s = some_if (is_signed head && is_length (number_at head length_place 2))
    (layout_in len (number_at head length_place 2) (kind_by (number_at head length_place 2) head)) m.0 m.1 in
    let signed = and_true _ _ s.0 in
    let long = and_true _ _ signed.1 in
    let l = laid_in len _ _ m.0 s.1 in
    let layout_is : m.0 ≡ h.layout = ap (λ (x : Head). x.layout) m.2 in
    let P : Layout → Type 0 = λ y. marks head y ≡ h in
    let Q : Layout → Type 0 = λ y. IsLayoutIn len y in
    let n_is = l.1 in
    let a = leb-true 3 (number_at head length_place 2) long.0 in
    let b = leb-true (number_at head length_place 2) LONGEST long.1 in
    let n_there : number_at head length_place 2 ≡ h.layout.segments_per_track = l.1 ∙ ap (λ (y : Layout). y.segments_per_track) layout_is in
    record {
      signed = signed.0;
      length_is = n_there;
      kind_is = ap (λ n. kind_by n head) (sym n_there) ∙ l.0 ∙ ap (λ (y : Layout). Some y.kind) layout_is;
      marks_are = subst P layout_is m.2;
      fits = subst Q layout_is (record { shortest = omega arith; longest = omega arith; long = l.2 });
    }

-- .. and the other way round
pub head-made : (len n : ℕ) (kind : Kind) (head : List ℕ) → is_signed head ≡ true → is_length n ≡ true → number_at head length_place 2 ≡ n →
    kind_by n head ≡ Some kind
    → nat_le (end_of (record { segments_per_track = n; kind = kind })) len ≡ true →
    head_by len head ≡ Some (marks head (record { segments_per_track = n; kind = kind }))
unfolding layout_by
head-made len n kind head signed long number_is kind_is fits =
    ap (option_map (marks head))
    (ap (λ k. if is_signed head && is_length k then layout_in len k (kind_by k head) else None) number_is
    ∙ ap (λ b. if b && is_length n then layout_in len n (kind_by n head) else None) signed
    ∙ ap (λ b. if b then layout_in len n (kind_by n head) else None) long
    ∙ ap (layout_in len n) kind_is
    ∙ ap (λ b. if b then Some (record { segments_per_track = n; kind = kind }) else None) fits)

pub head_of-parts : (bytes : List ℕ) (h : Head) → head_of bytes ≡ Some h → IsHead (length bytes) (slice_range bytes 0 read_len) h
unfolding head_of
head_of-parts bytes h is = head-parts (length bytes) (slice_range bytes 0 read_len) h is

pub cartridge_of-read : (bytes : List ℕ) (h : Head) → head_of bytes ≡ Some h → cartridge_of bytes ≡ Some (read_as h bytes)
unfolding cartridge_of
cartridge_of-read bytes h is = ap (option_map (λ (i : Head). read_as i bytes)) is

pub cartridge_of-none : (bytes : List ℕ) → head_of bytes ≡ None → cartridge_of bytes ≡ None
unfolding cartridge_of
cartridge_of-none bytes is = ap (option_map (λ (i : Head). read_as i bytes)) is

pub layout_of-read : (bytes : List ℕ) (h : Head) → head_of bytes ≡ Some h → layout_of bytes ≡ Some h.layout
unfolding layout_of
layout_of-read bytes h is = ap (option_map (λ (i : Head). i.layout)) is

-- bytes with a layout have a head
pub some_head : (bytes : List ℕ) (l : Layout) → layout_of bytes ≡ Some l → (h : Head) × (head_of bytes ≡ Some h) × (h.layout ≡ l)
unfolding layout_of
some_head bytes l is = some_map (λ (h : Head). h.layout) (head_of bytes) l is

pub layout_of-none : (bytes : List ℕ) → cartridge_of bytes ≡ None → layout_of bytes ≡ None
unfolding cartridge_of layout_of
layout_of-none bytes none = by_head (head_of bytes) none
  where
    by_head : (o : Option Head) → option_map (λ (i : Head). read_as i bytes) o ≡ None → option_map (λ (i : Head). i.layout) o ≡ None
    by_head None none = refl
    by_head (Some h) none = cc

-- the layout's length is that of the cartridge
pub layout_of-cartridge : (bytes : List ℕ) (l : Layout) (c : Cartridge) → layout_of bytes ≡ Some l → cartridge_of bytes ≡ Some c →
    c.info.segments_per_track ≡ l.segments_per_track
layout_of-cartridge bytes l c laid reads =
    let h = some_head bytes l laid in
    let e : Some (read_as h.0 bytes) ≡ Some c = sym (cartridge_of-read bytes h.0 h.1) ∙ reads in
    let same : read_as h.0 bytes ≡ c = cc in
    ap (λ (d : Cartridge). d.info.segments_per_track) (sym same) ∙ ap (λ (y : Layout). y.segments_per_track) h.2

pub info_of-cartridge : (bytes : List ℕ) → option_map (λ (c : Cartridge). c.info) (cartridge_of bytes) ≡ option_map info_by (head_of bytes)
unfolding cartridge_of
info_of-cartridge bytes = by_head (head_of bytes)
  where
    by_head : (o : Option Head) → option_map (λ (c : Cartridge). c.info) (option_map (λ (i : Head). read_as i bytes) o) ≡ option_map
        info_by o
    by_head None = refl
    by_head (Some h) = refl

pub length-views : (l : Layout) (bytes : List ℕ) → length (views_in l bytes) ≡ sectors l.segments_per_track
unfolding views_in
length-views l bytes = length-map-range_with_len (view_in l bytes) 0 (sectors l.segments_per_track)

-- a sector's bytes lie before the end
pub data-end : (kind : Kind) (n sector : ℕ) → sector < sectors n →
    place_in kind n Data sector + 1024 ≤ base_of kind n + cell_len * sectors n
data-end Planes n sector on = omega arith
data-end Cells n sector on = omega arith
data-end CellsBehind n sector on = omega arith

view-is : (l : Layout) (bytes : List ℕ) (sector : ℕ) → AreBytes bytes → end_of l ≤ length bytes → sector < sectors l.segments_per_track →
    IsView (view_in l bytes sector)
unfolding view_in
view-is l bytes sector are long on =
    by_tests (slice_index bytes (place l DefectByte sector) == defect_byte) (slice_index bytes (place l FormedByte sector) == formed_byte)
    (slice_index bytes (place l GateByte sector) == open_gate)
  where
    whole : IsSector (sector_bytes l bytes sector)
    whole = record {
      size =
          let e = data-end l.kind l.segments_per_track sector on in
          let l = length-between bytes (place l Data sector) (place l Data sector + 1024) (omega arith) in omega arith;
      each = All-take (λ b. b < 256) _ _ (All-drop (λ b. b < 256) (place l Data sector) bytes are);
    }

    by_tests : (bd bf bg : Bool) → IsView
        (if bd then Defect else (if bf then (if bg then Holds (sector_bytes l bytes sector) else Lost) else Blank))
    by_tests true bf bg = tt
    by_tests false false bg = tt
    by_tests false true false = tt
    by_tests false true true = whole

pub views-are : (l : Layout) (bytes : List ℕ) → AreBytes bytes → end_of l ≤ length bytes → All IsView (views_in l bytes)
unfolding views_in
views-are l bytes are long =
    All-map IsView (view_in l bytes) (range_with_len 0 (sectors l.segments_per_track)) (λ k d h.
    let within : k < sectors l.segments_per_track = omega (arith, length-range_with_len 0 (sectors l.segments_per_track), h) in
    let at : slice_index_or (range_with_len 0 (sectors l.segments_per_track)) k d ≡ 0 + k = get_or-range_with_len 0
    (sectors l.segments_per_track) k d within in
    let same : slice_index_or (range_with_len 0 (sectors l.segments_per_track)) k d ≡ k = omega arith in
    let P : ℕ → Type 0 = λ j. IsView (view_in l bytes j) in
    subst P (sym same) (view-is l bytes k are long within))

is-version : (kind : Kind) → IsVersion (version_of kind)
is-version Planes = record { oldest = omega arith; newest = omega arith }
is-version Cells = record { oldest = omega arith; newest = omega arith }
is-version CellsBehind = record { oldest = omega arith; newest = omega arith }

-- bytes that are read as a cartridge are read as a whole one
pub reads-whole : (bytes : List ℕ) (c : Cartridge) → AreBytes bytes → cartridge_of bytes ≡ Some c → IsCartridge c
unfolding cartridge_of
reads-whole bytes c are is = by_head (head_of bytes) refl is
  where
    by_head : (o : Option Head) → head_of bytes ≡ o → option_map (λ (i : Head). read_as i bytes) o ≡ Some c → IsCartridge c
    by_head None was reads = cc
    by_head (Some h) was reads =
        let p = (head_of-parts bytes h was).fits in
        let same : read_as h bytes ≡ c = (let e : Some (read_as h bytes) ≡ Some c = reads in cc) in
        subst IsCartridge same (record {
          long = record { shortest = p.shortest; longest = p.longest };
          version = is-version h.layout.kind;
          sectors = length-views h.layout bytes;
          views = views-are h.layout bytes are p.long;
        })
