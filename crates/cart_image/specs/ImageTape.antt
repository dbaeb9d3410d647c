-- What a tape in an image file means, by the disk under it (this project's profile).
use Rattle.std.specs.Prelude.{◌≡◌, nat_lt, ℕ, ◌≤◌, List, Option, Some, None, IfSome, IsSome}
use Rattle.std.specs.Option.{option_map}
use Rattle.std.proofs.Common.{refl, sym, ◌∙◌, ap}
use Rattle.qic_base.specs.declared.disk.Disk.{Ghosts}
use Rattle.qic_base.specs.declared.TheConstants.{LONGEST}
use Rattle.qic_base.specs.Cartridge.{Cartridge, IsLength}
use Rattle.qic_base.specs.Disk as disk
use Rattle.qic_base.specs.Tape.{Meaning}
use Rattle.qic_base.specs.TapeCalls.{IsToldRight, IsLeftNow}
use Rattle.cart_image.specs.declared.tape.ImageTape.{ImageTape}
use Rattle.cart_image.specs.declared.layout.Layout.{Layout}
use Rattle.cart_image.specs.declared.segment.SegmentStates.{SegmentStates}
use Rattle.cart_image.specs.Image.{cartridge_of, layout_of}
use Rattle.cart_image.specs.Tape.{LeftBy}
use Rattle.cart_image.specs.Whole.{reads-whole, layout_of-cartridge, layout_of-none}

-- the disk under a tape
abbrev pub disk_of : {D : Type 0} {g : Ghosts D} → ImageTape D g → D
disk_of tape = tape.disk

-- the layout that it found or made, and what it knows of a segment
abbrev pub layout_at : {D : Type 0} {g : Ghosts D} → ImageTape D g → Option Layout
layout_at tape = tape.layout

abbrev pub known_of : {D : Type 0} {g : Ghosts D} → ImageTape D g → Option SegmentStates
known_of tape = tape.known

-- how many of its calls failed
abbrev pub faults_of : {D : Type 0} {g : Ghosts D} → ImageTape D g → ℕ
faults_of tape = tape.faults

abbrev pub size_by : Option Layout → Option ℕ
size_by layout = option_map (λ (l : Layout). l.segments_per_track) layout

-- It holds what the disk's bytes are read as. It counts its own calls that failed: in one that succeeded a look at the
-- disk may have failed.
abbrev pub image_means : {D : Type 0} {g : Ghosts D} → Meaning (ImageTape D g)
image_means {g = g} = record {
  told = λ s. option_map cartridge_of (g.means.told s.disk);
  size = λ s. size_by s.layout;
  faults = λ s. s.faults;
  failed_last = λ s. nat_lt 0 s.faults;
  tells_stops = λ s. g.means.tells_stops s.disk;
  moment = λ s. g.means.moment s.disk;
  left_since = λ s. LeftBy g.means s.disk;
}

pub image-size_fits : {D : Type 0} {g : Ghosts D} (s : ImageTape D g) → IfSome (size_by s.layout) IsLength
image-size_fits s = by_layout s.layout s.shortest s.longest
  where
    by_layout : (layout : Option Layout) → ((l : Layout) → layout ≡ Some l → 3 ≤ l.segments_per_track) →
        ((l : Layout) → layout ≡ Some l → l.segments_per_track ≤ LONGEST) → IfSome (size_by layout) IsLength
    by_layout None shortest longest = tt
    by_layout (Some l) shortest longest = record { shortest = shortest l refl; longest = longest l refl }

pub image-told_right : {D : Type 0} {g : Ghosts D} → ((d : D) → disk.IsToldRight g.means d) → (s : ImageTape D g) →
    IsToldRight (option_map cartridge_of (g.means.told s.disk)) (size_by s.layout)
image-told_right {D = D} {g = g} right s = by_told (g.means.told s.disk) refl
  where
    by_layout : (layout : Option Layout) (bytes : List ℕ) → ((l : Layout) → layout ≡ Some l → layout_of bytes ≡ Some l) →
        cartridge_of bytes ≡ None → size_by layout ≡ None
    by_layout None bytes laid none = refl
    by_layout (Some l) bytes laid none =
        let e : layout_of bytes ≡ Some l = laid l refl in
        let f : layout_of bytes ≡ None = layout_of-none bytes none in cc

    same_size : (layout : Option Layout) (bytes : List ℕ) (c : Cartridge) → ((l : Layout) → layout ≡ Some l → layout_of bytes ≡ Some l) →
        cartridge_of bytes ≡ Some c → IfSome (size_by layout) (λ n. c.info.segments_per_track ≡ n)
    same_size None bytes c laid is = tt
    same_size (Some l) bytes c laid is = layout_of-cartridge bytes l c (laid l refl) is

    by_read : (bytes : List ℕ) (o : Option Cartridge) → g.means.told s.disk ≡ Some bytes → cartridge_of bytes ≡ o →
        IsToldRight (Some o) (size_by s.layout)
    by_read bytes None told is = by_layout s.layout bytes (λ l e. s.laid l bytes e told) is
    by_read bytes (Some c) told is = (
      reads-whole bytes c ((right s.disk).bytes bytes told) is,
      same_size s.layout bytes c (λ l e. s.laid l bytes e told) is,
    )

    by_told : (o : Option (List ℕ)) → g.means.told s.disk ≡ o → IsToldRight (option_map cartridge_of o) (size_by s.layout)
    by_told None told = tt
    by_told (Some bytes) told = by_read bytes (cartridge_of bytes) told refl

pub image-left_now : {D : Type 0} {g : Ghosts D} → ((d : D) → disk.IsToldRight g.means d) → ((d : D) → disk.IsLeftNow g.means d) →
    (s : ImageTape D g) → IsLeftNow (image_means {g = g}) s
image-left_now {D = D} {g = g} right now s = record {
  telling = λ tells. is_some-read (g.means.told s.disk) ((now s.disk).telling tells);
  counts = λ t left tells early told.
      let b = some_bytes (g.means.told s.disk) left told in
      (b.0, (now s.disk).counts t b.0 tells early ((right s.disk).may_leave b.0 b.1), sym b.2);
  only = λ left tells is.
      let b = told_bytes (g.means.told s.disk) refl ((now s.disk).telling tells) in
      let same : is.0 ≡ b.0 = s.settled b.0 is.0 b.1 ((now s.disk).only is.0 tells is.1) in
      ap (option_map cartridge_of) b.1 ∙ ap Some (sym (is.2 ∙ ap cartridge_of same));
  earlier = λ t u left order early is. (is.0, (now s.disk).earlier t u is.0 order early is.1, is.2);
}
  where
    is_some-read : (o : Option (List ℕ)) → IsSome o → IsSome (option_map cartridge_of o)
    is_some-read None is = cc
    is_some-read (Some bytes) is = is

    some_bytes : (told : Option (List ℕ)) (held : Option Cartridge) → option_map cartridge_of told ≡ Some held → (bytes : List ℕ)
        × (told ≡ Some bytes) × (cartridge_of bytes ≡ held)
    some_bytes None held is = cc
    some_bytes (Some bytes) held is = (bytes, refl, (let e : Some (cartridge_of bytes) ≡ Some held = is in cc))

    told_bytes : (o : Option (List ℕ)) → g.means.told s.disk ≡ o → IsSome o → (bytes : List ℕ) × (g.means.told s.disk ≡ Some bytes)
    told_bytes None told is = cc
    told_bytes (Some bytes) told is = (bytes, told)
