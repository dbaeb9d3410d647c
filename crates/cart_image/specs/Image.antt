-- The bytes of an image file, read as a cartridge (this project's profile, versions 1 and 2).
use Rattle.std.specs.Prelude.{ℕ, ◌+◌, ◌*◌, Bool, ◌&&◌, ◌==◌, nat_le, if◌then◌else◌, List, length, map, slice_index, slice_range, Option}
use Rattle.std.specs.Prelude.{Some}
use Rattle.std.specs.Prelude.{None}
use Rattle.std.specs.Option.{option_map}
use Rattle.std.specs.List.{range_with_len}
use Rattle.std.specs.Str.{bytes_eq}
use Rattle.qic_base.specs.declared.tape.SectorView.{SectorView}
use Rattle.qic_base.specs.declared.tape.SectorView.TheVariants.{Blank, Defect, Lost, Holds}
use Rattle.qic_base.specs.declared.tape.TapeInfo.{TapeInfo}
use Rattle.qic_base.specs.declared.TheConstants.{LONGEST}
use Rattle.qic_base.specs.Cartridge.{Cartridge}
use Rattle.qic_base.specs.Field.{number_at}
use Rattle.cart_image.specs.declared.layout.Head.{Head}
use Rattle.cart_image.specs.declared.layout.Kind.{Kind}
use Rattle.cart_image.specs.declared.layout.Kind.TheVariants.{Planes, Cells, CellsBehind}
use Rattle.cart_image.specs.declared.layout.Layout.{Layout}
use Rattle.cart_image.specs.declared.layout.Part.TheVariants.{GateByte, FormedByte, DefectByte, Data}
use Rattle.cart_image.specs.Layout.{signature, version_place, length_place, protected_place, referenced_place, layout_place, base_place}
use Rattle.cart_image.specs.Layout.{head_len, mark_byte, open_gate, formed_byte, defect_byte, sectors, image_len, version_of, end_of, place}

-- the first bytes, up to and with the base
abbrev pub read_len : ℕ
read_len = 24

abbrev pub is_signed : (head : List ℕ) → Bool
is_signed head = bytes_eq (slice_range head 0 8) signature

-- a length that a cartridge can have
abbrev pub is_length : ℕ → Bool
is_length n = nat_le 3 n && nat_le n LONGEST

-- The base of a version 2 image is one of two.
abbrev pub base_kind : (n base : ℕ) → Option Kind
base_kind n base = if base == head_len then Some Cells else (if base == image_len n then Some CellsBehind else None)

-- Where the layout mark stands, the version word isn't read; where it doesn't, the base isn't.
abbrev pub kind_by : (n : ℕ) (head : List ℕ) → Option Kind
kind_by n head =
    if slice_index head layout_place == mark_byte then base_kind n (number_at head base_place 8)
    else (if number_at head version_place 2 == 1 then Some Planes else None)

-- a layout that ends in a file of this length
abbrev pub layout_in : (len n : ℕ) → Option Kind → Option Layout
layout_in len n None = None
layout_in len n (Some kind) =
    if nat_le (end_of (record { segments_per_track = n; kind = kind })) len
    then Some (record { segments_per_track = n; kind = kind })
    else None

-- the layout of a file of this length that begins so; None where it is no image
unfoldable pub layout_by : (len : ℕ) (head : List ℕ) → Option Layout
layout_by len head =
    if is_signed head && is_length (number_at head length_place 2)
    then layout_in len (number_at head length_place 2) (kind_by (number_at head length_place 2) head)
    else None

-- its layout and marks
abbrev pub marks : (head : List ℕ) → Layout → Head
marks head layout = record {
  layout = layout;
  protected = slice_index head protected_place == mark_byte;
  referenced = slice_index head referenced_place == mark_byte;
}

abbrev pub head_by : (len : ℕ) (head : List ℕ) → Option Head
head_by len head = option_map (marks head) (layout_by len head)

-- what a drive can tell of it
abbrev pub info_by : Head → TapeInfo
info_by h = record {
  segments_per_track = h.layout.segments_per_track;
  protected = h.protected;
  referenced = h.referenced;
}

-- a sector's view, by its state bytes and the bytes that it holds
abbrev pub view_by : (defect formed gate : ℕ) → List ℕ → SectorView
view_by defect formed gate bytes =
    if defect == defect_byte then Defect
    else (if formed == formed_byte then (if gate == open_gate then Holds bytes else Lost) else Blank)

-- the bytes of a sector
abbrev pub sector_bytes : (l : Layout) (bytes : List ℕ) (sector : ℕ) → List ℕ
sector_bytes l bytes sector = slice_range bytes (place l Data sector) (place l Data sector + 1024)

-- .. and its view
unfoldable pub view_in : (l : Layout) (bytes : List ℕ) (sector : ℕ) → SectorView
view_in l bytes sector =
    view_by (slice_index bytes (place l DefectByte sector)) (slice_index bytes (place l FormedByte sector))
    (slice_index bytes (place l GateByte sector)) (sector_bytes l bytes sector)

unfoldable pub views_in : (l : Layout) (bytes : List ℕ) → List SectorView
views_in l bytes = map (view_in l bytes) (range_with_len 0 (sectors l.segments_per_track))

-- .. of the sectors of a segment
unfoldable pub segment_views : (l : Layout) (segment : ℕ) (bytes : List ℕ) → List SectorView
segment_views l segment bytes = map (view_in l bytes) (range_with_len (32 * segment) 32)

-- what the head of a file tells; None where it is no image
unfoldable pub head_of : List ℕ → Option Head
head_of bytes = head_by (length bytes) (slice_range bytes 0 read_len)

-- the cartridge that bytes with this head are read as
abbrev pub read_as : Head → List ℕ → Cartridge
read_as h bytes = record { info = info_by h; version = version_of h.layout.kind; views = views_in h.layout bytes }

-- the cartridge that the bytes of a file are read as; None where they are no image
unfoldable pub cartridge_of : List ℕ → Option Cartridge
cartridge_of bytes = option_map (λ h. read_as h bytes) (head_of bytes)

-- the layout of that image
unfoldable pub layout_of : List ℕ → Option Layout
layout_of bytes = option_map (λ (h : Head). h.layout) (head_of bytes)
