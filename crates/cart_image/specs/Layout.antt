-- The image file: where its head and the parts of its sectors stand in its two layouts, and what each call writes (this
-- project's profile, versions 1 and 2).
use Rattle.std.specs.Prelude.{ℕ, zero, suc, ◌+◌, ◌-◌, ◌*◌, Bool, true, false, not, ◌&&◌, ◌==◌, if◌then◌else◌, List, [], ◌∷◌, ◌++◌, map}
use Rattle.std.specs.Prelude.{drop, replicate, codes, slice_index, slice_index_or, slice_range}
use Rattle.std.specs.List.{flat_map, range_with_len}
use Rattle.qic_base.specs.declared.tape.SectorView.{SectorView}
use Rattle.qic_base.specs.declared.tape.SectorView.TheVariants.{Blank, Defect, Lost, Holds}
use Rattle.qic_base.specs.CartridgeTerms.{is_lost}
use Rattle.qic_base.specs.Disk.{DiskStep, Look, WriteAt, SetLen, Sync}
use Rattle.qic_base.specs.Field.{little_endian_bytes}
use Rattle.qic_base.specs.TapeCalls.{is_readable}
use Rattle.cart_image.specs.Several.{takes_write}
use Rattle.cart_image.specs.declared.layout.Kind.{Kind}
use Rattle.cart_image.specs.declared.layout.Kind.TheVariants.{Planes, Cells, CellsBehind}
use Rattle.cart_image.specs.declared.layout.Layout.{Layout}
use Rattle.cart_image.specs.declared.layout.Part.{Part}
use Rattle.cart_image.specs.declared.layout.Part.TheVariants.{GateByte, FormedByte, DefectByte, Data}

-- The head: the signature, the version word and the segments per track in two bytes each, the two marks, the layout
-- mark, and the base in eight bytes; all others are written zero and not read.
abbrev pub signature : List ℕ
signature = codes "QIC80IMG"

abbrev pub first_letter : ℕ
first_letter = 0x51

abbrev pub version_place : ℕ
version_place = 8

abbrev pub length_place : ℕ
length_place = 10

abbrev pub protected_place : ℕ
protected_place = 12

abbrev pub referenced_place : ℕ
referenced_place = 13

-- the layout mark: where it stands, the file is of version 2
abbrev pub layout_place : ℕ
layout_place = 14

abbrev pub base_place : ℕ
base_place = 16

-- a mark stands where its byte is this, and is cleared to 0
abbrev pub mark_byte : ℕ
mark_byte = 0x5A

abbrev pub head_len : ℕ
head_len = 64

-- what a sector's state bytes say; any other byte says the contrary
abbrev pub open_gate : ℕ
open_gate = 0x5A

abbrev pub formed_byte : ℕ
formed_byte = 0xF0

abbrev pub defect_byte : ℕ
defect_byte = 0xBD

-- what closes a gate
abbrev pub closed_gate : ℕ
closed_gate = 0xC1

-- sectors of a cartridge with this many segments per track
abbrev pub sectors : ℕ → ℕ
sectors n = 896 * n

-- the bytes of a cell, which has the four parts of a sector, and of the cells of a segment
abbrev pub cell_len : ℕ
cell_len = 1027

abbrev pub cells_len : ℕ
cells_len = 32864

-- the length of an image of version 1, and of a new one
abbrev pub image_len : ℕ → ℕ
image_len n = head_len + cell_len * sectors n

-- .. and of one that was upgraded: the cells stand behind the planes
abbrev pub upgraded_len : ℕ → ℕ
upgraded_len n = 64 + 2054 * sectors n

-- the version of a layout
abbrev pub version_of : Kind → ℕ
version_of Planes = 1
version_of Cells = 2
version_of CellsBehind = 2

-- where the sectors of a layout begin, and where they end
abbrev pub base_of : Kind → ℕ → ℕ
base_of Planes n = head_len
base_of Cells n = head_len
base_of CellsBehind n = image_len n

abbrev pub end_of : Layout → ℕ
end_of l = base_of l.kind l.segments_per_track + cell_len * sectors l.segments_per_track

-- bytes of a part of a sector
abbrev pub width : Part → ℕ
width GateByte = 1
width FormedByte = 1
width DefectByte = 1
width Data = 1024

-- version 1: a plane for each state byte, and the sectors' bytes behind them
abbrev pub plane_place : (n : ℕ) → Part → (sector : ℕ) → ℕ
plane_place n GateByte sector = 64 + sector
plane_place n FormedByte sector = 64 + sectors n + sector
plane_place n DefectByte sector = 64 + 2 * sectors n + sector
plane_place n Data sector = 64 + 3 * sectors n + 1024 * sector

-- version 2: a sector's state bytes beside its bytes
abbrev pub cell_place : (base : ℕ) → Part → (sector : ℕ) → ℕ
cell_place base GateByte sector = base + cell_len * sector
cell_place base FormedByte sector = base + cell_len * sector + 1
cell_place base DefectByte sector = base + cell_len * sector + 2
cell_place base Data sector = base + cell_len * sector + 3

abbrev pub place_in : Kind → (n : ℕ) → Part → (sector : ℕ) → ℕ
place_in Planes n part sector = plane_place n part sector
place_in Cells n part sector = cell_place head_len part sector
place_in CellsBehind n part sector = cell_place (image_len n) part sector

-- where a part of a sector begins
abbrev pub place : Layout → Part → (sector : ℕ) → ℕ
place l part sector = place_in l.kind l.segments_per_track part sector

-- whether a part of a sector and the same part of the next one are neighbours
abbrev pub touches : Kind → Bool
touches Planes = true
touches Cells = false
touches CellsBehind = false

-- the head of an image that is made, in version 2: a new one has no referenced mark, and an imported one has it
abbrev pub made_head : (referenced : Bool) (n : ℕ) → List ℕ
made_head referenced n =
    signature ++ (little_endian_bytes 2 2 ++ (little_endian_bytes 2 n
    ++ (0 ∷ (if referenced then mark_byte else 0) ∷ mark_byte ∷ 0 ∷ [] ++ (little_endian_bytes 8 head_len ++ replicate 40 0))))

-- a cell: the state bytes of a sector, and behind them its bytes
abbrev pub cell_of : (gate formed defect : ℕ) (bytes : List ℕ) → List ℕ
cell_of gate formed defect bytes = gate ∷ formed ∷ defect ∷ bytes

-- .. of a formatted sector with these bytes, which holds them or is lost
unfoldable pub formed_cell : (held : Bool) (bytes : List ℕ) → List ℕ
formed_cell held bytes = cell_of (if held then open_gate else 0) formed_byte 0 bytes

-- bytes written, and then a sync
abbrev pub put : ℕ → List ℕ → List DiskStep
put at bytes = WriteAt at bytes ∷ Sync ∷ []

-- a length set, and then a sync
abbrev pub resize : ℕ → List DiskStep
resize length = SetLen length ∷ Sync ∷ []

-- An image that is made from front to back: the file gets longer by the cells of a segment.
abbrev pub append_steps : (segment : ℕ) (cells : List ℕ) → List DiskStep
append_steps segment cells =
    SetLen (head_len + cells_len * segment + cells_len) ∷ WriteAt (head_len + cells_len * segment) cells ∷ []

-- The head is written but for its first byte, and then that.
abbrev pub sign_steps : (referenced : Bool) (n : ℕ) → List DiskStep
sign_steps referenced n = put 1 (drop 1 (made_head referenced n)) ++ put 0 (first_letter ∷ [])

-- The values are those of a part of the sectors from a first one on. A run of these sectors gets its own, as one write;
-- `at` is how many sectors are before it.
abbrev pub run_write : (l : Layout) (part : Part) (values : List ℕ) (first at count : ℕ) → List DiskStep
run_write l part values first at zero = []
run_write l part values first at (suc count) =
    WriteAt (place l part (first + at)) (slice_range values (width part * at) (width part * (at + suc count))) ∷ []

-- what one sector adds to the writes, and to the run under way that ends before it
abbrev pub step_writes : (l : Layout) (part : Part) (values : List ℕ) (first at : ℕ) (chosen : Bool) (under : ℕ) → List DiskStep
step_writes l part values first at true under = if touches l.kind then [] else run_write l part values first at 1
step_writes l part values first at false under = run_write l part values first (at - under) under

abbrev pub step_under : (kind : Kind) (chosen : Bool) (under : ℕ) → ℕ
step_under kind true under = if touches kind then suc under else under
step_under kind false under = 0

-- A part of the chosen ones of sectors gets its values. Neighbouring parts go as one write; `under` is the length of the
-- run that ends before the sector.
abbrev pub fill_writes : (l : Layout) (part : Part) (values : List ℕ) (first at : ℕ) (chosen : List Bool) (under : ℕ) → List DiskStep
fill_writes l part values first at [] under = run_write l part values first (at - under) under
fill_writes l part values first at (true ∷ chosen) under =
    if touches l.kind then fill_writes l part values first (suc at) chosen (suc under)
    else run_write l part values first at 1 ++ fill_writes l part values first (suc at) chosen under
fill_writes l part values first at (false ∷ chosen) under =
    run_write l part values first (at - under) under ++ fill_writes l part values first (suc at) chosen zero

-- writes, and one sync where there was any
abbrev pub synced : List DiskStep → List DiskStep
synced [] = []
synced (write ∷ writes) = write ∷ writes ++ Sync ∷ []

abbrev pub fill : (l : Layout) (part : Part) (values : List ℕ) (first : ℕ) (chosen : List Bool) → List DiskStep
fill l part values first chosen = synced (fill_writes l part values first 0 chosen 0)

-- the same value for each byte of a part of 32 sectors
unfoldable pub even : (part : Part) (value : ℕ) → List ℕ
even part value = replicate (width part * 32) value

-- What each call of one sector writes, by its view. No byte whose meaning stays is written: a gate is closed only where
-- it is open.
abbrev pub wear_steps : (l : Layout) (sector : ℕ) → SectorView → List DiskStep
wear_steps l sector Blank = []
wear_steps l sector Defect = []
wear_steps l sector Lost = []
wear_steps l sector (Holds old) = put (place l GateByte sector) (closed_gate ∷ [])

abbrev pub spoil_steps : (l : Layout) (sector : ℕ) → SectorView → List DiskStep
spoil_steps l sector Blank = put (place l DefectByte sector) (defect_byte ∷ [])
spoil_steps l sector Defect = []
spoil_steps l sector Lost = []
spoil_steps l sector (Holds old) = []

-- by what the mark's byte is
abbrev pub mark_steps : (place : ℕ) (on : Bool) (byte : ℕ) → List DiskStep
mark_steps place true byte = if byte == mark_byte then [] else put place (mark_byte ∷ [])
mark_steps place false byte = if byte == mark_byte then put place (0 ∷ []) else []

-- The steps of formatting, for the sectors of a segment that are no defects: the open gates are closed, the sectors are
-- zeroed, those not formed are formed, and all gates are opened.
unfoldable pub format_segment_steps : (l : Layout) (segment : ℕ) (readable usable unformed : List Bool) → List DiskStep
format_segment_steps l segment readable usable unformed =
    fill l GateByte (even GateByte closed_gate) (32 * segment) readable ++ (fill l Data (even Data 0) (32 * segment) usable
    ++ (fill l FormedByte (even FormedByte formed_byte) (32 * segment) unformed
    ++ fill l GateByte (even GateByte open_gate) (32 * segment) usable))

-- by the state bytes that the file has
abbrev pub is_usable : (l : Layout) (bytes : List ℕ) (sector : ℕ) → Bool
is_usable l bytes sector = not (slice_index bytes (place l DefectByte sector) == defect_byte)

abbrev pub is_open : (l : Layout) (bytes : List ℕ) (sector : ℕ) → Bool
is_open l bytes sector = is_usable l bytes sector && (slice_index bytes (place l GateByte sector) == open_gate)

abbrev pub is_unformed : (l : Layout) (bytes : List ℕ) (sector : ℕ) → Bool
is_unformed l bytes sector =
    is_usable l bytes sector && not (slice_index bytes (place l FormedByte sector) == formed_byte)

-- which of the 32 sectors of a segment
abbrev pub those : (segment : ℕ) → (ℕ → Bool) → List Bool
those segment is = map is (range_with_len (32 * segment) 32)

abbrev pub format_plan : (l : Layout) (segment : ℕ) (bytes : List ℕ) → List DiskStep
format_plan l segment bytes =
    format_segment_steps l segment (those segment (is_open l bytes)) (those segment (is_usable l bytes))
    (those segment (is_unformed l bytes))

-- A call that writes several sectors of a segment: of those that are no defects and were formatted, the open gates are
-- closed, the bytes are written, and all gates are opened.
unfoldable pub overwrite_all : (l : Layout) (segment : ℕ) (sectors : List (List ℕ)) (closed taken : List Bool) → List DiskStep
overwrite_all l segment sectors closed taken =
    fill l GateByte (even GateByte closed_gate) (32 * segment) closed
    ++ (fill l Data (flat_map (λ bytes. bytes) sectors) (32 * segment) taken
    ++ fill l GateByte (even GateByte open_gate) (32 * segment) taken)

-- by the views of the 32 sectors: which of them are written, and are so
abbrev pub chosen_by : (written : ℕ) (views : List SectorView) (is : SectorView → Bool) → List Bool
chosen_by written views is = map (λ i. is_lost written i && is (slice_index_or views i Blank)) (range_with_len 0 32)

abbrev pub write_sectors_steps : (l : Layout) (segment written : ℕ) (sectors : List (List ℕ)) (views : List SectorView) → List DiskStep
write_sectors_steps l segment written sectors views =
    overwrite_all l segment sectors (chosen_by written views is_readable) (chosen_by written views takes_write)

-- an image's first byte is cleared
abbrev pub clear_steps : (first : ℕ) → List DiskStep
clear_steps first = if first == first_letter then put 0 (0 ∷ []) else []

-- by the first byte of the file, which is taken for 0 where there is none
unfoldable pub renew_steps : (n first : ℕ) → List DiskStep
renew_steps n first =
    clear_steps first ++ (resize head_len ++ (resize (image_len n) ++ sign_steps false n))

-- The four parts of a sector of a version 1 image, as they stand beside each other in version 2.
unfoldable pub cell : (n : ℕ) (bytes : List ℕ) (sector : ℕ) → List ℕ
cell n bytes sector =
    cell_of (slice_index bytes (plane_place n GateByte sector)) (slice_index bytes (plane_place n FormedByte sector))
    (slice_index bytes (plane_place n DefectByte sector))
    (slice_range bytes (plane_place n Data sector) (plane_place n Data sector + 1024))

-- .. by the state bytes of a segment and its 32,768 bytes
unfoldable pub cell_with : (gates formed defects block : List ℕ) (i : ℕ) → List ℕ
cell_with gates formed defects block i =
    cell_of (slice_index gates i) (slice_index formed i) (slice_index defects i)
    (slice_range block (1024 * i) (1024 * i + 1024))

-- the first ones of sectors from one on are written as cells behind the planes
abbrev pub cells_by : (n sector : ℕ) (parts : ℕ → List ℕ) (count : ℕ) → List DiskStep
cells_by n sector parts zero = []
cells_by n sector parts (suc count) =
    cells_by n sector parts count
    ++ WriteAt (cell_place (image_len n) GateByte (sector + count)) (parts count) ∷ []

-- a segment is looked at, and its 32 sectors are written
abbrev pub copy_segment : (n segment : ℕ) (bytes : List ℕ) → List DiskStep
copy_segment n segment bytes = Look ∷ cells_by n (32 * segment) (λ i. cell n bytes (32 * segment + i)) 32

-- .. the first ones of the segments
abbrev pub copy_steps : (n : ℕ) (bytes : List ℕ) (count : ℕ) → List DiskStep
copy_steps n bytes zero = []
copy_steps n bytes (suc count) = copy_steps n bytes count ++ copy_segment n count bytes

-- A version 1 image is brought to version 2: it gets longer, its sectors are written as cells behind the planes, then
-- the base, and at last the layout mark.
unfoldable pub upgrade_steps : (n : ℕ) (bytes : List ℕ) → List DiskStep
upgrade_steps n bytes =
    (resize (upgraded_len n) ++ (copy_steps n bytes (28 * n)
    ++ (Sync ∷ [] ++ put base_place (little_endian_bytes 8 (image_len n))))) ++ put layout_place (mark_byte ∷ [])

-- .. and one of version 2 stays
abbrev pub upgrade_plan : (l : Layout) (bytes : List ℕ) → List DiskStep
upgrade_plan l bytes = if version_of l.kind == 1 then upgrade_steps l.segments_per_track bytes else []
