-- The laws of an image that is being written, as facts (this project's own).
use Rattle.std.specs.Prelude.{◌≡◌, ℕ, Bool, List, length, slice_index, slice_range, if◌then◌else◌, None}
use Rattle.qic_base.specs.declared.tape.SectorView.TheVariants.{Lost, Holds}
use Rattle.cart_image.specs.Image.{view_by, cartridge_of}
use Rattle.cart_image.specs.Layout.{cell_len, formed_cell}
use Rattle.flat_dump.specs.Stops.{IsUnsigned}

-- the cell is read as the sector that holds these bytes, or as a lost one
abbrev pub CellShows : Type 0
CellShows =
    (held : Bool) (bytes : List ℕ) → length bytes ≡ 1024 →
    view_by (slice_index (formed_cell held bytes) 2) (slice_index (formed_cell held bytes) 1) (slice_index (formed_cell held bytes) 0)
    (slice_range (formed_cell held bytes) 3 cell_len)
    ≡ (if held then Holds bytes else Lost)

-- a file whose first byte is there and is zero is no image
abbrev pub UnsignedIsNone : Type 0
UnsignedIsNone = (bytes : List ℕ) → IsUnsigned bytes → cartridge_of bytes ≡ None
