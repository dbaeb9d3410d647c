-- What is known of a dump, as it is kept in memory, and where a cursor stands (this project's own).
use Rattle.std.specs.Prelude.{ℕ, ◌-◌, ◌*◌, ◌≡◌, ◌<◌, ◌≤◌, ◌&&◌, nat_le, nat_lt, not, Bool}
use Rattle.std.specs.Prelude.{List, length, slice_index, sum_by, Option, if◌then◌else◌}
use Rattle.std.specs.List.{range_with_len}
use Rattle.dump_lists.specs.Masks.{IsMissingSet}
use Rattle.dump_spec.specs.Cells.{cells_in}
use Rattle.dump_spec.specs.Dump.{Dump}
use Rattle.dump_spec.specs.Pieces.{Layout, piece_sectors}
use Rattle.dump_reader.specs.Piece.{IsDumpIn, is_marked}
use Rattle.dump_reader.specs.declared.cursor.Cursor.{Cursor}
use Rattle.dump_reader.specs.declared.known.KnownDump.{KnownDump}
use Rattle.segment_salvage.specs.Buffer.{buffer_cells}

-- how the pieces lie, by a layout
pub record IsLaidOut (known : KnownDump) (layout : Layout) : Type 0 where
  pub form : layout.form ≡ known.form
  pub first : layout.first ≡ known.first
  pub missing : IsMissingSet layout.missing known.missing.now
  pub masks : (segment : ℕ) → segment < length known.masks.now → layout.masks segment ≡ slice_index known.masks.now segment

-- it describes a dump on a disk that tells this, with that layout
pub record Describes (known : KnownDump) (told : Option (List ℕ)) (dump : Dump) (layout : Layout) : Type 0 where
  pub is : IsDumpIn told known.rescued.now dump
  pub long : length dump.bytes ≡ known.bytes
  pub laid : IsLaidOut known layout

-- the segment has a mask, and a bit in the set of those that the dump lacks
pub record HasSegment (known : KnownDump) (segment : ℕ) : Type 0 where
  pub mask : segment < length known.masks.now
  pub bit : segment < 32 * length known.missing.now

-- how many sectors a segment's piece has
abbrev pub sectors_in : KnownDump → (segment : ℕ) → ℕ
sectors_in known segment =
    if is_marked known.missing.now segment then 0 else piece_sectors known.form (slice_index known.masks.now segment)

-- the first sector of its own
abbrev pub start_in : KnownDump → (segment : ℕ) → ℕ
start_in known segment = sum_by (sectors_in known) (range_with_len known.first (segment - known.first))

-- the cursor stands at the front of its segment's piece
pub record IsPlaced (known : KnownDump) (cursor : Cursor) : Type 0 where
  pub start : cursor.start ≡ start_in known cursor.segment
  pub near : cursor.start ≤ 32 * cursor.segment
  pub within : cursor.segment ≤ 65536

-- the cursor's segment has a piece
abbrev pub is_there : KnownDump → Cursor → Bool
is_there known cursor =
    nat_le known.first cursor.segment && nat_le cursor.segment 65535 && not (is_marked known.missing.now cursor.segment)
    && nat_lt (1024 * cursor.start) known.bytes

-- the cells of the sectors in memory, of which some can't be read, are those of the segment
abbrev pub AreCellsIn : KnownDump → (segment unread : ℕ) → (sectors : List (List ℕ)) → Dump → Layout → Type 0
AreCellsIn known segment unread sectors dump layout =
    buffer_cells known.form (slice_index known.masks.now segment) unread sectors ≡ cells_in dump layout segment
