-- The cells of a segment in a dump: its usable sectors, ascending, each read or lost (this project's profile).
use Rattle.std.specs.Prelude.{ℕ, ◌+◌, ◌-◌, List, ◌++◌, map, replicate, if◌then◌else◌}
use Rattle.std.specs.List.{range_with_len}
use Rattle.cartridge_spec.specs.Shape.{usable_places, usable_count, data_count}
use Rattle.qic_base.specs.declared.tape.SectorView.{SectorView}
use Rattle.qic_base.specs.declared.tape.SectorView.TheVariants.{Lost}
use Rattle.dump_spec.specs.Dump.{Dump, sector_view}
use Rattle.dump_spec.specs.Pieces.{Layout, piece_start, has_piece}
use Rattle.dump_spec.specs.declared.form.Form.{Form}
use Rattle.dump_spec.specs.declared.form.Form.TheVariants as forms

-- those of a piece that begins with this sector of the dump; in the form of data the parity is lost
abbrev pub piece_cells : Form → Dump → (start mask : ℕ) → List SectorView
piece_cells forms.Sectors dump start mask = map (λ index. sector_view dump (start + index)) (usable_places mask)
piece_cells forms.Data dump start mask =
    map (sector_view dump) (range_with_len start (data_count mask)) ++ replicate (usable_count mask - data_count mask) Lost

-- those of a segment; all are lost where it has no piece
abbrev pub cells_in : Dump → Layout → (segment : ℕ) → List SectorView
cells_in dump layout segment =
    if has_piece dump layout segment
    then piece_cells layout.form dump (piece_start layout segment) (layout.masks segment)
    else replicate (usable_count (layout.masks segment)) Lost
