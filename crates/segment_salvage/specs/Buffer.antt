-- The cells of a segment of a dump whose piece stands in 32 sectors of memory (this project's own).
use Rattle.std.specs.Prelude.{ℕ, ◌-◌, List, ◌++◌, map, replicate}
use Rattle.std.specs.List.{range_with_len}
use Rattle.cartridge_spec.specs.Shape.{sector_at, usable_places, usable_count, data_count}
use Rattle.dump_spec.specs.declared.form.Form.{Form}
use Rattle.dump_spec.specs.declared.form.Form.TheVariants as forms
use Rattle.qic_base.specs.CartridgeTerms.{is_lost}
use Rattle.qic_base.specs.declared.tape.SectorView.{SectorView}
use Rattle.qic_base.specs.declared.tape.SectorView.TheVariants.{Lost}
use Rattle.silent_locate.specs.Deep.{cell_of}

-- the view of the sector with an index, of which those of a set can't be read
abbrev pub buffer_view : (unread : ℕ) → (sectors : List (List ℕ)) → (index : ℕ) → SectorView
buffer_view unread sectors index = cell_of (is_lost unread index) (sector_at sectors index)

-- the cells of a segment by its mask; in the form of data those of data stand at the front, and the parity is lost
abbrev pub buffer_cells : Form → (usable unread : ℕ) → (sectors : List (List ℕ)) → List SectorView
buffer_cells forms.Sectors usable unread sectors = map (buffer_view unread sectors) (usable_places usable)
buffer_cells forms.Data usable unread sectors =
    map (buffer_view unread sectors) (range_with_len 0 (data_count usable)) ++ replicate (usable_count usable - data_count usable) Lost
