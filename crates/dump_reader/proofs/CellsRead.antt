-- The cells of sectors that were read are those of the segment.
use Rattle.std.proofs.Common.{◌≡◌, ℕ, ◌-◌, ◌^◌, ◌/◌, ◌%◌, ◌<◌, Bool, true, false, List, replicate, if◌then◌else◌, sym, ap, ◌∙◌}
use Rattle.std.specs.Prelude.{slice_index}
use Rattle.std.proofs.lemmas.Bool.{eq-eqb}
use Rattle.std.proofs.lemmas.Nat.Bits.{bit_at_ones}
use Rattle.cartridge_spec.specs.Shape.{usable_count}
use Rattle.dump_spec.specs.Cells.{piece_cells, cells_in}
use Rattle.dump_spec.specs.Dump.{Dump}
use Rattle.dump_spec.specs.Pieces.{Layout, piece_sectors, piece_start, has_piece}
use Rattle.dump_spec.specs.declared.form.Form.{Form}
use Rattle.dump_reader.proofs.Laying.{start_same}
use Rattle.dump_reader.specs.Laid.{IsLaidOut, HasSegment, AreCellsIn, start_in}
use Rattle.dump_reader.specs.Piece.{HoldsSectors}
use Rattle.dump_reader.specs.declared.known.KnownDump.{KnownDump}
use Rattle.qic_base.specs.CartridgeTerms.{is_lost}
use Rattle.qic_base.specs.declared.tape.SectorView.TheVariants.{Lost}
use Rattle.segment_salvage.proofs.BufferCells.{buffer_is_piece, unread_is_lost}

cells_with : (dump : Dump) (layout : Layout) (segment : ℕ) (there : Bool) (form : Form) (start mask : ℕ) →
    there ≡ has_piece dump layout segment → form ≡ layout.form → start ≡ piece_start layout segment → mask ≡ layout.masks segment →
    (if there then piece_cells form dump start mask else replicate (usable_count mask) Lost) ≡ cells_in dump layout segment
cells_with dump layout segment there form start mask is_there is_form is_start is_mask =
    ap (λ (t : Bool). if t then piece_cells form dump start mask else replicate (usable_count mask) Lost) is_there
    ∙ ap (λ (f : Form). if has_piece dump layout segment then piece_cells f dump start mask else replicate (usable_count mask) Lost) is_form
    ∙ ap (λ (s : ℕ). if has_piece dump layout segment then piece_cells layout.form dump s mask
    else replicate (usable_count mask) Lost) is_start
    ∙ ap (λ (m : ℕ). if has_piece dump layout segment then piece_cells layout.form dump (piece_start layout segment) m
    else replicate (usable_count m) Lost) is_mask

all_lost : (index : ℕ) → index < 32 → is_lost (2 ^ 32 - 1) index ≡ true
all_lost index low = eq-eqb ((2 ^ 32 - 1) / 2 ^ index % 2) 1 (bit_at_ones 32 index low)

-- nothing was read of a segment without a piece
pub cells_absent : (known : KnownDump) (layout : Layout) (dump : Dump) (segment unread : ℕ) (sectors : List (List ℕ)) →
    unread ≡ 2 ^ 32 - 1 → IsLaidOut known layout → HasSegment known segment → has_piece dump layout segment ≡ false →
    AreCellsIn known segment unread sectors dump layout
cells_absent known layout dump segment unread sectors all is has none =
    let mask : ℕ = slice_index known.masks.now segment in
    unread_is_lost known.form mask unread sectors (λ index low. ap (λ (set : ℕ). is_lost set index) all ∙ all_lost index low)
    ∙ cells_with dump layout segment false known.form (start_in known segment) mask (sym none) (sym is.form)
    (start_same known layout segment is has) (sym (is.masks segment has.mask))

-- the sectors of a piece were read
pub cells_there : (known : KnownDump) (layout : Layout) (dump : Dump) (segment start unread : ℕ) (sectors : List (List ℕ)) →
    IsLaidOut known layout → HasSegment known segment → has_piece dump layout segment ≡ true → start ≡ start_in known segment →
    HoldsSectors dump start (piece_sectors known.form (slice_index known.masks.now segment)) unread sectors →
    AreCellsIn known segment unread sectors dump layout
cells_there known layout dump segment start unread sectors is has there at holds =
    let mask : ℕ = slice_index known.masks.now segment in
    buffer_is_piece known.form dump start mask unread sectors holds
    ∙ cells_with dump layout segment true known.form start mask (sym there) (sym is.form)
    (at ∙ start_same known layout segment is has) (sym (is.masks segment has.mask))
