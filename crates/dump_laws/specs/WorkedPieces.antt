-- Worked values of the pieces of a dump and the cells of its segments, as facts. None comes of evaluating a definition.
use Rattle.std.specs.Prelude.{ℕ, ◌≡◌, ◌==◌, ◌+◌, List, [], ◌∷◌, ◌++◌, codes, replicate, Some, None, true, false, map, Bool, if◌then◌else◌}
use Rattle.cartridge_spec.specs.Says.{whole_mask}
use Rattle.cartridge_spec.specs.Shape.{is_unreadable}
use Rattle.qic_base.specs.declared.tape.SectorView.{SectorView}
use Rattle.dump_spec.specs.Cells.{cells_in}
use Rattle.dump_spec.specs.Dump.{Dump}
use Rattle.dump_spec.specs.Lists.{Span, span}
use Rattle.dump_spec.specs.Pieces.{Layout, first_segment, piece_start, most_bytes}
use Rattle.dump_spec.specs.declared.form.Form.{Form}
use Rattle.dump_spec.specs.declared.form.Form.TheVariants as forms

-- sector 1 of segment 8 is bad, and all of segment 9
abbrev pub masks : ℕ → ℕ
masks segment = if segment == 8 then 0xFFFFFFFD else if segment == 9 then 0 else whole_mask

abbrev pub layout_of : Form → (first : ℕ) → List Span → Layout
layout_of form first missing = record { form = form; first = first; missing = missing; masks = masks }

-- ---- pieces

-- 32 sectors for each segment
abbrev pub WholePieces : Type 0
WholePieces = map (piece_start (layout_of forms.Sectors 6 [])) (6 ∷ 7 ∷ 10 ∷ []) ≡ 0 ∷ 32 ∷ 128 ∷ []

-- none of one that lacks
abbrev pub MissingPieces : Type 0
MissingPieces = map (piece_start (layout_of forms.Sectors 6 (span 7 8 ∷ []))) (7 ∷ 9 ∷ 10 ∷ []) ≡ 32 ∷ 32 ∷ 64 ∷ []

-- 29 data sectors, 28 where a sector is bad, and none where all are
abbrev pub DataPieces : Type 0
DataPieces = map (piece_start (layout_of forms.Data 7 [])) (7 ∷ 8 ∷ 9 ∷ 10 ∷ 11 ∷ []) ≡ 0 ∷ 29 ∷ 57 ∷ 57 ∷ 86 ∷ []

-- ---- the first segment

abbrev pub NoHeaderInFront : Type 0
NoHeaderInFront = map (λ form. first_segment form None (codes "VTBL")) (forms.Sectors ∷ forms.Data ∷ []) ≡ 0 ∷ 2 ∷ []

abbrev pub HeaderInFront : Type 0
HeaderInFront = first_segment forms.Data None (0x55 ∷ 0xAA ∷ 0x55 ∷ 0xAA ∷ 2 ∷ []) ≡ 0

abbrev pub AskedFirst : Type 0
AskedFirst = first_segment forms.Data (Some 7) [] ≡ 7

-- ---- the longest dump

-- from segment 65,533 on, of which 65,534 lacks
abbrev pub TwoSegmentsLeft : Type 0
TwoSegmentsLeft = most_bytes forms.Sectors 65533 (span 65534 65534 ∷ []) ≡ 65536

abbrev pub TwoSegmentsOfData : Type 0
TwoSegmentsOfData = most_bytes forms.Data 65533 (span 65534 65534 ∷ []) ≡ 59392

-- ---- cells

-- a dump of so many zero bytes, whose sector 3 was not rescued
abbrev pub dump_of : (bytes : ℕ) → Dump
dump_of bytes = record { bytes = replicate bytes 0; rescued = λ q. if q == 3 then false else true }

-- which cells can't be read
abbrev pub unread : List SectorView → List Bool
unread cells = map is_unreadable cells

-- in a dump of two whole segments, 8 and 10: sector 1 of segment 8 is no cell, and sector 3 is lost
abbrev pub CellsOfWhole : Type 0
CellsOfWhole = unread (cells_in (dump_of 65536) (layout_of forms.Sectors 8 (span 9 9 ∷ [])) 8)
    ≡ false ∷ false ∷ true ∷ replicate 28 false

-- one byte less than two segments: the last sector is lost
abbrev pub CutCells : Type 0
CutCells = unread (cells_in (dump_of 65535) (layout_of forms.Sectors 8 (span 9 9 ∷ [])) 10) ≡ replicate 31 false ++ true ∷ []

-- the data of segment 8: 28 sectors of which one is lost, and the parity
abbrev pub CellsOfData : Type 0
CellsOfData = unread (cells_in (dump_of 29696) (layout_of forms.Data 8 []) 8)
    ≡ false ∷ false ∷ false ∷ true ∷ replicate 24 false ++ replicate 3 true

-- a segment that lacks, one in front of the first, and one behind the dump's end have no piece
abbrev pub CellsOfMissing : Type 0
CellsOfMissing =
    map (λ segment. unread (cells_in (dump_of 65536) (layout_of forms.Sectors 8 (span 9 9 ∷ span 12 12 ∷ [])) segment)) (7 ∷ 9 ∷ 12 ∷ 11 ∷
    [])
    ≡ replicate 32 true ∷ [] ∷ replicate 32 true ∷ replicate 32 true ∷ []
