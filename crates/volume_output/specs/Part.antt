-- One piece of a volume, by its number: its place, and how its reading ended (this project's own).
use Rattle.std.specs.Prelude.{ℕ, ◌*◌, ◌<◌, ◌≤◌, ◌≡◌, List, [], All, length, take, slice_get, Option, Some, None, Result, Ok, Err}
use Rattle.qic_base.specs.Cartridge.{IsSector}
use Rattle.cartridge_spec.specs.Says.{Says, Data}
use Rattle.cartridge_spec.specs.Shape.{mask_at, data_count}
use Rattle.command_spec.specs.Numbers.{AreTooMany}
use Rattle.command_spec.specs.Restore.{Piece, PieceEnds, LostIn, MismatchIn, piece_cells}
use Rattle.volume_output.specs.Piece.{piece_of}
use Rattle.qic_base.specs.declared.store_fault.StoreFault.{StoreFault}
use Rattle.volume_output.specs.declared.part.PartRead.{PartRead}
use Rattle.volume_output.specs.declared.part.Place.{Place}
use Rattle.qic_base.specs.Tape as tapes
use Rattle.qic_base.specs.TapeCalls as tape_calls
use Rattle.qic_base.specs.declared.store_fault.StoreFault.TheVariants as fault

-- the piece that a place is
abbrev pub piece_at : Place → Piece
piece_at place = piece_of place.segment place.count

-- there is a piece with this number, from 0, and this is so of it
abbrev pub OfPiece : List Piece → (number : ℕ) → (Piece → Type 0) → Type 0
OfPiece needed number P = (piece : Piece) × (slice_get needed number ≡ Some piece) × P piece

-- the piece was read: its segment says these data sectors, which hold so many bytes of the volume
pub record ReadsPiece {T : Type 0} (t : tapes.Meaning T) (words : List ℕ) (piece : Piece) (old new : T) (sectors : List (List ℕ))
    (count : ℕ) : Type 0 where
  pub counted : count ≡ piece.count
  pub some : 0 < count
  pub within : count ≤ 1024 * length sectors
  pub did : tapes.Done t old new []
  pub told : tape_calls.Tells t old (λ c. Says (piece_cells c words piece) (Data sectors))
  -- and over any tape
  pub size : length sectors ≡ data_count (mask_at words piece.segment)
  pub are : All IsSector sectors

-- its segment has so many unreadable sectors, too many
pub record LosesPiece {T : Type 0} (t : tapes.Meaning T) (words : List ℕ) (piece : Piece) (old new : T) (segment lost : ℕ) : Type 0 where
  pub named : segment ≡ piece.segment
  pub many : AreTooMany lost
  pub did : tapes.Done t old new []
  pub told : tape_calls.Tells t old (λ c. PieceEnds c words piece (LostIn segment lost))

-- it has at most three, and the others are those of no code block
pub record MismatchesPiece {T : Type 0} (t : tapes.Meaning T) (words : List ℕ) (piece : Piece) (old new : T) (segment : ℕ) : Type 0 where
  pub named : segment ≡ piece.segment
  pub did : tapes.Done t old new []
  pub told : tape_calls.Tells t old (λ c. PieceEnds c words piece (MismatchIn segment))

-- how the reading of the piece with a number ended: without one nothing was read
abbrev pub PartEnds : {T : Type 0} (t : tapes.Meaning T) (words : List ℕ) (needed : List Piece) (number : ℕ) (old new : T)
    (sectors : List (List ℕ)) → Result (Option PartRead) StoreFault → Type 0
PartEnds t words needed number old new sectors (Ok None) = (slice_get needed number ≡ None) × (new ≡ old)
PartEnds t words needed number old new sectors (Ok (Some part)) =
    OfPiece needed number (λ piece. ReadsPiece t words piece old new (take part.sectors sectors) part.bytes)
PartEnds t words needed number old new sectors (Err (fault.Lost segment lost)) =
    OfPiece needed number (λ piece. LosesPiece t words piece old new segment lost)
PartEnds t words needed number old new sectors (Err (fault.Mismatch segment)) =
    OfPiece needed number (λ piece. MismatchesPiece t words piece old new segment)
PartEnds t words needed number old new sectors (Err fault.Tape) = OfPiece needed number (λ piece. tapes.Broke t old new [])
PartEnds t words needed number old new sectors (Err other) = ⊥
