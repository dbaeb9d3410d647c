-- The plain machine of `restore`: a volume's bytes, segment by segment, and how their giving ends (this project's own).
use Rattle.std.specs.Prelude.{ℕ, zero, suc, ◌-◌, List, [], ◌∷◌, min, ◌≤◌, take, ◌≡◌, ◌++◌, codes, decimal, ◌<◌, All, length, slice_get}
use Rattle.std.specs.Prelude.{Option, None, Some, ◌⊎◌, ◌==◌, ◌&&◌, true, IsSomeAnd, ◌||◌, nat_lt, nat_le}
use Rattle.cartridge_spec.specs.Volumes.{bytes_in, carrying_segments, volume_length, Plain, Volume, Stands}
use Rattle.cartridge_spec.specs.Mounting.{settled}
use Rattle.cartridge_spec.specs.TableSegment.{CanBeRead}
use Rattle.cartridge_spec.specs.Says.{cells_of, unreadable_count, Says, Data, LostSectors, Mismatch}
use Rattle.cartridge_spec.specs.Settling.{settling_steps}
use Rattle.cartridge_spec.specs.Shape.{mask_at, capacity}
use Rattle.cartridge_spec.specs.Table.{Entry}
use Rattle.command_spec.specs.Numbers.{is_volume_count}
use Rattle.command_spec.specs.Outcome.{settling_act, Going, refused_behind, OpenOutcome}
use Rattle.command_spec.specs.declared.status.Status.{Status}
use Rattle.qic_base.specs.Acts.{Act}
use Rattle.qic_base.specs.Cartridge.{Cartridge}
use Rattle.qic_base.specs.declared.tape.SectorView.{SectorView}
use Rattle.command_spec.specs.Command.{Command, plain_command, none_of_them, Word, AnyNumber}
use Rattle.command_spec.specs.declared.status.Status.TheVariants as status

-- ---- the segments that are read

-- a segment, and how many bytes of the volume it holds
pub record Piece : Type 0 where
  pub segment : ℕ
  pub count : ℕ

-- so many bytes in these segments, each with as many as it carries: one that holds none of them is not read
abbrev pub pieces_of : (words segments : List ℕ) (left : ℕ) → List Piece
pieces_of words (s ∷ ss) (suc left) =
    record { segment = s; count = min (suc left) (capacity (mask_at words s)) }
    ∷ pieces_of words ss (suc left - capacity (mask_at words s))
pieces_of words segments left = []

-- a volume's length in its carrying segments
abbrev pub pieces : (words : List ℕ) → Entry → List Piece
pieces words e = pieces_of words (carrying_segments words e) (volume_length words e)

-- ---- reading them

-- the cells of a piece's segment
abbrev pub piece_cells : Cartridge → (words : List ℕ) → Piece → List SectorView
piece_cells c words piece = cells_of c piece.segment (mask_at words piece.segment)

-- at most three of them are unreadable
abbrev pub LosesFew : Cartridge → (words : List ℕ) → Piece → Type 0
LosesFew c words piece = unreadable_count (piece_cells c words piece) ≤ 3

-- The segment says data; and the act prints the first bytes of them, as many as it holds of the volume. No step changes
-- the tape.
pub record IsRead (c : Cartridge) (words : List ℕ) (piece : Piece) (act : Act) : Type 0 where
  pub sectors : List (List ℕ)
  pub says : Says (piece_cells c words piece) (Data sectors)
  pub shown : act ≡ record { steps = []; text = take piece.count (bytes_in sectors) }

-- how a restore ends: all was read; a segment has so many unreadable sectors, more than three; or at most three, and the
-- others are those of no code block
pub data GivingEnd : Type 0 where
  Restored : GivingEnd
  LostIn : (segment lost : ℕ) → GivingEnd
  MismatchIn : ℕ → GivingEnd

-- a piece's segment says no data, and so ends the restore
abbrev pub PieceEnds : Cartridge → (words : List ℕ) → Piece → GivingEnd → Type 0
PieceEnds c words piece Restored = ⊥
PieceEnds c words piece (LostIn segment lost) = (segment ≡ piece.segment) × Says (piece_cells c words piece) (LostSectors lost)
PieceEnds c words piece (MismatchIn segment) = (segment ≡ piece.segment) × Says (piece_cells c words piece) Mismatch

-- the acts of the pieces that are read, one for each in their order, and the ending: there is no act for the piece that
-- ends it, and none behind
abbrev pub Restores : Cartridge → (words : List ℕ) → List Piece → List Act → GivingEnd → Type 0
Restores c words [] acts ending = (acts ≡ []) × (ending ≡ Restored)
Restores c words (piece ∷ needed) [] ending = PieceEnds c words piece ending
Restores c words (piece ∷ needed) (act ∷ acts) ending = IsRead c words piece act × Restores c words needed acts ending

-- ---- the framed form

-- each act of these pieces with the line `part K` before its text, where K is the count of its piece
abbrev pub framed : List Piece → List Act → List Act
framed (piece ∷ needed) (act ∷ acts) =
    record { steps = act.steps; text = codes "part " ++ decimal piece.count ++ codes "\n" ++ act.text } ∷ framed needed acts
framed needed acts = []

-- its pieces
abbrev pub pieces_in : Plain → Volume → List Piece
pieces_in plain volume = pieces plain.words volume.entry

-- the first piece whose segment has more
pub record FirstLost (c : Cartridge) (words : List ℕ) (needed : List Piece) : Type 0 where
  pub front : List Piece
  pub piece : Piece
  pub rest : List Piece
  pub whole : front ++ piece ∷ rest ≡ needed
  pub few : All (LosesFew c words) front
  pub many : 3 < unreadable_count (piece_cells c words piece)

-- the volume with a number, counted from 1
abbrev pub volume_at : {A : Type 0} → (volumes : List A) → (number : ℕ) → Option A
volume_at volumes zero = None
volume_at volumes (suc n) = slice_get volumes n

-- the answer to how a restore ended
abbrev pub ending_status : GivingEnd → Status
ending_status Restored = status.Done
ending_status (LostIn segment lost) = status.Lost segment lost
ending_status (MismatchIn segment) = status.Mismatch segment

-- there is a volume with this number, the cartridge gives these acts of it, and they come to this
pub record RestoresVolume (c : Cartridge) (words : List ℕ) (entries : List Entry) (number : ℕ)
    (Comes : Entry → List Act → GivingEnd → Type 0) : Type 0 where
  pub entry : Entry
  pub numbered : volume_at entries number ≡ Some entry
  pub acts : List Act
  pub ending : GivingEnd
  pub restores : Restores c words (pieces words entry) acts ending
  pub is : Comes entry acts ending

abbrev pub Gives : (number : ℕ) → Going
Gives number c header words table entries outcome =
    ((volume_at entries number ≡ None) × (outcome ≡ refused_behind (settling_steps table c) (status.NoVolume number (length entries))))
    ⊎ RestoresVolume (settled table c) words entries number
    (λ entry acts ending. outcome ≡ record { acts = settling_act table c ∷ acts; taken = 0; status = ending_status ending })

-- ---- the command

-- a cartridge stands for a plain one that has this volume of the number, and its volume table can be read
pub record HasNumber (c : Cartridge) (plain : Plain) (number : ℕ) (volume : Volume) : Type 0 where
  pub stands : Stands c plain
  pub reads : CanBeRead c
  pub is : volume_at plain.volumes number ≡ Some volume

-- the bytes of a volume may have been printed before a segment that doesn't read
abbrev pub restore_refused : Status → List ℕ → Type 0
restore_refused (status.Lost segment lost) text = Unit {0}
restore_refused (status.Mismatch segment) text = Unit {0}
restore_refused answer text = text ≡ []

-- It needs a volume of the number, no segment of which, where it holds some of its bytes, has more than three unreadable sectors. The
-- bytes of a volume may be any. The number that is refused is the one that was asked for, and that of none of so many volumes.
abbrev pub restore_command : (number : ℕ) → Command
restore_command number =
    record (plain_command ((Word (codes "restore") ∷ AnyNumber number ∷ []) ∷ [])
    (λ held input outcome. OpenOutcome (Gives number) held outcome) (λ text. Unit {0})) {
      traits = record none_of_them { goes = true; memory = true; cartridge = true; mounts = true; restores = true };
      refused = restore_refused;
      needs = λ held input. IsSomeAnd held (λ c. (plain : Plain) × ((volume : Volume) × HasNumber c plain number volume
          × All (LosesFew c plain.words) (pieces_in plain volume)));
      can_be = nat_le 1 number && is_volume_count number;
      is_no_volume = λ named count. (named == number) && (is_volume_count count && (number == 0 || nat_lt count number));
    }
