-- What the restoring of a volume gives, as facts.
use Rattle.std.specs.Prelude.{◌≡◌, ℕ, List, [], ◌++◌, length, ◌≤◌, All, take, Contains, ◌⊎◌, Option, Some, None, slice_get}
use Rattle.cartridge_laws.specs.AppendLaws.{append_steps_of, new_volume, with_content, MayAppendTo}
use Rattle.cartridge_laws.specs.AppendSettled.{IsSettledFor}
use Rattle.cartridge_spec.specs.Volumes.{volume_bytes, volume_length, Plain, Volume, Stands}
use Rattle.cartridge_spec.specs.Appending.{Content}
use Rattle.cartridge_spec.specs.Says.{unreadable_count}
use Rattle.cartridge_spec.specs.Settling.{changed_by}
use Rattle.cartridge_spec.specs.Table.{Entry}
use Rattle.command_spec.specs.Restore.{Piece, GivingEnd, Restores, framed, pieces, Restored, LosesFew, pieces_in, FirstLost, LostIn}
use Rattle.command_spec.specs.Restore.{piece_cells, MismatchIn, IsRead, PieceEnds}
use Rattle.command_laws.specs.RestoreTerms.{bytes_held}
use Rattle.command_spec.specs.Copying.{GivenBytes}
use Rattle.qic_base.specs.Acts.{Act, steps_of, text_of}
use Rattle.qic_base.specs.Cartridge.{Cartridge}
use Rattle.qic_base.specs.CartridgeTerms.{IsCartridge}

-- ---- over any cartridge

-- it gives at most one thing
abbrev pub RestoresIsFunction : Type 0
RestoresIsFunction =
    (c : Cartridge) (words : List ℕ) (needed : List Piece) (xs ys : List Act) (x y : GivingEnd) →
    Restores c words needed xs x → Restores c words needed ys y → (xs ≡ ys) × (x ≡ y)

-- and it gives something
abbrev pub RestoresAlways : Type 0
RestoresAlways =
    (c : Cartridge) (words : List ℕ) (needed : List Piece) → IsCartridge c →
    (acts : List Act) × (ending : GivingEnd) × Restores c words needed acts ending

-- it takes no step of the tape
abbrev pub RestoresInNoStep : Type 0
RestoresInNoStep =
    (c : Cartridge) (words : List ℕ) (needed : List Piece) (acts : List Act) (ending : GivingEnd) →
    Restores c words needed acts ending → steps_of acts ≡ []

-- nor does its framed form, which has an act for each of its acts
abbrev pub FramedInNoStep : Type 0
FramedInNoStep =
    (c : Cartridge) (words : List ℕ) (needed : List Piece) (acts : List Act) (ending : GivingEnd) →
    Restores c words needed acts ending →
    (steps_of (framed needed acts) ≡ []) × (length (framed needed acts) ≡ length acts)

-- ---- how many bytes

-- the pieces of a volume hold its length, and each of them one byte at least
abbrev pub PiecesHoldAll : Type 0
PiecesHoldAll =
    (words : List ℕ) (e : Entry) →
    (bytes_held (pieces words e) ≡ volume_length words e) × All (λ piece. 1 ≤ piece.count) (pieces words e)

-- the text has the bytes of the pieces that were read
abbrev pub TextHoldsPieces : Type 0
TextHoldsPieces =
    (c : Cartridge) (words : List ℕ) (e : Entry) (acts : List Act) (ending : GivingEnd) →
    Restores c words (pieces words e) acts ending →
    length (text_of acts) ≡ bytes_held (take (length acts) (pieces words e))

-- as many as the volume's length where all were read
abbrev pub RestoredIsLong : Type 0
RestoredIsLong =
    (c : Cartridge) (words : List ℕ) (e : Entry) (acts : List Act) →
    Restores c words (pieces words e) acts Restored → length (text_of acts) ≡ volume_length words e

-- ---- piece by piece

-- the piece behind those that were read ends it; where there is none all were read
abbrev pub EndsBehind : Cartridge → (words : List ℕ) → Option Piece → GivingEnd → Type 0
EndsBehind c words None ending = ending ≡ Restored
EndsBehind c words (Some piece) ending = PieceEnds c words piece ending

-- each act is that of the piece with its number
pub record GivesOneByOne (c : Cartridge) (words : List ℕ) (needed : List Piece) (acts : List Act) (ending : GivingEnd) : Type 0 where
  pub within : length acts ≤ length needed
  pub each : (i : ℕ) (piece : Piece) (act : Act) → slice_get needed i ≡ Some piece → slice_get acts i ≡ Some act → IsRead c words piece act
  pub ends : EndsBehind c words (slice_get needed (length acts)) ending

-- what a restore gives is what its pieces give one by one, ..
abbrev pub RestoresOneByOne : Type 0
RestoresOneByOne =
    (c : Cartridge) (words : List ℕ) (needed : List Piece) (acts : List Act) (ending : GivingEnd) →
    Restores c words needed acts ending → GivesOneByOne c words needed acts ending

-- .. and that is what it gives
abbrev pub OneByOneRestores : Type 0
OneByOneRestores =
    (c : Cartridge) (words : List ℕ) (needed : List Piece) (acts : List Act) (ending : GivingEnd) →
    GivesOneByOne c words needed acts ending → Restores c words needed acts ending

-- ---- the bytes with zero bytes in the place of what doesn't read

-- at most these are given, ..
abbrev pub GivenIsFunction : Type 0
GivenIsFunction =
    (c : Cartridge) (words : List ℕ) (needed : List Piece) (xs ys : List ℕ) →
    GivenBytes c words needed xs → GivenBytes c words needed ys → xs ≡ ys

-- .. and some are, over any cartridge
abbrev pub GivenAlways : Type 0
GivenAlways = (c : Cartridge) (words : List ℕ) (needed : List Piece) → (bytes : List ℕ) × GivenBytes c words needed bytes

-- they begin with the text of a restore, and are just that where all was read
abbrev pub GivenBeginsRestored : Type 0
GivenBeginsRestored =
    (c : Cartridge) (words : List ℕ) (needed : List Piece) (acts : List Act) (ending : GivingEnd) (bytes : List ℕ) →
    Restores c words needed acts ending → GivenBytes c words needed bytes →
    (rest : List ℕ) × (bytes ≡ text_of acts ++ rest) × (ending ≡ Restored → rest ≡ [])

-- those of a volume are as many as its length
abbrev pub GivenIsLong : Type 0
GivenIsLong =
    (c : Cartridge) (words : List ℕ) (e : Entry) (bytes : List ℕ) → GivenBytes c words (pieces words e) bytes →
    length bytes ≡ volume_length words e

-- ---- over a cartridge that stands for a plain one

-- this is a volume of the plain one
pub record HasVolume (c : Cartridge) (plain : Plain) (volume : Volume) : Type 0 where
  pub stands : Stands c plain
  pub among : Contains plain.volumes volume

-- its bytes are as many as its length
abbrev pub VolumeIsLong : Type 0
VolumeIsLong =
    (c : Cartridge) (plain : Plain) (volume : Volume) → HasVolume c plain volume →
    length (volume_bytes plain.words volume) ≡ volume_length plain.words volume.entry

-- a restore gives just these bytes where no segment that holds some of them has more than three unreadable sectors
abbrev pub RestoresByteForByte : Type 0
RestoresByteForByte =
    (c : Cartridge) (plain : Plain) (volume : Volume) (acts : List Act) (ending : GivingEnd) → HasVolume c plain volume →
    All (LosesFew c plain.words) (pieces_in plain volume) → Restores c plain.words (pieces_in plain volume) acts ending →
    (ending ≡ Restored) × (text_of acts ≡ volume_bytes plain.words volume)

-- there is one where not each has at most three
abbrev pub FewOrFirstLost : Type 0
FewOrFirstLost =
    (c : Cartridge) (words : List ℕ) (needed : List Piece) → All (LosesFew c words) needed ⊎ FirstLost c words needed

-- a restore ends there with that number, and gives the bytes of the pieces before it: the first ones of the volume
pub record GivesFront (c : Cartridge) (plain : Plain) (volume : Volume) (first : FirstLost c plain.words (pieces_in plain volume))
    (acts : List Act) (ending : GivingEnd) : Type 0 where
  pub ends : ending ≡ LostIn first.piece.segment (unreadable_count (piece_cells c plain.words first.piece))
  pub text : text_of acts ≡ take (bytes_held first.front) (volume_bytes plain.words volume)
  pub count : length (text_of acts) ≡ bytes_held first.front

abbrev pub RestoresFront : Type 0
RestoresFront =
    (c : Cartridge) (plain : Plain) (volume : Volume) (first : FirstLost c plain.words (pieces_in plain volume))
    (acts : List Act) (ending : GivingEnd) → HasVolume c plain volume →
    Restores c plain.words (pieces_in plain volume) acts ending → GivesFront c plain volume first acts ending

-- it never ends with a mismatch
abbrev pub NeverMismatch : Type 0
NeverMismatch =
    (c : Cartridge) (plain : Plain) (volume : Volume) (acts : List Act) (segment : ℕ) → HasVolume c plain volume →
    Restores c plain.words (pieces_in plain volume) acts (MismatchIn segment) → ⊥

-- and it gives something
abbrev pub StandingRestores : Type 0
StandingRestores =
    (c : Cartridge) (plain : Plain) (volume : Volume) → HasVolume c plain volume →
    (acts : List Act) × (ending : GivingEnd) × Restores c plain.words (pieces_in plain volume) acts ending

-- ---- over a cartridge to which the volume was appended

-- after an append the new volume is one of what the cartridge stands for
abbrev pub AppendedIsAmong : Type 0
AppendedIsAmong =
    (c : Cartridge) (plain : Plain) (content : Content) → MayAppendTo c plain content → IsSettledFor c plain.table_area →
    HasVolume (changed_by (append_steps_of plain content) c) (with_content plain content) (new_volume plain content)

-- as long as it is, on the same map, and each of its segments has at most three unreadable sectors, a restore gives just the
-- bytes that were appended
abbrev pub AppendedIsRestored : Type 0
AppendedIsRestored =
    (c : Cartridge) (plain : Plain) (content : Content) → MayAppendTo c plain content →
    (later : Cartridge) (stood : Plain) (acts : List Act) (ending : GivingEnd) → stood.words ≡ plain.words →
    HasVolume later stood (new_volume plain content) →
    All (LosesFew later stood.words) (pieces_in stood (new_volume plain content)) →
    Restores later stood.words (pieces_in stood (new_volume plain content)) acts ending →
    (ending ≡ Restored) × (text_of acts ≡ content.bytes)
