-- What the steps of formatting leave, done or stopped, as facts.
use Rattle.std.specs.Prelude.{ℕ, ◌≡◌, ◌-◌, ◌^◌, ◌++◌, List, length, ◌↔◌, ◌*◌, ◌<◌, ◌⊎◌, Option, Some, IsSomeAnd}
use Rattle.cartridge_laws.specs.FormatMarks.{IsClearedFrom, IsFormattedFrom}
use Rattle.cartridge_laws.specs.Segment.{IsUnreadable}
use Rattle.cartridge_laws.specs.Writes.{named_writes}
use Rattle.cartridge_spec.specs.Formatting.{HasNoHeader, copy_writes, clearing_steps, IsDefect, format_steps, HasNoDefectInFront}
use Rattle.cartridge_spec.specs.Formatting.{StandsCleanly, IsFreshFor, fresh_plain, MarksDefects}
use Rattle.cartridge_spec.specs.HeaderCopies.{copy_cells, IsUnformatted}
use Rattle.cartridge_spec.specs.Shape.{IsArea}
use Rattle.cartridge_spec.specs.TableSegment.{IsTableLive}
use Rattle.cartridge_spec.specs.Says.{whole_mask, Zero}
use Rattle.cartridge_spec.specs.Settling.{changed_by}
use Rattle.cartridge_spec.specs.Volumes.{Plain, Stands}
use Rattle.qic_base.specs.Cartridge.{new_cartridge, Cartridge, view_at}
use Rattle.qic_base.specs.CartridgeTerms.{IsCartridge}
use Rattle.qic_base.specs.Step.{Torn}

-- ---- a new cartridge

abbrev pub NewHasNoHeader : Type 0
NewHasNoHeader = (n : ℕ) → HasNoHeader (new_cartridge n)

-- ---- the writes of a header copy

-- a copy's are those to all places but the first, and then to the first
abbrev pub CopyWritesByPlaces : Type 0
CopyWritesByPlaces =
    (copy : ℕ) (block : List (List ℕ)) → length block ≡ 32 →
    copy_writes copy block ≡ named_writes copy whole_mask (2 ^ 32 - 2) block ++ named_writes copy whole_mask 1 block

-- ---- all steps done

-- the first of them clear the cartridge
abbrev pub ClearingClears : Type 0
ClearingClears =
    (c : Cartridge) → IsCartridge c → IsClearedFrom c (changed_by (clearing_steps c.info.segments_per_track) c)

-- the sectors of one that was cleared are unreadable exactly where there were defects
abbrev pub ClearedShowsDefects : Type 0
ClearedShowsDefects =
    (old new : Cartridge) (segment index : ℕ) → IsClearedFrom old new → segment < 28 * old.info.segments_per_track → index < 32 →
    IsUnreadable (view_at new segment index) ↔ IsDefect (view_at old segment index)

-- it has header copies of zero bytes
abbrev pub ClearedCopiesAreZero : Type 0
ClearedCopiesAreZero =
    (old new : Cartridge) (copy : ℕ) → IsCartridge old → IsClearedFrom old new → copy < 2 → Zero (copy_cells new copy)

-- and so it is unformatted
abbrev pub ClearedIsUnformatted : Type 0
ClearedIsUnformatted = (old new : Cartridge) → IsCartridge old → IsClearedFrom old new → IsUnformatted new

-- all of them format it
abbrev pub FormattingFormats : Type 0
FormattingFormats =
    (c : Cartridge) (area : List (List ℕ)) → IsCartridge c → IsArea area → HasNoDefectInFront c →
    IsFormattedFrom c (changed_by (format_steps c.info.segments_per_track area) c) area

-- one that was formatted stands for the empty cartridge
abbrev pub FormattedStands : Type 0
FormattedStands =
    (old new : Cartridge) (label : List ℕ) (date : ℕ) (words : List ℕ) (area : List (List ℕ)) → IsCartridge old →
    IsFreshFor old label date words area → IsFormattedFrom old new area →
    StandsCleanly new (fresh_plain old label date words area)

-- each sector of its table's segment takes a write
abbrev pub FormattedIsLive : Type 0
FormattedIsLive =
    (old new : Cartridge) (area : List (List ℕ)) → IsCartridge old → HasNoDefectInFront old → IsFormattedFrom old new area → IsTableLive new

-- and the map marks its defects
abbrev pub FormattedIsMarked : Type 0
FormattedIsMarked =
    (old new : Cartridge) (words : List ℕ) (area : List (List ℕ)) → IsCartridge old → MarksDefects old words →
    HasNoDefectInFront old → IsFormattedFrom old new area → MarksDefects new words

-- ---- a stop

-- a stop among the first steps leaves what stood, with clean header copies, or a cartridge with bare ones
abbrev pub StoppedClearing : Type 0
StoppedClearing =
    (c : Cartridge) (plain : Plain) (left : Option Cartridge) → IsCartridge c → StandsCleanly c plain →
    Torn (clearing_steps c.info.segments_per_track) (Some c) left →
    IsSomeAnd left (λ d. StandsCleanly d plain ⊎ HasNoHeader d)

-- and one with bare ones, where they were bare
abbrev pub StoppedClearingNew : Type 0
StoppedClearingNew =
    (c : Cartridge) (left : Option Cartridge) → IsCartridge c → HasNoHeader c →
    Torn (clearing_steps c.info.segments_per_track) (Some c) left →
    IsSomeAnd left HasNoHeader

-- a stop among all steps leaves what stood, with clean header copies, or an unformatted cartridge, or the empty one, whose table's
-- segment takes writes
abbrev pub StoppedFormat : Type 0
StoppedFormat =
    (c : Cartridge) (plain : Plain) (label : List ℕ) (date : ℕ) (words : List ℕ) (area : List (List ℕ))
    (left : Option Cartridge) → IsCartridge c → StandsCleanly c plain → IsFreshFor c label date words area →
    Torn (format_steps c.info.segments_per_track area) (Some c) left →
    IsSomeAnd left (λ d. StandsCleanly d plain ⊎ IsUnformatted d ⊎ (Stands d (fresh_plain c label date words area) × IsTableLive d))

-- and an unformatted or the empty one, where no header stood
abbrev pub StoppedFormatNew : Type 0
StoppedFormatNew =
    (c : Cartridge) (label : List ℕ) (date : ℕ) (words : List ℕ) (area : List (List ℕ)) (left : Option Cartridge) →
    IsCartridge c → HasNoHeader c → IsFreshFor c label date words area →
    Torn (format_steps c.info.segments_per_track area) (Some c) left →
    IsSomeAnd left (λ d. IsUnformatted d ⊎ (Stands d (fresh_plain c label date words area) × IsTableLive d))
