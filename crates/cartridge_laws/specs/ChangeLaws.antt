-- What a change of one sector, or of a mark, leaves of what a cartridge stands for, and of what it is mounted as, as facts;
-- and what all changes leave of the table's segment.
use Rattle.std.specs.Prelude.{ℕ, ◌<◌, ◌≤◌, List, Bool, Option, Some, IsSomeAnd}
use Rattle.cartridge_laws.specs.ChangeSteps.{HasNoRenew}
use Rattle.cartridge_laws.specs.ChangeWear.{FewLost}
use Rattle.cartridge_spec.specs.Formatting.{StandsCleanly, HasNoHeader}
use Rattle.cartridge_spec.specs.Header.{Header}
use Rattle.cartridge_spec.specs.HeaderCopies.{HasHeader}
use Rattle.cartridge_spec.specs.Mounting.{Mounted, Mounts}
use Rattle.cartridge_spec.specs.TableSegment.{IsTableLive}
use Rattle.cartridge_spec.specs.Table.{Entry}
use Rattle.cartridge_spec.specs.Volumes.{Plain, Stands, worn, WearSpares}
use Rattle.qic_base.specs.Cartridge.{Cartridge}
use Rattle.qic_base.specs.Step.{Step, Spoil, changed, SetProtected, SetReferenced, Torn}

-- ---- a worn sector

-- with one that spares header and table a cartridge stands for what it stood for
abbrev pub WornStands : Type 0
WornStands =
    (c : Cartridge) (plain : Plain) (segment sector : ℕ) → sector < 32 → Stands c plain → WearSpares c plain segment sector →
    Stands (worn segment sector c) plain

-- where the header copy in force has lost few sectors, the header in force is the same
abbrev pub FewLostIsInForce : Type 0
FewLostIsInForce =
    (c : Cartridge) (plain : Plain) (segment sector : ℕ) → Stands c plain → FewLost c (worn segment sector c) plain.header_area →
    HasHeader (worn segment sector c) plain.header_area

-- a cartridge with a sector worn behind header and table is mounted as before
abbrev pub WornMounts : Type 0
WornMounts =
    (c : Cartridge) (segment sector : ℕ) (header : Header) (words : List ℕ) (table : List (List ℕ)) (entries : List Entry) →
    sector < 32 → 3 ≤ segment → Mounts c (Mounted header words table entries) →
    Mounts (worn segment sector c) (Mounted header words table entries)

-- ---- a further defect

abbrev pub SpoiledStands : Type 0
SpoiledStands =
    (c : Cartridge) (plain : Plain) (segment sector : ℕ) → Stands c plain → Stands (changed (Spoil segment sector) c) plain

abbrev pub SpoiledMounts : Type 0
SpoiledMounts =
    (c : Cartridge) (segment sector : ℕ) (header : Header) (words : List ℕ) (table : List (List ℕ)) (entries : List Entry) →
    Mounts c (Mounted header words table entries) → Mounts (changed (Spoil segment sector) c) (Mounted header words table entries)

-- ---- a mark

abbrev pub ProtectedStands : Type 0
ProtectedStands = (c : Cartridge) (plain : Plain) (on : Bool) → Stands c plain → Stands (changed (SetProtected on) c) plain

abbrev pub ProtectedMounts : Type 0
ProtectedMounts =
    (c : Cartridge) (on : Bool) (header : Header) (words : List ℕ) (table : List (List ℕ)) (entries : List Entry) →
    Mounts c (Mounted header words table entries) → Mounts (changed (SetProtected on) c) (Mounted header words table entries)

abbrev pub ReferencedStands : Type 0
ReferencedStands = (c : Cartridge) (plain : Plain) → Stands c plain → Stands (changed SetReferenced c) plain

abbrev pub ReferencedMounts : Type 0
ReferencedMounts =
    (c : Cartridge) (header : Header) (words : List ℕ) (table : List (List ℕ)) (entries : List Entry) →
    Mounts c (Mounted header words table entries) → Mounts (changed SetReferenced c) (Mounted header words table entries)

-- ---- header copies

-- clean ones stay clean, so that formatting may begin over them
abbrev pub WornIsClean : Type 0
WornIsClean =
    (c : Cartridge) (plain : Plain) (segment sector : ℕ) → sector < 32 → StandsCleanly c plain → WearSpares c plain segment sector →
    StandsCleanly (worn segment sector c) plain

abbrev pub SpoiledIsClean : Type 0
SpoiledIsClean =
    (c : Cartridge) (plain : Plain) (segment sector : ℕ) → StandsCleanly c plain → StandsCleanly (changed (Spoil segment sector) c) plain

abbrev pub ProtectedIsClean : Type 0
ProtectedIsClean = (c : Cartridge) (plain : Plain) (on : Bool) → StandsCleanly c plain → StandsCleanly (changed (SetProtected on) c) plain

abbrev pub ReferencedIsClean : Type 0
ReferencedIsClean = (c : Cartridge) (plain : Plain) → StandsCleanly c plain → StandsCleanly (changed SetReferenced c) plain

-- and bare ones stay bare
abbrev pub WornIsBare : Type 0
WornIsBare = (c : Cartridge) (segment sector : ℕ) → HasNoHeader c → HasNoHeader (worn segment sector c)

abbrev pub SpoiledIsBare : Type 0
SpoiledIsBare = (c : Cartridge) (segment sector : ℕ) → HasNoHeader c → HasNoHeader (changed (Spoil segment sector) c)

abbrev pub ProtectedIsBare : Type 0
ProtectedIsBare = (c : Cartridge) (on : Bool) → HasNoHeader c → HasNoHeader (changed (SetProtected on) c)

abbrev pub ReferencedIsBare : Type 0
ReferencedIsBare = (c : Cartridge) → HasNoHeader c → HasNoHeader (changed SetReferenced c)

-- ---- the table's segment

-- each of its sectors goes on to take writes, whatever the steps but for a new cartridge, and wherever they are stopped
abbrev pub StepsKeepLive : Type 0
StepsKeepLive =
    (steps : List Step) (c : Cartridge) (left : Option Cartridge) → HasNoRenew steps → IsTableLive c → Torn steps (Some c) left →
    IsSomeAnd left IsTableLive
