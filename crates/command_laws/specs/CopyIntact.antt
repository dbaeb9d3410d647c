-- What becomes of the target of a copy where then one sector more of its table's segment is lost, and that it can be read, as facts
-- (this project's own).
use Rattle.std.specs.Prelude.{◌≡◌, ◌⊎◌, ℕ, List, [], length, Option, Some, IfSome, IsSomeAnd}
use Rattle.cartridge_spec.specs.Settling.{changed_by}
use Rattle.cartridge_spec.specs.TableSegment.{CanBeRead, IsTableLive}
use Rattle.cartridge_spec.specs.Volumes.{Plain, Stands}
use Rattle.command_laws.specs.ActStops.{IsLeftBy}
use Rattle.command_spec.specs.Command.{ReadsAs}
use Rattle.command_spec.specs.Copied.{CanBeCopied, StandAlike, copied}
use Rattle.command_spec.specs.CopyGiven.{GivenBy}
use Rattle.command_spec.specs.CopyOneLoss.{ComesBackWithAll, SettlesOrComesBack}
use Rattle.command_spec.specs.CopyPromises.{CopyPromises, Decks, FromLeaves, NoDeckRose, ToLeaves}
use Rattle.command_spec.specs.Copying.{CopyOutcome, CopyYields}
use Rattle.command_spec.specs.Headline.{ToldNow}
use Rattle.command_spec.specs.declared.copy_status.CopyStatus.{CopyStatus}
use Rattle.qic_base.specs.Acts.{steps_of}
use Rattle.qic_base.specs.Cartridge.{Cartridge}
use Rattle.qic_base.specs.CartridgeTerms.{IsCartridge}
use Rattle.qic_base.specs.Step.{Torn}
use Rattle.command_spec.specs.declared.copy_status.CopyStatus.TheVariants as status
use Rattle.qic_base.specs.Sink as sinks
use Rattle.qic_base.specs.Tape as tapes

-- ---- one further loss

-- a stop in a copy leaves a target that comes back, ..
abbrev pub StoppedCopyComesBack : Type 0
StoppedCopyComesBack =
    (from : Option Cartridge) (d : Cartridge) (other : Plain) (outcome : CopyOutcome) (left : Option Cartridge) → IfSome from IsCartridge →
    IsCartridge d → Stands d other → IsTableLive d → CopyYields from (Some d) outcome → Torn (steps_of outcome.acts) (Some d) left →
    SettlesOrComesBack from d other [] left

-- .. with the volumes whose lines were written whole, ..
abbrev pub PrintedCopyComesBack : Type 0
PrintedCopyComesBack =
    (from : Option Cartridge) (d : Cartridge) (other : Plain) (outcome : CopyOutcome) (text : List ℕ) (left : Option Cartridge) →
    IfSome from IsCartridge → IsCartridge d → Stands d other → IsTableLive d → CopyYields from (Some d) outcome →
    IsLeftBy d outcome.acts text left → SettlesOrComesBack from d other text left

-- .. and with all of them at Done
abbrev pub DoneCopyComesBack : Type 0
DoneCopyComesBack =
    (from : Option Cartridge) (d : Cartridge) (other : Plain) (outcome : CopyOutcome) → IfSome from IsCartridge → IsCartridge d →
    Stands d other → IsTableLive d → CopyYields from (Some d) outcome → outcome.status ≡ status.Done →
    GivenBy from other (λ side. ComesBackWithAll side other (Some (changed_by (steps_of outcome.acts) d)))

-- ---- a copy that is run again

-- behind a stop in a copy the volume table of the target can be read, where it could be before it
abbrev pub StoppedCopyCanBeRead : Type 0
StoppedCopyCanBeRead =
    (from : Option Cartridge) (d : Cartridge) (other : Plain) (left : Option Cartridge) → IfSome from IsCartridge → IsCartridge d →
    ReadsAs d other → IsTableLive d → ToLeaves from (Some d) left → IsSomeAnd left CanBeRead

-- A copy of the same source, over what the first one left of both cartridges, with any objects: at Done the target has all of the
-- volumes, as the first one would have left them.
abbrev pub CopyRunAgain : {A B K : Type 0} → tapes.Meaning A → tapes.Meaning B → sinks.Meaning K → Type 0
CopyRunAgain {A} {B} {K} a b k =
    (c : Cartridge) (one : Plain) (d : Cartridge) (other : Plain) (from_left to_left : Option Cartridge) → IsCartridge c → IsCartridge d →
    StandAlike c one d other → FromLeaves (Some c) from_left → ToLeaves (Some c) (Some d) to_left →
    (words : List (List ℕ)) (old new : Decks A B K) (answer : CopyStatus) → CopyPromises a b k words old new answer →
    a.told old.from ≡ Some from_left → b.told old.to ≡ Some to_left → answer ≡ status.Done →
    ToldNow b new.to (λ left. IsSomeAnd left (λ e. Stands e (copied one other (length one.volumes))))

-- .. and where all was there that the first one needed, and no count rises, it is Done, or there was no memory
abbrev pub CopyRunAgainIsDone : {A B K : Type 0} → tapes.Meaning A → tapes.Meaning B → sinks.Meaning K → Type 0
CopyRunAgainIsDone {A} {B} {K} a b k =
    (c : Cartridge) (one : Plain) (d : Cartridge) (other : Plain) (from_left to_left : Option Cartridge) → IsCartridge c → IsCartridge d →
    CanBeCopied c one d other → IsTableLive d → FromLeaves (Some c) from_left → ToLeaves (Some c) (Some d) to_left →
    (old new : Decks A B K) (answer : CopyStatus) → CopyPromises a b k [] old new answer → a.told old.from ≡ Some from_left →
    b.told old.to ≡ Some to_left → NoDeckRose a b k old new → (answer ≡ status.NoMemory) ⊎ (answer ≡ status.Done)
