-- What a copy onto another cartridge comes to, and what a stop in it leaves, as facts (this project's own).
use Rattle.std.specs.Prelude.{◌≡◌, ℕ, ◌≤◌, List, length, Option, Some, IfSome, IsSomeAnd}
use Rattle.cartridge_spec.specs.TableSegment.{IsTableLive}
use Rattle.cartridge_spec.specs.Settling.{changed_by}
use Rattle.cartridge_spec.specs.Volumes.{Plain, Stands}
use Rattle.command_laws.specs.ActStops.{IsLeftBy}
use Rattle.command_spec.specs.Copied.{BeginsLike, CanBeCopied, StandAlike, StandsPrinted, StandsUpTo, copied}
use Rattle.command_spec.specs.CopyGiven.{GivenBy, KeepsOrGains, KeepsOrPrints, StandsWithAll}
use Rattle.command_spec.specs.Copying.{CopyOutcome, CopyYields}
use Rattle.qic_base.specs.Acts.{steps_of, text_of}
use Rattle.qic_base.specs.Cartridge.{Cartridge}
use Rattle.qic_base.specs.CartridgeTerms.{IsCartridge}
use Rattle.qic_base.specs.Step.{Torn}
use Rattle.command_spec.specs.declared.copy_status.CopyStatus.TheVariants as status

-- ---- any cartridges

-- a copy has one status, prints one text, and does one thing to the source
pub record CopiesAlike (one other : CopyOutcome) : Type 0 where
  pub status : one.status ≡ other.status
  pub text : text_of one.acts ≡ text_of other.acts
  pub settling : one.settling ≡ other.settling

abbrev pub CopiesOneThing : Type 0
CopiesOneThing =
    (from to : Option Cartridge) (one other : CopyOutcome) → CopyYields from to one → CopyYields from to other → CopiesAlike one other

-- and it comes to something, whatever the sectors of the cartridges hold
abbrev pub CopiesSomething : Type 0
CopiesSomething =
    (from to : Option Cartridge) → IfSome from IsCartridge → IfSome to IsCartridge → (outcome : CopyOutcome) × CopyYields from to outcome

-- ---- cartridges that stand for plain ones

-- whole cartridges that do, alike in the volumes that both have
pub record AreCopied (c : Cartridge) (one : Plain) (d : Cartridge) (other : Plain) : Type 0 where
  pub source : IsCartridge c
  pub target : IsCartridge d
  pub stands : Stands c one
  pub standing : Stands d other
  pub like : BeginsLike one other

-- a stop in what is done to the source leaves what it stands for
abbrev pub StoppedSourceStands : Type 0
StoppedSourceStands =
    (c : Cartridge) (one : Plain) (to : Option Cartridge) (outcome : CopyOutcome) (left : Option Cartridge) →
    Stands c one → CopyYields (Some c) to outcome → Torn outcome.settling (Some c) left → IsSomeAnd left (λ d. Stands d one)

-- a stop in what is done to the target leaves it with some of the missing volumes, in their order
abbrev pub StoppedCopyStands : Type 0
StoppedCopyStands =
    (c : Cartridge) (one : Plain) (d : Cartridge) (other : Plain) (outcome : CopyOutcome) (left : Option Cartridge) → IsCartridge d →
    StandAlike c one d other → CopyYields (Some c) (Some d) outcome → Torn (steps_of outcome.acts) (Some d) left → StandsUpTo one other left

-- .. among them all those whose lines were written whole
abbrev pub PrintedCopiesStand : Type 0
PrintedCopiesStand =
    (c : Cartridge) (one : Plain) (d : Cartridge) (other : Plain) (outcome : CopyOutcome) (text : List ℕ) (left : Option Cartridge) →
    IsCartridge d → StandAlike c one d other → CopyYields (Some c) (Some d) outcome → IsLeftBy d outcome.acts text left →
    StandsPrinted one other (length text) left

-- Whatever the source is, a stop in what is done to the target leaves it with some of the missing volumes, in their order, each as a
-- restore of it gives it, ..
abbrev pub StoppedCopyGives : Type 0
StoppedCopyGives =
    (from : Option Cartridge) (d : Cartridge) (other : Plain) (outcome : CopyOutcome) (left : Option Cartridge) → IfSome from IsCartridge →
    IsCartridge d → Stands d other → IsTableLive d → CopyYields from (Some d) outcome → Torn (steps_of outcome.acts) (Some d) left →
    KeepsOrGains from other left

-- .. with those whose lines were written whole, ..
abbrev pub PrintedCopyGives : Type 0
PrintedCopyGives =
    (from : Option Cartridge) (d : Cartridge) (other : Plain) (outcome : CopyOutcome) (text : List ℕ) (left : Option Cartridge) →
    IfSome from IsCartridge → IsCartridge d → Stands d other → IsTableLive d → CopyYields from (Some d) outcome →
    IsLeftBy d outcome.acts text left → KeepsOrPrints from other text left

-- .. and with all of them at Done, also where sectors of the target's volume table take no write
abbrev pub DoneCopyGives : Type 0
DoneCopyGives =
    (from : Option Cartridge) (d : Cartridge) (other : Plain) (outcome : CopyOutcome) → IfSome from IsCartridge → IsCartridge d →
    Stands d other → CopyYields from (Some d) outcome → outcome.status ≡ status.Done →
    GivenBy from other (λ side. StandsWithAll side other (Some (changed_by (steps_of outcome.acts) d)))

-- a target whose volume table takes each write goes on to do so
abbrev pub CopiedTableLives : Type 0
CopiedTableLives =
    (from : Option Cartridge) (d : Cartridge) (outcome : CopyOutcome) (left : Option Cartridge) → IsTableLive d →
    CopyYields from (Some d) outcome → Torn (steps_of outcome.acts) (Some d) left → IsSomeAnd left IsTableLive

-- all of them stand at Done, also where sectors of the target's volume table take no write
abbrev pub DoneCopyStands : Type 0
DoneCopyStands =
    (c : Cartridge) (one : Plain) (d : Cartridge) (other : Plain) (outcome : CopyOutcome) → AreCopied c one d other →
    CopyYields (Some c) (Some d) outcome → outcome.status ≡ status.Done →
    Stands (changed_by (steps_of outcome.acts) d) (copied one other (length one.volumes))

-- where all is there that it needs, it is Done
abbrev pub CopyWithRoomIsDone : Type 0
CopyWithRoomIsDone =
    (c : Cartridge) (one : Plain) (d : Cartridge) (other : Plain) (outcome : CopyOutcome) → IsCartridge d →
    CanBeCopied c one d other → CopyYields (Some c) (Some d) outcome → outcome.status ≡ status.Done

-- ---- a copy that goes on

-- behind some of the missing volumes the rest of them makes what all of them would have made
abbrev pub CopyGoesOn : Type 0
CopyGoesOn =
    (one other : Plain) (upto n : ℕ) → length other.volumes ≤ upto → upto ≤ n → upto ≤ length one.volumes →
    copied one (copied one other upto) n ≡ copied one other n
