-- What the mounting of a cartridge gives, and what the settling of its volume table leaves, as facts.
use Rattle.std.specs.Prelude.{◌≡◌, ℕ, List, ◌⊎◌, Some, Option, IsSomeAnd, false, ◌<◌, []}
use Rattle.cartridge_laws.specs.MountBlocks.{KeepsTable}
use Rattle.cartridge_spec.specs.Formatting.{StandsCleanly}
use Rattle.cartridge_spec.specs.Header.{Header}
use Rattle.cartridge_spec.specs.Shape.{IsArea, sector_at}
use Rattle.cartridge_spec.specs.TableSegment.{TableIs, table_cells, CanBeRead, ReadsPlainly, IsTableLive}
use Rattle.cartridge_spec.specs.Mounting.{Mounting, Mounts, mounted_as, TableLost, settled, Mounted}
use Rattle.cartridge_spec.specs.Says.{Written, with_parity}
use Rattle.cartridge_spec.specs.Settling.{changed_by, settling_steps}
use Rattle.cartridge_spec.specs.Table.{Entry}
use Rattle.cartridge_spec.specs.Volumes.{Plain, Stands}
use Rattle.qic_base.specs.Cartridge.{Cartridge, view_at}
use Rattle.qic_base.specs.CartridgeTerms.{IsCartridge}
use Rattle.qic_base.specs.Step.{effects, Torn}
use Rattle.qic_base.specs.declared.tape.SectorView.TheVariants.{Holds}

-- ---- mounting

-- the mounting of a cartridge gives at most one thing
abbrev pub MountsIsFunction : Type 0
MountsIsFunction = (c : Cartridge) (a b : Mounting) → Mounts c a → Mounts c b → a ≡ b

-- and it gives something
abbrev pub MountsAlways : Type 0
MountsAlways = (c : Cartridge) → IsCartridge c → (m : Mounting) × Mounts c m

-- the data of a table are 29 sectors
abbrev pub TableIsArea : Type 0
TableIsArea = (c : Cartridge) (area : List (List ℕ)) → IsCartridge c → TableIs c area → IsArea area

-- it is mounted so where its table can be read
abbrev pub StandingMounts : Type 0
StandingMounts =
    (c : Cartridge) (plain : Plain) → Stands c plain → CanBeRead c → Mounts c (mounted_as plain)

-- and its mounting gives nothing else, but that its table is lost
abbrev pub StandingMountsOnlySo : Type 0
StandingMountsOnlySo =
    (c : Cartridge) (plain : Plain) (m : Mounting) → Stands c plain → Mounts c m →
    (m ≡ mounted_as plain) ⊎ ((n : ℕ) × (m ≡ TableLost n))

-- ---- settling

-- all steps settle the table whose data are these
abbrev pub SettlingSettles : Type 0
SettlingSettles =
    (c : Cartridge) (area : List (List ℕ)) → TableIs c area → changed_by (settling_steps area c) c ≡ settled area c

-- and so do they on what a drive holds
abbrev pub SettlingEffects : Type 0
SettlingEffects =
    (c : Cartridge) (area : List (List ℕ)) → TableIs c area → effects (settling_steps area c) (Some c) ≡ Some (settled area c)

-- ---- a stop among the steps

-- a stop before the first, inside one or behind any of them leaves such a one, ..
abbrev pub StoppedSettling : Type 0
StoppedSettling =
    (c : Cartridge) (area : List (List ℕ)) (left : Option Cartridge) → TableIs c area →
    Torn (settling_steps area c) (Some c) left → IsSomeAnd left (KeepsTable area c)

-- .. which is settled as if there had been no stop
abbrev pub StoppedSettlesAlike : Type 0
StoppedSettlesAlike =
    (c : Cartridge) (area : List (List ℕ)) (left : Option Cartridge) → TableIs c area →
    Torn (settling_steps area c) (Some c) left → IsSomeAnd left (λ d. settled area d ≡ settled area c)

-- one that was mounted so is mounted so again, ..
abbrev pub StoppedMounts : Type 0
StoppedMounts =
    (c : Cartridge) (header : Header) (words : List ℕ) (area : List (List ℕ)) (entries : List Entry) (left : Option Cartridge) →
    Mounts c (Mounted header words area entries) → Torn (settling_steps area c) (Some c) left →
    IsSomeAnd left (λ d. Mounts d (Mounted header words area entries))

-- .. and one that stood for a plain cartridge stands for it
abbrev pub StoppedStands : Type 0
StoppedStands =
    (c : Cartridge) (plain : Plain) (area : List (List ℕ)) (left : Option Cartridge) → Stands c plain → TableIs c area →
    Torn (settling_steps area c) (Some c) left → IsSomeAnd left (λ d. Stands d plain)

-- what is left is a cartridge
abbrev pub StoppedIsCartridge : Type 0
StoppedIsCartridge =
    (c : Cartridge) (area : List (List ℕ)) (left : Option Cartridge) → IsCartridge c → TableIs c area →
    Torn (settling_steps area c) (Some c) left → IsSomeAnd left IsCartridge

-- ---- a settled cartridge

abbrev pub SettledIsCartridge : Type 0
SettledIsCartridge = (c : Cartridge) (area : List (List ℕ)) → IsCartridge c → TableIs c area → IsCartridge (settled area c)

-- it differs in no more than that
abbrev pub SettledKeepsTable : Type 0
SettledKeepsTable = (c : Cartridge) (area : List (List ℕ)) → TableIs c area → KeepsTable area c (settled area c)

abbrev pub SettledMounts : Type 0
SettledMounts =
    (c : Cartridge) (header : Header) (words : List ℕ) (area : List (List ℕ)) (entries : List Entry) →
    Mounts c (Mounted header words area entries) → Mounts (settled area c) (Mounted header words area entries)

abbrev pub SettledStands : Type 0
SettledStands =
    (c : Cartridge) (plain : Plain) (area : List (List ℕ)) → Stands c plain → TableIs c area → Stands (settled area c) plain

-- where it is not protected, each sector of the table's segment that can be read holds its part of the data or their parity
abbrev pub SettledIsWritten : Type 0
SettledIsWritten =
    (c : Cartridge) (area : List (List ℕ)) → TableIs c area → c.info.protected ≡ false → Written (table_cells (settled area c)) area

-- so they are read from then on
abbrev pub SettledReadsPlainly : Type 0
SettledReadsPlainly =
    (c : Cartridge) (area : List (List ℕ)) → TableIs c area → c.info.protected ≡ false → ReadsPlainly (settled area c) area

-- settling it again leaves it as it is
abbrev pub SettledTwice : Type 0
SettledTwice = (c : Cartridge) (area : List (List ℕ)) → TableIs c area → settled area (settled area c) ≡ settled area c

-- then each of them holds its part, ..
abbrev pub SettledIsWhole : Type 0
SettledIsWhole =
    (c : Cartridge) (area : List (List ℕ)) (i : ℕ) → TableIs c area → c.info.protected ≡ false → IsTableLive c → i < 32 →
    view_at (settled area c) 2 i ≡ Holds (sector_at (with_parity area) i)

-- .. and no step settles it again
abbrev pub SettledNeedsNoSteps : Type 0
SettledNeedsNoSteps =
    (c : Cartridge) (area : List (List ℕ)) → TableIs c area → IsTableLive c → settling_steps area (settled area c) ≡ []

-- ---- header copies

-- those that formatting may begin over stay so, settled or stopped
abbrev pub SettledIsClean : Type 0
SettledIsClean =
    (c : Cartridge) (plain : Plain) (area : List (List ℕ)) → StandsCleanly c plain → TableIs c area → StandsCleanly (settled area c) plain

abbrev pub StoppedIsClean : Type 0
StoppedIsClean =
    (c : Cartridge) (plain : Plain) (area : List (List ℕ)) (left : Option Cartridge) → StandsCleanly c plain → TableIs c area →
    Torn (settling_steps area c) (Some c) left → IsSomeAnd left (λ d. StandsCleanly d plain)
