-- A refusal as the definition of the volume table sees it (this project's profile).
use Rattle.cartridge_laws.specs.Slots as slots
use Rattle.volume_table.specs.declared.fault.TableFault.{TableFault}
use Rattle.volume_table.specs.declared.fault.TableFault.TheVariants.{ForeignSlot, BadRange}

-- the slot at fault, and how
abbrev pub fault_of : TableFault → slots.TableFault
fault_of (ForeignSlot slot) = slots.ForeignSlot slot
fault_of (BadRange slot) = slots.BadRange slot
