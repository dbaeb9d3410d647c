-- What a cartridge says, learnt by reads, or why its mounting is refused (this project's own).
use Rattle.std.specs.Prelude.{◌≡◌, ℕ, List, take, Result, Ok, Err}
use Rattle.cartridge_laws.specs.HeaderTerms.{fault_as}
use Rattle.cartridge_spec.specs.TableSegment.{table_cells}
use Rattle.cartridge_spec.specs.Mounting.{Mounts}
use Rattle.cartridge_spec.specs.Table.{Entry}
use Rattle.header_segments.specs.Header.{header_of}
use Rattle.qic_base.specs.Cartridge.{Cartridge}
use Rattle.table_solve.specs.Reading.{IsReadBut}
use Rattle.qic_base.specs.declared.store_fault.StoreFault.{StoreFault}
use Rattle.qic_base.specs.declared.store_fault.StoreFault.TheVariants.{NotFormatted, Foreign, Lost, TableMismatch}
use Rattle.cartridge_front.specs.declared.learning.Learnt.{Learnt}
use Rattle.cartridge_spec.specs.Mounting as mounting

-- ---- refusals

-- the mounting of the cartridge is refused so
abbrev pub MountRefuses : Cartridge → StoreFault → Type 0
MountRefuses c NotFormatted = Mounts c mounting.NotFormatted
MountRefuses c (Foreign field value) = Mounts c (mounting.Foreign (fault_as field value))
MountRefuses c (Lost segment lost) = (segment ≡ 2) × Mounts c (mounting.TableLost lost)
MountRefuses c TableMismatch = Mounts c mounting.TableMismatch
MountRefuses c fault = ⊥

-- ---- what was learnt

-- the cartridge mounts with this header, these words and these entries, and the sectors of its segment 2 stand as the tape
-- holds them, but for these
pub record HasLearnt (c : Cartridge) (words : List ℕ) (sectors : List (List ℕ)) (entries : List Entry) (learnt : Learnt) : Type 0 where
  pub mounts : Mounts c (mounting.Mounted (header_of learnt.header) words (take 29 sectors) entries)
  pub known : IsReadBut (table_cells c) learnt.unread sectors

abbrev pub Learns : Cartridge → (words : List ℕ) (sectors : List (List ℕ)) (entries : List Entry) → Result Learnt StoreFault → Type 0
Learns c words sectors entries (Ok learnt) = HasLearnt c words sectors entries learnt
Learns c words sectors entries (Err fault) = MountRefuses c fault
