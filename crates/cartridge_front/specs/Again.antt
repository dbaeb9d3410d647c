-- The volume table read again, settled again, and written with one entry more, by the answers of the calls (this project's
-- own).
use Rattle.std.specs.Prelude.{◌≡◌, ◌⊎◌, ℕ, ◌++◌, List, [], ◌∷◌, length, take, Result, Ok, Err}
use Rattle.cartridge_laws.specs.TableCells.{HasList}
use Rattle.cartridge_laws.specs.Slots.{slot_sector}
use Rattle.qic_base.specs.Cartridge.{Cartridge}
use Rattle.qic_base.specs.Step.{Step}
use Rattle.qic_base.specs.Tape.{Meaning, Done, Broke}
use Rattle.qic_base.specs.TapeCalls.{Tells}
use Rattle.cartridge_spec.specs.TableSegment.{table_cells, TableIs}
use Rattle.cartridge_spec.specs.Says.{TableSays, LostSectors, ByCode}
use Rattle.cartridge_spec.specs.Table.{table_with, Entry, Shows}
use Rattle.cartridge_spec.specs.Appending.{table_writes}
use Rattle.cartridge_spec.specs.Settling.{settling_steps}
use Rattle.command_spec.specs.Numbers.{AreTooMany}
use Rattle.table_solve.specs.Reading.{IsReadBut}
use Rattle.qic_base.specs.declared.store_fault.StoreFault.{StoreFault}
use Rattle.qic_base.specs.declared.store_fault.StoreFault.TheVariants.{Lost, TableMismatch, Tape}
use Rattle.table_solve.specs.declared.unread.Unread.{Unread}

-- ---- read again

-- the first 29 sectors are the table's data; all but these sectors of its segment stand as the tape holds them
pub record HasTable (c : Cartridge) (sectors : List (List ℕ)) (unread : Unread) : Type 0 where
  pub table : TableIs c (take 29 sectors)
  pub known : IsReadBut (table_cells c) unread sectors

-- What the table's segment is, where a list is known: its data; or that more than three sectors are lost; no code block that
-- agrees, or another list, only where the segment doesn't show the list.
abbrev pub FindsList : Cartridge → (sectors : List (List ℕ)) → (entries : List Entry) → Result Unread StoreFault → Type 0
FindsList c sectors entries (Ok unread) = HasTable c sectors unread
FindsList c sectors entries (Err (Lost segment lost)) = TableSays (table_cells c) (ByCode (LostSectors lost))
FindsList c sectors entries (Err TableMismatch) = HasList c entries → ⊥
FindsList c sectors entries (Err fault) = ⊥

-- the refusals of a reading, and its fault; lost sectors are those of segment 2, and too many
abbrev pub IsOfReading : {A : Type 0} → Result A StoreFault → Type 0
IsOfReading (Ok answer) = Unit {0}
IsOfReading (Err (Lost segment lost)) = (segment ≡ 2) × AreTooMany lost
IsOfReading (Err TableMismatch) = Unit {0}
IsOfReading (Err Tape) = Unit {0}
IsOfReading (Err fault) = ⊥

-- ---- settled again

-- the table's data show the list, and these steps settle them
pub record IsSettledAgain {T : Type 0} (m : Meaning T) (old new : T) (entries : List Entry) (area : List (List ℕ)) : Type 0 where
  pub shown : Shows area entries
  pub steps : List Step
  pub done : Done m old new steps
  pub told : Tells m old (λ c. TableIs c area × (steps ≡ settling_steps area c))

-- it was refused before anything was written
pub record IsRefused {T : Type 0} (m : Meaning T) (old new : T) (Says : Cartridge → Type 0) : Type 0 where
  pub done : Done m old new []
  pub told : Tells m old Says

-- a fault of the tape broke a front of the steps off that these data call for
pub record IsBrokenOff {T : Type 0} (m : Meaning T) (old new : T) (wanted : (area : List (List ℕ)) → Cartridge → List Step) : Type 0 where
  pub steps : List Step
  pub broke : Broke m old new steps
  pub told : Tells m old (λ c. (area : List (List ℕ)) → TableIs c area → (rest : List Step) × (steps ++ rest ≡ wanted area c))

-- A fault of the tape came before any write, or the table's segment says some data.
abbrev pub BrokeUnread : {T : Type 0} (m : Meaning T) (old new : T) → Type 0
BrokeUnread m old new = Broke m old new [] ⊎ Tells m old (λ c. (area : List (List ℕ)) × TableIs c area)

abbrev pub FaultUnread : {T A : Type 0} (m : Meaning T) (old new : T) → Result A StoreFault → Type 0
FaultUnread m old new (Err Tape) = BrokeUnread m old new
FaultUnread m old new answer = Unit {0}

-- what was done, by the answer, where the data are in the first 29 sectors
abbrev pub SettlesAgain : {T A : Type 0} (m : Meaning T) (old new : T) (entries : List Entry) (sectors : List (List ℕ)) →
    Result A StoreFault → Type 0
SettlesAgain m old new entries sectors (Ok answer) = IsSettledAgain m old new entries (take 29 sectors)
SettlesAgain m old new entries sectors (Err (Lost segment lost)) =
    IsRefused m old new (λ c. TableSays (table_cells c) (ByCode (LostSectors lost)))
SettlesAgain m old new entries sectors (Err TableMismatch) = IsRefused m old new (λ c. HasList c entries → ⊥)
SettlesAgain m old new entries sectors (Err Tape) = IsBrokenOff m old new settling_steps
SettlesAgain m old new entries sectors (Err fault) = ⊥

-- ---- one entry more

-- the writes that put an entry into the slot behind a list's last one
abbrev pub entry_writes : (entries : List Entry) (entry : Entry) → List (List ℕ) → List Step
entry_writes entries entry area = table_writes (slot_sector (length entries)) (table_with area (length entries) entry)

-- the table's data showed the list, and were written with the entry
pub record IsAdded {T : Type 0} (m : Meaning T) (old new : T) (entries : List Entry) (entry : Entry) : Type 0 where
  pub area : List (List ℕ)
  pub shown : Shows area entries
  pub done : Done m old new (entry_writes entries entry area)
  pub told : Tells m old (λ c. TableIs c area)
  -- 29 sectors, which show the list with the entry
  pub size : length area ≡ 29
  pub with_entry : Shows (table_with area (length entries) entry) (entries ++ entry ∷ [])

abbrev pub AddsEntry : {T A : Type 0} (m : Meaning T) (old new : T) (entries : List Entry) (entry : Entry) → Result A StoreFault → Type 0
AddsEntry m old new entries entry (Ok answer) = IsAdded m old new entries entry
AddsEntry m old new entries entry (Err (Lost segment lost)) =
    IsRefused m old new (λ c. TableSays (table_cells c) (ByCode (LostSectors lost)))
AddsEntry m old new entries entry (Err TableMismatch) = IsRefused m old new (λ c. HasList c entries → ⊥)
AddsEntry m old new entries entry (Err Tape) = IsBrokenOff m old new (λ area c. entry_writes entries entry area)
AddsEntry m old new entries entry (Err fault) = ⊥
