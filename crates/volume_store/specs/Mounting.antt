-- How a cartridge is mounted, what a store shows of it, and when a store fits a unit (this project's own).
use Rattle.std.specs.Prelude.{◌≡◌, ℕ, List, Result, Ok, Err, ◌⊎◌, [], ◌-◌, ◌*◌, true, false, length, IfSome, IsSomeAnd}
use Rattle.cartridge_laws.specs.Table.{IsSoundList}
use Rattle.cartridge_laws.specs.TableCells.{HasList}
use Rattle.cartridge_spec.specs.Header.{Header}
use Rattle.cartridge_spec.specs.Mounting.{Mounts}
use Rattle.cartridge_spec.specs.Settling.{settling_steps}
use Rattle.cartridge_spec.specs.Table.{Entry}
use Rattle.drive_spec.specs.Terms.{is_referenced}
use Rattle.drive_states.specs.Unit.{UnitView}
use Rattle.host_driver.specs.Fits.{Fits, IsAtRest, AgreesWithTape, segments_of}
use Rattle.host_driver.specs.declared.host.Host.{Host}
use Rattle.qic117_commands.specs.Views.{is_primary}
use Rattle.qic_base.specs.Cartridge.{Cartridge}
use Rattle.qic_base.specs.Step.{Step}
use Rattle.qic_base.specs.Tape.{Meaning, Done, Broke}
use Rattle.qic_base.specs.TapeCalls.{Tells}
use Rattle.cartridge_front.specs.Learning.{MountRefuses}
use Rattle.qic_base.specs.declared.store_fault.StoreFault.{StoreFault}
use Rattle.qic_base.specs.declared.store_fault.StoreFault.TheVariants.{Tape}
use Rattle.cartridge_spec.specs.Mounting as mounting

-- ---- a store

-- what a store shows: the header in force, the words of the map, the entries of its volumes, and the data sectors of the
-- piece of a volume that the last call read, where that was one
pub record StoreView : Type 0 where
  pub host : Host
  pub header : Header
  pub words : List ℕ
  pub entries : List Entry
  pub part : List (List ℕ)

-- the cartridge mounts with this header, these words and these entries, and these steps settle it
pub record Settles (c : Cartridge) (header : Header) (words : List ℕ) (entries : List Entry) (steps : List Step) : Type 0 where
  pub table : List (List ℕ)
  pub mounts : Mounts c (mounting.Mounted header words table entries)
  pub settles : steps ≡ settling_steps table c

-- the cartridge mounts, and these steps settle it
pub record IsSettling (c : Cartridge) (steps : List Step) : Type 0 where
  pub header : Header
  pub words : List ℕ
  pub entries : List Entry
  pub settles : Settles c header words entries steps

-- the cartridge is mounted as the store shows it, and these steps settle it
abbrev pub IsOpened : Cartridge → StoreView → (steps : List Step) → Type 0
IsOpened c store steps = Settles c store.header store.words store.entries steps

-- a cartridge was mounted, and its table settled
pub record MountsAs {T : Type 0} (m : Meaning T) (old new : T) (store : StoreView) : Type 0 where
  pub steps : List Step
  pub done : Done m old new steps
  pub told : Tells m old (λ c. IsOpened c store steps)

-- A fault of the tape broke a front of its steps off.
pub record SettlingBreaks {T : Type 0} (m : Meaning T) (old new : T) : Type 0 where
  pub steps : List Step
  pub broke : Broke m old new steps
  pub front : IfSome (m.told old) (λ held. (steps ≡ []) ⊎ IsSomeAnd held (λ c. IsSettling c steps))

-- a mounting was refused before anything was written
pub record MountRefused {T : Type 0} (m : Meaning T) (old new : T) (fault : StoreFault) : Type 0 where
  pub done : Done m old new []
  pub told : Tells m old (λ c. MountRefuses c fault)

-- what a mounting did, by its answer
abbrev pub MountDoes : {T : Type 0} (m : Meaning T) (old new : T) → Result StoreView StoreFault → Type 0
MountDoes m old new (Ok store) = MountsAs m old new store
MountDoes m old new (Err Tape) = SettlingBreaks m old new
MountDoes m old new (Err fault) = MountRefused m old new fault

-- A store fits a unit: its host does, in Primary mode, it has learnt the cartridge, and where that is told and may be
-- written its volume table is settled.
pub record StoreFits {T : Type 0} (m : Meaning T) (store : StoreView) (u : UnitView T) : Type 0 where
  pub host : Fits m store.host u
  pub rest : IsAtRest u.drive
  pub mode : is_primary u.drive.deck.mode ≡ true
  pub referenced : is_referenced u.drive.deck ≡ true
  pub agrees : AgreesWithTape m u
  pub header : store.header.segments_per_track ≡ segments_of store.host
  pub words : length store.words ≡ 28 * segments_of store.host
  pub list : IsSoundList (28 * segments_of store.host - 1) store.entries
  pub volumes : Tells m u.tape (λ c. c.info.protected ≡ false → HasList c store.entries)

-- a call that leaves the store's list, its header and its map as they were
pub record KeepsStore (store after : StoreView) : Type 0 where
  pub header : after.header ≡ store.header
  pub words : after.words ≡ store.words
  pub entries : after.entries ≡ store.entries
