-- How a look at what a drive holds ends: nothing is written, and nothing settled (this project's own).
use Rattle.std.specs.Prelude.{◌≡◌, ℕ, List, [], Option, Some, None, IfSome, IsSomeAnd, Result, Ok, Err}
use Rattle.cartridge_spec.specs.Appending.{room}
use Rattle.cartridge_spec.specs.Header.{Header}
use Rattle.cartridge_spec.specs.Mounting.{Lists}
use Rattle.cartridge_spec.specs.Table.{Entry}
use Rattle.qic_base.specs.Cartridge.{Cartridge}
use Rattle.qic_base.specs.Tape.{Meaning, Done, Broke}
use Rattle.volume_store.specs.Opening.{IsAbsent, IsTurnedDown}
use Rattle.qic_base.specs.declared.store_fault.StoreFault.{StoreFault}
use Rattle.qic_base.specs.declared.store_fault.StoreFault.TheVariants.{Tape}

-- the cartridge is mounted with these words and these entries
abbrev pub HasVolumes : Cartridge → (words : List ℕ) → List Entry → Type 0
HasVolumes c words entries = (header : Header) × Lists c header words entries

-- It was read alone, and a new volume may have so many bytes.
pub record FindsRoom {T : Type 0} (m : Meaning T) (old new : T) (bytes : ℕ) : Type 0 where
  pub did : Done m old new []
  pub words : List ℕ
  pub entries : List Entry
  pub is : bytes ≡ room words entries
  pub told : IfSome (m.told old) (λ held. IsSomeAnd held (λ c. HasVolumes c words entries))

-- why there is no room that can be told: the drive holds nothing, or it was refused so; a fault of the tape came before
-- any step, since there is none
abbrev pub LookFails : {T : Type 0} (m : Meaning T) (old new : T) → Option StoreFault → Type 0
LookFails m old new None = IsAbsent m old new
LookFails m old new (Some Tape) = Broke m old new []
LookFails m old new (Some fault) = IsTurnedDown m old new fault

-- how the look for the room ended
abbrev pub RoomEnds : {T : Type 0} (m : Meaning T) (old new : T) → Result (Option ℕ) StoreFault → Type 0
RoomEnds m old new (Ok (Some bytes)) = FindsRoom m old new bytes
RoomEnds m old new (Ok None) = LookFails m old new None
RoomEnds m old new (Err fault) = LookFails m old new (Some fault)
