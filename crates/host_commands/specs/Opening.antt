-- How the opening of a cartridge ends: refused, or with its table settled and what was found (this project's own).
use Rattle.std.specs.Prelude.{◌≡◌, Option, Some, None, ◌&&◌, ◌==◌, Bool, true, false, [], ◌⊎◌, IfSome, Result, Ok, Err, IsSomeAnd}
use Rattle.cartridge_spec.specs.Mounting.{Mounting, Mounts}
use Rattle.command_spec.specs.Numbers.{are_too_many}
use Rattle.command_spec.specs.Outcome.{is_refused}
use Rattle.command_spec.specs.declared.status.Status.{Status}
use Rattle.drive_states.specs.Unit.{UnitView}
use Rattle.host_driver.specs.declared.host.Host.{Host}
use Rattle.qic_base.specs.Cartridge.{Cartridge}
use Rattle.qic_base.specs.Tape.{Meaning, Done, Broke}
use Rattle.qic_base.specs.TapeCalls.{Tells}
use Rattle.volume_store.specs.Opening.{HasStarted, HasOpened, IsAbsent}
use Rattle.volume_store.specs.Mounting.{StoreView, SettlingBreaks}
use Rattle.cartridge_spec.specs.Header.{HeaderFault}
use Rattle.cartridge_spec.specs.Mounting as mounting
use Rattle.command_spec.specs.declared.status.Status.TheVariants as status

-- a fault of the header or of the table's slots, as an answer
abbrev pub foreign : HeaderFault → Status
foreign fault = status.Foreign fault.field fault.value

-- what the mounting gives is refused so
abbrev pub IsRefusal : Mounting → Status → Type 0
IsRefusal mounting.NotFormatted why = why ≡ status.NotFormatted
IsRefusal (mounting.Foreign fault) why = why ≡ foreign fault
IsRefusal (mounting.TableLost lost) why = why ≡ status.Lost 2 lost
IsRefusal mounting.TableMismatch why = why ≡ status.TableMismatch
IsRefusal (mounting.Mounted header words table entries) why = ⊥

-- and so is what the drive holds, whatever the command does on one that is mounted
abbrev pub RefusesOpening : Option Cartridge → Status → Type 0
RefusesOpening None why = why ≡ status.NoCartridge
RefusesOpening (Some c) why = (m : Mounting) × Mounts c m × IsRefusal m why

-- ---- how the call ended

-- an answer to what an opening finds
abbrev pub is_opening : Status → Bool
is_opening status.NoCartridge = true
is_opening status.NotFormatted = true
is_opening (status.Foreign field value) = is_refused field value
is_opening (status.Lost segment lost) = are_too_many lost && segment == 2
is_opening status.TableMismatch = true
is_opening answer = false

-- there is no cartridge, or a fault of the tape broke the insertion off
abbrev pub NoStart : {T : Type 0} (m : Meaning T) (old new : T) → Status → Type 0
NoStart m old new why =
    ((why ≡ status.NoCartridge) × IsAbsent m old new)
    ⊎ ((why ≡ status.TapeFault) × Broke m old new [])

-- how the start of a host on what a drive holds ended
abbrev pub StartAnswers : {T : Type 0} (m : Meaning T) (old new : UnitView T) → Result Host Status → Type 0
StartAnswers m old new (Ok host) = HasStarted m old new host
StartAnswers m old new (Err why) = NoStart m old.tape new.tape why

-- It was refused, before anything was written.
pub record OpeningRefused {T : Type 0} (m : Meaning T) (old new : T) (why : Status) : Type 0 where
  pub did : Done m old new []
  pub sound : is_opening why ≡ true
  pub told : IfSome (m.told old) (λ held. RefusesOpening held why)

-- a fault of the tape broke it off
abbrev pub OpeningCut : {T : Type 0} (m : Meaning T) (old new : T) → Status → Type 0
OpeningCut m old new why = (why ≡ status.TapeFault) × SettlingBreaks m old new

-- how the opening of what a drive holds ended
abbrev pub OpeningEnds : {T : Type 0} (m : Meaning T) (old : T) (new : UnitView T) → Result StoreView Status → Type 0
OpeningEnds m old new (Ok store) = HasOpened m old new store
OpeningEnds m old new (Err why) = OpeningRefused m old new.tape why ⊎ OpeningCut m old new.tape why

-- ---- to write on it

-- The cartridge is protected: nothing was written.
pub record IsLockedOut {T : Type 0} (m : Meaning T) (old new : T) (why : Status) : Type 0 where
  pub answered : why ≡ status.Protected
  pub did : Done m old new []
  pub told : IfSome (m.told old) (λ held. IsSomeAnd held (λ c. c.info.protected ≡ true))

-- a cartridge that is told is not protected
abbrev pub IsUnlocked : {T : Type 0} (m : Meaning T) → T → Type 0
IsUnlocked m old = Tells m old (λ c. c.info.protected ≡ false)

-- how the opening of what a drive holds ended, by a command that writes on it
abbrev pub WritableEnds : {T : Type 0} (m : Meaning T) (old : T) (new : UnitView T) → Result StoreView Status → Type 0
WritableEnds m old new (Ok store) = IsUnlocked m old × HasOpened m old new store
WritableEnds m old new (Err why) =
    IsLockedOut m old new.tape why ⊎ (IsUnlocked m old × OpeningRefused m old new.tape why) ⊎ OpeningCut m old new.tape why
