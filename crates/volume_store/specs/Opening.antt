-- How the opening of a cartridge ends: refused, or with its table settled and what was found (this project's own).
use Rattle.std.specs.Prelude.{◌≡◌, ℕ, List, [], Option, Some, None, IfSome, IsSomeAnd, Result, Ok, Err, true}
use Rattle.drive_states.specs.Unit.{UnitView}
use Rattle.host_driver.specs.Calls.{IsReady}
use Rattle.host_driver.specs.Fits.{AgreesWithTape}
use Rattle.host_driver.specs.Starts.{KnowsTold}
use Rattle.host_driver.specs.declared.host.Host.{Host}
use Rattle.qic_base.specs.Step.{Step}
use Rattle.qic_base.specs.Tape.{Meaning, Done, Broke}
use Rattle.qic_base.specs.declared.tape.TapeFailed.{TapeFailed}
use Rattle.cartridge_front.specs.Finding.{is_of_mounting, NamesCause}
use Rattle.cartridge_front.specs.Learning.{MountRefuses}
use Rattle.volume_store.specs.Mounting.{StoreView, StoreFits, SettlingBreaks, IsOpened}
use Rattle.qic_base.specs.declared.store_fault.StoreFault.{StoreFault}
use Rattle.qic_base.specs.declared.store_fault.StoreFault.TheVariants.{Tape}

-- ---- the start

-- a host was started on the cartridge, which the drive knows
pub record HasStarted {T : Type 0} (m : Meaning T) (old new : UnitView T) (host : Host) : Type 0 where
  pub did : Done m old.tape new.tape []
  pub ready : IsReady m host new
  pub known : KnowsTold m new
  pub agrees : AgreesWithTape m new

-- there is no cartridge
abbrev pub IsAbsent : {T : Type 0} (m : Meaning T) (old new : T) → Type 0
IsAbsent m old new = Done m old new [] × IfSome (m.told old) (λ held. held ≡ None)

-- there is none, or a fault of the tape broke the insertion off
abbrev pub StartFails : {T : Type 0} (m : Meaning T) (old new : T) → Option StoreFault → Type 0
StartFails m old new None = IsAbsent m old new
StartFails m old new (Some Tape) = Broke m old new []
StartFails m old new (Some other) = ⊥

-- how the start of a host on what a drive holds ended
abbrev pub StartEnds : {T : Type 0} (m : Meaning T) (old new : UnitView T) → Result (Option Host) TapeFailed → Type 0
StartEnds m old new (Ok (Some host)) = HasStarted m old new host
StartEnds m old new (Ok None) = StartFails m old.tape new.tape None
StartEnds m old new (Err failed) = Broke m old.tape new.tape []

-- ---- the opening

-- The cartridge was opened, by these steps.
pub record HasOpened {T : Type 0} (m : Meaning T) (old : T) (new : UnitView T) (store : StoreView) : Type 0 where
  pub steps : List Step
  pub did : Done m old new.tape steps
  pub told : IfSome (m.told old) (λ held. IsSomeAnd held (λ c. IsOpened c store steps))
  pub fits : StoreFits m store new

-- There is one whose mounting is refused so, and nothing was written. The cause is named by a drive with so many segments
-- per track.
pub record IsTurnedDown {T : Type 0} (m : Meaning T) (old new : T) (fault : StoreFault) : Type 0 where
  pub did : Done m old new []
  pub kind : is_of_mounting fault ≡ true
  pub segments : ℕ
  pub cause : NamesCause {A = StoreView} segments (Err fault)
  pub told : IfSome (m.told old) (λ held. IsSomeAnd held (λ c. MountRefuses c fault))

-- there is none, or a fault of the tape broke the mounting off, or it was refused
abbrev pub OpenFails : {T : Type 0} (m : Meaning T) (old new : T) → Option StoreFault → Type 0
OpenFails m old new None = IsAbsent m old new
OpenFails m old new (Some Tape) = SettlingBreaks m old new
OpenFails m old new (Some fault) = IsTurnedDown m old new fault

-- how the opening of what a drive holds ended
abbrev pub OpenEnds : {T : Type 0} (m : Meaning T) (old : T) (new : UnitView T) → Result (Option StoreView) StoreFault → Type 0
OpenEnds m old new (Ok (Some store)) = HasOpened m old new store
OpenEnds m old new (Ok None) = OpenFails m old new.tape None
OpenEnds m old new (Err fault) = OpenFails m old new.tape (Some fault)
