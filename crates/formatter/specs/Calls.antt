-- What the calls of formatting ask, and what they leave of the host and of the unit (this project's own).
use Rattle.std.specs.Prelude.{◌≡◌, ◌≢◌, true, Result, Err}
use Rattle.qic_base.specs.Tape.{Meaning}
use Rattle.drive_spec.specs.declared.deck.Deck.{Deck}
use Rattle.drive_spec.specs.Deck.{is_stopped}
use Rattle.drive_spec.specs.Terms.{is_referenced, referenced_as}
use Rattle.drive_states.specs.Unit.{UnitView}
use Rattle.host_driver.specs.declared.host.Host.{Host}
use Rattle.host_driver.specs.Calls.{IsReady}
use Rattle.host_driver.specs.Fits.{Fits, IsAtRest, AgreesWithTape}
use Rattle.formatter.specs.declared.fault.FormatFault.{FormatFault}
use Rattle.formatter.specs.declared.fault.FormatFault.TheVariants.{Tape}

-- ---- what is asked

-- a host can go to segments: it is ready, and the cartridge has its reference bursts
pub record CanGo {T : Type 0} (m : Meaning T) (host : Host) (u : UnitView T) : Type 0 where
  pub ready : IsReady m host u
  pub referenced : is_referenced u.drive.deck ≡ true

-- .. and can have the drive enter each mode that writes nothing, as the tape stands
pub record IsAtStop {T : Type 0} (m : Meaning T) (host : Host) (u : UnitView T) : Type 0 where
  pub go : CanGo m host u
  pub stopped : is_stopped u.drive.deck.motion ≡ true

-- ---- what is left

-- a step in a mode of its own leaves
pub record KeepsCartridge {T : Type 0} (m : Meaning T) (host : Host) (old new : UnitView T) : Type 0 where
  -- that the host be ready again
  pub ready : IsReady m host new
  -- the cartridge that the drive knows of, with its marks
  pub cartridge : new.drive.deck.cartridge ≡ old.drive.deck.cartridge
  -- that the drive knows what the tape tells, where it did
  pub agrees : AgreesWithTape m old → AgreesWithTape m new
  -- the size of the tape
  pub size : m.size new.tape ≡ m.size old.tape

-- the drive knows the cartridge as one with reference bursts, and the tape stands
pub record IsCleared (old new : Deck) : Type 0 where
  pub marks : new.cartridge ≡ referenced_as true old.cartridge
  pub stopped : is_stopped new.motion ≡ true

-- a formatting leaves, by its answer
pub record Leaves {T X : Type 0} (m : Meaning T) (host : Host) (old new : UnitView T) (result : Result X FormatFault) : Type 0 where
  pub fits : Fits m host new
  -- after a tape fault the drive may still seek where the reference bursts failed
  pub rest : result ≢ Err Tape → IsAtRest new.drive
  pub agrees : result ≢ Err Tape → AgreesWithTape m old → AgreesWithTape m new
  pub size : m.size new.tape ≡ m.size old.tape
