-- What the calls of a host ask, and what they keep (this project's own).
use Rattle.std.specs.Prelude.{◌≡◌, true, false}
use Rattle.qic_base.specs.Tape.{Meaning}
use Rattle.qic117_commands.specs.Views.{is_primary}
use Rattle.drive_spec.specs.declared.deck.Deck.{Deck}
use Rattle.drive_spec.specs.Terms.{is_protected}
use Rattle.drive_states.specs.Unit.{UnitView}
use Rattle.host_driver.specs.declared.host.Host.{Host}
use Rattle.host_driver.specs.Fits.{Fits, IsAtRest, AgreesWithTape}
use Rattle.host_driver.specs.Place.{KeepsMode}

-- a host is ready to drive a unit
pub record IsReady {T : Type 0} (m : Meaning T) (host : Host) (u : UnitView T) : Type 0 where
  -- what it remembers of the drive is so
  pub fits : Fits m host u
  -- the drive doesn't seek, and nothing is under way or awaited
  pub rest : IsAtRest u.drive

-- a writing call asks besides
pub record MayWrite (d : Deck) : Type 0 where
  -- that the drive be in Primary mode, ..
  pub mode : is_primary d.mode ≡ true
  -- .. and that the cartridge be not protected
  pub writable : is_protected d ≡ false

-- a call leaves of the host and of the unit
pub record Keeps {T : Type 0} (m : Meaning T) (host : Host) (old new : UnitView T) : Type 0 where
  -- that the host be ready again
  pub ready : IsReady m host new
  -- the cartridge that the drive knows of, with its marks, and the mode
  pub same : KeepsMode old.drive.deck new.drive.deck
  -- that the drive knows what the tape tells, where it did
  pub agrees : AgreesWithTape m old → AgreesWithTape m new
  -- the size of the tape
  pub size : m.size new.tape ≡ m.size old.tape
