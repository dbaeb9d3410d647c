-- What the calls for a segment ask besides those of the host (this project's own).
use Rattle.std.specs.Prelude.{◌≡◌, ℕ, ◌*◌, ◌<◌, true}
use Rattle.cartridge_laws.specs.Shape.{Carries}
use Rattle.drive_spec.specs.declared.deck.Deck.{Deck}
use Rattle.drive_spec.specs.Deck.{segments_per_track}
use Rattle.drive_spec.specs.Terms.{is_referenced}
use Rattle.drive_states.specs.Reach.{reads_in, IsUnder}
use Rattle.drive_states.specs.Unit.{UnitView}
use Rattle.host_driver.specs.declared.host.Host.{Host}
use Rattle.host_driver.specs.Calls.{IsReady, MayWrite}
use Rattle.qic_base.specs.Tape.{Meaning}

-- the drive can go to a segment, of which this is the mask of usable sectors
pub record HasSegment (d : Deck) (segment usable : ℕ) : Type 0 where
  -- the cartridge has its reference bursts
  pub referenced : is_referenced d ≡ true
  -- the segment lies on it
  pub on_tape : segment < 28 * segments_per_track d
  -- the segment carries data: it has four usable sectors or more
  pub carries : Carries usable

-- a host can read the segment of this number
pub record CanRead {T : Type 0} (m : Meaning T) (host : Host) (u : UnitView T) (number usable : ℕ) : Type 0 where
  pub ready : IsReady m host u
  pub segment : HasSegment u.drive.deck number usable
  pub mode : reads_in u.drive.deck.mode ≡ true

-- .. or write it
pub record CanWrite {T : Type 0} (m : Meaning T) (host : Host) (u : UnitView T) (number usable : ℕ) : Type 0 where
  pub ready : IsReady m host u
  pub segment : HasSegment u.drive.deck number usable
  pub writable : MayWrite u.drive.deck

-- .. where the head has not passed its sectors from an index on
pub record CanWriteFrom {T : Type 0} (m : Meaning T) (host : Host) (u : UnitView T) (segment index : ℕ) : Type 0 where
  pub ready : IsReady m host u
  pub writable : MayWrite u.drive.deck
  pub under : IsUnder u.drive.deck segment index
