-- What a host remembers, and when that fits a unit (this project's own).
use Rattle.std.specs.Prelude.{◌≡◌, ℕ, true, false, Option, Some, None, IfSome, IsSomeAnd}
use Rattle.qic_base.specs.Tape.{Meaning}
use Rattle.qic117_commands.specs.Views.{is_format}
use Rattle.drive_spec.specs.declared.deck.Deck.{Deck}
use Rattle.drive_spec.specs.declared.under_way.Parameter.{Parameter}
use Rattle.drive_spec.specs.declared.under_way.UnderWay.{UnderWay}
use Rattle.drive_spec.specs.declared.under_way.UnderWay.TheVariants.{Nothing, Report, Awaited}
use Rattle.drive_spec.specs.Deck.{segments_per_track}
use Rattle.drive_spec.specs.Terms.{is_protected}
use Rattle.drive_spec.specs.Record.{Record}
use Rattle.drive_states.specs.Typed.{is_seeking}
use Rattle.drive_states.specs.Unit.{UnitView, IsSoundUnit}
use Rattle.host_driver.specs.declared.host.Host.{Host}

-- the segments per track that a host learnt, and what it remembers of the drive
abbrev pub segments_of : Host → ℕ
segments_of host = host.geometry

abbrev pub deck_of : Host → Deck
deck_of host = host.deck

-- the parameter that a drive awaits
abbrev pub parameter_of : UnderWay → Option Parameter
parameter_of Nothing = None
parameter_of (Report levels) = None
parameter_of (Awaited a) = Some a

-- in Format mode as many segments are to be generated as the tape has, and the cartridge may be written
pub record GeneratesAll (d : Deck) : Type 0 where
  pub segments : is_format d.mode ≡ true → d.format_segments ≡ segments_per_track d
  pub writable : is_format d.mode ≡ true → is_protected d ≡ false

-- A host fits a unit: the drive has a cartridge, which isn't new to the host, no error and no pulse counted, and it is in
-- what the host remembers.
pub record Fits {T : Type 0} (m : Meaning T) (host : Host) (u : UnitView T) : Type 0 where
  pub cartridge : IsSomeAnd u.drive.deck.cartridge (λ info. info.segments_per_track ≡ segments_of host)
  pub known : u.drive.deck.fresh ≡ false
  pub no_error : u.drive.deck.error ≡ 0
  pub no_pulse : u.drive.train ≡ 0
  pub generates : GeneratesAll u.drive.deck
  pub deck : u.drive.deck ≡ deck_of host
  pub awaited : parameter_of u.drive.under_way ≡ host.awaited
  -- as every unit is
  pub sound : IsSoundUnit m u

-- the drive doesn't seek, and nothing is under way or awaited
pub record IsAtRest (r : Record) : Type 0 where
  pub still : is_seeking r.deck.motion ≡ false
  pub idle : r.under_way ≡ Nothing

-- where the tape tells its cartridge and the drive knows of one, the drive has its length and its marks
abbrev pub AgreesWithTape : {T : Type 0} (m : Meaning T) → UnitView T → Type 0
AgreesWithTape m u =
    IfSome u.drive.deck.cartridge (λ info. IfSome (m.told u.tape) (λ there. IsSomeAnd there (λ c. c.info ≡ info)))
