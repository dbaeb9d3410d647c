-- A drive as contracts see it: what it is in, and the tape that it owns.
use Rattle.std.specs.Prelude.{◌≡◌, ℕ, ◌+◌, min, Option, Some, None, IfSome}
use Rattle.std.specs.Option.{option_map}
use Rattle.qic_base.specs.Tape.{Meaning}
use Rattle.qic_base.specs.declared.tape.TapeInfo.{TapeInfo}
use Rattle.drive_spec.specs.declared.deck.Deck.{Deck}
use Rattle.drive_spec.specs.Terms.{power_on_deck}
use Rattle.drive_spec.specs.Record.{Record, power_on}
use Rattle.drive_states.specs.Sound.{HasLength, IsSoundRecord}
use Rattle.qic_base.specs.Cartridge.{info_of}

-- a typed drive
pub record DeckAndTape (T : Type 0) : Type 0 where
  pub deck : Deck
  pub tape : T

-- a drive as its cable shows it
pub record UnitView (T : Type 0) : Type 0 where
  pub drive : Record
  pub tape : T

-- a pulse; the count stops at 255
abbrev pub stepped : Record → Record
stepped r = record r { train = min (r.train + 1) 255 }

-- the typed drive of a unit
abbrev pub held : {T : Type 0} → UnitView T → DeckAndTape T
held u = record { deck = u.drive.deck; tape = u.tape }

-- a cartridge that the drive knows of has the size that the tape told
abbrev pub Knows : Option TapeInfo → (size : Option ℕ) → Type 0
Knows None size = Unit {0}
Knows (Some info) size = size ≡ Some info.segments_per_track

-- what is true of every unit
pub record IsSoundUnit {T : Type 0} (m : Meaning T) (u : UnitView T) : Type 0 where
  pub drive : IsSoundRecord u.drive
  pub known : Knows u.drive.deck.cartridge (m.size u.tape)

-- the drive just learnt what its cartridge is
pub record KnowsAll {T : Type 0} (m : Meaning T) (d : DeckAndTape T) : Type 0 where
  pub deck : d.deck ≡ power_on_deck d.deck.cartridge
  pub long : HasLength d.deck.cartridge
  pub told : IfSome (m.told d.tape) (λ there. d.deck.cartridge ≡ info_of there)
  pub size : m.size d.tape ≡ option_map (λ i. i.segments_per_track) d.deck.cartridge

-- the cartridge was put in: the record is the power-on record, and the drive knows what the cartridge is
pub record IsInserted {T : Type 0} (m : Meaning T) (u : UnitView T) : Type 0 where
  pub drive : u.drive ≡ power_on u.drive.deck.cartridge
  pub known : KnowsAll m (held u)
